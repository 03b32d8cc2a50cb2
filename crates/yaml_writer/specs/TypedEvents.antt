-- Events that keep their nodes' tags: a tag is left out only if both schemas give it to the node that is written without it.
use Rattle.std.specs.Prelude.{◌≡◌, Bool, true, false, Option, None, Some, List, ◌&&◌, bytes_eq, is_some, map, not, option_map, unwrap_or, if◌then◌else◌}
use Rattle.std.specs.List.{list_all}
use Rattle.yaml_base.specs.Characters.{Text}
use Rattle.yaml_base.specs.Event.{Scalar, Event, scalar, sequence_start, mapping_start, plain, collection_tag}
use Rattle.yaml_base.specs.Grammar.{Stream, stream_events}
use Rattle.yaml_base.specs.Meaning.{has_scalar_texts}
use Rattle.yaml_base.specs.Output.{bytes_written}
use Rattle.yaml_base.specs.Pieces.{list_layout}
use Rattle.yaml_base.specs.Refusal.{IsAccepted}
use Rattle.yaml_base.specs.Settings.{Encoding, Settings, effective}
use Rattle.yaml_base.specs.StreamLaw.{reads_alike}
use Rattle.yaml_base.specs.graphs.Meetings.{string_tag, sequence_tag, mapping_tag}
use Rattle.yaml_base.specs.streams.StreamContent.{DocumentTree, Tree, alias_tree, scalar_tree, sequence_tree, mapping_tree, Trees, no_trees, trees_and}
use Rattle.yaml_base.specs.streams.StreamContent.{TreePairs, no_tree_pairs, tree_pairs_and, with_tag, is_same_text, agrees}
use Rattle.yaml_base.specs.streams.StreamReader.{stream_trees}
use Rattle.yaml_base.specs.values.CanonicalTags.{Schema, tag_meant}
use Rattle.yaml_base.specs.values.SchemaCore.{resolved_by_core}
use Rattle.yaml_base.specs.values.SchemaOf11.{resolved_by_11}
use Rattle.yaml_writer.specs.PlainTags.{implies_tag}

-- ---- writing

-- A scalar whose value implies this tag or doesn't: the tag is left out if the value implies it, and of a text in quotes. A scalar without
-- its tag that is no text is plain.
abbrev pub typed_by : (is_text implied : Bool) → Scalar → Scalar
typed_by is_text implied content =
    record content {
      plain_implicit = implied;
      quoted_implicit = is_text;
      style = if implied && not is_text then plain else content.style;
    }

-- a scalar with this tag
abbrev pub typed_as : Text → Scalar → Scalar
typed_as tag content = typed_by (bytes_eq tag string_tag) (implies_tag content.value tag) content

-- a scalar without a tag stays as it is
abbrev pub typed_from : Option Text → Scalar → Scalar
typed_from None content = content
typed_from (Some tag) content = typed_as tag content

abbrev pub typed_scalar : Scalar → Scalar
typed_scalar content = typed_from content.tag content

-- so do other events
abbrev pub typed_event : Event → Event
typed_event (scalar content) = scalar (typed_scalar content)
typed_event event = event

-- ---- reading

-- a tree in which each node has its tag: a scalar that of its meaning, a collection without one that of its kind
abbrev mutual
  pub tree_by : Schema → Tree → Tree
  tree_by schema (alias_tree name) = alias_tree name
  tree_by schema (scalar_tree anchor tagging value) = scalar_tree anchor (with_tag (tag_meant schema tagging value)) value
  tree_by schema (sequence_tree anchor tag trees) = sequence_tree anchor (Some (unwrap_or tag sequence_tag)) (trees_by schema trees)
  tree_by schema (mapping_tree anchor tag pairs) = mapping_tree anchor (Some (unwrap_or tag mapping_tag)) (pairs_by schema pairs)

  pub trees_by : Schema → Trees → Trees
  trees_by schema no_trees = no_trees
  trees_by schema (trees_and trees tree) = trees_and (trees_by schema trees) (tree_by schema tree)

  pub pairs_by : Schema → TreePairs → TreePairs
  pairs_by schema no_tree_pairs = no_tree_pairs
  pairs_by schema (tree_pairs_and pairs key value) = tree_pairs_and (pairs_by schema pairs) (tree_by schema key) (tree_by schema value)

-- so of a document's root
abbrev pub document_by : Schema → DocumentTree → DocumentTree
document_by schema document = record document { root = tree_by schema document.root }

-- ---- the law

-- True if an event says its node's tag: a scalar has one, and a collection's is left out only if it is that of its kind.
abbrev pub says_tag : Event → Bool
says_tag (scalar content) = is_some content.tag
says_tag (sequence_start start) = is_same_text (Some (unwrap_or (collection_tag false start) sequence_tag)) start.tag
says_tag (mapping_start start) = is_same_text (Some (unwrap_or (collection_tag false start) mapping_tag)) start.tag
says_tag event = true

-- If each event says its tag, the tree that is read of the bytes of the typed events has all these tags.
abbrev pub ReadsTags : Schema → Type 0
ReadsTags schema =
    (given : Settings) (encoding : Option Encoding) (stream : Stream) (typed : List Event) → map typed_event (stream_events stream) ≡ typed
    → IsAccepted given.canonical typed → list_all has_scalar_texts typed ≡ true → reads_alike given.portable given.canonical typed ≡ true
    → list_all says_tag (stream_events stream) ≡ true
    → agrees true (stream_events stream)
    (option_map (map (document_by schema))
    (stream_trees given.breaks12 (bytes_written (effective given encoding) (list_layout (effective given encoding) typed))))
    ≡ true

-- by either schema
abbrev pub TypedEventsAreRead : Type 0
TypedEventsAreRead = ReadsTags resolved_by_11 × ReadsTags resolved_by_core
