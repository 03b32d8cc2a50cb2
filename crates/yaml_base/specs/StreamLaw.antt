-- Every stream reads back, in every mode: the law.
use Rattle.std.specs.Prelude.{◌≡◌, Bool, true, false, Option, None, Some, List, [], ◌∷◌, ◌||◌, ◌&&◌, not, codes, is_some, option_map, unwrap_or}
use Rattle.std.specs.List.{list_all, list_any}
use Rattle.yaml_base.specs.Characters.{Text, is_among}
use Rattle.yaml_base.specs.Settings.{Encoding, Settings, effective}
use Rattle.yaml_base.specs.Event.{TagDirective, Event}
use Rattle.yaml_base.specs.Tags.{Spelling, shorthand, verbatim, spelling, directives_in_force}
use Rattle.yaml_base.specs.scalars.Analysis.{is_empty}
use Rattle.yaml_base.specs.scalars.Style.{is_plain, requested_style}
use Rattle.yaml_base.specs.Grammar.{Node, alias_node, scalar_node, sequence_node, mapping_node, Nodes, no_nodes, nodes_and, Pairs, no_pairs, pairs_and}
use Rattle.yaml_base.specs.Grammar.{Document, tree_of}
use Rattle.yaml_base.specs.Refusal.{IsAccepted}
use Rattle.yaml_base.specs.Event.{scalar_tag, collection_tag}
use Rattle.yaml_base.specs.Layout.{is_explicit}
use Rattle.yaml_base.specs.Pieces.{list_layout}
use Rattle.yaml_base.specs.Output.{bytes_written}
use Rattle.yaml_base.specs.Meaning.{has_scalar_texts}
use Rattle.yaml_base.specs.streams.StreamContent.{documents_in_order, agrees}
use Rattle.yaml_base.specs.streams.StreamReader.{stream_trees}

-- true of a node for which nothing is written: an empty plain scalar without properties
abbrev pub is_written_as_nothing : Bool → Node → Bool
is_written_as_nothing canonical (scalar_node content) =
    is_empty content.value && not (is_some content.anchor) && not (is_some (scalar_tag canonical content))
    && content.plain_implicit && is_plain (requested_style canonical content.style)
is_written_as_nothing canonical _ = false

-- true if the first document has no `---` and nothing is written for its root, so that no reader sees a document
abbrev pub loses_document : Bool → List Document → Bool
loses_document canonical [] = false
loses_document canonical (document ∷ rest) = not (is_explicit canonical true document.start) && is_written_as_nothing canonical document.root

-- true if a flow indicator follows a tag's handle; readers end the tag there
abbrev pub has_flow_indicator : Spelling → Bool
has_flow_indicator (shorthand handle suffix) = list_any (is_among (codes ",[]")) suffix
has_flow_indicator (verbatim tag) = false

-- true if a tag that is written, if one is, has such an indicator
abbrev pub tag_has_flow_indicator : List TagDirective → Option Text → Bool
tag_has_flow_indicator directives None = false
tag_has_flow_indicator directives (Some tag) = has_flow_indicator (spelling directives tag)

-- true if some tag of a tree has such an indicator
abbrev mutual
  pub node_has_flow_indicator : Bool → List TagDirective → Node → Bool
  node_has_flow_indicator canonical directives (alias_node name) = false
  node_has_flow_indicator canonical directives (scalar_node content) = tag_has_flow_indicator directives (scalar_tag canonical content)
  node_has_flow_indicator canonical directives (sequence_node start items) =
      tag_has_flow_indicator directives (collection_tag canonical start) || nodes_have_flow_indicator canonical directives items
  node_has_flow_indicator canonical directives (mapping_node start pairs) =
      tag_has_flow_indicator directives (collection_tag canonical start) || pairs_have_flow_indicator canonical directives pairs

  pub nodes_have_flow_indicator : Bool → List TagDirective → Nodes → Bool
  nodes_have_flow_indicator canonical directives no_nodes = false
  nodes_have_flow_indicator canonical directives (nodes_and items item) =
      nodes_have_flow_indicator canonical directives items || node_has_flow_indicator canonical directives item

  pub pairs_have_flow_indicator : Bool → List TagDirective → Pairs → Bool
  pairs_have_flow_indicator canonical directives no_pairs = false
  pairs_have_flow_indicator canonical directives (pairs_and pairs key value) =
      pairs_have_flow_indicator canonical directives pairs || node_has_flow_indicator canonical directives key
      || node_has_flow_indicator canonical directives value

-- true if some tag of a document has such an indicator
abbrev pub document_has_flow_indicator : Bool → Document → Bool
document_has_flow_indicator canonical document =
    node_has_flow_indicator canonical (directives_in_force document.start.directives) document.root

-- true if no document is lost, and no tag has a flow indicator after its handle
abbrev pub all_read_alike : Bool → List Document → Bool
all_read_alike canonical documents = not (loses_document canonical documents) && not (list_any (document_has_flow_indicator canonical) documents)

-- true if readers of YAML read the output alike: in portable mode always, else if neither of those two cases occurs
abbrev pub reads_alike : (portable canonical : Bool) → List Event → Bool
reads_alike portable canonical events =
    portable || unwrap_or (option_map (λ stream. all_read_alike canonical (documents_in_order stream.documents)) (tree_of events)) false

-- under all settings all bytes of an accepted list, if no limit cuts them, read as documents that agree with it
abbrev pub StreamReadsBack : Type 0
StreamReadsBack =
    (given : Settings) (encoding : Option Encoding) (events : List Event) → IsAccepted given.canonical events
    → list_all has_scalar_texts events ≡ true → reads_alike given.portable given.canonical events ≡ true
    → agrees given.canonical events
    (stream_trees given.breaks12 (bytes_written (effective given encoding) (list_layout (effective given encoding) events)))
    ≡ true

-- in portable mode they do so with the line breaks of YAML 1.1 and with those of YAML 1.2
abbrev pub PortableReadsBack : Type 0
PortableReadsBack =
    (given : Settings) (breaks12 : Bool) (encoding : Option Encoding) (events : List Event) → given.portable ≡ true
    → IsAccepted given.canonical events → list_all has_scalar_texts events ≡ true
    → agrees given.canonical events
    (stream_trees breaks12 (bytes_written (effective given encoding) (list_layout (effective given encoding) events)))
    ≡ true
