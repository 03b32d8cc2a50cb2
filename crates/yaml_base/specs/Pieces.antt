-- The text of a list of events that isn't a whole stream yet: the shortest way to end it, and the pieces that can be written before its
-- end is known.
use Rattle.std.specs.Prelude.{◌≡◌, ℕ, ◌≤◌, ◌&&◌, length, Bool, true, false, Option, None, Some, List, [], ◌∷◌, ◌++◌, take, unwrap_or, option_map, flat_map}
use Rattle.yaml_base.specs.Characters.{Text}
use Rattle.yaml_base.specs.Settings.{Effective}
use Rattle.yaml_base.specs.Event.{any_style, Event, stream_start, stream_end, document_end, scalar, sequence_end, mapping_end}
use Rattle.yaml_base.specs.Grammar.{no_nodes, nodes_and, no_pairs, pairs_and, Level, at_item, at_key, at_value, Partial, before_stream, between_documents}
use Rattle.yaml_base.specs.Grammar.{within_document, after_root, after_stream, partial_of, tree_of}
use Rattle.yaml_base.specs.Refusal.{begins_collection, ends_collection, IsAccepted}
use Rattle.yaml_base.specs.Layout.{Piece, text_of, layout}

-- an empty scalar without anchor and tag, both flags on
abbrev pub empty_scalar : Event
empty_scalar =
    scalar (record {
      anchor = None;
      tag = None;
      value = [];
      plain_implicit = true;
      quoted_implicit = true;
      style = any_style;
    })

-- the events that the innermost open collection lacks: the value of its last key, one entry if it has just begun, and its end
abbrev pub innermost_missing : Level → List Event
innermost_missing (at_item start no_nodes) = empty_scalar ∷ sequence_end ∷ []
innermost_missing (at_item start (nodes_and items item)) = sequence_end ∷ []
innermost_missing (at_key start no_pairs) = empty_scalar ∷ empty_scalar ∷ mapping_end ∷ []
innermost_missing (at_key start (pairs_and pairs key value)) = mapping_end ∷ []
innermost_missing (at_value start pairs key) = empty_scalar ∷ mapping_end ∷ []

-- the events that a collection around it lacks; the inner one is its last item, key or value
abbrev pub outer_missing : Level → List Event
outer_missing (at_item start items) = sequence_end ∷ []
outer_missing (at_key start pairs) = empty_scalar ∷ mapping_end ∷ []
outer_missing (at_value start pairs key) = mapping_end ∷ []

-- the events that open collections lack; without any, a document's root
abbrev pub levels_missing : List Level → List Event
levels_missing [] = empty_scalar ∷ []
levels_missing (innermost ∷ outer) = innermost_missing innermost ++ flat_map outer_missing outer

-- the events that end a list, all of them implicit
abbrev pub missing : Partial → List Event
missing before_stream = stream_start None ∷ stream_end ∷ []
missing (between_documents encoding before) = stream_end ∷ []
missing (within_document encoding before start levels) =
    levels_missing levels ++ (document_end true ∷ stream_end ∷ [])
missing (after_root encoding before start root) = document_end true ∷ stream_end ∷ []
missing (after_stream stream) = []

-- the events that a partial tree lacks; none if there is no tree
abbrev pub missing_after : Option Partial → List Event
missing_after None = []
missing_after (Some partial) = missing partial

-- a list that begins a stream, and the events that end it
abbrev pub completion : List Event → List Event
completion events = events ++ missing_after (partial_of events)

-- the pieces of a whole list; none if the list is no stream
abbrev pub list_layout : Effective → List Event → List Piece
list_layout s events = unwrap_or (option_map (layout s) (tree_of events)) []

-- the first n pieces of the completion of the first n events
abbrev pub pieces : Effective → List Event → ℕ → List Piece
pieces s events k = take k (list_layout s (completion (take k events)))

-- the text of these pieces
abbrev pub text_after : Effective → List Event → ℕ → Text
text_after s events k = text_of (pieces s events k)

-- true if the last event of a list begins a collection
abbrev pub last_begins_collection : List Event → Bool
last_begins_collection [] = false
last_begins_collection (event ∷ []) = begins_collection event
last_begins_collection (event ∷ next ∷ rest) = last_begins_collection (next ∷ rest)

-- true if the first event of a list ends a collection
abbrev pub first_ends_collection : List Event → Bool
first_ends_collection [] = false
first_ends_collection (event ∷ rest) = ends_collection event

-- true if a list ends with the start of a collection, and the next event ends that collection
abbrev pub last_closes_at_once : List Event → List Event → Bool
last_closes_at_once prefix rest = last_begins_collection prefix && first_ends_collection rest

-- each accepted list that begins with the first n events has their pieces, unless it at once ends a collection that they begin last; so
-- the pieces can be written before the end is known
abbrev pub PiecesStand : Type 0
PiecesStand =
    (s : Effective) (events rest : List Event) (k : ℕ) → k ≤ length events
    → IsAccepted s.canonical (take k events ++ rest) → last_closes_at_once (take k events) rest ≡ false
    → take k (list_layout s (take k events ++ rest)) ≡ pieces s events k
