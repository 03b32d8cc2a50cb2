-- The pieces of a stream, event by event, for contracts of code that writes them so: an event's piece needs the places that are open and,
-- at a collection's start, whether its end follows at once. A law says that they are the layout's pieces.
use Rattle.std.specs.Prelude.{ℕ, Bool, true, false, Option, List, [], ◌∷◌, ◌++◌, ◌&&◌, not, nat_lt, length, take}
use Rattle.std.specs.Option.{option_or}
use Rattle.yaml_base.specs.Settings.{Effective}
use Rattle.yaml_base.specs.Cursor.{render_nothing}
use Rattle.yaml_base.specs.Event.{TagDirective, Collection, Event, stream_start, stream_end, document_start, document_end, alias, scalar, sequence_start}
use Rattle.yaml_base.specs.Event.{sequence_end, mapping_start, mapping_end}
use Rattle.yaml_base.specs.Tags.{directives_in_force}
use Rattle.yaml_base.specs.Refusal.{some_if, name_or_tag_fault, content_fault, most_open, begins_collection, ends_collection}
use Rattle.yaml_base.specs.Ready.{written}
use Rattle.yaml_base.specs.Layout.{Piece, Standing, RenderedPiece, Role, as_root, as_item, as_key, as_value, Place, is_key, is_undented, entries_column}
use Rattle.yaml_base.specs.Layout.{is_simple_alias, is_simple_scalar, is_simple_collection, piece_without_body, scalar_piece, alias_piece, start_piece}
use Rattle.yaml_base.specs.Layout.{is_written_in_flow, Brackets, square, curly, end_piece, entry_place, root_place, document_start_piece, document_end_piece}
use Rattle.yaml_base.specs.Layout.{first_standing, stream_start_piece, stream_end_piece}
use Rattle.yaml_base.specs.declared.errors.yaml_error_t.TheVariants.{ExpectedStreamStart, ExpectedDocumentStart, ExpectedDocumentEnd, ExpectedNode}
use Rattle.yaml_base.specs.declared.errors.yaml_error_t.TheVariants.{ExpectedNothing, TooDeep}
use Rattle.yaml_base.specs.declared.errors.yaml_error_t.{yaml_error_t}

-- an open collection: the place of its next entry, and whether it is a simple key itself
pub record Frame : Type 0 where
  pub place : Place
  pub simple : Bool

-- the next part of a stream: its start, a document or the stream's end, a node or the innermost collection's end in a document with these
-- directives and open collections, a document's end, or nothing
pub data Stage : Type 0 where
  at_stream : Stage
  at_document : (first : Bool) → Stage
  at_node : List TagDirective → List Frame → Stage
  at_document_end : Stage
  at_nothing : Stage

-- the place of the next node
abbrev pub next_place : List Frame → Place
next_place [] = root_place
next_place (frame ∷ outer) = frame.place

-- the role of the entry after one of this role
abbrev pub role_after : Role → (simple : Bool) → Role
role_after as_root simple = as_root
role_after (as_item first) simple = as_item false
role_after (as_key first) simple = as_value simple
role_after (as_value was_simple) simple = as_key false

-- the place of the entry after the one at this place
abbrev pub next_entry_place : Place → (simple : Bool) → Place
next_entry_place place simple = record place { role = role_after place.role simple }

-- the stage after a node, which may have been a simple key
abbrev pub stage_after : List TagDirective → List Frame → (simple : Bool) → Stage
stage_after directives [] simple = at_document_end
stage_after directives (frame ∷ outer) simple =
    at_node directives (record frame { place = next_entry_place frame.place simple } ∷ outer)

-- true if the entry is the first of its collection
abbrev pub is_first : Role → Bool
is_first (as_item first) = first
is_first (as_key first) = first
is_first _ = false

-- an event's piece, and the stage after it
pub record Stepped : Type 0 where
  pub rendered : RenderedPiece
  pub stage : Stage

-- the step of an event that may not come: nothing is written
abbrev pub stopped : Standing → Stepped
stopped standing = record { rendered = piece_without_body standing.open_ended (render_nothing standing.cursor); stage = at_nothing }

-- the step of an alias or a scalar, which may be a simple key
abbrev pub leaf_step : List TagDirective → List Frame → (simple : Bool) → RenderedPiece → Stepped
leaf_step directives frames simple rendered = record { rendered = rendered; stage = stage_after directives frames simple }

-- the frame of a collection whose start is written
abbrev pub frame_opened :
    Effective → Place → (in_flow undented simple : Bool) → Role → RenderedPiece → Frame
frame_opened s place in_flow undented simple role rendered =
    record {
      place = entry_place in_flow role (entries_column in_flow undented s.indent place.column rendered.standing.cursor);
      simple = simple;
    }

-- the step of a collection's start: its piece, and the place of its first entry
abbrev pub start_step :
    Effective → List TagDirective → List Frame → (undented simple empty : Bool) → Role → Collection → Standing → Stepped
start_step s directives frames undented simple empty role start standing =
    let place = next_place frames in
    let rendered = start_piece s directives place simple start standing in
    record {
      rendered = rendered;
      stage =
          at_node directives
          (frame_opened s place (is_written_in_flow s place start empty) undented simple role rendered ∷ frames);
    }

-- the step of a collection's end: its piece, and the stage after the collection
abbrev pub end_step : Effective → Brackets → List TagDirective → List Frame → Standing → Stepped
end_step s brackets directives [] standing = stopped standing
end_step s brackets directives (frame ∷ outer) standing =
    record {
      rendered =
          end_piece s brackets frame.place.in_flow (is_first frame.place.role) (next_place outer).column standing;
      stage = stage_after directives outer frame.simple;
    }

-- the step of an event within a document, case by case; empty: the collection that it starts ends at once
abbrev pub node_step : Effective → List TagDirective → List Frame → Event → (empty : Bool) → Standing → Stepped
node_step s directives frames (alias name) empty standing =
    let simple = is_key (next_place frames).role && (not s.canonical && is_simple_alias name) in
    leaf_step directives frames simple (alias_piece s (next_place frames) simple name standing)
node_step s directives frames (scalar content) empty standing =
    let simple =
    is_key (next_place frames).role && (not s.canonical && is_simple_scalar s.canonical directives content) in
    leaf_step directives frames simple (scalar_piece s directives (next_place frames) simple content standing)
node_step s directives frames (sequence_start start) empty standing =
    start_step s directives frames (is_undented s (next_place frames).role)
    (is_key (next_place frames).role && (not s.canonical && is_simple_collection s.canonical directives start empty))
    empty (as_item true) start standing
node_step s directives frames (mapping_start start) empty standing =
    start_step s directives frames false
    (is_key (next_place frames).role && (not s.canonical && is_simple_collection s.canonical directives start empty))
    empty (as_key true) start standing
node_step s directives frames sequence_end empty standing = end_step s square directives frames standing
node_step s directives frames mapping_end empty standing = end_step s curly directives frames standing
node_step s directives frames _ empty standing = stopped standing

-- the step of an event at a stage
abbrev pub step : Effective → Stage → Event → (empty : Bool) → Standing → Stepped
step s at_stream (stream_start encoding) empty standing =
    record { rendered = stream_start_piece standing; stage = at_document true }
step s (at_document first) (document_start start) empty standing =
    record {
      rendered = document_start_piece s first start standing;
      stage = at_node (directives_in_force start.directives) [];
    }
step s (at_document first) stream_end empty standing = record { rendered = stream_end_piece standing; stage = at_nothing }
step s (at_node directives frames) event empty standing = node_step s directives frames event empty standing
step s at_document_end (document_end implicit) empty standing =
    record { rendered = document_end_piece implicit standing; stage = at_document false }
step s _ event empty standing = stopped standing

-- true if the next event is a collection's end; after the last event the given flag says it
abbrev pub ends_next : List Event → Bool → Bool
ends_next [] follows = follows
ends_next (event ∷ rest) follows = ends_collection event

-- several events' pieces, the state of writing after them, and the stage after them
pub record Steps : Type 0 where
  pub pieces : List Piece
  pub standing : Standing
  pub stage : Stage

-- a step, and then the steps from its result
abbrev pub then_steps : Stepped → (Stage → Standing → Steps) → Steps
then_steps stepped next =
    let after = next stepped.stage stepped.rendered.standing in
    record { pieces = stepped.rendered.piece ∷ after.pieces; standing = after.standing; stage = after.stage }

-- the steps of events, one after another; follows: a collection's end comes after them
abbrev pub steps : Effective → (follows : Bool) → List Event → Stage → Standing → Steps
steps s follows [] stage standing = record { pieces = []; standing = standing; stage = stage }
steps s follows (event ∷ rest) stage standing =
    then_steps (step s stage event (ends_next rest follows) standing) (steps s follows rest)

-- Refusals at a stage

-- true of an item of a sequence
abbrev pub is_item : Role → Bool
is_item (as_item first) = true
is_item _ = false

-- true if an event may come within a document: a node, or the end of the innermost collection
abbrev pub node_allowed : List Frame → Event → Bool
node_allowed frames (alias name) = true
node_allowed frames (scalar content) = true
node_allowed frames (sequence_start start) = true
node_allowed frames (mapping_start start) = true
node_allowed (frame ∷ outer) sequence_end = is_item frame.place.role
node_allowed (frame ∷ outer) mapping_end = is_key frame.place.role
node_allowed _ _ = false

-- true if an event may come at a stage
abbrev pub stage_allows : Stage → Event → Bool
stage_allows at_stream (stream_start encoding) = true
stage_allows (at_document first) (document_start start) = true
stage_allows (at_document first) stream_end = true
stage_allows (at_node directives frames) event = node_allowed frames event
stage_allows at_document_end (document_end implicit) = true
stage_allows _ event = false

-- the refusal of an event that may not come at a stage
abbrev pub stage_expected : Stage → yaml_error_t
stage_expected at_stream = ExpectedStreamStart
stage_expected (at_document first) = ExpectedDocumentStart
stage_expected (at_node directives frames) = ExpectedNode
stage_expected at_document_end = ExpectedDocumentEnd
stage_expected at_nothing = ExpectedNothing

-- the number of collections that are open at a stage
abbrev pub frame_count : Stage → ℕ
frame_count (at_node directives frames) = length frames
frame_count _ = 0

-- the refusal of an event at a stage
abbrev pub stage_refusal : Bool → Stage → Event → Option yaml_error_t
stage_refusal canonical stage event =
    option_or (name_or_tag_fault canonical event)
    (option_or (some_if (not (stage_allows stage event)) (stage_expected stage))
    (option_or (content_fault canonical event)
    (some_if (begins_collection event && not (nat_lt (frame_count stage) most_open)) TooDeep)))

-- Lists with queued events

-- the steps of the events that are ready
abbrev pub ready_steps : Effective → List Event → Stage → Standing → Steps
ready_steps s events stage standing = steps s false (take (written events) events) stage standing

-- the steps of a stream's ready events, from its start
abbrev pub progress : Effective → List Event → Steps
progress s events = ready_steps s events at_stream first_standing

-- steps, and then steps from their result
abbrev pub joined_steps : Steps → (Stage → Standing → Steps) → Steps
joined_steps first next =
    let after = next first.stage first.standing in
    record { pieces = first.pieces ++ after.pieces; standing = after.standing; stage = after.stage }
