-- The pieces of events with comments: where the comments of an event are written, and its piece, as `Steps` has it, from the line after its
-- head comments (this project).
use Rattle.std.specs.Prelude.{ℕ, Bool, true, false, Option, None, Some, List, [], ◌∷◌, ◌++◌, ◌==◌, ◌&&◌, not, is_some, map, take, if◌then◌else◌}
use Rattle.yaml_base.specs.Characters.{Text}
use Rattle.yaml_base.specs.Settings.{Effective}
use Rattle.yaml_base.specs.Event.{Event, Collection, alias, document_start, mapping_end, mapping_start, scalar, sequence_end, sequence_start, stream_end}
use Rattle.yaml_base.specs.Grammar.{partial_of, tree_of}
use Rattle.yaml_base.specs.Refusal.{begins_collection}
use Rattle.yaml_base.specs.Ready.{written}
use Rattle.yaml_base.specs.Layout.{Place, RenderedPiece, Role, Standing, as_item, as_key, first_standing, has_directives, is_key, is_written_in_flow}
use Rattle.yaml_base.specs.Layout.{line_column, render_closing_marker}
use Rattle.yaml_base.specs.Steps.{Frame, Stage, at_document, at_document_end, at_node, at_nothing, at_stream, ends_next, next_place, step}
use Rattle.yaml_base.specs.Pieces.{missing_after}
use Rattle.yaml_base.specs.Comments.{Commented, CommentedPiece, HeadLine, comment_line, events_of, line_comment_text, one_line, render_head}
use Rattle.yaml_base.specs.Comments.{standing_with_line, without_comments}

-- Places of head comments

-- the place of the head lines of an event: lines at a column before it; before the lines of the next event, for which they wait; none, so
-- that they are left out
pub data HeadPlace : Type 0 where
  at_column : ℕ → HeadPlace
  waits : HeadPlace
  left_out : HeadPlace

-- the place before a node in a block: an item's and a key's is at their column; a block collection with another role hands its lines to
-- its first entry
abbrev pub role_place : Role → (column : ℕ) → (in_block : Bool) → HeadPlace
role_place (as_item first) column in_block = at_column column
role_place (as_key first) column in_block = at_column column
role_place _ column true = waits
role_place _ column false = left_out

-- the place before a node, which may be a collection in a block; there is none in flow
abbrev pub node_place : Place → (in_block : Bool) → HeadPlace
node_place place in_block = if place.in_flow then left_out else role_place place.role (line_column place.column) in_block

-- the place before a collection's start; empty: it ends at once
abbrev pub start_place : Effective → Place → Collection → (empty : Bool) → HeadPlace
start_place s place start empty = node_place place (not (is_written_in_flow s place start empty))

-- true if a new line after a collection, whose entries are at the first column, is at that column, too
abbrev pub is_level : (entries after : Option ℕ) → Bool
is_level entries None = true
is_level None (Some after) = false
is_level (Some entries) (Some after) = entries == after

-- the place before the end of a collection: at the column of its entries; if that is the column of what follows, too, the lines are its
-- lines
abbrev pub collection_end_place : (in_flow : Bool) → (entries after : Option ℕ) → HeadPlace
collection_end_place true entries after = left_out
collection_end_place false entries after = if is_level entries after then waits else at_column (line_column entries)

-- the place before the end of the innermost collection
abbrev pub end_place : List Frame → HeadPlace
end_place [] = left_out
end_place (frame ∷ outer) = collection_end_place frame.place.in_flow frame.place.column (next_place outer).column

-- the place before an event within a document
abbrev pub place_within : Effective → List Frame → Event → (empty : Bool) → HeadPlace
place_within s frames sequence_end empty = end_place frames
place_within s frames mapping_end empty = end_place frames
place_within s frames (sequence_start start) empty = start_place s (next_place frames) start empty
place_within s frames (mapping_start start) empty = start_place s (next_place frames) start empty
place_within s frames event empty = node_place (next_place frames) false

-- the place before an event at a stage; the start of a stream writes nothing
abbrev pub stage_place : Effective → Stage → Event → (empty : Bool) → HeadPlace
stage_place s at_stream event empty = waits
stage_place s (at_document first) event empty = at_column 0
stage_place s (at_node directives frames) event empty = place_within s frames event empty
stage_place s at_document_end event empty = at_column 0
stage_place s at_nothing event empty = left_out

-- the place before an event; there is none in canonical mode
abbrev pub head_place : Effective → Stage → Event → (empty : Bool) → HeadPlace
head_place s stage event empty = if s.canonical then left_out else stage_place s stage event empty

-- the lines that wait for the next event
abbrev pub still_waiting : List HeadLine → HeadPlace → List HeadLine
still_waiting [] place = []
still_waiting (line ∷ rest) waits = line ∷ rest
still_waiting (line ∷ rest) place = []

-- Text before an event's piece

-- a text before a piece, and the state of writing after it
pub record Headed : Type 0 where
  pub text : Text
  pub standing : Standing

-- no text
abbrev pub no_head : Standing → Headed
no_head standing = record { text = []; standing = standing }

-- true if the piece of an event begins with `...`, which closes what precedes it
abbrev pub closes_first : Event → (open_ended : ℕ) → Bool
closes_first (document_start start) open_ended = has_directives start && not (open_ended == 0)
closes_first stream_end open_ended = open_ended == 2
closes_first event open_ended = false

-- this `...`, so that lines come after it
abbrev pub close_first : Event → Standing → Headed
close_first event standing =
    let closing = render_closing_marker standing.cursor in
    if closes_first event standing.open_ended
    then record { text = closing.text; standing = record { cursor = closing.cursor; open_ended = 0 } }
    else no_head standing

-- head lines at a column
abbrev pub head_at : (column : ℕ) → List HeadLine → Standing → Headed
head_at column lines standing =
    let head = render_head column (standing.open_ended == 2) lines standing.cursor in
    record { text = head.text; standing = record { cursor = head.cursor; open_ended = standing.open_ended } }

-- the head lines of an event at their place
abbrev pub render_before : List HeadLine → HeadPlace → Event → Standing → Headed
render_before [] place event standing = no_head standing
render_before (line ∷ rest) (at_column column) event standing =
    let closed = close_first event standing in
    let head = head_at column (line ∷ rest) closed.standing in
    record { text = closed.text ++ head.text; standing = head.standing }
render_before (line ∷ rest) place event standing = no_head standing

-- Places of line comments

-- true if a line comment may follow a node in a block: not after a key
abbrev pub ends_line : Place → Bool
ends_line place = not place.in_flow && not (is_key place.role)

-- true if the innermost collection is in flow, and a line comment may follow it
abbrev pub end_takes_line : List Frame → Bool
end_takes_line [] = false
end_takes_line (frame ∷ outer) = frame.place.in_flow && ends_line (next_place outer)

-- true if a line comment may follow an event within a document; after a collection's start only if that is in a block
abbrev pub event_takes_line : Effective → List Frame → Event → (empty : Bool) → Bool
event_takes_line s frames (alias name) empty = ends_line (next_place frames)
event_takes_line s frames (scalar content) empty = ends_line (next_place frames)
event_takes_line s frames (sequence_start start) empty = not (is_written_in_flow s (next_place frames) start empty)
event_takes_line s frames (mapping_start start) empty = not (is_written_in_flow s (next_place frames) start empty)
event_takes_line s frames sequence_end empty = end_takes_line frames
event_takes_line s frames mapping_end empty = end_takes_line frames
event_takes_line s frames event empty = false

-- true if a line comment may follow an event at a stage; none does in canonical mode
abbrev pub takes_line : Effective → Stage → Event → (empty : Bool) → Bool
takes_line s (at_node directives frames) event empty = not s.canonical && event_takes_line s frames event empty
takes_line s stage event empty = false

-- a line comment, if it is taken
abbrev pub line_taken : Option Text → (takes : Bool) → Option Text
line_taken None takes = None
line_taken (Some text) true = Some text
line_taken (Some text) false = None

-- the text of a line comment; alone: nothing precedes it in its line, so that it waits
abbrev pub line_written : Option Text → (alone : Bool) → Text
line_written None alone = []
line_written (Some text) true = []
line_written (Some text) false = line_comment_text text

-- such a line comment as a head line of the next event
abbrev pub line_waiting : Option Text → (alone : Bool) → List HeadLine
line_waiting None alone = []
line_waiting (Some text) true = comment_line (one_line text) ∷ []
line_waiting (Some text) false = []

-- Steps

-- the state of writing, and the head lines that wait for the next event
pub record CommentedStanding : Type 0 where
  pub standing : Standing
  pub waiting : List HeadLine

-- the state at the start of a stream
abbrev pub first_commented : CommentedStanding
first_commented = record { standing = first_standing; waiting = [] }

-- an event's piece with its comments, and the state after them
pub record RenderedCommentedPiece : Type 0 where
  pub piece : CommentedPiece
  pub standing : CommentedStanding

-- an event's piece after the text of its head lines, with its line comment if it takes one; waiting: head lines for the next event
abbrev pub with_comments : Commented → (waiting : List HeadLine) → (takes : Bool) → (head : Text) → RenderedPiece → RenderedCommentedPiece
with_comments commented waiting takes head rendered =
    let taken = line_taken commented.comments.line takes in
    let alone = begins_collection commented.event && rendered.standing.cursor.column == 0 in
    record {
      piece = record { head = head; piece = rendered.piece; line = line_written taken alone };
      standing =
          record {
            standing = standing_with_line (line_written taken alone) rendered;
            waiting = waiting ++ line_waiting taken alone;
          };
    }

-- an event's piece with its comments, the state after them, and the next stage
pub record CommentedStep : Type 0 where
  pub piece : CommentedPiece
  pub standing : CommentedStanding
  pub stage : Stage

-- the step of an event with comments
abbrev pub commented_step : Effective → Stage → Commented → (empty : Bool) → CommentedStanding → CommentedStep
commented_step s stage commented empty before =
    let lines = before.waiting ++ commented.comments.head in
    let place = head_place s stage commented.event empty in
    let head = render_before lines place commented.event before.standing in
    let stepped = step s stage commented.event empty head.standing in
    let takes = takes_line s stage commented.event empty in
    let made = with_comments commented (still_waiting lines place) takes head.text stepped.rendered in
    record { piece = made.piece; standing = made.standing; stage = stepped.stage }

-- several events' pieces, the state after them, and the next stage
pub record CommentedSteps : Type 0 where
  pub pieces : List CommentedPiece
  pub standing : CommentedStanding
  pub stage : Stage

-- a step, and then the steps from its result
abbrev pub then_commented : CommentedStep → (Stage → CommentedStanding → CommentedSteps) → CommentedSteps
then_commented stepped next =
    let after = next stepped.stage stepped.standing in
    record { pieces = stepped.piece ∷ after.pieces; standing = after.standing; stage = after.stage }

-- the steps of events, one after another; follows: a collection's end comes after them
abbrev pub commented_steps : Effective → (follows : Bool) → List Commented → Stage → CommentedStanding → CommentedSteps
commented_steps s follows [] stage standing = record { pieces = []; standing = standing; stage = stage }
commented_steps s follows (commented ∷ rest) stage standing =
    then_commented
    (commented_step s stage commented (ends_next (events_of rest) follows) standing)
    (commented_steps s follows rest)

-- steps, and then steps from their result
abbrev pub joined_commented : CommentedSteps → (Stage → CommentedStanding → CommentedSteps) → CommentedSteps
joined_commented first next =
    let after = next first.stage first.standing in
    record { pieces = first.pieces ++ after.pieces; standing = after.standing; stage = after.stage }

-- Lists

-- the events of a list that are ready to be written, with their comments
abbrev pub ready_commented : List Commented → List Commented
ready_commented all = take (written (events_of all)) all

-- the steps of a stream's ready events, from its start
abbrev pub commented_progress : Effective → List Commented → CommentedSteps
commented_progress s all = commented_steps s false (ready_commented all) at_stream first_commented

-- the pieces of a whole list; none if the list is no stream
abbrev pub commented_layout : Effective → List Commented → List CommentedPiece
commented_layout s all =
    if is_some (tree_of (events_of all)) then (commented_steps s false all at_stream first_commented).pieces else []

-- a list that begins a stream, and the events that end it, which have no comments
abbrev pub commented_completion : List Commented → List Commented
commented_completion all = all ++ map without_comments (missing_after (partial_of (events_of all)))

-- the first n pieces of the completion of the first n events
abbrev pub commented_pieces : Effective → List Commented → ℕ → List CommentedPiece
commented_pieces s all k = take k (commented_layout s (commented_completion (take k all)))
