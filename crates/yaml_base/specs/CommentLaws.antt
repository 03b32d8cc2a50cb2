-- Laws of comments: events without comments are written as ever; a comment changes no piece, and none of its characters can be content;
-- pieces that are written are final.
use Rattle.std.specs.Prelude.{◌≡◌, ◌≤◌, ◌⊎◌, ℕ, Bool, true, false, Some, List, [], ◌∷◌, ◌++◌, ◌==◌, ◌||◌, ◌&&◌, length, map, take, if◌then◌else◌}
use Rattle.std.specs.List.{list_all}
use Rattle.yaml_base.specs.Characters.{Text, line_feed, space}
use Rattle.yaml_base.specs.Settings.{Effective}
use Rattle.yaml_base.specs.Cursor.{Cursor, first_cursor}
use Rattle.yaml_base.specs.Event.{Event, TagDirective}
use Rattle.yaml_base.specs.Grammar.{Partial, Stream, node_events, partial_of, stream_events}
use Rattle.yaml_base.specs.Refusal.{IsAccepted, refusal}
use Rattle.yaml_base.specs.Ready.{written}
use Rattle.yaml_base.specs.Prefix.{IsPrefix}
use Rattle.yaml_base.specs.scalars.Analysis.{begins_with, is_empty}
use Rattle.yaml_base.specs.NodeLayout.{Piece, Standing, piece_text, text_of}
use Rattle.yaml_base.specs.Places.{is_simple_at}
use Rattle.yaml_base.specs.Steps.{Frame, Stage, at_node, at_stream, next_place, stage_after, stage_refusal, step}
use Rattle.yaml_base.specs.Pieces.{last_closes_at_once, list_layout}
use Rattle.yaml_base.specs.Comments.{Commented, HeadLine, comment_written, commented_text, commented_text_of, events_of, fits_comment, hash, piece_alone}
use Rattle.yaml_base.specs.Comments.{render_head, text_lines, text_with_line, without_comments}
use Rattle.yaml_base.specs.CommentedNodes.{CommentedNode, commented_node_events, node_of, render_commented}
use Rattle.yaml_base.specs.CommentedSteps.{CommentedStanding, CommentedStep, CommentedSteps, commented_layout, commented_pieces, commented_step}
use Rattle.yaml_base.specs.CommentedSteps.{commented_steps, commented_progress, first_commented, ready_commented}

-- Without comments

-- events without comments have the pieces of the layout, and no text beside them
abbrev pub NoCommentsNoChange : Type 0
NoCommentsNoChange =
    (s : Effective) (events : List Event) → commented_layout s (map without_comments events) ≡ map piece_alone (list_layout s events)

-- a piece alone has its own text
abbrev pub PieceAloneSameText : Type 0
PieceAloneSameText = (piece : Piece) → commented_text (piece_alone piece) ≡ piece_text piece

-- so a list without comments has the text of the layout
abbrev pub NoCommentsSameText : Type 0
NoCommentsSameText =
    (s : Effective) (events : List Event) → commented_text_of (commented_layout s (map without_comments events)) ≡ text_of (list_layout s events)

-- One piece

-- a text ends a line, and the cursor is at the start of the next one
pub record EndsLine (text : Text) (after : Standing) : Type 0 where
  pub front : Text
  pub parts : front ++ line_feed ∷ [] ≡ text
  pub start : after.cursor ≡ first_cursor

-- there is no text, and writing goes on from the same state; or the text ends a line
abbrev pub EndsLineIfAny : Text → (before after : Standing) → Type 0
EndsLineIfAny text before after = ((text ≡ []) × (after ≡ before)) ⊎ EndsLine text after

-- a step writes a head, from a state to another, and then the piece that the event has there, whose stage is the next
pub record WritesAfterHead (s : Effective) (stage : Stage) (event : Event) (empty : Bool) (before : Standing) (made : CommentedStep) : Type 0 where
  pub start : Standing
  pub head : EndsLineIfAny made.piece.head before start
  pub piece : made.piece.piece ≡ (step s stage event empty start).rendered.piece
  pub stage_after : made.stage ≡ (step s stage event empty start).stage

-- each step does: a piece is the event's own, from a line's start if a head precedes it
abbrev pub PieceFollowsHead : Type 0
PieceFollowsHead =
    (s : Effective) (stage : Stage) (commented : Commented) (empty : Bool) (before : CommentedStanding)
    → WritesAfterHead s stage commented.event empty before.standing (commented_step s stage commented empty before)

-- a text is inserted into another one at a line's end
pub record InsertsAtLineEnd (text added result : Text) : Type 0 where
  pub front : Text
  pub rest : Text
  pub text_parts : front ++ rest ≡ text
  pub result_parts : front ++ (added ++ rest) ≡ result
  pub ends : (is_empty rest || begins_with (λ c. c == line_feed) rest) ≡ true

-- so a line comment is inserted into its piece
abbrev pub LineCommentsEndLines : Type 0
LineCommentsEndLines = (comment : Text) (piece : Piece) → InsertsAtLineEnd (piece_text piece) comment (text_with_line comment piece)

-- Comments are no content

-- true of `#` and characters that a comment may hold
abbrev pub is_comment : Text → Bool
is_comment [] = false
is_comment (c ∷ rest) = c == hash && list_all fits_comment rest

-- any text is written so
abbrev pub CommentsAreComments : Type 0
CommentsAreComments = (text : Text) → is_comment (comment_written text) ≡ true

-- true of a comment after spaces
abbrev pub is_comment_line : Text → Bool
is_comment_line [] = false
is_comment_line (c ∷ rest) = if c == space then is_comment_line rest else is_comment (c ∷ rest)

-- each line of rendered head lines is empty or such a line
abbrev pub HeadsAreComments : Type 0
HeadsAreComments =
    (column : ℕ) (keeps_breaks : Bool) (lines : List HeadLine) (cursor : Cursor)
    → list_all (λ line. is_empty line || is_comment_line line) (text_lines (render_head column keeps_breaks lines cursor).text) ≡ true

-- Lists

-- a stream has one piece for each event
abbrev pub OnePieceEachCommented : Type 0
OnePieceEachCommented =
    (s : Effective) (stream : Stream) (all : List Commented) → stream_events stream ≡ events_of all → length (commented_layout s all) ≡ length all

-- comments don't count for which events are ready
abbrev pub ReadyByEvents : Type 0
ReadyByEvents = (all : List Commented) → events_of (ready_commented all) ≡ take (written (events_of all)) (events_of all)

-- nor for what is refused
abbrev pub RefusedByEvents : Type 0
RefusedByEvents =
    (s : Effective) (follows : Bool) (all : List Commented) (event : Event) (partial : Partial) → partial_of (events_of all) ≡ Some partial
    → stage_refusal s.canonical (commented_steps s follows all at_stream first_commented).stage event
    ≡ refusal s.canonical (events_of all) event

-- each accepted list that begins with the first n events and their comments has their pieces, unless it at once ends a collection that they
-- begin last
abbrev pub CommentedPiecesStand : Type 0
CommentedPiecesStand =
    (s : Effective) (all rest : List Commented) (k : ℕ) → k ≤ length all → IsAccepted s.canonical (events_of (take k all ++ rest))
    → last_closes_at_once (events_of (take k all)) (events_of rest) ≡ false
    → take k (commented_layout s (take k all ++ rest)) ≡ commented_pieces s all k

-- the first pieces of the events that are ready are those of their steps
abbrev pub ReadyPiecesAreFirst : Type 0
ReadyPiecesAreFirst =
    (s : Effective) (all : List Commented) (partial : Partial) → partial_of (events_of (ready_commented all)) ≡ Some partial
    → commented_pieces s all (written (events_of all)) ≡ (commented_progress s all).pieces

-- as a list grows, its pieces stay, and others follow
abbrev pub ReadyPiecesStay : Type 0
ReadyPiecesStay =
    (s : Effective) (all more : List Commented) → IsPrefix (commented_progress s all).pieces (commented_progress s (all ++ more)).pieces

-- Nodes

-- a node with comments has the events of the node
abbrev pub CommentedNodeHasEvents : Type 0
CommentedNodeHasEvents = (node : CommentedNode) → events_of (commented_node_events node) ≡ node_events (node_of node)

-- steps that write the pieces of a node with comments at the place of the next node, and go on after it
abbrev pub steps_of_node : Effective → List TagDirective → List Frame → CommentedNode → CommentedStanding → CommentedSteps
steps_of_node s directives frames node before =
    let place = next_place frames in
    let rendered = render_commented node s directives place before in
    record {
      pieces = rendered.pieces;
      standing = rendered.standing;
      stage = stage_after directives frames (is_simple_at place s.canonical directives (node_of node));
    }

-- the steps of its events are these
abbrev pub CommentedNodeHasPieces : Type 0
CommentedNodeHasPieces =
    (s : Effective) (follows : Bool) (directives : List TagDirective) (frames : List Frame) (node : CommentedNode) (before : CommentedStanding)
    → commented_steps s follows (commented_node_events node) (at_node directives frames) before ≡ steps_of_node s directives frames node before
