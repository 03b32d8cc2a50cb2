-- Events without comments are written as ever; written pieces with comments are final; which events are ready goes by events alone.
use Rattle.yaml_base.proofs.Common.{ℕ, suc, Bool, false, true, Option, None, Some, List, [], ◌∷◌, ◌++◌, ◌≡◌, ◌&&◌, refl, ap, sym, ◌∙◌, arith, nat_tests}
use Rattle.yaml_base.proofs.Common.{if◌then◌else◌, append-nil, map, map-append, length, take, option_map, option_and_then, is_some, Text, Event, Stream}
use Rattle.yaml_base.proofs.Common.{Partial, after_stream, partial_of, finish_stream, tree_of, Piece, Standing, text_of, piece_text, first_standing, written}
use Rattle.yaml_base.proofs.Common.{missing, missing_after, completion, list_layout, first_ends_collection, last_closes_at_once}
use Rattle.yaml_base.proofs.Common.{begins_collection, Effective, Stage, at_stream, step, ends_next, Steps, steps, line_feed, ◌==◌}
use Rattle.std.proofs.lemmas.List.{length-take-le, take_at, take-map}
use Rattle.yaml_base.specs.{NodeLayout.body_text, Pieces.last_begins_collection, Steps.Stepped}
use Rattle.yaml_base.proofs.{Completions.completion_pushed, Completions.prefix_is_partial, PieceLaws.completion_not_closed, PieceLaws.list_layout_steps}
use Rattle.yaml_base.proofs.{PieceLaws.step_same, Trees.stream_pushed}
use Rattle.yaml_base.specs.Comments.{Commented, CommentedPiece, HeadLine, at_line_end, commented_text_of, events_of, has_header, piece_alone}
use Rattle.yaml_base.specs.Comments.{without_comments}
use Rattle.yaml_base.specs.CommentedSteps.{CommentedStanding, CommentedStep, CommentedSteps, HeadPlace, commented_completion, commented_layout}
use Rattle.yaml_base.specs.CommentedSteps.{commented_step, commented_steps, first_commented, head_place, joined_commented}
use Rattle.yaml_base.specs.CommentedSteps.{render_before, still_waiting, takes_line, then_commented, with_comments}
use Rattle.yaml_base.specs.CommentLaws.{CommentedPiecesStand, NoCommentsNoChange, NoCommentsSameText, OnePieceEachCommented}
use Rattle.yaml_base.specs.CommentLaws.{PieceAloneSameText, ReadyByEvents}

-- ---- without comments

pub events_bare : (events : List Event) → events_of (map without_comments events) ≡ events
events_bare [] = refl
events_bare (event ∷ rest) = ap (λ others. event ∷ others) (events_bare rest)

abbrev no_waiting : Standing → CommentedStanding
no_waiting standing = record { standing = standing; waiting = [] }

-- steps with the pieces alone
abbrev bare_steps : Steps → CommentedSteps
bare_steps made = record { pieces = map piece_alone made.pieces; standing = no_waiting made.standing; stage = made.stage }

-- a piece, and then steps
abbrev piece_onto : Piece → CommentedSteps → CommentedSteps
piece_onto piece after = record { pieces = piece_alone piece ∷ after.pieces; standing = after.standing; stage = after.stage }

steps_bare : (events : List Event) (s : Effective) (follows : Bool) (stage : Stage) (standing : Standing)
    → commented_steps s follows (map without_comments events) stage (no_waiting standing) ≡ bare_steps (steps s follows events stage standing)
steps_bare [] s follows stage standing = refl
steps_bare (event ∷ rest) s follows stage standing =
    let stepped = step s stage event (ends_next rest follows) standing in
    ap (λ others. then_commented (commented_step s stage (without_comments event) (ends_next others follows) (no_waiting standing))
    (commented_steps s follows (map without_comments rest))) (events_bare rest)
    ∙ ap (piece_onto stepped.rendered.piece) (steps_bare rest s follows stepped.stage stepped.rendered.standing)

finished : (made : Option Partial) (t : Stream) → option_and_then finish_stream made ≡ Some t → made ≡ Some (after_stream t)
finished (Some (after_stream u)) t given = ap (option_map after_stream) given
finished (Some _) t given = cc
finished None t given = cc

layout_bare : (s : Effective) (events : List Event) (made : Option Stream) → tree_of events ≡ made
    → commented_layout s (map without_comments events) ≡ map piece_alone (list_layout s events)
layout_bare s events None is = grind (arith, nat_tests, events_bare)
layout_bare s events (Some t) is =
    ap (λ others. if is_some (tree_of others) then (commented_steps s false (map without_comments events) at_stream first_commented).pieces else [])
    (events_bare events)
    ∙ ap (λ o. if is_some o then (commented_steps s false (map without_comments events) at_stream first_commented).pieces else []) is
    ∙ ap (λ (made : CommentedSteps). made.pieces) (steps_bare events s false at_stream first_standing)
    ∙ sym (ap (map piece_alone) (list_layout_steps events t s (finished (partial_of events) t is)))

pub no_comments_no_change : NoCommentsNoChange
no_comments_no_change s events = layout_bare s events (tree_of events) refl

nothing_added_if : (c : ℕ) (rest : Text) (b : Bool) → at_line_end [] rest ≡ rest → (if b then [] ++ c ∷ rest else c ∷ at_line_end [] rest) ≡ c ∷ rest
nothing_added_if c rest true same = refl
nothing_added_if c rest false same = ap (λ t. c ∷ t) same

nothing_added : (text : Text) → at_line_end [] text ≡ text
nothing_added [] = refl
nothing_added (c ∷ rest) = nothing_added_if c rest (c == line_feed) (nothing_added rest)

both_same : (b : Bool) (x y z : Text) → x ≡ z → y ≡ z → (if b then x else y) ≡ z
both_same true x y z first second = first
both_same false x y z first second = second

pub text_bare : PieceAloneSameText
text_bare piece =
    let own = body_text piece.body in
    ap (λ t. piece.lead ++ t) (both_same (has_header piece.body) (at_line_end [] own) (own ++ []) own (nothing_added own) (append-nil own))

pub texts_bare : (pieces : List Piece) → commented_text_of (map piece_alone pieces) ≡ text_of pieces
texts_bare [] = refl
texts_bare (piece ∷ rest) =
    ap (λ t. t ++ commented_text_of (map piece_alone rest)) (text_bare piece) ∙ ap (λ t. piece_text piece ++ t) (texts_bare rest)

pub no_comments_same_text : NoCommentsSameText
no_comments_same_text s events = ap commented_text_of (no_comments_no_change s events) ∙ texts_bare (list_layout s events)

-- ---- which events are ready

pub ready_by_events : ReadyByEvents
ready_by_events all = sym (take-map (λ (commented : Commented). commented.event) (written (events_of all)) all)

-- ---- one piece each, and written pieces are final

pub commented_count : (all : List Commented) (s : Effective) (follows : Bool) (stage : Stage) (standing : CommentedStanding)
    → length (commented_steps s follows all stage standing).pieces ≡ length all
commented_count [] s follows stage standing = refl
commented_count (commented ∷ rest) s follows stage standing =
    let made = commented_step s stage commented (ends_next (events_of rest) follows) standing in
    ap suc (commented_count rest s follows made.stage made.standing)

next_append : (a b : List Commented) (follows : Bool) → ends_next (events_of (a ++ b)) follows ≡ ends_next (events_of a) (ends_next (events_of b) follows)
next_append [] b follows = refl
next_append (commented ∷ a) b follows = refl

-- a piece with comments, and then steps
abbrev commented_onto : CommentedPiece → CommentedSteps → CommentedSteps
commented_onto piece after = record { pieces = piece ∷ after.pieces; standing = after.standing; stage = after.stage }

pub commented_steps-append : (a b : List Commented) (s : Effective) (follows : Bool) (stage : Stage) (standing : CommentedStanding)
    → commented_steps s follows (a ++ b) stage standing
    ≡ joined_commented (commented_steps s (ends_next (events_of b) follows) a stage standing) (commented_steps s follows b)
commented_steps-append [] b s follows stage standing = refl
commented_steps-append (commented ∷ a) b s follows stage standing =
    let made = commented_step s stage commented (ends_next (events_of a) (ends_next (events_of b) follows)) standing in
    ap (λ ends. then_commented (commented_step s stage commented ends standing) (commented_steps s follows (a ++ b))) (next_append a b follows)
    ∙ ap (commented_onto made.piece) (commented_steps-append a b s follows made.stage made.standing)

-- The next event matters to a collection's start alone.
place_same : (event : Event) (stage : Stage) (s : Effective) (f g : Bool) → begins_collection event ≡ false
    → head_place s stage event f ≡ head_place s stage event g
place_same event stage s f g other = grind (arith, nat_tests)

takes_same : (event : Event) (stage : Stage) (s : Effective) (f g : Bool) → begins_collection event ≡ false
    → takes_line s stage event f ≡ takes_line s stage event g
takes_same event stage s f g other = grind (arith, nat_tests)

-- the step of an event from its place, its own step and whether it takes a line comment
abbrev step_of : Commented → List HeadLine → HeadPlace → Text → Stepped → (takes : Bool) → CommentedStep
step_of commented lines place head stepped takes =
    let made = with_comments commented (still_waiting lines place) takes head stepped.rendered in
    record { piece = made.piece; standing = made.standing; stage = stepped.stage }

abbrev step_from : Effective → Stage → Commented → List HeadLine → Standing → HeadPlace → (empty takes : Bool) → CommentedStep
step_from s stage commented lines before place empty takes =
    let head = render_before lines place commented.event before in
    step_of commented lines place head.text (step s stage commented.event empty head.standing) takes

commented_step_same : (commented : Commented) (stage : Stage) (s : Effective) (f g : Bool) (before : CommentedStanding)
    → begins_collection commented.event ≡ false → commented_step s stage commented f before ≡ commented_step s stage commented g before
commented_step_same commented stage s f g before other =
    let event = commented.event in
    let lines = before.waiting ++ commented.comments.head in
    let place = head_place s stage event g in
    let head = render_before lines place event before.standing in
    ap (λ place. step_from s stage commented lines before.standing place f (takes_line s stage event f)) (place_same event stage s f g other)
    ∙ ap (step_from s stage commented lines before.standing place f) (takes_same event stage s f g other)
    ∙ ap (λ stepped. step_of commented lines place head.text stepped (takes_line s stage event g)) (step_same event stage s f g head.standing other)

commented_steps_same : (all : List Commented) (s : Effective) (f g : Bool) (stage : Stage) (standing : CommentedStanding)
    → last_begins_collection (events_of all) ≡ false → commented_steps s f all stage standing ≡ commented_steps s g all stage standing
commented_steps_same [] s f g stage standing other = refl
commented_steps_same (commented ∷ []) s f g stage standing other =
    ap (λ made. then_commented made (commented_steps s f [])) (commented_step_same commented stage s f g standing other)
commented_steps_same (commented ∷ next ∷ rest) s f g stage standing other =
    let made = commented_step s stage commented (ends_next (events_of (next ∷ rest)) f) standing in
    ap (commented_onto made.piece) (commented_steps_same (next ∷ rest) s f g made.stage made.standing other)

first_is_next : (rest : List Event) → ends_next rest false ≡ first_ends_collection rest
first_is_next [] = refl
first_is_next (event ∷ rest) = refl

pub open_commented : (prefix : List Commented) (rest : List Event) (s : Effective) (b c : Bool) → last_begins_collection (events_of prefix) ≡ b
    → first_ends_collection rest ≡ c → b && c ≡ false
    → (commented_steps s (ends_next rest false) prefix at_stream first_commented).pieces
    ≡ (commented_steps s false prefix at_stream first_commented).pieces
open_commented prefix rest s false c last first other =
    ap (λ (made : CommentedSteps). made.pieces) (commented_steps_same prefix s (ends_next rest false) false at_stream first_commented last)
open_commented prefix rest s true false last first other =
    ap (λ follows. (commented_steps s follows prefix at_stream first_commented).pieces) (first_is_next rest ∙ first)
open_commented prefix rest s true true last first other = cc

pub commented_layout_steps : (all : List Commented) (t : Stream) (s : Effective) → partial_of (events_of all) ≡ Some (after_stream t)
    → commented_layout s all ≡ (commented_steps s false all at_stream first_commented).pieces
commented_layout_steps all t s whole =
    ap (λ o. if is_some (option_and_then finish_stream o) then (commented_steps s false all at_stream first_commented).pieces else []) whole

pub one_piece_each_commented : OnePieceEachCommented
one_piece_each_commented s stream all is =
    ap length (commented_layout_steps all stream s (ap partial_of (sym is) ∙ stream_pushed stream)) ∙ commented_count all s false at_stream first_commented

-- A prefix's pieces in any whole list that begins with it and doesn't at once close a collection that it begins last.
pub prefix_commented : (prefix rest : List Commented) (t : Stream) (s : Effective) → partial_of (events_of (prefix ++ rest)) ≡ Some (after_stream t)
    → last_closes_at_once (events_of prefix) (events_of rest) ≡ false
    → take (length prefix) (commented_layout s (prefix ++ rest)) ≡ (commented_steps s false prefix at_stream first_commented).pieces
prefix_commented prefix rest t s whole other =
    let first = commented_steps s (ends_next (events_of rest) false) prefix at_stream first_commented in
    let after = commented_steps s false rest first.stage first.standing in
    ap (take (length prefix)) (commented_layout_steps (prefix ++ rest) t s whole)
    ∙ ap (λ (made : CommentedSteps). take (length prefix) made.pieces) (commented_steps-append prefix rest s false at_stream first_commented)
    ∙ take_at first.pieces after.pieces (length prefix) (commented_count prefix s (ends_next (events_of rest) false) at_stream first_commented)
    ∙ open_commented prefix (events_of rest) s (last_begins_collection (events_of prefix)) (first_ends_collection (events_of rest)) refl refl other

-- The completion has the events of the completion.
completed_events : (all : List Commented) → events_of (commented_completion all) ≡ completion (events_of all)
completed_events all =
    let missed = missing_after (partial_of (events_of all)) in
    map-append (λ (commented : Commented). commented.event) all (map without_comments missed)
    ∙ ap (λ others. events_of all ++ others) (events_bare missed)

pub begun_commented : (prefix : List Commented) (p : Partial) (s : Effective) → partial_of (events_of prefix) ≡ Some p
    → take (length prefix) (commented_layout s (commented_completion prefix)) ≡ (commented_steps s false prefix at_stream first_commented).pieces
begun_commented prefix p s begins =
    let missed = map without_comments (missing_after (partial_of (events_of prefix))) in
    let same : events_of missed ≡ missing p = events_bare (missing_after (partial_of (events_of prefix))) ∙ ap missing_after begins in
    prefix_commented prefix missed _ s (ap partial_of (completed_events prefix) ∙ completion_pushed (events_of prefix) p begins)
    (ap (last_closes_at_once (events_of prefix)) same ∙ completion_not_closed (events_of prefix) _ p begins)

pub commented_pieces_stand : CommentedPiecesStand
commented_pieces_stand s all rest k within accepted other =
    let prefix = take k all in
    let count : length prefix ≡ k = length-take-le k all within in
    let whole : partial_of (events_of (prefix ++ rest)) ≡ Some (after_stream accepted.stream) =
    ap partial_of (sym accepted.is_stream) ∙ stream_pushed accepted.stream in
    let joined : events_of (prefix ++ rest) ≡ events_of prefix ++ events_of rest = map-append (λ (commented : Commented). commented.event) prefix rest in
    let begins = prefix_is_partial (events_of prefix) (events_of rest) (after_stream accepted.stream) (ap partial_of (sym joined) ∙ whole) in
    ap (λ n. take n (commented_layout s (prefix ++ rest))) (sym count)
    ∙ prefix_commented prefix rest _ s whole other
    ∙ sym (begun_commented prefix begins.0 s begins.1)
    ∙ ap (λ n. take n (commented_layout s (commented_completion prefix))) count
