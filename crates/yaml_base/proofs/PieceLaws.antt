-- One piece for each event; and written pieces are final: every continuation begins with them.
use Rattle.yaml_base.proofs.Common.{arith, unwrap_or, option_map, option_and_then, Option, Some, length, take, Bool, false, true, ◌&&◌, List, [], ◌++◌}
use Rattle.yaml_base.proofs.Common.{◌∷◌, refl, ◌≡◌, ap, sym, ◌∙◌, Event, Stream, stream_events, Partial, after_stream, push, pushed, partial_of, finish_stream}
use Rattle.yaml_base.proofs.Common.{first_standing, layout, Standing, missing, completion, list_layout, first_ends_collection, last_closes_at_once}
use Rattle.yaml_base.proofs.Common.{begins_collection, Effective, Stage, at_stream, step, ends_next, Steps, then_steps, steps, nat_tests}
use Rattle.std.proofs.lemmas.List.{length-take-le, take_at}
use Rattle.yaml_base.{proofs.Pushes.partial_of_events, proofs.StepLaws.stream_steps, proofs.Trees.stream_pushed, specs.Layout.OnePieceEach}
use Rattle.yaml_base.{specs.Pieces.last_begins_collection, specs.Pieces.PiecesStand, specs.Steps.joined_steps}
use Rattle.yaml_base.proofs.Completions.{completion_pushed, prefix_is_partial}

-- Each event gives one piece.
pub steps_count : (events : List Event) (s : Effective) (follows : Bool) (stage : Stage) (standing : Standing)
    → length (steps s follows events stage standing).pieces ≡ length events
steps_count [] s follows stage standing = refl
steps_count (event ∷ rest) s follows stage standing = grind (arith, nat_tests, steps_count rest s follows)

pub one_piece_each : OnePieceEach
one_piece_each s t =
    ap length (sym (stream_steps t s)) ∙ steps_count (stream_events t) s false at_stream first_standing

-- The steps of a list and then another.
pub steps-append : (a b : List Event) (s : Effective) (follows : Bool) (stage : Stage) (standing : Standing)
    → steps s follows (a ++ b) stage standing ≡ joined_steps (steps s (ends_next b follows) a stage standing) (steps s follows b)
steps-append [] b s follows stage standing = refl
steps-append (event ∷ a) b s follows stage standing = grind (arith, nat_tests, steps-append a b s follows)

-- The next event matters to a collection's start alone.
pub step_same : (event : Event) (stage : Stage) (s : Effective) (f g : Bool) (standing : Standing) → begins_collection event ≡ false
    → step s stage event f standing ≡ step s stage event g standing
step_same event stage s f g standing h = grind (arith, nat_tests)

pub steps_same : (events : List Event) (s : Effective) (f g : Bool) (stage : Stage) (standing : Standing) → last_begins_collection events ≡ false
    → steps s f events stage standing ≡ steps s g events stage standing
steps_same [] s f g stage standing other = refl
steps_same (event ∷ []) s f g stage standing other =
    ap (λ stepped. then_steps stepped (steps s f [])) (step_same event stage s f g standing other)
steps_same (event ∷ next ∷ rest) s f g stage standing other = grind (arith, nat_tests, steps_same (next ∷ rest) s f g)

ends_next-first : (rest : List Event) → ends_next rest false ≡ first_ends_collection rest
ends_next-first rest = grind (arith, nat_tests)

open_steps : (prefix rest : List Event) (s : Effective) (b c : Bool) → last_begins_collection prefix ≡ b → first_ends_collection rest ≡ c → b && c ≡ false
    → (steps s (ends_next rest false) prefix at_stream first_standing).pieces ≡ (steps s false prefix at_stream first_standing).pieces
open_steps prefix rest s false c last first other =
    ap (λ (made : Steps). made.pieces) (steps_same prefix s (ends_next rest false) false at_stream first_standing last)
open_steps prefix rest s true false last first other =
    ap (λ follows. (steps s follows prefix at_stream first_standing).pieces) (ends_next-first rest ∙ first)
open_steps prefix rest s true true last first other = cc

-- The layout of a whole list, event by event.
pub list_layout_steps : (events : List Event) (t : Stream) (s : Effective) → partial_of events ≡ Some (after_stream t)
    → list_layout s events ≡ (steps s false events at_stream first_standing).pieces
list_layout_steps events t s whole =
    ap (λ o. unwrap_or (option_map (layout s) (option_and_then finish_stream o)) []) whole
    ∙ sym (stream_steps t s) ∙ ap (λ all. (steps s false all at_stream first_standing).pieces) (partial_of_events _ _ whole)

-- A prefix's pieces in any whole list that begins with it and doesn't at once close a collection that it begins last.
pub prefix_layout : (prefix rest : List Event) (t : Stream) (s : Effective) → partial_of (prefix ++ rest) ≡ Some (after_stream t)
    → last_closes_at_once prefix rest ≡ false → take (length prefix) (list_layout s (prefix ++ rest)) ≡ (steps s false prefix at_stream first_standing).pieces
prefix_layout prefix rest t s whole other = grind (arith, list_layout_steps, steps-append, take_at, steps_count, open_steps)

abbrev NotClosed : List Event → Partial → Partial → Type 0
NotClosed events p q = pushed p events ≡ Some q → last_closes_at_once events (missing q) ≡ false

not_closed_next : (event : Event) (rest : List Event) (p q : Partial) (made : Option Partial) → push p event ≡ made
    → option_and_then (λ r. pushed r rest) made ≡ Some q → ((r : Partial) → NotClosed rest r q) → last_closes_at_once (event ∷ rest) (missing q) ≡ false
not_closed_next event rest p q made h h2 h3 = grind (arith, nat_tests)

pub completion_not_closed : (events : List Event) (p q : Partial) → NotClosed events p q
completion_not_closed [] p q given = refl
completion_not_closed (event ∷ rest) p q given =
    not_closed_next event rest p q (push p event) refl given (λ r. completion_not_closed rest r q)

-- The pieces of a prefix, event by event.
pub begun_pieces : (prefix : List Event) (p : Partial) (s : Effective) → partial_of prefix ≡ Some p
    → take (length prefix) (list_layout s (completion prefix)) ≡ (steps s false prefix at_stream first_standing).pieces
begun_pieces prefix p s begins = grind (arith, prefix_layout, completion_pushed, completion_not_closed)

pub pieces_stand : PiecesStand
pieces_stand s events rest k within accepted other =
    let prefix = take k events in
    let count : length prefix ≡ k = length-take-le k events within in
    let whole : partial_of (prefix ++ rest) ≡ Some (after_stream accepted.stream) = ap partial_of (sym accepted.is_stream) ∙ stream_pushed _ in
    let begins = prefix_is_partial prefix rest (after_stream accepted.stream) whole in
    ap (λ n. take n (list_layout s (prefix ++ rest))) (sym count)
    ∙ prefix_layout _ rest _ s whole other ∙ sym (begun_pieces prefix begins.0 s begins.1) ∙ ap (λ n. take n (list_layout s (completion prefix))) count
