-- A stage allows and refuses the same events as the partial tree to which it corresponds.
use Rattle.yaml_base.proofs.Common.{nat_tests, arith, suc, is_none, option_and_then, Option, None, Some, length, Bool, false, true, List, [], ◌∷◌, refl}
use Rattle.yaml_base.proofs.Common.{◌≡◌, ap, subst, sym, ◌∙◌, TagDirective, DocumentStart, Event, stream_start, stream_end, document_start, document_end, alias}
use Rattle.yaml_base.proofs.Common.{scalar, sequence_start, sequence_end, mapping_start, mapping_end, Node, Documents, no_documents}
use Rattle.yaml_base.proofs.Common.{documents_and, Level, at_item, at_key, at_value, Partial, before_stream, between_documents, within_document, after_root}
use Rattle.yaml_base.proofs.Common.{after_stream, with_node, closed, push, pushed, partial_of, first_standing, Standing, Role, as_item, as_key}
use Rattle.yaml_base.proofs.Common.{as_value, ends_collection, refusal_at, refusal, Encoding, Effective, Frame, Stage, at_stream}
use Rattle.yaml_base.proofs.Common.{at_document, at_node, at_document_end, at_nothing, stage_after, step, ends_next, steps}
use Rattle.yaml_base.specs.Steps.{stage_refusal}

-- a frame awaits the same entry as a level
abbrev Awaits : Level → Role → Type 0
Awaits (at_item c items) (as_item first) = Unit {0}
Awaits (at_key c pairs) (as_key first) = Unit {0}
Awaits (at_value c pairs key) (as_value simple) = Unit {0}
Awaits level role = ⊥

abbrev AllAwait : List Level → List Frame → Type 0
AllAwait [] [] = Unit {0}
AllAwait (level ∷ levels) (frame ∷ frames) = Awaits level frame.place.role × AllAwait levels frames
AllAwait levels frames = ⊥

-- a stage corresponds to a partial tree
abbrev pub StandsFor : Partial → Stage → Type 0
StandsFor before_stream at_stream = Unit {0}
StandsFor (between_documents e d) (at_document first) = Unit {0}
StandsFor (within_document e d s levels) (at_node t frames) = AllAwait levels frames
StandsFor (after_root e d s root) at_document_end = Unit {0}
StandsFor (after_stream t) at_nothing = Unit {0}
StandsFor p stage = ⊥

-- the stage after an event corresponds to the tree after it
abbrev Follows : Partial → Stage → Event → Type 0
Follows p stage event = (q : Partial) (s : Effective) (empty : Bool) (standing : Standing) → push p event ≡ Some q
    → StandsFor q (step s stage event empty standing).stage

pub stands_as : (p q : Partial) (stage : Stage) → Some p ≡ Some q → StandsFor p stage → StandsFor q stage
stands_as p q stage given h = let same : p ≡ q = cc in subst (λ r. StandsFor r stage) same h

end_follows : (e : Option Encoding) (d : Documents) (s : DocumentStart) (level : Level) (levels : List Level) (t : List TagDirective) (frame : Frame)
    (frames : List Frame) (event : Event) (q : Partial) (made : Option Node) → AllAwait levels frames
    → option_and_then (λ node. Some (with_node e d s levels node)) made ≡ Some q → StandsFor q (stage_after t frames frame.simple)
end_follows e d s level levels t frame frames event q made h k = grind (arith, nat_tests, stands_as)

closed_none : (level : Level) (event : Event) → ends_collection event ≡ false → closed level event ≡ None
closed_none level event h = grind (arith, nat_tests)

within_follows : (e : Option Encoding) (d : Documents) (s : DocumentStart) (levels : List Level) (t : List TagDirective) (frames : List Frame) (event : Event)
    → AllAwait levels frames → Follows (within_document e d s levels) (at_node t frames) event
within_follows e d s levels t frames (alias name) h q eff empty standing given = grind (arith, nat_tests, stands_as)
within_follows e d s levels t frames (scalar content) h q eff empty standing given = grind (arith, nat_tests, stands_as)
within_follows e d s levels t frames (sequence_start c) h q eff empty standing given = grind (arith, stands_as)
within_follows e d s levels t frames (mapping_start c) h q eff empty standing given = grind (arith, stands_as)
within_follows e d s (level ∷ levels) t (frame ∷ frames) sequence_end h q eff empty standing given =
    end_follows e d s level levels t frame frames sequence_end q (closed level sequence_end) h.1 given
within_follows e d s (level ∷ levels) t (frame ∷ frames) mapping_end h q eff empty standing given =
    end_follows e d s level levels t frame frames mapping_end q (closed level mapping_end) h.1 given
within_follows e d s (level ∷ levels) t [] event h q eff empty standing given = absurd h
within_follows e d s [] t frames event h q eff empty standing given = cc
within_follows e d s (level ∷ levels) t (frame ∷ frames) event h q eff empty standing given = let none = closed_none level event refl in cc

pub step_stands : (p : Partial) (stage : Stage) (event : Event) → StandsFor p stage → Follows p stage event
step_stands before_stream at_stream (stream_start encoding) h q s empty standing given =
    stands_as (between_documents encoding no_documents) q (at_document true) given tt
step_stands (between_documents e d) (at_document first) (document_start start) h q s empty standing given =
    stands_as (within_document e d start []) q (step s (at_document first) (document_start start) empty standing).stage given tt
step_stands (between_documents e d) (at_document first) stream_end h q s empty standing given =
    stands_as (after_stream (record { encoding = e; documents = d })) q at_nothing given tt
step_stands (within_document e d start levels) (at_node t frames) event h q s empty standing given =
    within_follows e d start levels t frames event h q s empty standing given
step_stands (after_root e d start root) at_document_end (document_end implicit) h q s empty standing given =
    stands_as (between_documents e (documents_and d (record { start = start; root = root; end_implicit = implicit }))) q (at_document false) given tt
step_stands before_stream at_stream event h q s empty standing given = cc
step_stands (between_documents e d) (at_document first) event h q s empty standing given = cc
step_stands (after_root e d start root) at_document_end event h q s empty standing given = cc
step_stands (after_stream t) at_nothing event h q s empty standing given = cc
step_stands p stage event h q s empty standing given = absurd h

-- The stage after a list corresponds to its partial tree.
abbrev ListStands : List Event → Type 0
ListStands events = (p q : Partial) (stage : Stage) (s : Effective) (follows : Bool) (standing : Standing) → StandsFor p stage → pushed p events ≡ Some q
    → StandsFor q (steps s follows events stage standing).stage

next_stands : (event : Event) (rest : List Event) → ListStands rest → (p q : Partial) (stage : Stage) (s : Effective) (follows : Bool) (standing : Standing)
    → StandsFor p stage → (made : Option Partial) → push p event ≡ made → option_and_then (λ r. pushed r rest) made ≡ Some q
    → StandsFor q (steps s follows (event ∷ rest) stage standing).stage
next_stands event rest others p q stage s follows standing h None is given = cc
next_stands event rest others p q stage s follows standing h (Some r) is given =
    let stepped = step s stage event (ends_next rest follows) standing in
    others r q stepped.stage s follows stepped.rendered.standing (step_stands p stage event h r s (ends_next rest follows) standing is) given

list_stands : (events : List Event) → ListStands events
list_stands [] = λ p q stage s follows standing h given. stands_as p q stage given h
list_stands (event ∷ rest) = λ p q stage s follows standing h given.
    next_stands event rest (list_stands rest) p q stage s follows standing h (push p event) refl given

pub stage_stands : (events : List Event) (p : Partial) (s : Effective) (follows : Bool) → partial_of events ≡ Some p
    → StandsFor p (steps s follows events at_stream first_standing).stage
stage_stands events p s follows given = list_stands events before_stream p at_stream s follows first_standing tt given

none_allowed : (level : Level) (event : Event) (f : Node → Partial) → ends_collection event ≡ false
    → true ≡ is_none (option_and_then (λ node. Some (f node)) (closed level event))
none_allowed level event f h = ap (λ o. is_none (option_and_then (λ node. Some (f node)) o)) (sym (closed_none level event h))

frames_count : (levels : List Level) (frames : List Frame) → AllAwait levels frames → length frames ≡ length levels
frames_count [] [] h = refl
frames_count (level ∷ levels) (frame ∷ frames) h = ap suc (frames_count levels frames h.1)
frames_count levels frames h = absurd h

-- The refusal at a stage is the refusal after the list.
pub stage_refuses : (canonical : Bool) (p : Partial) (stage : Stage) (event : Event) → StandsFor p stage
    → stage_refusal canonical stage event ≡ refusal_at canonical p event
stage_refuses canonical p stage event h = grind (arith, nat_tests, none_allowed, frames_count)

pub stage_refusal_after : (canonical : Bool) (events : List Event) (event : Event) (p : Partial) (s : Effective) (follows : Bool) → partial_of events ≡ Some p
    → stage_refusal canonical (steps s follows events at_stream first_standing).stage event ≡ refusal canonical events event
stage_refusal_after canonical events event p s follows given =
    stage_refuses _ p _ event (stage_stands events p s follows given) ∙ sym (ap (λ o. option_and_then (λ q. refusal_at canonical q event) o) given)
