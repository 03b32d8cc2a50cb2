-- The collections that are open after some events, and writers that were given these events.
use Rattle.yaml_writer.proofs.Common.{Bool, Result, List, [], ◌++◌, ◌∷◌, refl, ◌≡◌, ap, subst, sym, ◌∙◌, arith, length, take}
use Rattle.yaml_writer.proofs.Common.{Event, WriterState, State, GaveEvent, PassedEvents, end_event, result_of_error}
use Rattle.yaml_emitter.specs.Emits.{Emits}
use Rattle.std.specs.Prelude.{◌-◌}
use Rattle.std.proofs.Common.{length-append}
use Rattle.std.proofs.Math.Seq.{take-append_seam}
use Rattle.yaml_base.specs.declared.errors.yaml_error_t.{yaml_error_t}
use Rattle.yaml_base.specs.declared.kinds.CollectionKind.{CollectionKind}
use Rattle.yaml_base.specs.declared.kinds.CollectionKind.TheVariants.{Mapping, Sequence}
use Rattle.yaml_writer.specs.WasGiven.{GaveEvents, IsBare, StaysUsable, between, levels_after, levels_after_event, start_event}
use Rattle.yaml_writer.specs.Writing.{EndedCollection}
use Rattle.yaml_writer.proofs.GivenLemmas.{gave_then, wrote_nothing}
use Rattle.yaml_writer.proofs.Taken.{emits_by}

-- ---- open collections

pub levels_after-append : (first second : List Event) (levels : List CollectionKind)
    → levels_after (first ++ second) levels ≡ levels_after second (levels_after first levels)
levels_after-append [] second levels = refl
levels_after-append (event ∷ first) second levels = levels_after-append first second (levels_after_event event levels)

pub levels_after_start : (in_flow : Bool) (kind : CollectionKind) (levels : List CollectionKind)
    → levels_after_event (start_event in_flow kind) levels ≡ levels ++ kind ∷ []
levels_after_start in_flow Sequence levels = refl
levels_after_start in_flow Mapping levels = refl

without_last : (outer : List CollectionKind) (kind : CollectionKind) → take (length (outer ++ kind ∷ []) - 1) (outer ++ kind ∷ []) ≡ outer
without_last outer kind =
    let shorter : length (outer ++ kind ∷ []) - 1 ≡ length outer = omega (arith, length-append outer (kind ∷ [])) in
    ap (λ n. take n (outer ++ kind ∷ [])) shorter ∙ take-append_seam outer (kind ∷ [])

pub levels_after_end : (kind : CollectionKind) (outer : List CollectionKind) → levels_after_event (end_event kind) (outer ++ kind ∷ []) ≡ outer
levels_after_end Sequence outer = without_last outer Sequence
levels_after_end Mapping outer = without_last outer Mapping

-- ---- writers

pub gave_none : (writer : WriterState) → IsBare writer → GaveEvents writer [] writer
gave_none writer bare = wrote_nothing writer bare

pub gave_events_then : (before middle after : WriterState) (first second : List Event) → GaveEvents before first middle
    → GaveEvents middle second after → GaveEvents before (first ++ second) after
gave_events_then before middle after first second one other =
    let whole = gave_then before middle after first second (levels_after first before.levels) (levels_after second middle.levels) one other in
    record {
      emits = whole.emits;
      canonical = whole.canonical;
      levels = whole.levels ∙ ap (levels_after second) one.levels ∙ sym (levels_after-append first second before.levels);
      bare = whole.bare;
    }

-- Events between documents open no collection and close none.
pub gave_passed : (before after : WriterState) (answer : Result (Unit {0}) yaml_error_t) → IsBare before → PassedEvents before between answer after
    → GaveEvents before between after
gave_passed before after answer bare passed =
    record {
      emits = emits_by passed.emits;
      canonical = ap (λ (w : WriterState). w.canonical) passed.rest;
      levels = ap (λ (w : WriterState). w.levels) passed.rest;
      bare = (ap (λ (w : WriterState). w.anchor) passed.rest ∙ bare.0, ap (λ (w : WriterState). w.tag) passed.rest ∙ bare.1);
    }

-- A call gave an event to the emitter.
pub gave_event : (before first after : WriterState) (event : Event) (answer : Result (Unit {0}) yaml_error_t) → first.emitter ≡ before.emitter
    → first.canonical ≡ before.canonical → first.levels ≡ levels_after_event event before.levels → GaveEvent first event answer after
    → GaveEvents before (event ∷ []) after
gave_event before first after event answer emitter canonical levels gave =
    record {
      emits = subst (λ (s : State). Emits s (event ∷ []) (result_of_error after.emitter.error) after.emitter) emitter (emits_by gave.emits);
      canonical = gave.canonical ∙ canonical;
      levels = gave.levels ∙ levels;
      bare = (gave.no_anchor, gave.no_tag);
    }

-- A call ended a collection of this kind.
pub gave_end : (outer : List CollectionKind) (kind : CollectionKind) (before after : WriterState) (answer : Result (Unit {0}) yaml_error_t)
    → before.levels ≡ outer ++ kind ∷ [] → IsBare before → (end : EndedCollection before answer after) → end.kind ≡ kind → end.outer ≡ outer
    → GaveEvents before (end_event kind ∷ []) after
gave_end outer kind before after answer levels bare end same_kind same_outer =
    record {
      emits =
          subst (λ (k : CollectionKind). Emits before.emitter (end_event k ∷ []) (result_of_error after.emitter.error) after.emitter) same_kind
          (emits_by end.emits);
      canonical = ap (λ (w : WriterState). w.canonical) end.rest;
      levels = ap (λ (w : WriterState). w.levels) end.rest ∙ same_outer ∙ sym (levels_after_end kind outer)
          ∙ ap (levels_after_event (end_event kind)) (sym levels);
      bare = (ap (λ (w : WriterState). w.anchor) end.rest ∙ bare.0, ap (λ (w : WriterState). w.tag) end.rest ∙ bare.1);
    }

-- The writer can be used further.
pub usable_by : (before after : WriterState) (events : List Event) → GaveEvents before events after → StaysUsable before events after
usable_by before after events gave = record { canonical = gave.canonical; levels = gave.levels; bare = gave.bare }

-- Events that leave open what was open, and then others.
pub closed_then : (before middle after : WriterState) (first second : List Event) → levels_after first before.levels ≡ before.levels
    → middle.canonical ≡ before.canonical → middle.levels ≡ before.levels → StaysUsable middle second after → StaysUsable before (first ++ second) after
closed_then before middle after first second closed canonical levels usable =
    record {
      canonical = usable.canonical ∙ canonical;
      levels = usable.levels ∙ ap (levels_after second) (levels ∙ sym closed) ∙ sym (levels_after-append first second before.levels);
      bare = usable.bare;
    }

pub usable_same : (before after : WriterState) (events same : List Event) → events ≡ same → StaysUsable before events after → StaysUsable before same after
usable_same before after events same is = subst (λ (e : List Event). StaysUsable before e after) is

-- The events are these.
pub gave_same : (before after : WriterState) (events same : List Event) → events ≡ same → GaveEvents before events after → GaveEvents before same after
gave_same before after events same is = subst (λ (e : List Event). GaveEvents before e after) is
