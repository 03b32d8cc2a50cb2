use Rattle.yaml_dump.proofs.Common.{[], map, ◌++◌, ◌∷◌, refl, ap, subst, sym, ◌∙◌, into_iter_items, Event, seen_event}
use Rattle.yaml_dump.proofs.Common.{none_from_result, Err, Ok, List, map-append}
use Rattle.std.proofs.lemmas.{Iterator.Adapters.YieldsList-from_vec, Iterator.Consumers.YieldsList-end, List.map-id}
use Rattle.yaml_dump.proofs.Emissions.{emits_promised, parts_more, some_more}
use Rattle.yaml_dump.proofs.Formed.{none_formed}
use Rattle.yaml_emitter.{proofs.Giving.emits_nothing, proofs.Giving.emits_then, specs.Emits.Emits}
use Rattle.yaml_dump.specs.EventForms.{event_in_form}
use Rattle.yaml_dump.proofs.emitting.emit_in_form.Goals as goal

pub returns-in-Err : goal.returns-in-Err
returns-in-Err g c =
    let form = c.args.form.now in
    let now = c.loop-event in
    let before = map seen_event now.yielded in
    let next = seen_event c.in-Some.event in
    let later = map seen_event (into_iter_items c.next.new.self) in
    let failed = subst (λ (event : Event). Emits now.emitter (event ∷ []) (Err c.in-Err.error) c.yaml_emitter_emit.new.emitter) c.event.ensures
    c.in-Err.ensures.emits in
    record {
      emits =
          record {
            earlier = map (event_in_form form) before;
            event = event_in_form form next;
            later = map (event_in_form form) later;
            parts =
                sym (map-append (event_in_form form) before (next ∷ later))
                ∙ ap (λ (events : List Event). map (event_in_form form) events)
                (sym (map-append seen_event now.yielded (c.in-Some.event ∷ into_iter_items c.next.new.self))
                ∙ ap (λ left. map seen_event (now.yielded ++ left)) (sym c.in-Some.ensures.steps.0) ∙ ap (map seen_event) now.invariant.4);
            kept = record {
              between = now.emitter;
              no_error = now.invariant.3;
              promised = emits_promised now.invariant.5 c.promised.ensures.promised c.args.emitter.now.given c.args.emitter.now.events refl refl;
              grown = now.invariant.5.grows;
              grows = failed.grows;
            };
            emits = emits_then now.invariant.5 failed;
          };
      output = failed.set.has_output ∙ now.invariant.2;
    }

pub loop-event-preserved : goal.loop-event-preserved
loop-event-preserved g c =
    let form = c.args.form.now in
    let now = c.loop-event in
    let before = map seen_event now.yielded in
    let next = seen_event c.in-Some.event in (
      tt,
      tt,
      c.yaml_emitter_emit.ensures.emits.set.has_output ∙ now.invariant.2,
      none_from_result c.yaml_emitter_emit.new.emitter.error c.in_default.ensures.emits.answered,
      parts_more now.yielded c.in-Some.event (into_iter_items c.next.new.self)
          (into_iter_items now.event-iterator) c.args.events.items now.invariant.4 c.in-Some.ensures.steps.0,
      subst (λ (events : List Event). Emits c.args.emitter.now events (Ok tt) c.yaml_emitter_emit.new.emitter)
          (sym
          (ap (λ (events : List Event). map (event_in_form form) events) (map-append seen_event now.yielded (c.in-Some.event ∷ []))
          ∙ map-append (event_in_form form) before (next ∷ [])))
          (emits_then now.invariant.5
          (subst (λ (event : Event). Emits now.emitter (event ∷ []) (Ok tt) c.yaml_emitter_emit.new.emitter) c.event.ensures
          c.in_default.ensures.emits)),
      λ none. absurd (some_more seen_event now.yielded c.in-Some.event none),
    )

pub loop-event-init : goal.loop-event-init
loop-event-init g c = (
  tt,
  tt,
  c.requires.output,
  c.requires.no_error,
  c.into_iter-event-iterator.ensures.into_iter_gives.0,
  emits_nothing c.args.emitter.now c.requires.no_error,
  λ none. refl,
)

pub returns : goal.returns
returns g c =
    let form = c.args.form.now in
    let now = c.loop-event in
    let road = YieldsList-from_vec {s = c.into_iter-event-iterator.result} c.args.events.items c.into_iter-event-iterator.ensures.into_iter_gives.0
    (c.into_iter-event-iterator.ensures.into_iter_gives.1 ∙ c.args.events.ok.0) in
    let whole = ap (map seen_event)
    (sym (map-id now.yielded) ∙ (YieldsList-end road now.yielded now.event-iterator now.yielded_by c.next.result c.next.new.self c.in-None.is
    c.next.ensures.steps).0) in
    record {
      emits =
          record {
            emits =
                subst (λ (events : List Event). Emits c.args.emitter.now (map (event_in_form form) events) (Ok tt) now.emitter) whole now.invariant.5;
            unchanged = λ none. now.invariant.6 (whole ∙ none_formed form (map seen_event c.args.events.items) none);
          };
      output = now.invariant.2;
    }
