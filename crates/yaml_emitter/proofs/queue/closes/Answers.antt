use Rattle.yaml_emitter.proofs.Common.{ℕ, ◌+◌, drop, true, Option, List, [], map, ◌++◌, ◌∷◌, ◌≡◌, ap, sym, ◌∙◌, arith, option_map, Event, list_any}
use Rattle.yaml_emitter.proofs.Common.{seen_event, seen_events, is_balanced, nonempty_prefixes}
use Rattle.std.proofs.{lemmas.List.drop_all}
use Rattle.std.specs.Prelude.{◌≤◌, ◌==◌, ◌&&◌, length, unwrap_or}
use Rattle.yaml_base.specs.Ready.{is_end, is_start}
use Rattle.yaml_emitter.proofs.standing.WrittenPrefixes.{behind_few, closed_by, closed_from, closed_last, closed_start}
use Rattle.yaml_emitter.proofs.queue.closes.Goals as goal

pub loop-event-preserved : goal.loop-event-preserved
loop-event-preserved g c =
    let rest = c.args.rest.now in
    let i = c.loop-event.event-index in
    let behind = c.open_behind.ensures in
    record {
      in_range = omega (arith, c.loop-event.invariant.in_range, behind_few c.loop-event.depth (seen_event c.event-item.result) _ (sym behind ∙ c.in-Some.is));
      what_is_left = λ tail.
          sym
          (closed_from seen_event rest i c.event-item.result c.loop-event-test.true c.event-item.is c.loop-event.depth tail
          ∙ ap (λ (o : Option ℕ). unwrap_or (option_map (λ more. closed_by more (seen_events (drop (i + 1) rest) ++ tail)) o) true) (sym behind ∙ c.in-Some.is))
          ∙ c.loop-event.invariant.what_is_left tail;
    }

pub returns-in-None : goal.returns-in-None
returns-in-None g c = λ first last starts stands.
    let rest = c.args.rest.now in
    let i = c.loop-event.event-index in
    let tail = last ∷ [] in
    sym
    (closed_start first (seen_events rest ++ tail) starts ∙ sym (c.loop-event.invariant.what_is_left tail)
    ∙ closed_from seen_event rest i c.event-item.result c.loop-event-test.true c.event-item.is c.loop-event.depth tail
    ∙ ap (λ (o : Option ℕ). unwrap_or (option_map (λ more. closed_by more (seen_events (drop (i + 1) rest) ++ tail)) o) true)
    (sym c.open_behind.ensures ∙ c.in-None.is))

-- after all of them the last event decides
closed_behind : {E : Type 0} (seen : E → Event) (rest : List E) (depth i : ℕ) (first last : Event) → is_start first ≡ true → length rest ≤ i
    → closed_by depth (map seen (drop i rest) ++ last ∷ []) ≡ closed_by 0 (map seen rest ++ last ∷ [])
    → list_any is_balanced (nonempty_prefixes (first ∷ (map seen rest ++ last ∷ []))) ≡ (is_end last && depth == 0)
closed_behind seen rest depth i first last starts end left =
    closed_start first (map seen rest ++ last ∷ []) starts ∙ sym left
    ∙ ap (λ l. closed_by depth (map seen l ++ last ∷ [])) (drop_all i rest end)
    ∙ closed_last depth last

pub returns-then-is_end : goal.returns-then-is_end
returns-then-is_end g c = λ first last starts is.
    sym
    (closed_behind seen_event c.args.rest.now c.loop-event.depth c.loop-event.event-index first last starts c.loop-event-test.false
    (c.loop-event.invariant.what_is_left (last ∷ []))
    ∙ ap (λ b. b && c.loop-event.depth == 0) (sym (c.is_end.ensures last is) ∙ c.if-is_end.true))

pub returns-else-is_end : goal.returns-else-is_end
returns-else-is_end g c = λ first last starts is.
    c.if-is_end.false
    ∙ sym
    (closed_behind seen_event c.args.rest.now c.loop-event.depth c.loop-event.event-index first last starts c.loop-event-test.false
    (c.loop-event.invariant.what_is_left (last ∷ []))
    ∙ ap (λ b. b && c.loop-event.depth == 0) (sym (c.is_end.ensures last is) ∙ c.if-is_end.false))
