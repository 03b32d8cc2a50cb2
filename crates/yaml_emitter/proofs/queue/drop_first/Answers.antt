use Rattle.yaml_emitter.proofs.Common.{ℕ, ◌+◌, ◌-◌, drop, ◌≡◌, drop-drop, ap, sym, ◌∙◌, arith, drop-map, seen_event, seen_events}
use Rattle.yaml_emitter.proofs.queue.drop_first.Goals as goal

pub events-preserved : goal.events-preserved
events-preserved g c =
    let before = seen_events c.events.queue.items in
    let one : 1 + (c.events.left - 1) ≡ c.events.left = omega arith in
    record {
      within = omega (arith, c.remove.ensures.len, c.events.invariant.within);
      rest =
          ap (λ q. drop (c.events.left - 1) (seen_events q)) c.remove.ensures.by_index.2
          ∙ ap (drop (c.events.left - 1)) (sym (drop-map seen_event 1 c.events.queue.items))
          ∙ drop-drop (c.events.left - 1) 1 before
          ∙ ap (λ (n : ℕ). drop n before) one
          ∙ c.events.invariant.rest;
      room = c.remove.ensures.capacity ∙ c.events.invariant.room;
    }
