use Rattle.yaml_emitter.proofs.Common.{◌-◌, ◌≤◌, None, drop, length, false, [], ◌++◌, ◌∷◌, ◌≡◌, Event, seen_events, is_head_ready, ReachedOn, KeepsGiven, Grows}
use Rattle.yaml_emitter.specs.EventKinds.{kind_of}
use Rattle.yaml_emitter.proofs.machine.Machine.write_ready.Given as goal

abbrev pub invariant-events : goal.invariant-events
invariant-events g l =
    record {
      within : l.count ≤ length l.waiting;
      reached : (last : Event) → kind_of last ≡ l.next
          → ReachedOn (seen_events l.waiting ++ last ∷ []) l.initial.self (drop l.count (seen_events l.waiting) ++ last ∷ []) l.self;
      unready : (last : Event) → kind_of last ≡ l.next → is_head_ready (seen_events l.waiting ++ last ∷ []) ≡ false → l.count ≡ 0;
      error : l.self.error ≡ None;
      set : KeepsGiven l.initial.self l.self;
      grows : Grows l.initial.self.page l.self.page;
    }

abbrev pub decreases-events : goal.decreases-events
decreases-events g l = length l.waiting - l.count
