-- The number of open collections, event by event.
use Rattle.std.specs.Prelude.{◌≡◌, ℕ, suc, pred, ◌≤◌, List, [], ◌∷◌}
use Rattle.yaml_base.specs.Event.{Event, sequence_start, sequence_end, mapping_start, mapping_end}

-- the number that is open after an event, given the number before it
abbrev pub count_after : Event → ℕ → ℕ
count_after (sequence_start start) now = suc now
count_after (mapping_start start) now = suc now
count_after sequence_end now = pred now
count_after mapping_end now = pred now
count_after event now = now

-- True if never more than the most are open, given the numbers before and after some events.
abbrev pub OpensAtMost : (most before : ℕ) → List Event → (after : ℕ) → Type 0
OpensAtMost most before [] after = (before ≤ most) × (before ≡ after)
OpensAtMost most before (event ∷ events) after = (before ≤ most) × OpensAtMost most (count_after event before) events after
