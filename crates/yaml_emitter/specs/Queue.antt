-- The events that wait to be written.
use Rattle.std.specs.Prelude.{ℕ, zero, suc, Bool, false, true, Option, None, Some, List, [], ◌∷◌, ◌+◌, ◌&&◌, length, nat_lt, if◌then◌else◌}
use Rattle.yaml_base.specs.Event.{Event}
use Rattle.yaml_base.specs.Ready.{awaited, is_end, is_ready, is_start}

-- true if the first event of a queue can be written now
abbrev pub is_head_ready : List Event → Bool
is_head_ready [] = false
is_head_ready (event ∷ rest) = is_ready event rest

-- true if one more event makes all events of a queue ready: none awaits more events than then follow it
abbrev pub are_ready_by_one_more : List Event → Bool
are_ready_by_one_more [] = true
are_ready_by_one_more (event ∷ rest) = nat_lt (awaited event) (length (event ∷ rest) + 1) && are_ready_by_one_more rest

-- the number before this one; none for zero
abbrev pub checked_pred : ℕ → Option ℕ
checked_pred zero = None
checked_pred (suc n) = Some n

-- the number of parts that are open within another one after an event, if `depth` are open before it; none if it ends that one
abbrev pub open_behind : (depth : ℕ) → Event → Option ℕ
open_behind depth event = if is_start event then Some (depth + 1) else (if is_end event then checked_pred depth else Some depth)
