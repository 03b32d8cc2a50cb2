-- The effect of giving a record to an emitter.
use Rattle.std.specs.Prelude.{◌≡◌, Bool, true, false, Option, None, Some}
use Rattle.yaml_base.specs.Event.{Event, scalar}
use Rattle.yaml_base.specs.Seen.{seen_event}
use Rattle.yaml_emitter.specs.BorrowedTexts.{seen_scalar}
use Rattle.yaml_emitter.specs.Emits.{TakesEvent}
use Rattle.yaml_emitter.specs.Queue.{are_ready_by_one_more}
use Rattle.yaml_emitter.specs.State.{State}
use Rattle.yaml_c.specs.declared.giving.Giving.{Giving}
use Rattle.yaml_c.specs.declared.giving.Giving.TheVariants.{Emitted, Unreadable, NoMemory}
use Rattle.yaml_c.specs.declared.records.GivenEvent.{GivenEvent}
use Rattle.yaml_c.specs.declared.records.GivenEvent.TheVariants.{Owned, Scalar}

-- The event, whether its texts are copied or borrowed.
abbrev pub given_event : {A : Type 0} → GivenEvent A → Event
given_event (Owned event) = seen_event event
given_event (Scalar content) = scalar (seen_scalar content)

-- a record is read as a scalar
abbrev pub is_read_scalar : Option Event → Bool
is_read_scalar (Some (scalar content)) = true
is_read_scalar read = false

-- True if memory for texts may run out. A scalar's texts are copied only if the emitter has no error and the scalar has to wait, since not
-- all events before it are ready with it.
abbrev pub MayCopy : Option Event → State → Type 0
MayCopy read before = is_read_scalar read ≡ true → (before.error ≡ None) × (are_ready_by_one_more before.held ≡ false)

-- True if an emitter took the event of a record, or nothing changed, since the record has no reading or memory ran out.
abbrev pub GaveRecord : Option Event → Giving → (before after : State) → Type 0
GaveRecord read (Emitted answer) before after = (event : Event) × (read ≡ Some event) × TakesEvent before event answer after
GaveRecord read Unreadable before after = (read ≡ None) × (after ≡ before)
GaveRecord read NoMemory before after = (after ≡ before) × MayCopy read before
