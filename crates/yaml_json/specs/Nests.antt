-- The view of the open arrays and objects of a walk in contracts.
use Rattle.std.specs.Prelude.{ℕ, ◌≡◌, ◌≤◌, Bool, [], length}
use Rattle.std.specs.declared.alloc.Allocator.{Ghosts}
use Rattle.yaml_json.specs.HeldNames.{HoldsNames}
use Rattle.yaml_json.specs.Walk.{FitsNames}
use Rattle.yaml_json.specs.declared.texts.Room.{Room}
use Rattle.yaml_json.specs.declared.values.Nesting.{Nesting}

-- No more is open than is allowed; and if names must be unique, those of each open array and object are kept.
abbrev pub IsNesting : {A : Type 0} → (depth : ℕ) → (unique : Bool) → Nesting A → Type 0
IsNesting depth unique nest = (length nest.kinds.items ≤ depth) × FitsNames unique nest.kinds.items nest.names

-- Nothing is open; names are kept if they must be unique.
abbrev pub HasNoneOpen : {A : Type 0} → (unique : Bool) → Nesting A → Type 0
HasNoneOpen unique nest = (nest.kinds.items ≡ []) × (nest.names.are_kept ≡ unique) × HoldsNames [] nest.names

-- the memory is ready for the next text
abbrev pub AwaitsText : {A : Type 0} {bounds : Ghosts A} → (unique : Bool) → Room A bounds → Type 0
AwaitsText unique room = HasNoneOpen unique room.nest
