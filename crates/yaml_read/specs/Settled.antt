-- What is open after a node, by what was open before it.
use Rattle.std.specs.Prelude.{◌≡◌, List, [], ◌∷◌}
use Rattle.yaml_base.specs.values.TypedValues.{TypedValue, list_value, map_value, no_value_pairs, no_values}
use Rattle.yaml_base.specs.values.UniqueKeys.{HasUniqueKeys}
use Rattle.yaml_value.specs.OpenLevels.{OpenLevel, items_open, pairs_open, seen_level, value_due, with_value}
use Rattle.yaml_value.specs.SeenValues.{seen_value}
use Rattle.yaml_read.specs.declared.levels.Next.{Next}
use Rattle.yaml_read.specs.declared.levels.Next.TheVariants.{Done, Node}
use Rattle.yaml_read.specs.declared.levels.Turn.{Turn}
use Rattle.yaml_read.specs.declared.levels.Turn.TheVariants.{Continues, Ends}

-- a list or a map as a value; a key that awaits its value isn't in it
abbrev pub closed_value : OpenLevel → TypedValue
closed_value (items_open items) = list_value items
closed_value (pairs_open pairs) = map_value pairs
closed_value (value_due pairs key) = map_value pairs

-- A value was given to the innermost list or map, and each that it ended to the one around it: these are open still, and this value is
-- to be given to the innermost of them.
pub data Ended (before : List OpenLevel) (first : TypedValue) : (levels : List OpenLevel) → (value : TypedValue) → Type 0 where
  none_ended : Ended before first before first
  one_ended : (level : OpenLevel) (levels : List OpenLevel) (value last : TypedValue) → Ended before first (level ∷ levels) value
      → last ≡ closed_value (with_value level value) → Ended before first levels last

-- the innermost of those that are open still has taken the value, and no other has changed
pub record Took (before : List OpenLevel) (first : TypedValue) (after : List OpenLevel) : Type 0 where
  pub level : OpenLevel
  pub outer : List OpenLevel
  pub value : TypedValue
  pub ended : Ended before first (level ∷ outer) value
  pub taken : after ≡ with_value level value ∷ outer

-- a list or a map that has nothing yet
pub data BeginsLevel : OpenLevel → Type 0 where
  begins_list : BeginsLevel (items_open no_values)
  begins_map : BeginsLevel (pairs_open no_value_pairs)

-- after a node: a list or a map is open more, or a value without maps that repeat a key was given
pub data Moved (before after : List OpenLevel) : Type 0 where
  level_opened : (level : OpenLevel) → BeginsLevel level → after ≡ level ∷ before → Moved before after
  value_given : (value : TypedValue) → HasUniqueKeys value → Took before value after → Moved before after

-- ---- the code's answers

-- after a value in a list or a map
abbrev pub TurnTook : {A : Type 0} → OpenLevel → TypedValue → Turn A → Type 0
TurnTook level value (Continues more rest) = seen_level more ≡ with_value level value
TurnTook level value (Ends whole rest) = seen_value whole ≡ closed_value (with_value level value)

-- after a value
abbrev pub NextTook : {A : Type 0} → (before : List OpenLevel) → (first : TypedValue) → (after : List OpenLevel) → Next A → Type 0
NextTook before first after (Done value) = Ended before first [] (seen_value value)
NextTook before first after (Node rest) = Took before first after

-- after a node
abbrev pub NextMoved : {A : Type 0} → (before after : List OpenLevel) → Next A → Type 0
NextMoved before after (Done value) = (first : TypedValue) × HasUniqueKeys first × Ended before first [] (seen_value value)
NextMoved before after (Node rest) = Moved before after
