-- The texts that a walk over a value writes: the beginning of a value, what precedes an entry, and the end of a list or a map.
use Rattle.std.specs.Prelude.{◌≡◌, ℕ, ◌<◌, ◌-◌, ◌^◌, Bool, true, false, Option, None, Some, List, [], ◌∷◌, ◌++◌, codes, length, take}
use Rattle.std.specs.Fmt.{signed_decimal}
use Rattle.std.specs.Int.Signed.{mag}
use Rattle.std.specs.Str.{all_scalars}
use Rattle.yaml_base.specs.Characters.{Text, space}
use Rattle.yaml_base.specs.Encoding.{encode}
use Rattle.yaml_base.specs.Settings.{utf8}
use Rattle.yaml_base.specs.values.TypedValues.{TypedValue, null_value, bool_value, int_value, text_value, list_value, map_value, bool_text}
use Rattle.yaml_base.specs.values.TypedValues.{TypedValues, no_values, values_and, TypedPairs, no_value_pairs, value_pairs_and}
use Rattle.yaml_base.specs.graphs.DumpedText.{in_quotes}
use Rattle.yaml_value.specs.Walk.{Next, item_next, key_next, value_next}

-- the beginning of a value: all of a scalar, the tag and the bracket of a list or a map
abbrev pub opening_text : TypedValue → Text
opening_text null_value = codes "!!null " ++ in_quotes (codes "null")
opening_text (bool_value b) = codes "!!bool " ++ in_quotes (bool_text b)
opening_text (int_value n) = codes "!!int " ++ in_quotes (signed_decimal n)
opening_text (text_value text) = codes "!!str " ++ in_quotes text
opening_text (list_value items) = codes "!!seq ["
opening_text (map_value pairs) = codes "!!map {"

-- true of a list and of a map, whose bracket it leaves open
abbrev pub opens : TypedValue → Bool
opens (list_value items) = true
opens (map_value pairs) = true
opens _ = false

-- the comma after an entry; none after a key, nor if the bracket was just opened
abbrev pub comma_text : Next → (opened : Bool) → Text
comma_text item_next true = []
comma_text item_next false = codes ","
comma_text key_next true = []
comma_text key_next false = codes ","
comma_text value_next opened = []

-- the mark of a key and of its value
abbrev pub entry_mark : Next → Text
entry_mark item_next = []
entry_mark key_next = codes "? "
entry_mark value_next = codes ": "

-- the text before a value that is in a bracket, whose line begins so
abbrev pub lead_text : (line : Text) → Next → (opened : Bool) → Text
lead_text line next opened = comma_text next opened ++ (line ++ entry_mark next)

-- the closing bracket
abbrev pub closing_text : Next → Text
closing_text item_next = codes "]"
closing_text key_next = codes "}"
closing_text value_next = codes "}"

-- the end of a list or a map: the bracket in a line of its own, unless nothing is in it
abbrev pub end_text : (line : Text) → Next → (opened : Bool) → Text
end_text line next true = closing_text next
end_text line next false = codes "," ++ (line ++ closing_text next)

-- the line of an entry one level further in, and one level further out
abbrev pub indented : Text → Text
indented line = line ++ (space ∷ space ∷ [])

abbrev pub outdented : Text → Text
outdented line = take (length line - 2) line

-- the bytes of a step: what precedes a value and its beginning, or the end of a list or a map
abbrev pub step_bytes : (line : Text) → Next → (opened : Bool) → Option TypedValue → List ℕ
step_bytes line next opened None = end_text (outdented line) next opened
step_bytes line next opened (Some value) = lead_text line next opened ++ encode (Some utf8) (opening_text value)

-- the line of an entry after a value that began
abbrev pub line_if : Bool → Text → Text
line_if true line = indented line
line_if false line = line

-- and after a step
abbrev pub line_after : Text → Option TypedValue → Text
line_after line None = outdented line
line_after line (Some value) = line_if (opens value) line

-- true if a step opened a bracket
abbrev pub step_opens : Option TypedValue → Bool
step_opens None = false
step_opens (Some value) = opens value

-- a scalar of a program: an integer has 64 bits, and a text consists of Unicode scalar values
abbrev pub IsOfProgram : TypedValue → Type 0
IsOfProgram (int_value n) = mag n < 2 ^ 63
IsOfProgram (text_value text) = all_scalars text ≡ true
IsOfProgram _ = Unit {0}

-- so is the value that a step enters
abbrev pub StepIsOfProgram : Option TypedValue → Type 0
StepIsOfProgram None = Unit {0}
StepIsOfProgram (Some value) = IsOfProgram value

-- so is each scalar in a value
abbrev mutual
  pub HoldsOfProgram : TypedValue → Type 0
  HoldsOfProgram (int_value n) = mag n < 2 ^ 63
  HoldsOfProgram (text_value text) = all_scalars text ≡ true
  HoldsOfProgram (list_value items) = HoldOfProgram items
  HoldsOfProgram (map_value pairs) = PairsHoldOfProgram pairs
  HoldsOfProgram _ = Unit {0}

  pub HoldOfProgram : TypedValues → Type 0
  HoldOfProgram no_values = Unit {0}
  HoldOfProgram (values_and items item) = HoldOfProgram items × HoldsOfProgram item

  pub PairsHoldOfProgram : TypedPairs → Type 0
  PairsHoldOfProgram no_value_pairs = Unit {0}
  PairsHoldOfProgram (value_pairs_and pairs key value) = PairsHoldOfProgram pairs × (HoldsOfProgram key × HoldsOfProgram value)
