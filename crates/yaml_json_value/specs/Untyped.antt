-- Typed values as values of JSON, and what a walk over a value has left to write.
use Rattle.std.specs.Prelude.{◌≡◌, ℕ, suc, ◌+◌, ◌<◌, ◌≤◌, max, List, [], ◌∷◌, ◌++◌, length, map, Result, Ok, Err}
use Rattle.std.specs.Fmt.{signed_decimal}
use Rattle.std.specs.Str.{chars, encode_utf8_all}
use Rattle.json.specs.Json.{Json, null, boolean, number, string, array, object, Items, no_items, item, Members, no_members, member}
use Rattle.json.specs.Token.{Token}
use Rattle.json.specs.Written.{Written}
use Rattle.json.specs.Tree.{json_tokens, items_tokens, members_tokens, depth, items_depth, members_depth}
use Rattle.yaml_base.specs.values.TypedValues.{TypedValue, null_value, bool_value, int_value, text_value, list_value, map_value, TypedValues, no_values}
use Rattle.yaml_base.specs.values.TypedValues.{values_and, TypedPairs, no_value_pairs, value_pairs_and, most_nested}
use Rattle.yaml_json_value.specs.TextNames.{ExplainsWriteError, HasTextNames, IsTextValue}
use Rattle.yaml_json_value.specs.Typed.{AreIntegers, typed_value}
use Rattle.yaml_json_value.specs.declared.error.WriteError.{WriteError}
use Rattle.yaml_json_value.specs.declared.error.WriteError.TheVariants as errors

-- the name of a member; a key that isn't a text has none
abbrev pub name_of : TypedValue → List ℕ
name_of (text_value text) = encode_utf8_all text
name_of _ = []

-- a value as a value of JSON
abbrev mutual
  pub json_of : TypedValue → Json
  json_of null_value = null
  json_of (bool_value flag) = boolean flag
  json_of (int_value n) = number (signed_decimal n)
  json_of (text_value text) = string (encode_utf8_all text)
  json_of (list_value items) = array (json_items items no_items)
  json_of (map_value pairs) = object (json_members pairs no_members)
      -- before the items after

  pub json_items : TypedValues → Items → Items
  json_items no_values after = after
  json_items (values_and items value) after = json_items items (item (json_of value) after)
      -- before the members after

  pub json_members : TypedPairs → Members → Members
  json_members no_value_pairs after = after
  json_members (value_pairs_and pairs key value) after = json_members pairs (member (name_of key) (json_of value) after)

-- the members of a map, in order
abbrev pub members_in : TypedPairs → List (TypedValue × TypedValue)
members_in no_value_pairs = []
members_in (value_pairs_and pairs key value) = members_in pairs ++ (key, value) ∷ []

-- What is left to write: a value; the last items of a list that is open, and its end; the last members of a map, and its end.
pub data Left : Type 0 where
  value_left : TypedValue → Left
  items_left : List TypedValue → Left
  members_left : List (TypedValue × TypedValue) → Left

abbrev pub items_of : List TypedValue → Items
items_of [] = no_items
items_of (value ∷ values) = item (json_of value) (items_of values)

abbrev pub members_of : List (TypedValue × TypedValue) → Members
members_of [] = no_members
members_of (pair ∷ pairs) = member (name_of pair.0) (json_of pair.1) (members_of pairs)

-- its tokens
abbrev pub tokens_in : Left → List Token
tokens_in (value_left value) = json_tokens (json_of value)
tokens_in (items_left values) = items_tokens (items_of values)
tokens_in (members_left pairs) = members_tokens (members_of pairs)

-- those of all that is left, the innermost first
abbrev pub left_tokens : List Left → List Token
left_tokens [] = []
left_tokens (left ∷ outer) = tokens_in left ++ left_tokens outer

-- how many lists and maps are open
abbrev pub count_open : List Left → ℕ
count_open [] = 0
count_open (value_left value ∷ outer) = count_open outer
count_open (items_left values ∷ outer) = suc (count_open outer)
count_open (members_left pairs ∷ outer) = suc (count_open outer)

-- how deep one nests
abbrev pub depth_in : Left → ℕ
depth_in (value_left value) = depth (json_of value)
depth_in (items_left values) = suc (items_depth (items_of values))
depth_in (members_left pairs) = suc (members_depth (members_of pairs))

-- and all, within one another
abbrev pub deepest : List Left → ℕ
deepest [] = 0
deepest (left ∷ outer) = max (count_open outer + depth_in left) (deepest outer)

-- each value that is left has a property, and so has each name
abbrev pub EachValue : (TypedValue → Type 0) → List TypedValue → Type 0
EachValue P [] = Unit {0}
EachValue P (value ∷ values) = P value × EachValue P values

abbrev pub EachMember : (N P : TypedValue → Type 0) → List (TypedValue × TypedValue) → Type 0
EachMember N P [] = Unit {0}
EachMember N P (pair ∷ pairs) = (N pair.0 × P pair.1) × EachMember N P pairs

abbrev pub EachIn : (N P : TypedValue → Type 0) → Left → Type 0
EachIn N P (value_left value) = P value
EachIn N P (items_left values) = EachValue P values
EachIn N P (members_left pairs) = EachMember N P pairs

abbrev pub Each : (N P : TypedValue → Type 0) → List Left → Type 0
Each N P [] = Unit {0}
Each N P (left ∷ outer) = EachIn N P left × Each N P outer

-- the value of JSON is read as the value; and so is a name
abbrev pub IsBack : TypedValue → Type 0
IsBack value = typed_value (json_of value) ≡ value

abbrev pub NameIsBack : TypedValue → Type 0
NameIsBack key = text_value (chars (name_of key)) ≡ key

-- these tokens of a value are written, and this is left
pub record Walked (root : TypedValue) (written : List Token) (left : List Left) : Type 0 where
  pub tokens : written ++ left_tokens left ≡ json_tokens (json_of root)
  pub integers : AreIntegers written
  pub back : Each NameIsBack IsBack left → IsBack root
  pub names : HasTextNames root → Each IsTextValue HasTextNames left
  pub deep : deepest left ≤ depth (json_of root)
  pub shallow : depth (json_of root) ≤ max most_nested (deepest left)
  pub room : count_open left ≤ most_nested

-- the answer of a writer of tokens as one of the walk
abbrev pub told : {E : Type 0} → Result (Unit {0}) E → Result (Unit {0}) WriteError
told (Ok done) = Ok done
told (Err error) = Err errors.Memory

-- the answer of a step: some tokens more are written, or this is the reason why not
abbrev pub Goes : TypedValue → (before after : Written) → List Left → Result (Unit {0}) WriteError → Type 0
Goes root before after left (Ok done) = Walked root after.tokens left × (length before.tokens < length after.tokens) × (after.before ≡ before.before)
Goes root before after left (Err error) = ExplainsWriteError root error

-- a list or a map is opened, unless too many are
abbrev pub Opens : Left → (before after : List Left) → Result (Unit {0}) WriteError → Type 0
Opens left before after (Ok done) = (after ≡ left ∷ before) × (count_open before < most_nested)
Opens left before after (Err errors.NameNotText) = ⊥
Opens left before after (Err errors.TooDeep) = most_nested ≤ count_open before
Opens left before after (Err errors.Memory) = ⊥
