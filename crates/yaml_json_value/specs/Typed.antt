-- Values of JSON as typed values.
use Rattle.std.specs.Prelude.{ℕ, ℤ, Bool, true, false, pos, neg_ℤ, ◌≡◌, ◌==◌, ◌^◌, ◌<◌, List, [], ◌∷◌, ◌++◌, Some, if◌then◌else◌}
use Rattle.std.specs.List.{All}
use Rattle.std.specs.Fmt.{signed_decimal}
use Rattle.std.specs.Int.Signed.{mag}
use Rattle.std.specs.Str.{chars}
use Rattle.std.specs.Str.Parse.{digits_value}
use Rattle.json.specs.Json.{Json, null, boolean, number, string, array, object, Items, no_items, item, Members, no_members, member, value}
use Rattle.json.specs.Lex.{tokens}
use Rattle.json.specs.Strict.{HasUniqueKeys}
use Rattle.json.specs.Token.{Token}
use Rattle.yaml_base.specs.values.TypedValues.{TypedValue, null_value, bool_value, int_value, text_value, list_value, map_value, TypedValues, no_values}
use Rattle.yaml_base.specs.values.TypedValues.{values_and, TypedPairs, no_value_pairs, value_pairs_and, WritesValue, most_nested}
use Rattle.yaml_base.specs.Positions.{IsPositionOf}
use Rattle.yaml_base.specs.declared.places.Position.{Position}
use Rattle.yaml_json.specs.Reached.{AreFrom}
use Rattle.yaml_json.specs.WritingCalls.{HasNoYaml}
use Rattle.yaml_json.specs.declared.error.JsonError.{JsonError}
use Rattle.yaml_writer.specs.Given.{given_for_values}
use Rattle.yaml_value.specs.declared.keys.Keys.{Keys}
use Rattle.yaml_value.specs.declared.keys.Keys.TheVariants as keys
use Rattle.yaml_json_value.specs.declared.error.ValueError.{ValueError}
use Rattle.yaml_json_value.specs.declared.error.ValueError.TheVariants as errors

-- the integer of digits, which `-` may precede
abbrev pub integer_of : List ℕ → ℤ
integer_of [] = pos 0
integer_of (c ∷ digits) = if c == 0x2D then neg_ℤ (pos (digits_value 10 digits)) else pos (digits_value 10 (c ∷ digits))

-- a number's text is the decimal digits of an integer of 64 bits
pub record IsIntegerText (text : List ℕ) : Type 0 where
  pub digits : text ≡ signed_decimal (integer_of text)
  pub bits : mag (integer_of text) < 2 ^ 63

-- a value of JSON as a typed value: a number is the integer of its digits, a name is a text, and all keeps its order
abbrev mutual
  pub typed_value : Json → TypedValue
  typed_value null = null_value
  typed_value (boolean flag) = bool_value flag
  typed_value (number text) = int_value (integer_of text)
  typed_value (string text) = text_value (chars text)
  typed_value (array items) = list_value (typed_items items no_values)
  typed_value (object members) = map_value (typed_members members no_value_pairs)
      -- after the items before

  pub typed_items : Items → TypedValues → TypedValues
  typed_items no_items before = before
  typed_items (item json items) before = typed_items items (values_and before (typed_value json))
      -- after the members before

  pub typed_members : Members → TypedPairs → TypedPairs
  typed_members no_members before = before
  typed_members (member name json members) before = typed_members members (value_pairs_and before (text_value (chars name)) (typed_value json))

-- the token is an integer of 64 bits, if it is a number
abbrev pub IsIntegerToken : Token → Type 0
IsIntegerToken (Token.number text) = IsIntegerText text
IsIntegerToken _ = Unit {0}

-- each number is an integer of 64 bits
abbrev pub AreIntegers : List Token → Type 0
AreIntegers tokens = All IsIntegerToken tokens

-- the names of an object must differ, as the keys of a map
abbrev pub names_differ : Keys → Bool
names_differ keys.Unique = true
names_differ keys.MayRepeat = false

-- True of each value of JSON if keys may repeat, else if each of its objects has each name once.
abbrev pub NamesAllow : Keys → Json → Type 0
NamesAllow keys.Unique json = HasUniqueKeys json
NamesAllow keys.MayRepeat json = Unit {0}

-- the text is JSON that nests at most 1,000 deep, whose objects have each name once, unless keys may repeat, and whose numbers are
-- integers of 64 bits; this is its value
pub record IsValueOf (mode : Keys) (text : List ℕ) (found : TypedValue) : Type 0 where
  pub json : Json
  pub read : value most_nested (tokens text) ≡ Some (json, [])
  pub names : NamesAllow mode json
  pub integers : AreIntegers (tokens text)
  pub is : found ≡ typed_value json

-- the bytes are the canonical bytes of its value
pub record IsCanonicalOf (mode : Keys) (text bytes : List ℕ) : Type 0 where
  pub value : TypedValue
  pub of_text : IsValueOf mode text value
  pub written : WritesValue value bytes

-- the text is JSON that nests at most 1,000 deep, whose objects have each name once, unless keys may repeat
abbrev pub IsJson : Keys → (text : List ℕ) → Type 0
IsJson mode text = (json : Json) × (value most_nested (tokens text) ≡ Some (json, [])) × NamesAllow mode json

-- the promise of `yaml_from_json` for an error, under the settings for values, in flow; a name that comes twice is one if keys must differ
abbrev pub IsJsonErrorOf : Keys → (text : List ℕ) → JsonError → Type 0
IsJsonErrorOf mode text error = HasNoYaml given_for_values true most_nested (names_differ mode) text error

-- the tokens from the first number on that isn't an integer of 64 bits
pub record IsFromOtherNumber (tokens from : List Token) : Type 0 where
  pub before : List Token
  pub parts : before ++ from ≡ tokens
  pub integers : AreIntegers before
  pub digits : List ℕ
  pub after : List Token
  pub first : from ≡ Token.number digits ∷ after
  pub none : IsIntegerText digits → ⊥

-- the text is JSON, and the first number in it that isn't an integer of 64 bits begins at this position
pub record HasOtherNumber (mode : Keys) (text : List ℕ) (position : Position) : Type 0 where
  pub json : IsJson mode text
  pub from : List Token
  pub number : IsFromOtherNumber (tokens text) from
  pub at : ℕ
  pub begins : AreFrom text from at
  pub place : IsPositionOf text at position

-- the fact about the text that an error tells
abbrev pub ExplainsValueError : Keys → (text : List ℕ) → ValueError → Type 0
ExplainsValueError mode text (errors.Json error) = IsJsonErrorOf mode text error
ExplainsValueError mode text (errors.NotInteger position) = HasOtherNumber mode text position
