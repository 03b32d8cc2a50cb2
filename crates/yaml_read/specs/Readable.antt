-- Which values are read.
use Rattle.std.specs.Prelude.{ℕ, suc, ◌≡◌, ◌<◌, ◌≤◌, ◌^◌, true}
use Rattle.std.specs.Str.{all_scalars}
use Rattle.std.specs.Int.Signed.{mag}
use Rattle.yaml_base.specs.values.TypedValues.{TypedValue, int_value, text_value, list_value, map_value, TypedValues, no_values, values_and}
use Rattle.yaml_base.specs.values.TypedValues.{TypedPairs, no_value_pairs, value_pairs_and, Has64Bits, nesting, most_nested}

-- each character of a value's texts is a Unicode scalar value, as in every text of a running program
abbrev mutual
  pub HasScalarTexts : TypedValue → Type 0
  HasScalarTexts (text_value text) = all_scalars text ≡ true
  HasScalarTexts (list_value items) = HaveScalarTexts items
  HasScalarTexts (map_value pairs) = PairsHaveScalarTexts pairs
  HasScalarTexts _ = Unit {0}

  pub HaveScalarTexts : TypedValues → Type 0
  HaveScalarTexts no_values = Unit {0}
  HaveScalarTexts (values_and items item) = HaveScalarTexts items × HasScalarTexts item

  pub PairsHaveScalarTexts : TypedPairs → Type 0
  PairsHaveScalarTexts no_value_pairs = Unit {0}
  PairsHaveScalarTexts (value_pairs_and pairs key value) = PairsHaveScalarTexts pairs × (HasScalarTexts key × HasScalarTexts value)

-- a value of a running program that nests no deeper than may be written
pub record CanBeRead (value : TypedValue) : Type 0 where
  pub bits : Has64Bits value
  pub texts : HasScalarTexts value
  pub nested : nesting value ≤ most_nested

-- the same, of a value in so many lists and maps
abbrev mutual
  pub CanBeReadAt : ℕ → TypedValue → Type 0
  CanBeReadAt depth (int_value n) = mag n < 2 ^ 63
  CanBeReadAt depth (text_value text) = all_scalars text ≡ true
  CanBeReadAt depth (list_value items) = (depth < most_nested) × AllCanBeReadAt (suc depth) items
  CanBeReadAt depth (map_value pairs) = (depth < most_nested) × PairsCanBeReadAt (suc depth) pairs
  CanBeReadAt depth _ = Unit {0}

  pub AllCanBeReadAt : ℕ → TypedValues → Type 0
  AllCanBeReadAt depth no_values = Unit {0}
  AllCanBeReadAt depth (values_and items item) = AllCanBeReadAt depth items × CanBeReadAt depth item

  pub PairsCanBeReadAt : ℕ → TypedPairs → Type 0
  PairsCanBeReadAt depth no_value_pairs = Unit {0}
  PairsCanBeReadAt depth (value_pairs_and pairs key value) =
      PairsCanBeReadAt depth pairs × (CanBeReadAt depth key × CanBeReadAt depth value)
