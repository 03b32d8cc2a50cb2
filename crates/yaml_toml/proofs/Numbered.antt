-- Each decimal that a word of TOML writes is a number of JSON, and each integer has few digits.
use Rattle.yaml_toml.proofs.Common.{◌≡◌, ℕ, ℤ, zero, ◌^◌, ◌≤◌, Bool, true, false, cond, not, ◌&&◌, ◌||◌, ◌==◌, List, length, codes, Option, None, Some, pos}
use Rattle.yaml_toml.proofs.Common.{refl, subst, arith, inl, inr, HasNumbers, IfSome, nat_lt, digits_value, list_all, and_parts}
use Rattle.std.proofs.{lemmas.Bool.eqb-true, lemmas.Bool.ltb-true, lemmas.Bool.or_cases, lemmas.Option.IfSome_then}
use Rattle.std.proofs.Common.{drop, option_map, Float, neg_ℤ, bytes_eq}
use Rattle.std.specs.{Char.is_digit, Float.float_is_finite, Float.binary64, Float.Ieee.inf, Float.Ieee.nan}
use Rattle.std.specs.Float.Numeral.{nearest_float as nearest, numeral_digits as digits_of, scan_numeral as scan}
use Rattle.toml_datetime.specs.Parse.{parse_datetime}
use Rattle.toml_ordered.specs.Data.{decimal, infinity, not_a_number}
use Rattle.toml_ordered.specs.Grammar.{float_node, without_sign, plain_word, scalar_node}
use Rattle.yaml_toml.{specs.Walk.FewDigits, specs.Walk.ScalarsHaveNumbers, proofs.FloatWords.float_word}
use Rattle.toml_parser.specs.{Lexical.first, declared.scalar.Scalar.Scalar}
use Rattle.toml_parser.specs.Numbers.{decimal_number, float_of, integer_of, is_decimal, looks_like_datetime, number, plain_number, prefixed_integer, radix_of}
use Rattle.toml_parser.specs.Numbers.{underscore_radix, underscores_fit, word_value}
use Rattle.toml_parser.specs.declared.scalar.Scalar.TheVariants as scalar

-- ---- facts of a value that there may be

map_some : {A B : Type 0} (f : A → B) (P : B → Type 0) (o : Option A) → IfSome o (λ a. P (f a)) → IfSome (option_map f o) P
map_some f P None h = tt
map_some f P (Some a) h = h

all_some : {A : Type 0} (P : A → Type 0) (o : Option A) → ((a : A) → P a) → IfSome o P
all_some P None each = tt
all_some P (Some a) each = each a

cond_some : {A : Type 0} (P : A → Type 0) (b : Bool) (x y : Option A) → IfSome x P → IfSome y P → IfSome (cond b x y) P
cond_some P true x y one other = one
cond_some P false x y one other = other

-- ---- scalars

-- an integer has few digits
abbrev IsSmall : Scalar → Type 0
IsSmall (scalar.Integer z) = FewDigits z
IsSmall _ = Unit {0}

small_prefixed : (radix : ℕ) (digits : List ℕ) → IfSome (prefixed_integer radix digits) IsSmall
unfolding prefixed_integer
small_prefixed radix digits = by ((nat_lt 0 (length digits) && list_all (λ c. is_digit c radix) digits) && nat_lt (digits_value radix digits) (2 ^ 63)) refl
  where
    by : (b : Bool) → ((nat_lt 0 (length digits) && list_all (λ c. is_digit c radix) digits) && nat_lt (digits_value radix digits) (2 ^ 63)) ≡ b
        → IfSome (cond b (Some (scalar.Integer (pos (digits_value radix digits)))) None) IsSmall
    by true e =
        let few = ltb-true (digits_value radix digits) (2 ^ 63)
        (and_parts (nat_lt 0 (length digits) && list_all (λ c. is_digit c radix) digits) (nat_lt (digits_value radix digits) (2 ^ 63)) e).1 in
        omega (arith, few)
    by false e = tt

abbrev with_sign : Bool → ℕ → ℤ
with_sign negative n = cond negative (neg_ℤ (pos n)) (pos n)

small_signed : (negative : Bool) (n : ℕ) → n ≤ 2 ^ 63 → FewDigits (with_sign negative n)
small_signed true zero few = omega arith
small_signed _ _ few = omega (arith, few)

small_integer : (negative : Bool) (n : ℕ) → IfSome (integer_of negative n) IsSmall
small_integer negative n = by (nat_lt n (2 ^ 63) || (negative && n == 2 ^ 63)) refl
  where
    by : (b : Bool) → (nat_lt n (2 ^ 63) || (negative && n == 2 ^ 63)) ≡ b → IfSome (cond b (Some (scalar.Integer (with_sign negative n))) None) IsSmall
    by true e = elim (or_cases (nat_lt n (2 ^ 63)) (negative && n == 2 ^ 63) e) [
      | inl less ↦ let few = ltb-true n (2 ^ 63) less in small_signed negative n (omega (arith, few))
      | inr same ↦ let is = eqb-true n (2 ^ 63) (and_parts negative (n == 2 ^ 63) same).1 in small_signed negative n (omega (arith, is))
    ]
    by false e = tt

small_decimal : (negative : Bool) (word : List ℕ) → IfSome (decimal_number negative word) IsSmall
unfolding decimal_number
small_decimal negative word =
    let p = scan word in
    cond_some IsSmall (bytes_eq word (codes "inf")) (Some (scalar.Float (inf negative))) _ tt (cond_some IsSmall (bytes_eq word (codes "nan"))
    (Some (scalar.Float nan)) _ tt (cond_some IsSmall (not (p.len == length word && is_decimal p)) None _ tt (cond_some IsSmall
    (p.point || nat_lt 0 (length p.exponent)) (float_of negative p) (integer_of negative (digits_of p)) (cond_some IsSmall
    (float_is_finite (nearest binary64 negative p)) (Some (scalar.Float (nearest binary64 negative p))) None tt tt) (small_integer negative (digits_of p)))))

small_plain : (word : List ℕ) → IfSome (plain_number word) IsSmall
unfolding plain_number
small_plain word =
    cond_some IsSmall (not (radix_of word == 10)) (prefixed_integer (radix_of word) (drop 2 word)) _ (small_prefixed (radix_of word) (drop 2 word)) (cond_some
    IsSmall (first word == 45) (decimal_number true (drop 1 word)) _ (small_decimal true (drop 1 word)) (cond_some IsSmall (first word == 43)
    (decimal_number false (drop 1 word)) (decimal_number false word) (small_decimal false (drop 1 word)) (small_decimal false word)))

-- a float that is read, by its word without underscores
float_numbers : (word : List ℕ) (x : Float) → plain_number word ≡ Some (scalar.Float x) → HasNumbers (float_node word)
float_numbers word x read = by (bytes_eq (without_sign word) (codes "inf")) refl (bytes_eq (without_sign word) (codes "nan")) refl
  where
    by : (a : Bool) → bytes_eq (without_sign word) (codes "inf") ≡ a → (b : Bool) → bytes_eq (without_sign word) (codes "nan") ≡ b
        → HasNumbers (cond a (infinity (first word == 45)) (cond b not_a_number (decimal word)))
    by false a false is = float_word word x read a is
    by _ a _ is = tt

abbrev PlainHasNumbers : List ℕ → Scalar → Type 0
PlainHasNumbers word (scalar.Float x) = HasNumbers (float_node word)
PlainHasNumbers word s = IsSmall s

plain_numbers : (word : List ℕ) → IfSome (plain_number word) (PlainHasNumbers word)
plain_numbers word = by (plain_number word) refl (small_plain word)
  where
    by : (o : Option Scalar) → plain_number word ≡ o → IfSome o IsSmall → IfSome o (PlainHasNumbers word)
    by (Some (scalar.Integer z)) e small = small
    by (Some (scalar.Float x)) e small = float_numbers word x e
    by _ e small = tt

abbrev WordHasNumbers : List ℕ → Scalar → Type 0
WordHasNumbers word s = HasNumbers (scalar_node word s)

word_from_plain : (word : List ℕ) (s : Scalar) → PlainHasNumbers (plain_word word) s → WordHasNumbers word s
word_from_plain word (scalar.Integer z) h = h
word_from_plain word (scalar.Float x) h = h
word_from_plain word _ h = tt

number_numbers : (word : List ℕ) → IfSome (number word) (WordHasNumbers word)
unfolding number
number_numbers word =
    cond_some (WordHasNumbers word) (underscores_fit (λ c. is_digit c (underscore_radix word)) 0 word) (plain_number (plain_word word)) None
    (IfSome_then (plain_number (plain_word word)) (plain_numbers (plain_word word)) (word_from_plain word)) tt

word_numbers : (word : List ℕ) → IfSome (word_value word) (WordHasNumbers word)
unfolding word_value
word_numbers word =
    cond_some (WordHasNumbers word) (bytes_eq word (codes "true")) (Some (scalar.Boolean true)) _ tt (cond_some (WordHasNumbers word)
    (bytes_eq word (codes "false")) (Some (scalar.Boolean false)) _ tt (cond_some (WordHasNumbers word) (looks_like_datetime word)
    (option_map scalar.Datetime (parse_datetime word)) (number word) (map_some scalar.Datetime (WordHasNumbers word) (parse_datetime word)
    (all_some (λ d. WordHasNumbers word (scalar.Datetime d)) (parse_datetime word) (λ d. tt))) (number_numbers word)))

pub scalars_numbers : ScalarsHaveNumbers
scalars_numbers word s read = subst (λ (o : Option Scalar). IfSome o (WordHasNumbers word)) read (word_numbers word)
