-- Scalars with the words that write them: a float's characters are those of the float that `toml` reads.
use Rattle.toml_ordered.proofs.Common.{◌≡◌, ℕ, Bool, true, false, cond, ◌||◌, ◌==◌, List, [], ◌∷◌, take, drop, codes, Option, Some, None, option_map, refl, sym}
use Rattle.toml_ordered.proofs.Common.{ap, subst, ◌∙◌, bytes_eq, first, word_len, read_map, infinity, not_a_number, decimal, scalar_node, sorted_value}
use Rattle.toml_ordered.proofs.Common.{false≢true, eqb-true, bytes_eq-Decides}
use Rattle.std.{proofs.Common.Float as FloatValue, specs.Char.is_digit, specs.Float.Ieee.inf, specs.Float.Ieee.nan}
use Rattle.toml_parser.specs.Numbers.{unquoted, word_value, number, plain_number, decimal_number, looks_like_datetime, underscores_fit, underscore_radix}
use Rattle.toml_parser.specs.declared.scalar.Scalar.{Scalar}
use Rattle.toml_ordered.specs.{Grammar.plain_word, Grammar.without_sign, Grammar.float_node, Sorted.float_in}
use Rattle.toml_datetime.specs.{Parse.parse_datetime, declared.datetime.Datetime.Datetime}
use Rattle.toml_parser.specs.declared.scalar.Scalar.TheVariants as scalar
use Rattle.toml.specs.Data as plain
use Rattle.toml.specs.Parse as p

past_is : (c : ℕ) (rest : List ℕ) (name : List ℕ) (Q : List ℕ → Type 0) → Q (43 ∷ name) → Q (45 ∷ name) → Q name → without_sign (c ∷ rest) ≡ name → Q (c ∷ rest)
past_is c rest name Q plus minus bare = by (c == 43) refl (c == 45) refl
  where
    by : (a : Bool) → (c == 43) ≡ a → (b : Bool) → (c == 45) ≡ b → cond (a || b) rest (c ∷ rest) ≡ name → Q (c ∷ rest)
    by true a b is e = subst (λ (d : ℕ). Q (d ∷ rest)) (sym (eqb-true c 43 a)) (subst (λ (ds : List ℕ). Q (43 ∷ ds)) (sym e) plus)
    by false a true is e = subst (λ (d : ℕ). Q (d ∷ rest)) (sym (eqb-true c 45 is)) (subst (λ (ds : List ℕ). Q (45 ∷ ds)) (sym e) minus)
    by false a false is e = subst Q (sym e) bare

inf_number : (word : List ℕ) → without_sign word ≡ codes "inf" → plain_number word ≡ Some (scalar.Float (inf (first word == 45)))
unfolding plain_number decimal_number
inf_number [] e = absurd (cc)
inf_number (c ∷ rest) e = past_is c rest (codes "inf") (λ (word : List ℕ). plain_number word ≡ Some (scalar.Float (inf (first word == 45)))) refl refl refl e

nan_number : (word : List ℕ) → without_sign word ≡ codes "nan" → plain_number word ≡ Some (scalar.Float nan)
unfolding plain_number decimal_number
nan_number [] e = absurd (cc)
nan_number (c ∷ rest) e = past_is c rest (codes "nan") (λ (word : List ℕ). plain_number word ≡ Some (scalar.Float nan)) refl refl refl e

same_float : (word : List ℕ) (x : FloatValue) → plain_number word ≡ Some (scalar.Float x) → sorted_value (float_node word) ≡ plain.float x
same_float word x reads = by (bytes_eq (without_sign word) (codes "inf")) refl (bytes_eq (without_sign word) (codes "nan")) refl
  where
    by : (a : Bool) → bytes_eq (without_sign word) (codes "inf") ≡ a → (b : Bool) → bytes_eq (without_sign word) (codes "nan") ≡ b
        → sorted_value (cond a (infinity (first word == 45)) (cond b not_a_number (decimal word))) ≡ plain.float x
    by true a b is = ap (λ o. plain.float (float_in o)) (sym (inf_number word ((bytes_eq-Decides (without_sign word) (codes "inf")).0 a)) ∙ reads)
    by false a true is = ap (λ o. plain.float (float_in o)) (sym (nan_number word ((bytes_eq-Decides (without_sign word) (codes "nan")).0 is)) ∙ reads)
    by false a false is = ap (λ o. plain.float (float_in o)) reads

abbrev is_float : Option Scalar → Bool
is_float (Some (scalar.Float x)) = true
is_float _ = false

-- a word that reads as a float is a number
number_of_float : (word : List ℕ) (x : FloatValue) → word_value word ≡ Some (scalar.Float x) → number word ≡ Some (scalar.Float x)
unfolding word_value
number_of_float word x = by (bytes_eq word (codes "true")) (bytes_eq word (codes "false")) (looks_like_datetime word)
  where
    dated : (o : Option Datetime) → option_map scalar.Datetime o ≡ Some (scalar.Float x) → number word ≡ Some (scalar.Float x)
    dated None e = absurd (false≢true (ap is_float e))
    dated (Some d) e = absurd (false≢true (ap is_float e))

    by : (a b c : Bool) → cond a (Some (scalar.Boolean true)) (cond b (Some (scalar.Boolean false))
        (cond c (option_map scalar.Datetime (parse_datetime word)) (number word))) ≡ Some (scalar.Float x) → number word ≡ Some (scalar.Float x)
    by false false true e = dated (parse_datetime word) e
    by false false false e = e
    by _ _ c e = absurd (false≢true (ap is_float e))

plain_of_number : (word : List ℕ) (x : FloatValue) → number word ≡ Some (scalar.Float x) → plain_number (plain_word word) ≡ Some (scalar.Float x)
unfolding number
plain_of_number word x = by (underscores_fit (λ c. is_digit c (underscore_radix word)) 0 word)
  where
    by : (b : Bool) → cond b (plain_number (plain_word word)) None ≡ Some (scalar.Float x) → plain_number (plain_word word) ≡ Some (scalar.Float x)
    by true e = e
    by false e = absurd (false≢true (ap is_float e))

same_word : (word : List ℕ) (s : Scalar) → word_value word ≡ Some s → sorted_value (scalar_node word s) ≡ p.scalar_data s
same_word word (scalar.Float x) e = same_float (plain_word word) x (plain_of_number word x (number_of_float word x e))
same_word word _ e = refl

pub same_scalar : (text : List ℕ)
    → option_map (λ r. (sorted_value r.0, r.1)) (read_map (scalar_node (take (word_len text) text)) (unquoted text)) ≡ read_map p.scalar_data (unquoted text)
unfolding unquoted
same_scalar text = by (word_len text == 0) (word_value word) refl
  where
    word : List ℕ
    word = take (word_len text) text

    rest : List ℕ
    rest = drop (word_len text) text

    by : (b : Bool) (o : Option Scalar) → word_value word ≡ o
        → option_map (λ r. (sorted_value r.0, r.1)) (read_map (scalar_node word) (cond b None (option_map (λ d. (d, rest)) o)))
        ≡ read_map p.scalar_data (cond b None (option_map (λ d. (d, rest)) o))
    by false (Some s) e = ap (λ d. Some (d, rest)) (same_word word s e)
    by _ _ e = refl
