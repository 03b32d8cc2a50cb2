-- A text that reads is the one that is cut off: no proper prefix of a quoted text is one, and a longer text begins with it.
use Rattle.yaml_base.proofs.Common.{arith, nat_tests, ℕ, if◌then◌else◌, ◌==◌, option_map, Option, None, Some, Bool, false, true, [], map, ◌++◌, ◌∷◌, refl, ◌≡◌}
use Rattle.yaml_base.proofs.Common.{true≢false, ap, sym, ◌∙◌, Text, QuotePlace, between, Quoted, with_unit, after_step, quoted_from, quoted_reading}
use Rattle.yaml_base.proofs.Common.{value_before, value_alone, read_double, FoldUnit, unit_of, folding_read, unquoted, read_single, ScalarStyle, single_quoted}
use Rattle.yaml_base.proofs.Common.{double_quoted}
use Rattle.yaml_base.specs.reading.ReadDouble.{QuoteStep, quote_step, QuotedReading, double_quoted_prefix}

-- nothing is not something
pub none_not_some : {A : Type 0} {v : A} → ◌≡◌ {A = Option A} None (Some v) → ⊥
none_not_some {A} {v} e = grind (arith, nat_tests, true≢false)

-- Double quotes

-- a reading of a text is one of a longer text, with the rest after it
abbrev Extends : Text → Option Quoted → Option Quoted → Type 0
Extends r None longer = Unit {0}
Extends r (Some quoted) longer = longer ≡ Some (record { units = quoted.units; rest = quoted.rest ++ r })

unit_extends : (r : Text) (unit : FoldUnit) (a b : Option Quoted) → Extends r a b → Extends r (with_unit unit a) (with_unit unit b)
unit_extends r unit None b h = tt
unit_extends r unit (Some quoted) b h = ap (with_unit unit) h

step_extends : (r : Text) (step : QuoteStep) (a b : QuotePlace → Option Quoted) (t : Text)
    → ((place : QuotePlace) → Extends r (a place) (b place)) → Extends r (after_step step a t) (after_step step b (t ++ r))
step_extends r step a b t h = grind (arith, nat_tests, unit_extends)

from_extends : (breaks12 : Bool) (r t : Text) (place : QuotePlace) → Extends r (quoted_from breaks12 place t) (quoted_from breaks12 place (t ++ r))
from_extends breaks12 r [] place = tt
from_extends breaks12 r (c ∷ t) place =
    step_extends r (quote_step breaks12 place c) (λ p. quoted_from breaks12 p t) (λ p. quoted_from breaks12 p (t ++ r)) t
    (λ p. from_extends breaks12 r t p)

-- a text that goes on only adds to the rest after its quoted value
abbrev PrefixExtends : Text → Option QuotedReading → Option QuotedReading → Type 0
PrefixExtends r None longer = Unit {0}
PrefixExtends r (Some reading) longer = longer ≡ Some (record { value = reading.value; rest = reading.rest ++ r })

prefix_extends : (breaks12 : Bool) (t r : Text) → PrefixExtends r (double_quoted_prefix breaks12 t) (double_quoted_prefix breaks12 (t ++ r))
prefix_extends breaks12 [] r = tt
prefix_extends breaks12 (c ∷ t) r =
    by (c == 0x22) (quoted_from breaks12 between t) (quoted_from breaks12 between (t ++ r)) (from_extends breaks12 r t between)
  where
    by : (x : Bool) (a b : Option Quoted) → Extends r a b → PrefixExtends r (if x then quoted_reading a else None) (if x then quoted_reading b else None)
    by true None b h = tt
    by true (Some quoted) b h = ap quoted_reading h
    by false a b h = tt

-- no proper prefix of a double-quoted text is one
double_quoted_whole : (breaks12 : Bool) (t : Text) (c : ℕ) (rest v : Text) → read_double breaks12 (t ++ (c ∷ rest)) ≡ Some v → read_double breaks12 t ≡ None
double_quoted_whole breaks12 t c rest v read = by (double_quoted_prefix breaks12 t) (prefix_extends breaks12 t (c ∷ rest))
  where
    by : (a : Option QuotedReading) → PrefixExtends (c ∷ rest) a (double_quoted_prefix breaks12 (t ++ (c ∷ rest))) → value_alone a ≡ None
    by None h = refl
    by (Some reading) h = absurd (left reading.rest (sym (ap value_alone h) ∙ read))
      where
        left : (l : Text) → value_before (l ++ (c ∷ rest)) reading.value ≡ Some v → ⊥
        left [] e = none_not_some e
        left (d ∷ l) e = none_not_some e

-- Single quotes

-- no proper prefix of a text that a quote closes is such a text, if no quote follows it
pub unquoted_whole : (t : Text) (c : ℕ) (rest : Text) → (c == 39) ≡ false → (unquoted (t ++ (c ∷ rest)) ≡ None → ⊥) → unquoted t ≡ None
unquoted_whole [] c rest other h = refl
unquoted_whole (a ∷ []) c rest other h = grind (arith)
unquoted_whole (a ∷ b ∷ t) c rest other h = by (a == 39) (b == 39) (unquoted_whole t c rest other) (unquoted_whole (b ∷ t) c rest other) h
  where
    by : (x y : Bool) → ((unquoted (t ++ (c ∷ rest)) ≡ None → ⊥) → unquoted t ≡ None)
        → ((unquoted ((b ∷ t) ++ (c ∷ rest)) ≡ None → ⊥) → unquoted (b ∷ t) ≡ None)
        → ((if x then (if y then option_map (λ t. 39 ∷ t) (unquoted (t ++ (c ∷ rest))) else None) else
        option_map (λ t. a ∷ t) (unquoted ((b ∷ t) ++ (c ∷ rest)))) ≡ None → ⊥)
        → (if x then (if y then option_map (λ t. 39 ∷ t) (unquoted t) else None) else option_map (λ t. a ∷ t) (unquoted (b ∷ t))) ≡ None
    by true true one two h = ap (option_map (λ t. 39 ∷ t)) (one (λ e. h (ap (option_map (λ t. 39 ∷ t)) e)))
    by true false one two h = absurd (h refl)
    by false y one two h = ap (option_map (λ t. a ∷ t)) (two (λ e. h (ap (option_map (λ t. a ∷ t)) e)))

-- no proper prefix of a single-quoted text is one, if no quote follows it
single_quoted_whole : (breaks12 : Bool) (t : Text) (c : ℕ) (rest v : Text) → (c == 39) ≡ false → read_single breaks12 (t ++ (c ∷ rest)) ≡ Some v
    → read_single breaks12 t ≡ None
single_quoted_whole breaks12 [] c rest v other read = refl
single_quoted_whole breaks12 (q ∷ t) c rest v other read = by (q == 39) read
  where
    by : (x : Bool) → (if x then option_map (λ t. folding_read (map (unit_of breaks12) t)) (unquoted (t ++ (c ∷ rest))) else None) ≡ Some v
        → (if x then option_map (λ t. folding_read (map (unit_of breaks12) t)) (unquoted t) else None) ≡ None
    by true read =
        ap (option_map (λ t. folding_read (map (unit_of breaks12) t)))
        (unquoted_whole t c rest other (λ e. none_not_some (sym (ap (option_map (λ t. folding_read (map (unit_of breaks12) t))) e) ∙ read)))
    by false read = refl

-- Either quotes

-- the double quote or the single one
abbrev pub quote_of : (double : Bool) → ℕ
quote_of true = 0x22
quote_of false = 0x27

-- the style that it begins
abbrev pub quoted_in : (double : Bool) → ScalarStyle
quoted_in true = double_quoted
quoted_in false = single_quoted

-- the reading of a text in such quotes
abbrev pub read_quoted : (double : Bool) → (breaks12 : Bool) → Text → Option Text
read_quoted true breaks12 text = read_double breaks12 text
read_quoted false breaks12 text = read_single breaks12 text

-- no proper prefix of a quoted text is one, if no quote follows it
pub quoted_whole : (double breaks12 : Bool) (t : Text) (c : ℕ) (rest v : Text) → (c == 39) ≡ false
    → read_quoted double breaks12 (t ++ (c ∷ rest)) ≡ Some v → read_quoted double breaks12 t ≡ None
quoted_whole true breaks12 t c rest v other read = double_quoted_whole breaks12 t c rest v read
quoted_whole false breaks12 t c rest v other read = single_quoted_whole breaks12 t c rest v other read
