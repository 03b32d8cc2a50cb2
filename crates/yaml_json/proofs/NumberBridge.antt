-- A text that a reader of JSON takes for a number is one by the definition of numbers.
use Rattle.yaml_json.proofs.Common.{ℕ, if◌then◌else◌, ◌==◌, option_and_then, Option, None, Some, codes, drop, length, take, Bool, cond, false, not, true, ◌&&◌}
use Rattle.yaml_json.proofs.Common.{◌||◌, [], ◌++◌, ◌∷◌, refl, ◌≡◌, eqb-true, take-append-drop, append-nil, append_assoc, ap, sym, ◌∙◌, arith, and_parts, Text}
use Rattle.yaml_json.proofs.Common.{and_from, not_from_false, false≢true, list_all, JsonNumber, minus, are_digits, number_in, IsNumber}
use Rattle.yaml_base.proofs.Common.{take_while-cons, leb-true, or_right, agree_below_at, take_while, nat_le, is_word, JsonExponent, is_decimal}
use Rattle.std.proofs.lemmas.List.Folds.{length-prefix_len}
use Rattle.json.specs.Word.{after_digits, after_minus, after_sign, after_whole, after_fraction, after_exponent, after_number}
use Rattle.yaml_base.specs.values.JsonNumbers.{is_whole_part, exponent_text}
use Rattle.yaml_writer.proofs.PartLemmas.{number_in_text}
use Rattle.std.specs.{Char.is_ascii_digit, List.prefix_len}
use Rattle.json.specs.Print as json

-- Parts that were passed over

abbrev got : Option Text → Text
got None = []
got (Some text) = text

nothing_got : {P : Type 0} (rest : Text) → None ≡ Some rest → P
nothing_got rest e = absurd (by e)
  where
    by : None ≡ Some rest → ⊥
    by e = cc

-- the first of two steps
abbrev Between : (Text → Option Text) → Option Text → Text → Type 0
Between step first rest = (middle : Text) × (first ≡ Some middle) × (step middle ≡ Some rest)

between : (step : Text → Option Text) (first : Option Text) (rest : Text) → option_and_then step first ≡ Some rest → Between step first rest
between step None rest e = nothing_got rest e
between step (Some middle) rest e = (middle, refl, e)

-- Digits

same_digit : (c : ℕ) → is_ascii_digit c ≡ true → is_decimal c ≡ true
same_digit c digit =
    let within = leb-true c 57 (and_parts (nat_le 48 c) (nat_le c 57) digit).1 in
    sym (ap (λ (x : Bool). not x || is_decimal c) digit)
    ∙ agree_below_at (λ c. not (is_ascii_digit c) || is_decimal c) (λ _. true) 128 c refl (omega (arith, within))

all_digits : (text : Text) → list_all is_decimal (take_while is_ascii_digit text) ≡ true
all_digits [] = refl
all_digits (c ∷ text) = ap (list_all is_decimal) (take_while-cons is_ascii_digit c text) ∙ by (is_ascii_digit c) refl (all_digits text)
  where
    by : (x : Bool) → is_ascii_digit c ≡ x → list_all is_decimal (take_while is_ascii_digit text) ≡ true
        → list_all is_decimal (cond x (c ∷ take_while is_ascii_digit text) []) ≡ true
    by true digit rest = and_from (is_decimal c) (list_all is_decimal (take_while is_ascii_digit text)) (same_digit c digit) rest
    by false other rest = refl

-- Digits, one or more, and the text after them.
record Digits (text rest : Text) : Type 0 where
  digits : Text
  joined : text ≡ digits ++ rest
  are : are_digits 10 digits ≡ true

digits_got : (text rest : Text) → after_digits text ≡ Some rest → Digits text rest
digits_got text rest e = by (count == 0) refl e
  where
    count : ℕ
    count = prefix_len is_ascii_digit text

    by : (x : Bool) → (count == 0) ≡ x → cond x None (Some (drop count text)) ≡ Some rest → Digits text rest
    by true none e = nothing_got rest e
    by false some e =
        record {
          digits = take count text;
          joined = sym (take-append-drop count text) ∙ ap (λ (t : Text). take count text ++ t) (ap got e);
          are = and_from (not (length (take count text) == 0)) (list_all is_decimal (take count text))
              (ap (λ (n : ℕ). not (n == 0)) (length-prefix_len is_ascii_digit text) ∙ not_from_false (count == 0) some) (all_digits text);
        }

-- The whole part

record Whole (text rest : Text) : Type 0 where
  digits : Text
  joined : text ≡ digits ++ rest
  is : is_whole_part digits ≡ true

abbrev first_or : ℕ → Text → ℕ
first_or none [] = none
first_or none (c ∷ rest) = c

leading : (c : ℕ) (text rest digits : Text) → (c == 0x30) ≡ false → (c ∷ text) ≡ digits ++ rest → are_digits 10 digits ≡ true → is_whole_part digits ≡ true
leading c text rest [] other joined are = absurd (false≢true are)
leading c text rest (d ∷ digits) other joined are =
    and_from (are_digits 10 (d ∷ digits)) (is_word (d ∷ digits) (codes "0") || not (d == 0x30)) are (or_right (is_word (d ∷ digits) (codes "0"))
    (not (d == 0x30)) (not_from_false (d == 0x30) (ap (λ (x : ℕ). x == 0x30) (sym (ap (first_or 0) joined)) ∙ other)))

whole_got : (text rest : Text) → after_whole text ≡ Some rest → Whole text rest
whole_got [] rest e = nothing_got rest e
whole_got (c ∷ text) rest e = by (c == 0x30) refl e
  where
    by : (x : Bool) → (c == 0x30) ≡ x → cond x (Some text) (after_digits (c ∷ text)) ≡ Some rest → Whole (c ∷ text) rest
    by true is e = record { digits = codes "0"; joined = ap (λ (d : ℕ). d ∷ text) (eqb-true c 0x30 is) ∙ ap (λ (t : Text). 0x30 ∷ t) (ap got e); is = refl }
    by false other e =
        let found = digits_got (c ∷ text) rest e in
        record { digits = found.digits; joined = found.joined; is = leading c text rest found.digits other found.joined found.are }

-- The sign

minus_got : (text : Text) → (negative : Bool) × (text ≡ minus negative ++ after_minus text)
minus_got [] = (false, refl)
minus_got (c ∷ text) = by (c == 0x2D) refl
  where
    by : (x : Bool) → (c == 0x2D) ≡ x → (negative : Bool) × ((c ∷ text) ≡ minus negative ++ cond x text (c ∷ text))
    by true is = (true, ap (λ (d : ℕ). d ∷ text) (eqb-true c 0x2D is))
    by false other = (false, refl)

-- The fraction

abbrev fraction_text : Option Text → Text
fraction_text fraction = elim fraction as (λ _. Text) [
  | None ↦ []
  | Some digits ↦ codes "." ++ digits
]

abbrev is_fraction : Option Text → Bool
is_fraction fraction = elim fraction as (λ _. Bool) [
  | None ↦ true
  | Some digits ↦ are_digits 10 digits
]

record Fraction (text rest : Text) : Type 0 where
  fraction : Option Text
  joined : text ≡ fraction_text fraction ++ rest
  is : is_fraction fraction ≡ true

fraction_got : (text rest : Text) → after_fraction text ≡ Some rest → Fraction text rest
fraction_got [] rest e = record { fraction = None; joined = ap got e; is = refl }
fraction_got (c ∷ text) rest e = by (c == 0x2E) refl e
  where
    by : (x : Bool) → (c == 0x2E) ≡ x → cond x (after_digits text) (Some (c ∷ text)) ≡ Some rest → Fraction (c ∷ text) rest
    by true is e =
        let found = digits_got text rest e in
        record {
          fraction = Some found.digits;
          joined = ap (λ (d : ℕ). d ∷ text) (eqb-true c 0x2E is) ∙ ap (λ (t : Text). 0x2E ∷ t) found.joined;
          is = found.are;
        }
    by false other e = record { fraction = None; joined = ap got e; is = refl }

-- The exponent

abbrev indicator_text : Option Bool → Text
indicator_text sign = elim sign as (λ _. Text) [
  | None ↦ []
  | Some negative ↦ if negative then codes "-" else codes "+"
]

abbrev is_exponent : Option JsonExponent → Bool
is_exponent exponent = elim exponent as (λ _. Bool) [
  | None ↦ true
  | Some found ↦ are_digits 10 found.digits
]

sign_got : (text : Text) → (sign : Option Bool) × (text ≡ indicator_text sign ++ after_sign text)
sign_got [] = (None, refl)
sign_got (c ∷ text) = by (c == 0x2D) (c == 0x2B) refl refl
  where
    by : (x y : Bool) → (c == 0x2D) ≡ x → (c == 0x2B) ≡ y → (sign : Option Bool) × ((c ∷ text) ≡ indicator_text sign ++ cond (x || y) text (c ∷ text))
    by true y is other = (Some true, ap (λ (d : ℕ). d ∷ text) (eqb-true c 0x2D is))
    by false true other is = (Some false, ap (λ (d : ℕ). d ∷ text) (eqb-true c 0x2B is))
    by false false one other = (None, refl)

record Exponent (text rest : Text) : Type 0 where
  exponent : Option JsonExponent
  joined : text ≡ exponent_text exponent ++ rest
  is : is_exponent exponent ≡ true

-- an exponent with its letter
lettered : (capital : Bool) (c : ℕ) (text rest : Text) → c ≡ (if capital then 0x45 else 0x65) → after_digits (after_sign text) ≡ Some rest
    → Exponent (c ∷ text) rest
lettered capital c text rest is e =
    let signed = sign_got text in
    let found = digits_got (after_sign text) rest e in
    let inner = signed.1 ∙ ap (λ (t : Text). indicator_text signed.0 ++ t) found.joined ∙ sym (append_assoc (indicator_text signed.0) found.digits rest) in
    record {
      exponent = Some (record { capital = capital; sign = signed.0; digits = found.digits });
      joined = by capital is signed.0 found.digits inner;
      is = found.are;
    }
  where
    by : (x : Bool) → c ≡ (if x then 0x45 else 0x65) → (sign : Option Bool) (digits : Text) → text ≡ (indicator_text sign ++ digits) ++ rest
        → (c ∷ text) ≡ exponent_text (Some (record { capital = x; sign = sign; digits = digits })) ++ rest
    by true is sign digits inner = ap (λ (d : ℕ). d ∷ text) is ∙ ap (λ (t : Text). 0x45 ∷ t) inner
    by false is sign digits inner = ap (λ (d : ℕ). d ∷ text) is ∙ ap (λ (t : Text). 0x65 ∷ t) inner

exponent_got : (text rest : Text) → after_exponent text ≡ Some rest → Exponent text rest
exponent_got [] rest e = record { exponent = None; joined = ap got e; is = refl }
exponent_got (c ∷ text) rest e = by (c == 0x65) (c == 0x45) refl refl e
  where
    by : (x y : Bool) → (c == 0x65) ≡ x → (c == 0x45) ≡ y → cond (x || y) (after_digits (after_sign text)) (Some (c ∷ text)) ≡ Some rest
        → Exponent (c ∷ text) rest
    by true y is other e = lettered false c text rest (eqb-true c 0x65 is) e
    by false true other is e = lettered true c text rest (eqb-true c 0x45 is) e
    by false false one other e = record { exponent = None; joined = ap got e; is = refl }

-- Numbers

regrouped : (a b c d : Text) → a ++ (b ++ (c ++ (d ++ []))) ≡ a ++ b ++ c ++ d
regrouped a b c d = ap (λ (t : Text). a ++ (b ++ (c ++ t))) (append-nil d) ∙ sym (append_assoc (a ++ b) c d ∙ append_assoc a b (c ++ d))

all_parts : (text unsigned after_it later : Text) (negative : Bool) → text ≡ minus negative ++ unsigned → Whole unsigned after_it → Fraction after_it later
    → Exponent later [] → (number : JsonNumber) × IsNumber text number
all_parts text unsigned after_it later negative signed whole fraction exponent = (
  record { negative = negative; whole = whole.digits; fraction = fraction.fraction; exponent = exponent.exponent },
  record {
    valid =
        and_from (is_whole_part whole.digits && is_fraction fraction.fraction) (is_exponent exponent.exponent)
        (and_from (is_whole_part whole.digits) (is_fraction fraction.fraction) whole.is fraction.is) exponent.is;
    text_is =
        signed ∙ ap (λ (t : Text). minus negative ++ t) whole.joined
        ∙ ap (λ (t : Text). minus negative ++ (whole.digits ++ t)) fraction.joined
        ∙ ap (λ (t : Text). minus negative ++ (whole.digits ++ (fraction_text fraction.fraction ++ t))) exponent.joined
        ∙ regrouped (minus negative) whole.digits (fraction_text fraction.fraction) (exponent_text exponent.exponent);
  },
)

found_number : (text : Text) → json.IsNumber text → (number : JsonNumber) × IsNumber text number
unfolding after_number
found_number text is =
    let outer = between after_exponent (option_and_then after_fraction (after_whole (after_minus text))) [] is in
    let inner = between after_fraction (after_whole (after_minus text)) outer.0 outer.1 in
    let signed = minus_got text in
    all_parts text (after_minus text) inner.0 outer.0 signed.0 signed.1 (whole_got (after_minus text) inner.0 inner.1) (fraction_got inner.0 outer.0 inner.2)
    (exponent_got outer.0 [] outer.2)

-- it is the number that the text's parts are
pub number_is : (text : Text) → json.IsNumber text → IsNumber text (number_in text)
number_is text is = number_in_text text (found_number text is)
