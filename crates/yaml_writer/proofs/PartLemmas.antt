-- A number of JSON has one text, and its text one number: how the parts that are cut out of a text come together.
use Rattle.yaml_writer.proofs.Common.{suc, ℕ, ◌<◌, if◌then◌else◌, ◌==◌, option_map, Option, None, Some, codes, length, Bool, false, not, true, ◌||◌, []}
use Rattle.yaml_writer.proofs.Common.{◌++◌, ◌∷◌, refl, ◌≡◌, eqb-true, true≢false, append-nil, append_assoc, ap, sym, ◌∙◌, arith, and_parts, and_from, or_from}
use Rattle.yaml_writer.proofs.Common.{not_from_false, not-true, list_all-append, list_all, digit_unlike, Text, is_word, JsonExponent, JsonNumber, is_whole_part}
use Rattle.yaml_writer.proofs.Common.{is_json_number, minus, exponent_text, json_text, is_decimal, are_digits, IsNumber, IsNoNumber, is_fraction, is_exponent}
use Rattle.yaml_base.proofs.Common.{⊤, slice_index_or as get_or, eq-eqb, ne_eqb, past_sign, is_negative}
use Rattle.std.proofs.Common.{◌≢◌, subst}
use Rattle.yaml_base.proofs.NumberCuts.{minus_read}
use Rattle.yaml_writer.proofs.ValidNumbers.{valid_parts}
use Rattle.yaml_writer.specs.NumberParts.{cut_at_first, past_minus, sign_of, exponent_in, around, exponent_cut, around_point, fraction_cut, number_in}
use Rattle.yaml_writer.specs.NumberParts.{HasNumber}

-- Cuts

-- A text lacks a sign.
abbrev pub lacks : ℕ → Text → Bool
lacks sign text = list_all (λ c. not (c == sign)) text

pub cut_none : (sign : ℕ) (text : Text) → lacks sign text ≡ true → cut_at_first sign text ≡ None
cut_none sign [] h = refl
cut_none sign (c ∷ rest) h =
    let both = and_parts (not (c == sign)) (lacks sign rest) h in
    ap (λ x. if x then Some ([], rest) else option_map (λ parts. (c ∷ parts.0, parts.1)) (cut_at_first sign rest)) (not-true (c == sign) both.0)
    ∙ ap (option_map (λ parts. (c ∷ parts.0, parts.1))) (cut_none sign rest both.1)

same_sign : (sign : ℕ) → (sign == sign) ≡ true
same_sign sign = eq-eqb sign sign refl

pub cut_found : (sign : ℕ) (text rest : Text) → lacks sign text ≡ true → cut_at_first sign (text ++ (sign ∷ rest)) ≡ Some (text, rest)
cut_found sign [] rest h = ap (λ x. if x then Some ([], rest) else option_map (λ parts. (sign ∷ parts.0, parts.1)) (cut_at_first sign rest)) (same_sign sign)
cut_found sign (c ∷ text) rest h =
    let both = and_parts (not (c == sign)) (lacks sign text) h in
    ap (λ x. if x then Some ([], text ++ (sign ∷ rest)) else option_map (λ parts. (c ∷ parts.0, parts.1)) (cut_at_first sign (text ++ (sign ∷ rest))))
    (not-true (c == sign) both.0)
    ∙ ap (option_map (λ parts. (c ∷ parts.0, parts.1))) (cut_found sign text rest both.1)

-- the parts of a cut make the text
abbrev pub Joins : ℕ → Text → Option (Text × Text) → Type 0
Joins sign text None = ⊤
Joins sign text (Some parts) = text ≡ parts.0 ++ (sign ∷ parts.1)

pub cut_joins : (sign : ℕ) (text : Text) → Joins sign text (cut_at_first sign text)
cut_joins sign [] = tt
cut_joins sign (c ∷ rest) = by (c == sign) refl (cut_at_first sign rest) (cut_joins sign rest)
  where
    by : (x : Bool) → (c == sign) ≡ x → (o : Option (Text × Text)) → Joins sign rest o
        → Joins sign (c ∷ rest) (if x then Some ([], rest) else option_map (λ parts. (c ∷ parts.0, parts.1)) o)
    by true e o ih = ap (λ d. d ∷ rest) (eqb-true c sign e)
    by false e None ih = tt
    by false e (Some parts) ih = ap (λ text. c ∷ text) ih

-- A text lacks a sign if none of its places holds it.
pub lacks_each : (sign : ℕ) (text : Text) → ((i : ℕ) → i < length text → get_or text i 0 ≡ sign → ⊥) → lacks sign text ≡ true
lacks_each sign [] h = refl
lacks_each sign (c ∷ rest) h =
    and_from (not (c == sign)) (lacks sign rest) (not_from_false (c == sign) (ne_eqb c sign (h 0 (omega arith))))
    (lacks_each sign rest (λ i l. h (suc i) (omega (arith, l))))

-- The text of the parts is the text

abbrev fraction_text : Option Text → Text
fraction_text fraction = elim fraction as (λ _. Text) [
  | None ↦ []
  | Some digits ↦ codes "." ++ digits
]

sign_joins : (text : Text) → minus (is_negative text) ++ past_minus text ≡ text
sign_joins [] = refl
sign_joins (c ∷ rest) = by (c == 0x2D) refl
  where
    by : (x : Bool) → (c == 0x2D) ≡ x → minus x ++ (if x then rest else c ∷ rest) ≡ c ∷ rest
    by true e = ap (λ d. d ∷ rest) (sym (eqb-true c 0x2D e))
    by false e = refl

fraction_joins : (text : Text) → (fraction_cut text).0 ++ fraction_text (fraction_cut text).1 ≡ text
fraction_joins text = by (cut_at_first 0x2E text) (cut_joins 0x2E text)
  where
    by : (o : Option (Text × Text)) → Joins 0x2E text o → (around_point o text).0 ++ fraction_text (around_point o text).1 ≡ text
    by None h = append-nil text
    by (Some parts) h = sym h

-- An exponent's text is its letter and the text after it.
exponent_joins : (capital : Bool) (text : Text) → exponent_text (Some (exponent_in capital text)) ≡ (if capital then 0x45 else 0x65) ∷ text
exponent_joins true [] = refl
exponent_joins false [] = refl
exponent_joins capital (c ∷ rest) = by capital (c == 0x2D) (c == 0x2B) refl refl
  where
    by : (a x y : Bool) → (c == 0x2D) ≡ x → (c == 0x2B) ≡ y
        → (if a then codes "E" else codes "e")
        ++ elim (if x then Some true else (if y then Some false else None)) as (λ _. Text) [
          | None ↦ []
          | Some negative ↦ if negative then codes "-" else codes "+"
        ]
        ++ (if y || x then rest else c ∷ rest)
        ≡ (if a then 0x45 else 0x65) ∷ (c ∷ rest)
    by true true true e f = ap (λ d. 0x45 ∷ d ∷ rest) (sym (eqb-true c 0x2D e))
    by true true false e f = ap (λ d. 0x45 ∷ d ∷ rest) (sym (eqb-true c 0x2D e))
    by true false true e f = ap (λ d. 0x45 ∷ d ∷ rest) (sym (eqb-true c 0x2B f))
    by true false false e f = refl
    by false true true e f = ap (λ d. 0x65 ∷ d ∷ rest) (sym (eqb-true c 0x2D e))
    by false true false e f = ap (λ d. 0x65 ∷ d ∷ rest) (sym (eqb-true c 0x2D e))
    by false false true e f = ap (λ d. 0x65 ∷ d ∷ rest) (sym (eqb-true c 0x2B f))
    by false false false e f = refl

mantissa_joins : (text : Text) → (exponent_cut text).0 ++ exponent_text (exponent_cut text).1 ≡ text
mantissa_joins text = by (cut_at_first 0x65 text) (cut_at_first 0x45 text) (cut_joins 0x65 text) (cut_joins 0x45 text)
  where
    by : (small large : Option (Text × Text)) → Joins 0x65 text small → Joins 0x45 text large
        → (around false small (around true large (text, None))).0 ++ exponent_text (around false small (around true large (text, None))).1 ≡ text
    by (Some parts) large h g = ap (λ t. parts.0 ++ t) (exponent_joins false parts.1) ∙ sym h
    by None (Some parts) h g = ap (λ t. parts.0 ++ t) (exponent_joins true parts.1) ∙ sym g
    by None None h g = append-nil text

-- all parts together
pub parts_join : (text : Text) → json_text (number_in text) ≡ text
parts_join text =
    let negative = is_negative text in
    let unsigned = past_minus text in
    let exponent : Option JsonExponent = (exponent_cut unsigned).1 in
    let whole : Text = (fraction_cut (exponent_cut unsigned).0).0 in
    let fraction : Option Text = (fraction_cut (exponent_cut unsigned).0).1 in
    ap (λ t. t ++ exponent_text exponent) (append_assoc (minus negative) whole (fraction_text fraction))
    ∙ append_assoc (minus negative) (whole ++ fraction_text fraction) (exponent_text exponent)
    ∙ ap (λ t. minus negative ++ (t ++ exponent_text exponent)) (fraction_joins (exponent_cut unsigned).0)
    ∙ ap (λ t. minus negative ++ t) (mantissa_joins unsigned)
    ∙ sign_joins text

-- The parts of a number's text are the number's

lacks_both : (sign : ℕ) (text rest : Text) → lacks sign text ≡ true → lacks sign rest ≡ true → lacks sign (text ++ rest) ≡ true
lacks_both sign text rest h g = list_all-append (λ c. not (c == sign)) text rest ∙ and_from (lacks sign text) (lacks sign rest) h g

digits_lack : (sign : ℕ) (digits : Text) → is_decimal sign ≡ false → list_all is_decimal digits ≡ true → lacks sign digits ≡ true
digits_lack sign [] other h = refl
digits_lack sign (c ∷ digits) other h =
    let both = and_parts (is_decimal c) (list_all is_decimal digits) h in
    and_from (not (c == sign)) (lacks sign digits) (not_from_false (c == sign) (digit_unlike c sign other both.0)) (digits_lack sign digits other both.1)

fraction_lacks : (sign : ℕ) (fraction : Option Text) → is_decimal sign ≡ false → (0x2E == sign) ≡ false → is_fraction fraction ≡ true
    → lacks sign (fraction_text fraction) ≡ true
fraction_lacks sign None other point h = refl
fraction_lacks sign (Some digits) other point h =
    and_from (not (0x2E == sign)) (lacks sign digits) (not_from_false (0x2E == sign) point)
    (digits_lack sign digits other (and_parts (not (length digits == 0)) (list_all is_decimal digits) h).1)

fraction_cut_at : (whole : Text) (fraction : Option Text) → list_all is_decimal whole ≡ true
    → fraction_cut (whole ++ fraction_text fraction) ≡ (whole, fraction)
fraction_cut_at whole None h = ap fraction_cut (append-nil whole) ∙ ap (λ o. around_point o whole) (cut_none 0x2E whole (digits_lack 0x2E whole refl h))
fraction_cut_at whole (Some digits) h =
    ap (λ o. around_point o (whole ++ (codes "." ++ digits))) (cut_found 0x2E whole digits (digits_lack 0x2E whole refl h))

-- the sign before an exponent's digits
abbrev indicator_text : Option Bool → Text
indicator_text sign = elim sign as (λ _. Text) [
  | None ↦ []
  | Some negative ↦ if negative then codes "-" else codes "+"
]

sign_lacks : (sign : Option Bool) → lacks 0x65 (indicator_text sign) ≡ true
sign_lacks None = refl
sign_lacks (Some true) = refl
sign_lacks (Some false) = refl

-- an exponent is found in its text
exponent_found : (capital : Bool) (sign : Option Bool) (digits : Text) → are_digits 10 digits ≡ true
    → exponent_in capital (indicator_text sign ++ digits) ≡ record { capital = capital; sign = sign; digits = digits }
exponent_found capital (Some true) digits h = refl
exponent_found capital (Some false) digits h = refl
exponent_found capital None [] h = absurd (true≢false (sym h))
exponent_found capital None (c ∷ digits) h =
    let digit : is_decimal c ≡ true =
    (and_parts (is_decimal c) (list_all is_decimal digits) (and_parts (not (length (c ∷ digits) == 0)) (list_all is_decimal (c ∷ digits)) h).1).0 in
    let no_plus = digit_unlike c 0x2B refl digit in
    let no_minus = digit_unlike c 0x2D refl digit in
    let unsigned = ap (λ x. if x then Some true else (if c == 0x2B then Some false else None)) no_minus ∙ ap (λ x. if x then Some false else None) no_plus in
    ap (λ s. made s (past_sign (c ∷ digits))) unsigned ∙ ap (made None)
    (ap (λ x. if x then digits else c ∷ digits) (or_from (c == 0x2B) (c == 0x2D) no_plus no_minus))
  where
    made : Option Bool → Text → JsonExponent
    made sign text = record { capital = capital; sign = sign; digits = text }

exponent_cut_at : (mantissa : Text) (exponent : Option JsonExponent) → lacks 0x65 mantissa ≡ true → lacks 0x45 mantissa ≡ true → is_exponent exponent ≡ true
    → exponent_cut (mantissa ++ exponent_text exponent) ≡ (mantissa, exponent)
exponent_cut_at mantissa None h g e =
    ap exponent_cut (append-nil mantissa)
    ∙ ap (λ o. around false o (around true (cut_at_first 0x45 mantissa) (mantissa, None))) (cut_none 0x65 mantissa h)
    ∙ ap (λ o. around true o (mantissa, None)) (cut_none 0x45 mantissa g)
exponent_cut_at mantissa (Some exponent) h g e = by exponent.capital
  where
    after : Text
    after = indicator_text exponent.sign ++ exponent.digits

    after_lacks : lacks 0x65 after ≡ true
    after_lacks =
        lacks_both 0x65 (indicator_text exponent.sign) exponent.digits (sign_lacks exponent.sign)
        (digits_lack 0x65 exponent.digits refl (and_parts (not (length exponent.digits == 0)) (list_all is_decimal exponent.digits) e).1)

    by : (a : Bool)
        → exponent_cut (mantissa ++ exponent_text (Some (record { capital = a; sign = exponent.sign; digits = exponent.digits })))
        ≡ (mantissa, Some (record { capital = a; sign = exponent.sign; digits = exponent.digits }))
    by false =
        ap (λ o. around false o (around true (cut_at_first 0x45 (mantissa ++ (0x65 ∷ after))) (mantissa ++ (0x65 ∷ after), None)))
        (cut_found 0x65 mantissa after h)
        ∙ ap (λ found. (mantissa, Some found)) (exponent_found false exponent.sign exponent.digits e)
    by true =
        ap (λ o. around false o (around true (cut_at_first 0x45 (mantissa ++ (0x45 ∷ after))) (mantissa ++ (0x45 ∷ after), None)))
        (cut_none 0x65 (mantissa ++ (0x45 ∷ after)) (lacks_both 0x65 mantissa (0x45 ∷ after) h after_lacks))
        ∙ ap (λ o. around true o (mantissa ++ (0x45 ∷ after), None)) (cut_found 0x45 mantissa after g)
        ∙ ap (λ found. (mantissa, Some found)) (exponent_found true exponent.sign exponent.digits e)

-- the number of a sign, a mantissa and an exponent
abbrev assembled : Bool → Text × Option JsonExponent → JsonNumber
assembled negative parts = record {
  negative = negative;
  whole = (fraction_cut parts.0).0;
  fraction = (fraction_cut parts.0).1;
  exponent = parts.1;
}

past_minus_at : (negative : Bool) (c : ℕ) (rest : Text) → is_decimal c ≡ true → past_minus (minus negative ++ (c ∷ rest)) ≡ c ∷ rest
past_minus_at true c rest h = refl
past_minus_at false c rest h = ap (λ x. if x then rest else c ∷ rest) (digit_unlike c 0x2D refl h)

cut_of : (negative : Bool) (c : ℕ) (whole : Text) (fraction : Option Text) (exponent : Option JsonExponent) → list_all is_decimal (c ∷ whole) ≡ true
    → is_fraction fraction ≡ true → is_exponent exponent ≡ true
    → number_in (minus negative ++ (((c ∷ whole) ++ fraction_text fraction) ++ exponent_text exponent))
    ≡ record { negative = negative; whole = c ∷ whole; fraction = fraction; exponent = exponent }
cut_of negative c whole fraction exponent h g e =
    let unsigned = mantissa ++ exponent_text exponent in
    let rest : Text = (whole ++ fraction_text fraction) ++ exponent_text exponent in
    let digit : is_decimal c ≡ true = (and_parts (is_decimal c) (list_all is_decimal whole) h).0 in
    ap (λ x. assembled x (exponent_cut (past_minus (minus negative ++ unsigned)))) (minus_read negative c rest digit)
    ∙ ap (λ t. assembled negative (exponent_cut t)) (past_minus_at negative c rest digit)
    ∙ ap (assembled negative) (exponent_cut_at mantissa exponent (mantissa_lacks 0x65 refl refl) (mantissa_lacks 0x45 refl refl) e)
    ∙ ap (λ p. made p.0 p.1) (fraction_cut_at (c ∷ whole) fraction h)
  where
    mantissa : Text
    mantissa = (c ∷ whole) ++ fraction_text fraction

    made : Text → Option Text → JsonNumber
    made w f = record { negative = negative; whole = w; fraction = f; exponent = exponent }

    mantissa_lacks : (sign : ℕ) → is_decimal sign ≡ false → (0x2E == sign) ≡ false → lacks sign mantissa ≡ true
    mantissa_lacks sign other point =
        lacks_both sign (c ∷ whole) (fraction_text fraction) (digits_lack sign (c ∷ whole) other h) (fraction_lacks sign fraction other point g)

cut_of_parts : (negative : Bool) (whole : Text) (fraction : Option Text) (exponent : Option JsonExponent) → is_whole_part whole ≡ true
    → is_fraction fraction ≡ true
    → is_exponent exponent ≡ true
    → number_in (minus negative ++ ((whole ++ fraction_text fraction) ++ exponent_text exponent))
    ≡ record { negative = negative; whole = whole; fraction = fraction; exponent = exponent }
cut_of_parts negative [] fraction exponent h g e = absurd (true≢false (sym h))
cut_of_parts negative (c ∷ whole) fraction exponent h g e =
    cut_of negative c whole fraction exponent
    (and_parts (not (length (c ∷ whole) == 0)) (list_all is_decimal (c ∷ whole))
    (and_parts (are_digits 10 (c ∷ whole)) (is_word (c ∷ whole) (codes "0") || not (c == 0x30)) h).0).1
    g e

-- the number in the text of a number is that number
pub number_found : (number : JsonNumber) → is_json_number number ≡ true → number_in (json_text number) ≡ number
number_found number h =
    let valid = valid_parts number h in
    ap number_in
    (ap (λ t. t ++ exponent_text number.exponent) (append_assoc (minus number.negative) number.whole (fraction_text number.fraction))
    ∙ append_assoc (minus number.negative) (number.whole ++ fraction_text number.fraction) (exponent_text number.exponent))
    ∙ cut_of_parts number.negative number.whole number.fraction number.exponent valid.whole valid.fraction valid.exponent

-- a text that is some number is the one in it
pub number_in_text : (text : Text) → HasNumber text → IsNumber text (number_in text)
number_in_text text (number, is) = subst (IsNumber text) (sym (ap number_in is.text_is ∙ number_found number is.valid)) is

-- Both ways

-- If the number that is cut out of a text is valid, the text is that number.
pub text_is_number : (text : Text) (number : JsonNumber) → number ≡ number_in text → is_json_number number ≡ true → IsNumber text number
text_is_number text number e h = record { valid = h; text_is = sym (ap json_text e ∙ parts_join text) }

-- If it isn't, the text is no number.
pub text_is_none : (text : Text) (number : JsonNumber) → number ≡ number_in text → is_json_number number ≡ false → IsNoNumber text
text_is_none text number e h other is =
    true≢false (sym is.valid ∙ ap is_json_number (sym (number_found other is.valid) ∙ ap number_in (sym is.text_is) ∙ sym e) ∙ h)

-- Code that cuts

-- a text that doesn't begin with a sign
pub first_unlike : (sign c : ℕ) (rest : Text) → ((more : Text) → (c ∷ rest) ≢ sign ∷ more) → (c == sign) ≡ false
first_unlike sign c rest h = ne_eqb c sign (λ e. h rest (ap (λ d. d ∷ rest) e))

pub no_minus : (text : Text) → ((rest : Text) → text ≢ 0x2D ∷ rest) → (is_negative text ≡ false) × (past_minus text ≡ text)
no_minus [] h = (refl, refl)
no_minus (c ∷ rest) h = (first_unlike 0x2D c rest h, ap (λ x. if x then rest else c ∷ rest) (first_unlike 0x2D c rest h))

pub no_indicator : (text : Text) → ((rest : Text) → text ≢ 0x2D ∷ rest) → ((rest : Text) → text ≢ 0x2B ∷ rest)
    → (sign_of text ≡ None) × (past_sign text ≡ text)
no_indicator [] h g = (refl, refl)
no_indicator (c ∷ rest) h g = (
  ap (λ x. if x then Some true else (if c == 0x2B then Some false else None)) (first_unlike 0x2D c rest h)
      ∙ ap (λ x. if x then Some false else None) (first_unlike 0x2B c rest g),
  ap (λ x. if x then rest else c ∷ rest) (or_from (c == 0x2B) (c == 0x2D) (first_unlike 0x2B c rest g) (first_unlike 0x2D c rest h)),
)
