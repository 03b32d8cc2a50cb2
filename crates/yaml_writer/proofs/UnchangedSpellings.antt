-- A number's text is its spelling only if the number is in its spelling.
use Rattle.yaml_writer.proofs.Common.{ℕ, if◌then◌else◌, Option, None, Some, codes, length, Bool, false, not, true, ◌&&◌, ◌||◌, [], ◌++◌, ◌∷◌, refl, ◌≡◌, inr}
use Rattle.yaml_writer.proofs.Common.{length-append, true≢false, append_assoc, ap, ◌∙◌, arith, Text, is_word, JsonExponent, JsonNumber, minus, json_text, ◌==◌}
use Rattle.yaml_writer.proofs.Common.{yaml_number, is_spelled, list_all, nat_lt, and_parts}
use Rattle.yaml_base.proofs.Common.{bytes_eq}
use Rattle.yaml_writer.proofs.PlaceCuts.{no_letter_uncut}
use Rattle.yaml_writer.specs.NumberParts.{around_point, cut_at_first, exponent_cut, fraction_cut, number_in}
use Rattle.std.{proofs.Common.inl, proofs.Common.⊎_elim, proofs.lemmas.List.append_cancel_left, specs.Prelude.◌+◌, specs.Prelude.◌⊎◌}

-- Texts with the same parts have the same length, however they are put together.
same_length : (prefix point after less rest : Text) → prefix ++ (point ++ after) ≡ prefix ++ less ++ rest
    → length point + length after ≡ length less + length rest
same_length prefix point after less rest e =
    omega (arith, ap length e, length-append prefix (point ++ after), length-append point after, length-append (prefix ++ less) rest, length-append prefix less)

abbrev first_of : Text → ℕ
first_of [] = 0
first_of (c ∷ rest) = c

apart : (negative : Bool) (whole : Text) (fraction : Option Text) (exponent : Option JsonExponent)
    → yaml_number (record { negative = negative; whole = whole; fraction = fraction; exponent = exponent })
    ≡ json_text (record { negative = negative; whole = whole; fraction = fraction; exponent = exponent })
    → is_spelled (record { negative = negative; whole = whole; fraction = fraction; exponent = exponent }) ≡ true
apart negative whole (Some fraction) None e = refl
apart negative whole (Some fraction) (Some exponent) e = by exponent.capital exponent.sign e
  where
    made : Bool → Option Bool → JsonNumber
    made a s = record {
      negative = negative;
      whole = whole;
      fraction = Some fraction;
      exponent = Some (record { capital = a; sign = s; digits = exponent.digits });
    }

    unsigned : (letter : ℕ) → (minus negative ++ whole) ++ ((codes "." ++ fraction) ++ (0x65 ∷ 0x2B ∷ exponent.digits))
        ≡ (minus negative ++ whole) ++ (codes "." ++ fraction) ++ (letter ∷ exponent.digits) → true ≡ false
    unsigned letter g =
        absurd (omega (
          arith,
          same_length (minus negative ++ whole) (codes "." ++ fraction) (0x65 ∷ 0x2B ∷ exponent.digits) (codes "." ++ fraction)
              (letter ∷ exponent.digits) g,
        ))

    letters : (sign : ℕ) → (minus negative ++ whole) ++ ((codes "." ++ fraction) ++ (0x65 ∷ sign ∷ exponent.digits))
        ≡ (minus negative ++ whole) ++ (codes "." ++ fraction) ++ (0x45 ∷ sign ∷ exponent.digits) → ◌≡◌ {A = ℕ} 0x65 0x45
    letters sign g =
        ap first_of (append_cancel_left ((minus negative ++ whole) ++ (codes "." ++ fraction)) (0x65 ∷ sign ∷ exponent.digits) (0x45 ∷ sign ∷ exponent.digits)
        (append_assoc (minus negative ++ whole) (codes "." ++ fraction) (0x65 ∷ sign ∷ exponent.digits) ∙ g))

    by : (a : Bool) (s : Option Bool) → yaml_number (made a s) ≡ json_text (made a s) → is_spelled (made a s) ≡ true
    by false (Some s) g = refl
    by false None g = absurd (true≢false (unsigned 0x65 g))
    by true None g = absurd (true≢false (unsigned 0x45 g))
    by true (Some true) g = absurd (omega (arith, letters 0x2D g))
    by true (Some false) g = absurd (omega (arith, letters 0x2B g))
apart negative whole None (Some exponent) e = by exponent.capital exponent.sign e
  where
    made : Bool → Option Bool → JsonNumber
    made a s = record { negative = negative; whole = whole; fraction = None; exponent = Some (record { capital = a; sign = s; digits = exponent.digits }) }

    longer : (sign : ℕ) (after : Text) → length after + 0 ≡ length exponent.digits + 1 ⊎ length after ≡ length exponent.digits + 2
        → (minus negative ++ whole) ++ ((codes "." ++ codes "0") ++ (0x65 ∷ sign ∷ exponent.digits))
        ≡ (minus negative ++ whole) ++ [] ++ after → true ≡ false
    longer sign after few g =
        let same = same_length (minus negative ++ whole) (codes "." ++ codes "0") (0x65 ∷ sign ∷ exponent.digits) [] after g in
        ⊎_elim (λ n. absurd (omega (arith, same, n))) (λ n. absurd (omega (arith, same, n))) few

    by : (a : Bool) (s : Option Bool) → yaml_number (made a s) ≡ json_text (made a s) → is_spelled (made a s) ≡ true
    by true None g = absurd (true≢false (longer 0x2B (0x45 ∷ exponent.digits) (inl (omega arith)) g))
    by false None g = absurd (true≢false (longer 0x2B (0x65 ∷ exponent.digits) (inl (omega arith)) g))
    by true (Some true) g = absurd (true≢false (longer 0x2D (0x45 ∷ 0x2D ∷ exponent.digits) (inr (omega arith)) g))
    by true (Some false) g = absurd (true≢false (longer 0x2B (0x45 ∷ 0x2B ∷ exponent.digits) (inr (omega arith)) g))
    by false (Some true) g = absurd (true≢false (longer 0x2D (0x65 ∷ 0x2D ∷ exponent.digits) (inr (omega arith)) g))
    by false (Some false) g = absurd (true≢false (longer 0x2B (0x65 ∷ 0x2B ∷ exponent.digits) (inr (omega arith)) g))
apart negative whole None None e = by (negative && is_word whole (codes "0")) e
  where
    by : (x : Bool) → (minus negative ++ whole ++ (if not x then [] else codes "." ++ codes "0" ++ [])) ≡ minus negative ++ whole ++ [] ++ []
        → (not x || false) ≡ true
    by false g = refl
    by true g = absurd (omega (arith, same_length (minus negative ++ whole) (codes "." ++ codes "0") [] [] [] g))

-- A number whose text is its spelling is in its spelling.
pub stands_as_spelled : (number : JsonNumber) → yaml_number number ≡ json_text number → is_spelled number ≡ true
stands_as_spelled number e = apart number.negative number.whole number.fraction number.exponent e

-- A text without letters, other than `-0`, is its own spelling if it is a number

-- the number of a sign and a mantissa
abbrev with_mantissa : Bool → Text → JsonNumber
with_mantissa negative mantissa = record {
  negative = negative;
  whole = (fraction_cut mantissa).0;
  fraction = (fraction_cut mantissa).1;
  exponent = None;
}

mantissa_spelled : (negative : Bool) (mantissa : Text) → (negative && is_word mantissa (codes "0")) ≡ false
    → is_spelled (with_mantissa negative mantissa) ≡ true
mantissa_spelled negative mantissa other = by (cut_at_first 0x2E mantissa)
  where
    by : (o : Option (Text × Text))
        → is_spelled
        (record { negative = negative; whole = (around_point o mantissa).0; fraction = (around_point o mantissa).1; exponent = None })
        ≡ true
    by (Some parts) = refl
    by None = ap (λ (x : Bool). not x || false) other

pub unlettered_spelled : (text : Text) → list_all (λ c. nat_lt c 0x41) text ≡ true → bytes_eq text (codes "-0") ≡ false → is_spelled (number_in text) ≡ true
unlettered_spelled [] unlettered other = refl
unlettered_spelled (c ∷ rest) unlettered other = by (c == 0x2D) other
  where
    both : (nat_lt c 0x41 ≡ true) × (list_all (λ d. nat_lt d 0x41) rest ≡ true)
    both = and_parts (nat_lt c 0x41) (list_all (λ d. nat_lt d 0x41) rest) unlettered

    whole : (negative : Bool) (unsigned : Text) → list_all (λ d. nat_lt d 0x41) unsigned ≡ true → (negative && is_word unsigned (codes "0")) ≡ false
        → is_spelled
        (record {
          negative = negative;
          whole = (fraction_cut (exponent_cut unsigned).0).0;
          fraction = (fraction_cut (exponent_cut unsigned).0).1;
          exponent = (exponent_cut unsigned).1;
        })
        ≡ true
    whole negative unsigned none differs =
        ap
        (λ (parts : Text × Option JsonExponent).
        is_spelled
        (record { negative = negative; whole = (fraction_cut parts.0).0; fraction = (fraction_cut parts.0).1; exponent = parts.1 }))
        (no_letter_uncut unsigned none)
        ∙ mantissa_spelled negative unsigned differs

    by : (x : Bool) → (x && bytes_eq rest (codes "0")) ≡ false
        → is_spelled
        (record {
          negative = x;
          whole = (fraction_cut (exponent_cut (if x then rest else c ∷ rest)).0).0;
          fraction = (fraction_cut (exponent_cut (if x then rest else c ∷ rest)).0).1;
          exponent = (exponent_cut (if x then rest else c ∷ rest)).1;
        })
        ≡ true
    by true differs = whole true rest both.1 differs
    by false differs = whole false (c ∷ rest) unlettered refl
