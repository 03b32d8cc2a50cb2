-- A string has a fault exactly if it has no content; a number with a fault is none.
use Rattle.yaml_json.proofs.Common.{◌≡◌, ℕ, zero, suc, Bool, true, false, ◌&&◌, ◌||◌, ◌==◌, cond, if◌then◌else◌, List, [], ◌∷◌, drop, length, take, ◌-◌, Ok}
use Rattle.yaml_json.proofs.Common.{Err, Option, Some, None, is_none, is_some, option_and_then, refl, sym, ap, ◌∙◌, arith, encode_utf8, is_ascii_digit}
use Rattle.yaml_json.proofs.Common.{true≢false, and_parts, nat_tests, after_backslash, after_high, after_u, prepend, bad, after_digits, after_exponent}
use Rattle.yaml_json.proofs.Common.{after_fraction, after_minus, after_sign, after_whole, ends_word, head, number_before, Fault, content_fault, first_unit}
use Rattle.std.proofs.Common.{nat_lt}
use Rattle.json.specs.{Token.number, Word.after_number}
use Rattle.json.specs.Text.{code_unit, content, is_high_surrogate, is_low_surrogate, plain, short_escape, surrogate_pair}
use Rattle.yaml_json.proofs.{WordSteps.digit_inner, StringFaults.skipped_over}
use Rattle.yaml_json.specs.Faults.{begins_low, digit_or, escape_size, exponent_fault, fault_or, fraction_fault, is_low_unit, leads_zero, letter_size}
use Rattle.yaml_json.specs.Faults.{number_fault, unit_size, FaultsAreBad}
use Rattle.json.specs.Ascii as ascii
use Rattle.yaml_json.specs.declared.expecting.Expected.TheVariants as expected

-- ---- strings

abbrev IsBadIfFaulty : List ℕ → Type 0
IsBadIfFaulty text = is_some (content_fault 0 text) ≡ is_none (content plain text)

same_none : (bytes : List ℕ) (more : Option (List ℕ)) → is_none more ≡ is_none (prepend bytes more)
same_none bytes None = refl
same_none bytes (Some rest) = refl

-- The first half of a pair, and what follows its escape.
module _ (here : List ℕ) (go : ℕ → Option Fault) (high : ℕ) where
  abbrev half_fault : Bool → Bool
  half_fault low = is_some (fault_or (if low then Ok 11 else Err expected.Surrogate) here go)

  abbrev low_content : List ℕ → ℕ → Option (List ℕ)
  low_content later low = cond (is_low_surrogate low) (prepend (encode_utf8 (surrogate_pair high low)) (content plain later)) None

  abbrev FaultyAs : List ℕ → Type 0
  FaultyAs later = is_some (go 11) ≡ is_none (content plain later)

  low_unit : (later : List ℕ) (is : Bool) (bytes : List ℕ) → FaultyAs later → half_fault is ≡ is_none (cond is (prepend bytes (content plain later)) None)
  low_unit later true bytes more = more ∙ same_none bytes (content plain later)
  low_unit later false bytes more = refl

  low_escape : (later : List ℕ) (is : Bool) (unit : Option ℕ) → FaultyAs later
      → half_fault (is && is_low_unit unit) ≡ is_none (cond is (option_and_then (low_content later) unit) None)
  low_escape later false unit more = refl
  low_escape later true None more = refl
  low_escape later true (Some low) more = low_unit later (is_low_surrogate low) (encode_utf8 (surrogate_pair high low)) more

  no_unit : (is : Bool) → half_fault (is && false) ≡ true
  no_unit true = refl
  no_unit false = refl

  half : (later : List ℕ) → FaultyAs (drop 6 later) → half_fault (begins_low later) ≡ is_none (content (after_high high) later)
  unfolding content
  half [] more = refl
  half (s ∷ []) more = refl
  half (s ∷ u ∷ []) more = no_unit ((s == 92) && (u == 117))
  half (s ∷ u ∷ a ∷ []) more = no_unit ((s == 92) && (u == 117))
  half (s ∷ u ∷ a ∷ b ∷ []) more = no_unit ((s == 92) && (u == 117))
  half (s ∷ u ∷ a ∷ b ∷ c ∷ []) more = no_unit ((s == 92) && (u == 117))
  half (s ∷ u ∷ a ∷ b ∷ c ∷ d ∷ later) more = low_escape later ((s == 92) && (u == 117)) (code_unit a b c d) more

-- An escape by its code unit.
module _ (here : List ℕ) (go : ℕ → Option Fault) (later : List ℕ) (pair : is_some (go 11) ≡ is_none (content plain (drop 6 later)))
    (one : is_some (go 5) ≡ is_none (content plain later)) where
  no_half : (low : Bool) (bytes : List ℕ) → is_some (fault_or (if low then Err expected.Surrogate else Ok 5) here go)
      ≡ is_none (cond low None (prepend bytes (content plain later)))
  no_half true bytes = refl
  no_half false bytes = one ∙ same_none bytes (content plain later)

  by_half : (unit : ℕ) (high : Bool)
      → is_some (fault_or (if high then (if begins_low later then Ok 11 else Err expected.Surrogate)
      else (if is_low_surrogate unit then Err expected.Surrogate else Ok 5)) here go)
      ≡ is_none (cond high (content (after_high unit) later) (cond (is_low_surrogate unit) None (prepend (encode_utf8 unit) (content plain later))))
  by_half unit true = half here go unit later pair
  by_half unit false = no_half (is_low_surrogate unit) (encode_utf8 unit)

  by_unit : (unit : Option ℕ) → is_some (fault_or (unit_size unit later) here go)
      ≡ is_none (option_and_then (λ u. cond (is_high_surrogate u) (content (after_high u) later)
      (cond (is_low_surrogate u) None (prepend (encode_utf8 u) (content plain later)))) unit)
  by_unit None = refl
  by_unit (Some unit) = by_half unit (is_high_surrogate unit)

-- An escape, before a text whose ends are dealt with.
units : (here : List ℕ) (letter : ℕ) (rest : List ℕ) → ((n : ℕ) → IsBadIfFaulty (drop n rest))
    → is_some (fault_or (unit_size (first_unit rest) (drop 4 rest)) here (λ size. content_fault size (letter ∷ rest))) ≡ is_none (content after_u rest)
unfolding content
units here letter (a ∷ b ∷ c ∷ d ∷ later) more =
    by_unit here (λ size. content_fault size (letter ∷ a ∷ b ∷ c ∷ d ∷ later)) later (skipped 6 later ∙ more 10) (more 4) (code_unit a b c d) where
      skipped : (n : ℕ) (text : List ℕ) → is_some (content_fault n text) ≡ is_some (content_fault 0 (drop n text))
      skipped n text = ap is_some (skipped_over n text)
units here letter _ more = refl

letters : (here : List ℕ) (letter : ℕ) (rest : List ℕ) (meaning : Option ℕ) → IsBadIfFaulty rest
    → is_some (fault_or (letter_size meaning) here (λ size. content_fault size (letter ∷ rest)))
    ≡ is_none (option_and_then (λ c. prepend (c ∷ []) (content plain rest)) meaning)
letters here letter rest None more = refl
letters here letter rest (Some c) more = more ∙ same_none (c ∷ []) (content plain rest)

escapes : (here : List ℕ) (text : List ℕ) → ((n : ℕ) → IsBadIfFaulty (drop n text))
    → is_some (fault_or (escape_size text) here (λ size. content_fault size text)) ≡ is_none (content after_backslash text)
unfolding content
escapes here [] more = refl
escapes here (letter ∷ rest) more = by_letter (letter == ascii.lower_u) where
  by_letter : (long : Bool)
      → is_some (fault_or (if long then unit_size (first_unit rest) (drop 4 rest) else letter_size (short_escape letter)) here
      (λ size. content_fault size (letter ∷ rest)))
      ≡ is_none (cond long (content after_u rest) (option_and_then (λ c. prepend (c ∷ []) (content plain rest)) (short_escape letter)))
  by_letter true = units here letter rest (λ n. more (suc n))
  by_letter false = letters here letter rest (short_escape letter) (more 1)

character : (byte : ℕ) (rest : List ℕ) → ((n : ℕ) → IsBadIfFaulty (drop n rest)) → IsBadIfFaulty (byte ∷ rest)
unfolding content
character byte rest more = by_tests (byte == ascii.quote) (byte == ascii.backslash) (nat_lt byte ascii.space) where
  by_tests : (quote slash low : Bool)
      → is_some (if quote then None else fault_or (if slash then escape_size rest else (if low then Err expected.Control else Ok 0)) (byte ∷ rest)
      (λ size. content_fault size rest))
      ≡ is_none (cond quote (Some []) (cond slash (content after_backslash rest) (cond low None (prepend (byte ∷ []) (content plain rest)))))
  by_tests true slash low = refl
  by_tests false true low = escapes (byte ∷ rest) rest more
  by_tests false false true = refl
  by_tests false false false = more 0 ∙ same_none (byte ∷ []) (content plain rest)

all_bad : (text : List ℕ) (n : ℕ) → IsBadIfFaulty (drop n text)
unfolding content
all_bad [] zero = refl
all_bad [] (suc n) = refl
all_bad (byte ∷ rest) zero = character byte rest (all_bad rest)
all_bad (byte ∷ rest) (suc n) = all_bad rest n

-- ---- numbers

no_exponent : (t there : List ℕ) (rest : Option (List ℕ)) → is_some (digit_or rest there (λ end. None)) ≡ true → number_before t rest ≡ bad
no_exponent t there None is = refl
no_exponent t there (Some rest) is = absurd (true≢false (sym is))

no_fraction : (t there : List ℕ) (rest : Option (List ℕ)) → is_some (digit_or rest there exponent_fault) ≡ true
    → number_before t (option_and_then after_exponent rest) ≡ bad
no_fraction t there None is = refl
no_fraction t there (Some rest) is = no_exponent t (after_sign (drop 1 rest)) (after_exponent rest) is

no_integer : (t there : List ℕ) (rest : Option (List ℕ)) → is_some (digit_or rest there fraction_fault) ≡ true
    → number_before t (option_and_then after_exponent (option_and_then after_fraction rest)) ≡ bad
no_integer t there None is = refl
no_integer t there (Some rest) is = no_fraction t (drop 1 rest) (after_fraction rest) is

-- A digit after the first zero ends no number.
zero_first : (t whole : List ℕ) → leads_zero whole ≡ true
    → number_before t (option_and_then after_exponent (option_and_then after_fraction (after_whole whole))) ≡ bad
zero_first t whole is =
    let rest = drop 1 whole in
    let parts = and_parts (head whole == 48) (is_ascii_digit (head rest)) is in
    let zero = parts.0 in
    let digit = parts.1 in
    let point : (head rest == 46) ≡ false = grind (arith, nat_tests, digit) in
    let letter : ((head rest == 101) || (head rest == 69)) ≡ false = grind (arith, nat_tests, digit) in
    let inner : ends_word rest ≡ false = digit_inner (head rest) digit in
    (λ i. number_before t (option_and_then after_exponent (option_and_then after_fraction (cond (zero i) (Some rest) (after_digits whole)))))
    ∙ (λ i. number_before t (option_and_then after_exponent (cond (point i) (after_digits (drop 1 rest)) (Some rest))))
    ∙ (λ i. number_before t (cond (letter i) (after_digits (after_sign (drop 1 rest))) (Some rest)))
    ∙ (λ i. cond (inner i) (number (take (length t - length rest) t)) bad)

whole_bad : (t whole : List ℕ) (zeros : Bool) → leads_zero whole ≡ zeros
    → is_some (if zeros then Some (expected.LeadingZero, whole) else digit_or (after_whole whole) whole fraction_fault) ≡ true
    → number_before t (option_and_then after_exponent (option_and_then after_fraction (after_whole whole))) ≡ bad
whole_bad t whole true zeros is = zero_first t whole zeros
whole_bad t whole false zeros is = no_integer t whole (after_whole whole) is

number_bad : (t : List ℕ) → is_some (number_fault t) ≡ true → number_before t (after_number t) ≡ bad
unfolding after_number
number_bad t is = whole_bad t (after_minus t) (leads_zero (after_minus t)) refl is

pub faults_are_bad : FaultsAreBad
faults_are_bad = ((λ text. all_bad text 0), number_bad)
