-- Numbers are written plain, and read as themselves.
use Rattle.yaml_writer.proofs.Common.{ℕ, if◌then◌else◌, ◌==◌, codes, length, Bool, false, not, true, ◌&&◌, ◌||◌, [], ◌++◌, ◌∷◌, refl, ◌≡◌, ltb-true}
use Rattle.yaml_writer.proofs.Common.{true≢false, ap, sym, ◌∙◌, arith, and_parts, and_from, and_left, and_right, or_from, not_from_false, not-true}
use Rattle.yaml_writer.proofs.Common.{digit_from_value, digit_value, list_all, list_any, digit_unlike, Text, is_among, is_ascii, is_space, is_break, plain}
use Rattle.yaml_writer.proofs.Common.{requested_style, fitting_style, fits_plain, minus, fraction_or_default, is_json_integer, exponent_spelled}
use Rattle.yaml_writer.proofs.Common.{yaml_number, is_decimal, are_digits}
use Rattle.yaml_base.proofs.Common.{or_parts, agree_below_at, line_separator, paragraph_separator, is_printable, Charset, somewhere, is_empty, is_special}
use Rattle.yaml_base.proofs.Common.{allowances, quoted_style, chosen}
use Rattle.std.proofs.lemmas.Bool.{agree_below}
use Rattle.yaml_base.proofs.NumbersRead.{numbers_are_read}
use Rattle.yaml_base.specs.scalars.Analysis.{begins_with, is_gap, ends_word, begins_like_marker, is_indicator, begins_unlike_plain, bars_plain, allows_plain}
use Rattle.yaml_writer.proofs.SpellingLemmas.{PassesNumbers, whole_digits, spelling_passes}
use Rattle.yaml_writer.specs.ReadNumbers.{WrittenNumbersAreRead}

-- Characters

-- the narrowest set of characters
abbrev pub narrowest : Charset
narrowest = record { unicode = false; breaks12 = true }

-- True if a character may be anywhere in plain text, whatever follows it.
abbrev pub is_harmless : ℕ → Bool
is_harmless c = not (is_special narrowest c || is_break c || is_space c || c == 58 || is_gap c || is_among (codes ",?:[]{}") c)

-- one that begins no mark and is no sign
abbrev begins_plain : ℕ → Bool
begins_plain c = not (is_space c || (c == 45 || c == 46) || is_indicator c || is_among (codes "?:-") c)

-- A test that ten digits pass holds for each digit.
pub digits_pass : (test : ℕ → Bool) → agree_below (λ c. not (is_decimal c) || test c) (λ _. true) 58 ≡ true → (c : ℕ) → is_decimal c ≡ true → test c ≡ true
digits_pass test all c digit =
    let within = digit_from_value c (ltb-true (digit_value c) 10 digit) in
    sym (ap (λ x. not x || test c) digit) ∙ agree_below_at (λ c. not (is_decimal c) || test c) (λ _. true) 58 c all (omega (arith, within))

pub digit_harmless : (c : ℕ) → is_decimal c ≡ true → is_harmless c ≡ true
digit_harmless c digit = digits_pass is_harmless refl c digit

harmless_passes : PassesNumbers is_harmless
harmless_passes = record { digit = digit_harmless; minus_sign = refl; plus_sign = refl; point = refl; small = refl; capital = refl }

-- The characters that such a character isn't.
pub record Harmless (c : ℕ) : Type 0 where
  pub special : is_special narrowest c ≡ false
  pub breaks : is_break c ≡ false
  pub space : is_space c ≡ false
  pub colon : (c == 58) ≡ false
  pub gap : is_gap c ≡ false
  pub sign : is_among (codes ",?:[]{}") c ≡ false

pub no_harm : (c : ℕ) → is_harmless c ≡ true → Harmless c
no_harm c h =
    let signs = or_parts (is_special narrowest c || is_break c || is_space c || c == 58 || is_gap c) (is_among (codes ",?:[]{}") c) (not-true _ h) in
    let gaps = or_parts (is_special narrowest c || is_break c || is_space c || c == 58) (is_gap c) signs.0 in
    let colons = or_parts (is_special narrowest c || is_break c || is_space c) (c == 58) gaps.0 in
    let spaces = or_parts (is_special narrowest c || is_break c) (is_space c) colons.0 in
    let breaks = or_parts (is_special narrowest c) (is_break c) spaces.0 in
    record { special = breaks.0; breaks = breaks.1; space = spaces.1; colon = colons.1; gap = gaps.1; sign = signs.1 }

-- The characters that are special in no set of characters.
pub never_special : (charset : Charset) (c : ℕ) → is_special narrowest c ≡ false → is_special charset c ≡ false
never_special charset c h =
    let both = or_parts (not (is_printable c) || not (is_ascii c)) (c == line_separator || c == paragraph_separator) h in
    let first = or_parts (not (is_printable c)) (not (is_ascii c)) both.0 in
    or_from (not (is_printable c) || (not charset.unicode && not (is_ascii c))) (charset.breaks12 && (c == line_separator || c == paragraph_separator))
    (or_from (not (is_printable c)) (not charset.unicode && not (is_ascii c)) first.0 (and_right (not charset.unicode) (not (is_ascii c)) first.1))
    (and_right charset.breaks12 (c == line_separator || c == paragraph_separator) both.1)

-- Texts

pub unbarred : (charset : Charset) (flow : Bool) (c : ℕ) (rest : Text) → Harmless c → bars_plain charset flow c rest ≡ false
unbarred charset flow c rest h =
    or_from _ _
    (or_from _ _
    (or_from _ _ (or_from _ _ (never_special charset c h.special) h.breaks) (and_left (is_space c) (is_empty rest) h.space))
    (or_from _ _ (and_left (c == 58) (ends_word rest) h.colon) (and_left (is_gap c) (begins_with (λ d. d == 35) rest) h.gap)))
    (and_right flow (is_among (codes ",?:[]{}") c) h.sign)

pub nowhere_barred : (charset : Charset) (flow : Bool) (text : Text) → list_all is_harmless text ≡ true → somewhere (bars_plain charset flow) text ≡ false
nowhere_barred charset flow [] h = refl
nowhere_barred charset flow (c ∷ rest) h =
    let both = and_parts (is_harmless c) (list_all is_harmless rest) h in
    or_from (bars_plain charset flow c rest) (somewhere (bars_plain charset flow) rest) (unbarred charset flow c rest (no_harm c both.0))
    (nowhere_barred charset flow rest both.1)

unbroken : (text : Text) → list_all is_harmless text ≡ true → list_any is_break text ≡ false
unbroken [] h = refl
unbroken (c ∷ rest) h =
    let both = and_parts (is_harmless c) (list_all is_harmless rest) h in
    or_from (is_break c) (list_any is_break rest) (no_harm c both.0).breaks (unbroken rest both.1)

-- Beginnings

pub no_exclamation : (c : ℕ) (rest : Text) → (c == 45 || c == 46) ≡ false → begins_like_marker (c ∷ rest) ≡ false
no_exclamation c (d ∷ e ∷ rest) h = and_left ((c == 45 || c == 46) && d == c) (e == c) (and_left (c == 45 || c == 46) (d == c) h)
no_exclamation c _ h = refl

pub no_exponent_letter_after : (c : ℕ) (rest : Text) → (c == 45) ≡ false → begins_like_marker (0x2D ∷ c ∷ rest) ≡ false
no_exponent_letter_after c [] h = refl
no_exponent_letter_after c (d ∷ rest) h = and_left (c == 45) (d == 45) h

pub begins_as_plain : (negative : Bool) (c : ℕ) (rest : Text) → is_decimal c ≡ true → begins_unlike_plain (minus negative ++ (c ∷ rest)) ≡ false
begins_as_plain true c rest digit =
    or_from (begins_like_marker (0x2D ∷ c ∷ rest) || false) (is_gap c)
    (or_from (begins_like_marker (0x2D ∷ c ∷ rest)) false (no_exponent_letter_after c rest (digit_unlike c 45 refl digit)) refl)
    (no_harm c (digit_harmless c digit)).gap
begins_as_plain false c rest digit =
    let alone =
    or_parts (is_space c || (c == 45 || c == 46) || is_indicator c) (is_among (codes "?:-") c) (not-true _ (digits_pass begins_plain refl c digit)) in
    let indicators = or_parts (is_space c || (c == 45 || c == 46)) (is_indicator c) alone.0 in
    let marks = or_parts (is_space c) (c == 45 || c == 46) indicators.0 in
    or_from (is_space c || begins_like_marker (c ∷ rest) || is_indicator c) (is_among (codes "?:-") c && ends_word rest)
    (or_from (is_space c || begins_like_marker (c ∷ rest)) (is_indicator c)
    (or_from (is_space c) (begins_like_marker (c ∷ rest)) marks.0 (no_exclamation c rest marks.1)) indicators.1)
    (and_left (is_among (codes "?:-") c) (ends_word rest) alone.1)

-- A text that begins with digits, after a minus or none, isn't empty and begins as plain text may.
begins_digits : (negative : Bool) (whole rest : Text) → are_digits 10 whole ≡ true
    → (is_empty (minus negative ++ whole ++ rest) ≡ false) × (begins_unlike_plain (minus negative ++ whole ++ rest) ≡ false)
begins_digits negative [] rest h = absurd (true≢false (sym h))
begins_digits negative (c ∷ whole) rest h = by negative
  where
    digit : is_decimal c ≡ true
    digit = (and_parts (is_decimal c) (list_all is_decimal whole) (and_parts (not (length (c ∷ whole) == 0)) (list_all is_decimal (c ∷ whole)) h).1).0

    by : (x : Bool) → (is_empty (minus x ++ (c ∷ whole) ++ rest) ≡ false) × (begins_unlike_plain (minus x ++ (c ∷ whole) ++ rest) ≡ false)
    by true = (refl, begins_as_plain true c (whole ++ rest) digit)
    by false = (refl, begins_as_plain false c (whole ++ rest) digit)

-- A text before one that has no bar to plain text.
pub harmless_before : (charset : Charset) (flow : Bool) (text rest : Text) → list_all is_harmless text ≡ true
    → somewhere (bars_plain charset flow) rest ≡ false → somewhere (bars_plain charset flow) (text ++ rest) ≡ false
harmless_before charset flow [] rest h free = free
harmless_before charset flow (c ∷ text) rest h free =
    let both = and_parts (is_harmless c) (list_all is_harmless text) h in
    or_from (bars_plain charset flow c (text ++ rest)) (somewhere (bars_plain charset flow) (text ++ rest))
    (unbarred charset flow c (text ++ rest) (no_harm c both.0))
    (harmless_before charset flow text rest both.1 free)

-- All

module _ (text : Text) (flow : Bool) (free : (charset : Charset) → somewhere (bars_plain charset flow) text ≡ false) (one_line : list_any is_break text ≡ false)
    (filled : is_empty text ≡ false) (begins : begins_unlike_plain text ≡ false) where
  allows : (charset : Charset) → allows_plain charset flow text ≡ true
  allows charset =
      and_from (not (is_empty text && flow)) (not (begins_unlike_plain text || somewhere (bars_plain charset flow) text))
      (not_from_false (is_empty text && flow) (and_left (is_empty text) flow filled))
      (not_from_false (begins_unlike_plain text || somewhere (bars_plain charset flow) text)
      (or_from (begins_unlike_plain text) (somewhere (bars_plain charset flow) text) begins (free charset)))

  fits : (charset : Charset) (tag_written plain_implicit simple_key : Bool) → (tag_written || plain_implicit) ≡ true
      → fits_plain (allowances charset text) (is_empty text) tag_written plain_implicit flow simple_key ≡ true
  fits charset tag_written plain_implicit simple_key returned =
      and_from (allowed flow && not (is_empty text && (flow || simple_key))) (tag_written || plain_implicit)
      (and_from (allowed flow) (not (is_empty text && (flow || simple_key))) (by flow ∙ allows charset)
      (not_from_false (is_empty text && (flow || simple_key)) (and_left (is_empty text) (flow || simple_key) filled)))
      returned
    where
      allowed : Bool → Bool
      allowed x = if x then allows_plain charset true text else allows_plain charset false text

      by : (x : Bool) → allowed x ≡ allows_plain charset x text
      by true = refl
      by false = refl

  pub stands_plain_there : (charset : Charset) (tag_written plain_implicit quoted_implicit simple_key : Bool) → (tag_written || plain_implicit) ≡ true
      → (chosen (allowances charset text) plain (is_empty text) tag_written plain_implicit quoted_implicit flow simple_key false).style ≡ plain
  stands_plain_there charset tag_written plain_implicit quoted_implicit simple_key returned =
      let allowed = allowances charset text in
      let fit = fits_plain allowed (is_empty text) tag_written plain_implicit flow simple_key in
      let block = allowed.block_allowed && not flow && not simple_key in
      ap (λ double. fitting_style allowed fit block (requested_style double plain)) (and_right simple_key (list_any is_break text) one_line)
      ∙ ap (λ x. if x then plain else quoted_style allowed) (fits charset tag_written plain_implicit simple_key returned)

-- a text without such characters, in block and in flow
pub stands_plain : (text : Text) → list_all is_harmless text ≡ true → is_empty text ≡ false → begins_unlike_plain text ≡ false
    → (charset : Charset) (tag_written plain_implicit quoted_implicit flow simple_key : Bool) → (tag_written || plain_implicit) ≡ true
    → (chosen (allowances charset text) plain (is_empty text) tag_written plain_implicit quoted_implicit flow simple_key false).style ≡ plain
stands_plain text harmless filled begins charset tag_written plain_implicit quoted_implicit flow simple_key returned =
    stands_plain_there text flow (λ charset. nowhere_barred charset flow text harmless) (unbroken text harmless) filled begins
    charset tag_written plain_implicit quoted_implicit simple_key returned

-- a number is written plain, and both schemas read it
pub written_numbers : WrittenNumbersAreRead
written_numbers number charset tag_written plain_implicit quoted_implicit flow simple_key valid returned =
    let harmless = spelling_passes is_harmless harmless_passes number valid in
    let first =
    begins_digits number.negative number.whole
    (if is_json_integer number then [] else codes "." ++ fraction_or_default (codes "0") number ++ exponent_spelled number.exponent)
    (whole_digits number valid) in
    let read = numbers_are_read number valid in
    (stands_plain (yaml_number number) harmless first.0 first.1 charset tag_written plain_implicit quoted_implicit flow simple_key returned, read.0, read.1)
