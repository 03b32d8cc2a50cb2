-- A text that both schemas read as a float has the shape of one.
use Rattle.yaml_writer.proofs.Common.{ℕ, if◌then◌else◌, ◌==◌, Option, None, Some, length, Bool, false, not, true, ◌&&◌, List, [], ◌++◌, ◌∷◌, refl, ◌≡◌}
use Rattle.yaml_writer.proofs.Common.{eqb-true, true≢false, append-nil, ap, sym, ◌∙◌, and_parts, and_from, and_left, not_from_false, not-true, list_all-append}
use Rattle.yaml_writer.proofs.Common.{list_all, Text, is_decimal, first_meets, are_digits, digit_unlike, float_tag}
use Rattle.yaml_base.proofs.Common.{or_cases, ◌⊎◌, inl, inr, slice_split, bytes_eq, ℤ, pos, named, Resolved, Decimal, meant_integer, first_reading}
use Rattle.yaml_base.proofs.Common.{words_of_core, words_of_11, is_point, is_exponent_letter, is_plus_or_minus, past_sign, is_negative}
use Rattle.yaml_base.proofs.Common.{exponent_read, times_power_of_ten, scientific, core_mantissa, core_decimal, ungrouped, are_grouped, based_11, octal_11}
use Rattle.yaml_base.proofs.Common.{decimal_11, mantissa_11, exponent_11, float_11, timestamp_11, numbers_11, resolved_by_11, is_colon, are_sixtieths}
use Rattle.yaml_base.proofs.Common.{sixties_11}
use Rattle.yaml_base.proofs.Common.{fine_sixties_11, more_points_11, points_11}
use Rattle.std.proofs.lemmas.List.Splits.{slice_split_none}
use Rattle.yaml_base.proofs.{AllPass.all_pass, AllPass.uncut_by, no_numbers.NoNumbers.off}
use Rattle.yaml_base.specs.{Options.some_if, Words.is_word, values.CanonicalTags.canonical_tag, values.Resolved.words_of_repository}
use Rattle.yaml_base.specs.{values.Resolved.meant_by_nobody}
use Rattle.yaml_base.specs.values.Resolved.{meant_timestamp}
use Rattle.yaml_base.proofs.Common.{signed, digits_value}
use Rattle.yaml_base.specs.values.SchemaOf11.{integer_of_digits}
use Rattle.yaml_writer.proofs.PlainShapes.{all_digits, cut_passes}
use Rattle.yaml_writer.specs.PlainTags.{is_pointed, is_signed, is_float_cut, is_plain_float}

-- ---- some of both

abbrev pub some : {A : Type 0} → Option A → Bool
some None = false
some (Some a) = true

pub held : {A : Type 0} (test : Bool) (a : A) → some (if test then Some a else None) ≡ true → test ≡ true
held true a h = refl
held false a h = absurd (true≢false (sym h))

times_some : (decimal : Option Decimal) (exponent : Option ℤ) → some (times_power_of_ten decimal exponent) ≡ true
    → (some decimal ≡ true) × (some exponent ≡ true)
times_some (Some decimal) (Some exponent) h = (refl, refl)
times_some _ _ h = absurd (true≢false (sym h))

-- a mantissa that both read has a point
pointed_by_both : (a b : Bool) (parts : List Text) → some (core_mantissa a parts) ≡ true → some (mantissa_11 b parts) ≡ true → is_pointed parts ≡ true
pointed_by_both a b ([] ∷ []) h g = absurd (true≢false (sym g))
pointed_by_both a b ((c ∷ whole) ∷ []) h g = absurd (true≢false (sym g))
pointed_by_both a b (whole ∷ fraction ∷ []) h g = held (are_digits 10 (whole ++ fraction)) _ h
pointed_by_both a b _ h g = absurd (true≢false (sym h))

-- an exponent that 1.1 reads has a sign and digits
signed_by_11 : (text : Text) → some (exponent_11 text) ≡ true → is_signed text ≡ true
signed_by_11 text h = by (first_meets is_plus_or_minus text) refl h
  where
    by : (x : Bool) → first_meets is_plus_or_minus text ≡ x → some (if x then exponent_read text else None) ≡ true → is_signed text ≡ true
    by true e h = and_from (first_meets is_plus_or_minus text) _ e (held (are_digits 10 (past_sign text)) _ h)
    by false e h = absurd (true≢false (sym h))

float_cut_by_both : (a b : Bool) (parts : List Text)
    → some (scientific (λ mantissa. core_mantissa a (slice_split is_point mantissa)) exponent_read parts) ≡ true
    → some (scientific (λ mantissa. mantissa_11 b (slice_split is_point mantissa)) exponent_11 parts) ≡ true → is_float_cut parts ≡ true
float_cut_by_both a b (m ∷ []) h g =
    pointed_by_both a b (slice_split is_point m) (times_some (core_mantissa a (slice_split is_point m)) (Some (pos 0)) h).0
    (times_some (mantissa_11 b (slice_split is_point m)) (Some (pos 0)) g).0
float_cut_by_both a b (m ∷ e ∷ []) h g =
    let core = times_some (core_mantissa a (slice_split is_point m)) (exponent_read e) h in
    let by_11 = times_some (mantissa_11 b (slice_split is_point m)) (exponent_11 e) g in
    and_from (is_pointed (slice_split is_point m)) (is_signed e) (pointed_by_both a b (slice_split is_point m) core.0 by_11.0) (signed_by_11 e by_11.1)
float_cut_by_both a b _ h g = absurd (true≢false (sym h))

-- ---- no colon

abbrev no_colon : ℕ → Bool
no_colon c = not (is_colon c)

digits_lack_colons : (digits : Text) → are_digits 10 digits ≡ true → list_all no_colon digits ≡ true
digits_lack_colons digits h =
    all_pass is_decimal no_colon (λ c digit. not_from_false (is_colon c) (digit_unlike c 0x3A refl digit)) digits (all_digits 10 digits h)

abbrev lack_colons : List Text → Bool
lack_colons parts = list_all (λ part. list_all no_colon part) parts

same_lacks : (n : ℕ) → no_colon n ≡ true → (c : ℕ) → (c == n) ≡ true → no_colon c ≡ true
same_lacks n h c e = ap no_colon (eqb-true c n e) ∙ h

letters_lack : (c : ℕ) → is_exponent_letter c ≡ true → no_colon c ≡ true
letters_lack c h = by (or_cases (c == 0x65) (c == 0x45) h)
  where
    by : ((c == 0x65) ≡ true) ⊎ ((c == 0x45) ≡ true) → no_colon c ≡ true
    by (inl e) = same_lacks 0x65 refl c e
    by (inr e) = same_lacks 0x45 refl c e

signs_lack : (c : ℕ) → is_plus_or_minus c ≡ true → no_colon c ≡ true
signs_lack c h = by (or_cases (c == 0x2B) (c == 0x2D) h)
  where
    by : ((c == 0x2B) ≡ true) ⊎ ((c == 0x2D) ≡ true) → no_colon c ≡ true
    by (inl e) = same_lacks 0x2B refl c e
    by (inr e) = same_lacks 0x2D refl c e

mantissa_lacks_colons : (a : Bool) (text : Text) → some (core_mantissa a (slice_split is_point text)) ≡ true → list_all no_colon text ≡ true
mantissa_lacks_colons a text h = sym (cut_passes no_colon is_point (same_lacks 0x2E refl) text) ∙ by (slice_split is_point text) h
  where
    by : (parts : List Text) → some (core_mantissa a parts) ≡ true → lack_colons parts ≡ true
    by (whole ∷ []) h =
        and_from (list_all no_colon whole) true
        (digits_lack_colons whole (sym (ap (are_digits 10) (append-nil whole)) ∙ held (are_digits 10 (whole ++ [])) _ h)) refl
    by (whole ∷ fraction ∷ []) h =
        let both = and_parts (list_all no_colon whole) (list_all no_colon fraction)
        (sym (list_all-append no_colon whole fraction) ∙ digits_lack_colons (whole ++ fraction) (held (are_digits 10 (whole ++ fraction)) _ h)) in
        and_from (list_all no_colon whole) _ both.0 (and_from (list_all no_colon fraction) true both.1 refl)
    by _ h = absurd (true≢false (sym h))

past_sign_lacks : (text : Text) → list_all no_colon (past_sign text) ≡ true → list_all no_colon text ≡ true
past_sign_lacks [] h = refl
past_sign_lacks (c ∷ rest) h = by (is_plus_or_minus c) refl h
  where
    by : (x : Bool) → is_plus_or_minus c ≡ x → list_all no_colon (if x then rest else c ∷ rest) ≡ true → list_all no_colon (c ∷ rest) ≡ true
    by true e h = and_from (no_colon c) (list_all no_colon rest) (signs_lack c e) h
    by false e h = h

decimal_lacks_colons : (a : Bool) (text : Text)
    → some (scientific (λ mantissa. core_mantissa a (slice_split is_point mantissa)) exponent_read (slice_split is_exponent_letter text)) ≡ true
    → list_all no_colon text ≡ true
decimal_lacks_colons a text h = sym (cut_passes no_colon is_exponent_letter letters_lack text) ∙ by (slice_split is_exponent_letter text) h
  where
    by : (parts : List Text) → some (scientific (λ mantissa. core_mantissa a (slice_split is_point mantissa)) exponent_read parts) ≡ true
        → lack_colons parts ≡ true
    by (m ∷ []) h =
        and_from (list_all no_colon m) true (mantissa_lacks_colons a m (times_some (core_mantissa a (slice_split is_point m)) (Some (pos 0)) h).0) refl
    by (m ∷ e ∷ []) h =
        let both = times_some (core_mantissa a (slice_split is_point m)) (exponent_read e) h in
        and_from (list_all no_colon m) _ (mantissa_lacks_colons a m both.0)
        (and_from (list_all no_colon e) true
        (past_sign_lacks e (digits_lack_colons (past_sign e) (held (are_digits 10 (past_sign e)) _ both.1))) refl)
    by _ h = absurd (true≢false (sym h))

-- so it is no number to the base of sixty
fine_without_colon : (negative : Bool) (text : Text) → list_all no_colon text ≡ true → fine_sixties_11 negative (slice_split is_point text) ≡ None
fine_without_colon negative text h = by (slice_split is_point text) (cut_passes no_colon is_point (same_lacks 0x2E refl) text ∙ h)
  where
    by : (parts : List Text) → lack_colons parts ≡ true → fine_sixties_11 negative parts ≡ None
    by (whole ∷ fraction ∷ []) h =
        off (are_sixtieths is_decimal (slice_split is_colon whole) && are_grouped 10 fraction) _
        (and_left (are_sixtieths is_decimal (slice_split is_colon whole)) (are_grouped 10 fraction)
        (ap (are_sixtieths is_decimal)
        (slice_split_none is_colon whole
        (uncut_by no_colon is_colon (λ c e. not-true (is_colon c) e) whole (and_parts (list_all no_colon whole) _ h).0))))
    by _ h = refl

-- ---- readings that are no float

-- a reading's tag isn't that of floats
abbrev unlike : Option Resolved → Bool
unlike None = true
unlike (Some meant) = not (bytes_eq (canonical_tag meant) float_tag)

unlike_first : (readings : List (Option Resolved)) → list_all unlike readings ≡ true → bytes_eq (canonical_tag (first_reading readings)) float_tag ≡ false
unlike_first [] h = refl
unlike_first (None ∷ rest) h = unlike_first rest h
unlike_first (Some meant ∷ rest) h = not-true _ (and_parts (not (bytes_eq (canonical_tag meant) float_tag)) (list_all unlike rest) h).0

if_unlike : (test : Bool) (meant : Resolved) → unlike (Some meant) ≡ true → unlike (some_if test meant) ≡ true
if_unlike true meant h = h
if_unlike false meant h = refl

digits_unlike : (negative : Bool) (base : ℕ) (digits : Text) → unlike (Some (integer_of_digits negative base digits)) ≡ true
digits_unlike negative base digits = by (length digits == 0)
  where
    by : (x : Bool) → unlike (Some (if x then meant_by_nobody else meant_integer (signed negative (digits_value base digits)))) ≡ true
    by true = refl
    by false = refl

based_unlike : (negative : Bool) (letter base : ℕ) (text : Text) → unlike (based_11 negative letter base text) ≡ true
based_unlike negative letter base (a ∷ b ∷ c ∷ rest) =
    if_unlike (a == 0x30 && b == letter && are_grouped base (c ∷ rest)) _ (digits_unlike negative base (ungrouped (c ∷ rest)))
based_unlike negative letter base _ = refl

octal_unlike : (negative : Bool) (text : Text) → unlike (octal_11 negative text) ≡ true
octal_unlike negative (a ∷ b ∷ rest) = if_unlike (a == 0x30 && are_grouped 8 (b ∷ rest)) _ refl
octal_unlike negative _ = refl

more_points_unlike : (parts : List Text) → unlike (more_points_11 parts) ≡ true
more_points_unlike (m ∷ []) = if_unlike _ meant_by_nobody refl
more_points_unlike (m ∷ e ∷ []) = if_unlike _ meant_by_nobody refl
more_points_unlike _ = refl

-- words that 1.1 has besides
named_unlike_float : (table : List (Text × Resolved)) (text : Text) → list_all (λ entry. unlike (Some entry.1)) table ≡ true
    → unlike (named table text) ≡ true
named_unlike_float [] text h = refl
named_unlike_float (entry ∷ table) text h =
    let both = and_parts (unlike (Some entry.1)) (list_all (λ entry. unlike (Some entry.1)) table) h in
    by (is_word text entry.0) both.0 (named_unlike_float table text both.1)
  where
    by : (x : Bool) → unlike (Some entry.1) ≡ true → unlike (named table text) ≡ true → unlike (if x then Some entry.1 else named table text) ≡ true
    by true one others = one
    by false one others = others

named_behind : (table others : List (Text × Resolved)) (text : Text) → named table text ≡ None → named (table ++ others) text ≡ named others text
named_behind [] others text e = refl
named_behind (entry ∷ table) others text e = by (is_word text entry.0) e (named_behind table others text)
  where
    by : (x : Bool) → (if x then Some entry.1 else named table text) ≡ None → (named table text ≡ None → named (table ++ others) text ≡ named others text)
        → (if x then Some entry.1 else named (table ++ others) text) ≡ named others text
    by true e later = absurd (no e)
      where
        no : Some entry.1 ≡ None → ⊥
        no e = cc
    by false e later = later e

-- no word of both, and no float of both: no float by 1.1
pub no_float_by_11 : (text : Text) → named words_of_core text ≡ None → some (core_decimal text) ≡ true → is_plain_float text ≡ false
    → bytes_eq (canonical_tag (resolved_by_11 text)) float_tag ≡ false
no_float_by_11 text word decimal other =
    unlike_first (named words_of_11 text ∷ timestamp_11 text ∷ numbers_11 negative unsigned)
    (and_from (unlike (named words_of_11 text)) _
    (ap unlike (named_behind words_of_core words_of_repository text word) ∙ named_unlike_float words_of_repository text refl)
    (and_from (unlike (timestamp_11 text)) _ (if_unlike _ meant_timestamp refl)
    (and_from (unlike (float_11 negative unsigned)) _ (ap unlike no_float)
    (and_from (unlike (based_11 negative 0x62 2 unsigned)) _ (based_unlike negative 0x62 2 unsigned)
    (and_from (unlike (based_11 negative 0x78 16 unsigned)) _ (based_unlike negative 0x78 16 unsigned)
    (and_from (unlike (octal_11 negative unsigned)) _ (octal_unlike negative unsigned)
    (and_from (unlike (decimal_11 negative unsigned)) _ (if_unlike _ _ refl)
    (and_from (unlike (sixties_11 negative (slice_split is_colon unsigned))) _ (if_unlike _ _ refl)
    (and_from (unlike (fine_sixties_11 negative (slice_split is_point unsigned))) _
    (ap unlike (fine_without_colon negative unsigned (decimal_lacks_colons negative unsigned decimal)))
    (and_from (unlike (more_points_11 (slice_split is_exponent_letter unsigned))) _ (more_points_unlike (slice_split is_exponent_letter unsigned))
    (and_from (unlike (points_11 unsigned)) true (if_unlike _ meant_by_nobody refl) refl)))))))))))
  where
    negative : Bool
    negative = is_negative text

    unsigned : Text
    unsigned = past_sign text

    no_float : float_11 negative unsigned ≡ None
    no_float = by (float_11 negative unsigned) refl
      where
        by : (o : Option Resolved) → float_11 negative unsigned ≡ o → float_11 negative unsigned ≡ None
        by None e = e
        by (Some meant) e =
            absurd (true≢false (sym (float_cut_by_both negative negative (slice_split is_exponent_letter unsigned) decimal (ap some e)) ∙ other))
