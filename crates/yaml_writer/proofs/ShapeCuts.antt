-- How the code cuts a number: at its point and at its exponent, as the shapes are cut; and by bytes as by characters.
use Rattle.yaml_writer.proofs.Common.{ℕ, if◌then◌else◌, ◌==◌, is_some, option_map, Option, None, Some, chars, Bool, false, not, true, ◌&&◌}
use Rattle.yaml_writer.proofs.Common.{◌||◌, List, [], ◌++◌, ◌∷◌, refl, ◌≡◌, eqb-true, true≢false, ap, sym, ◌∙◌, and_parts, and_from, or_from}
use Rattle.yaml_writer.proofs.Common.{not_from_false, list_all-append, list_all, encodes-chars, IsUtf8, Text, JsonExponent, is_decimal}
use Rattle.yaml_writer.proofs.Common.{first_meets, are_digits, digit_unlike, and_left, option_or, int_tag, float_tag}
use Rattle.yaml_base.proofs.Common.{All, ◌⊎◌, inl, inr, or_cases, or_left, or_right, onto_first, slice_split, is_point, is_exponent_letter, is_plus_or_minus}
use Rattle.yaml_base.proofs.Common.{past_sign, chars-IsAscii}
use Rattle.std.proofs.lemmas.{List.Splits.slice_split_none, List.Splits.slice_split_at, Str.encodes-IsAscii}
use Rattle.yaml_base.proofs.{AllPass.all_pass, AllPass.uncut_by, AsciiWords.ascii_of, AsciiWords.is_ascii_text}
use Rattle.yaml_writer.proofs.PartLemmas.{lacks, cut_none, cut_found, cut_joins, Joins, first_unlike}
use Rattle.yaml_writer.proofs.PlainShapes.{Cut, uncut, cut, cut_of, some_part, mantissa_parts, Shaped, integer, based, float, shaped_ascii, all_digits}
use Rattle.yaml_writer.specs.NumberParts.{cut_at_first, sign_of, around, exponent_cut}
use Rattle.yaml_writer.specs.PlainTags.{are_integer_digits, is_hexadecimal, is_pointed, is_signed, is_signed_exponent, is_float_cut, is_plain_integer}
use Rattle.yaml_writer.specs.PlainTags.{is_plain_float, plain_number_tag}
use Rattle.std.proofs.Common.{◌≢◌}
use Rattle.yaml_base.specs.Options.{some_if}

-- ---- at a sign

-- the parts, by the first cut
abbrev cut_then_split : ℕ → Option (Text × Text) → Text → List Text
cut_then_split sign None text = text ∷ []
cut_then_split sign (Some parts) text = parts.0 ∷ slice_split (λ c. c == sign) parts.1

pub split_by_cut : (sign : ℕ) (text : Text) → slice_split (λ c. c == sign) text ≡ cut_then_split sign (cut_at_first sign text) text
split_by_cut sign [] = refl
split_by_cut sign (c ∷ rest) = by (c == sign) (cut_at_first sign rest) (split_by_cut sign rest)
  where
    by : (x : Bool) (o : Option (Text × Text)) → slice_split (λ c. c == sign) rest ≡ cut_then_split sign o rest
        → (if x then [] ∷ slice_split (λ c. c == sign) rest else onto_first c (slice_split (λ c. c == sign) rest))
        ≡ cut_then_split sign (if x then Some ([], rest) else option_map (λ parts. (c ∷ parts.0, parts.1)) o) (c ∷ rest)
    by true o later = refl
    by false None later = ap (onto_first c) later
    by false (Some parts) later = ap (onto_first c) later

-- ---- at a point

-- a text without a point
pub no_point_cut : (text : Text) → cut_at_first 0x2E text ≡ None → is_pointed (slice_split is_point text) ≡ false
no_point_cut text none = ap is_pointed (split_by_cut 0x2E text ∙ ap (λ o. cut_then_split 0x2E o text) none)

-- If more points follow, not all is digits.
pub point_cut : (text whole fraction : Text) → cut_at_first 0x2E text ≡ Some (whole, fraction)
    → is_pointed (slice_split is_point text) ≡ are_digits 10 (whole ++ fraction)
point_cut text whole fraction found =
    ap is_pointed (split_by_cut 0x2E text ∙ ap (λ o. cut_then_split 0x2E o text) found) ∙ by (slice_split is_point fraction) refl
  where
    none : (parts : List Text) → parts ≡ [] → slice_split is_point fraction ≡ parts → is_pointed (whole ∷ parts) ≡ are_digits 10 (whole ++ fraction)
    none parts empty is = absurd (some_part is_point fraction (is ∙ empty))

    one : (part : Text) → Cut is_point fraction part [] → is_pointed (whole ∷ part ∷ []) ≡ are_digits 10 (whole ++ fraction)
    one part (uncut is end) = ap (λ t. are_digits 10 (whole ++ t)) (sym is)
    one part (cut c more is at end) = absurd (some_part is_point more end)

    more_points : (a : Text) (others : List Text) → ((others ≡ []) → ⊥) → Cut is_point fraction a others → are_digits 10 (whole ++ fraction) ≡ false
    more_points a others some (uncut is end) = absurd (some end)
    more_points a others some (cut c more is at end) = not_all (are_digits 10 (whole ++ fraction)) refl
      where
        point : is_decimal c ≡ false
        point = ap is_decimal (eqb-true c 0x2E at)

        all : are_digits 10 (whole ++ fraction) ≡ true → is_decimal c ≡ true
        all h =
            let digits = (and_parts (list_all is_decimal whole) (list_all is_decimal fraction)
            (sym (list_all-append is_decimal whole fraction) ∙ all_digits 10 (whole ++ fraction) h)).1 in
            let behind = (and_parts (list_all is_decimal a) (list_all is_decimal (c ∷ more))
            (sym (list_all-append is_decimal a (c ∷ more)) ∙ ap (list_all is_decimal) (sym is) ∙ digits)).1 in
            (and_parts (is_decimal c) (list_all is_decimal more) behind).0

        not_all : (x : Bool) → are_digits 10 (whole ++ fraction) ≡ x → are_digits 10 (whole ++ fraction) ≡ false
        not_all false e = e
        not_all true e = absurd (true≢false (sym (all e) ∙ point))

    by : (parts : List Text) → slice_split is_point fraction ≡ parts → is_pointed (whole ∷ parts) ≡ are_digits 10 (whole ++ fraction)
    by [] is = none [] refl is
    by (part ∷ []) is = one part (cut_of is_point fraction part [] is)
    by (a ∷ b ∷ rest) is = sym (more_points a (b ∷ rest) some (cut_of is_point fraction a (b ∷ rest) is))
      where
        some : (b ∷ rest) ≡ [] → ⊥
        some e = cc

-- ---- at an exponent

-- a character of floats without their exponent's letter
abbrev in_mantissa : ℕ → Bool
in_mantissa c = is_decimal c || is_plus_or_minus c || is_point c

mantissa_unlike : (test : ℕ → Bool) → ((c : ℕ) → is_decimal c ≡ true → test c ≡ false) → test 0x2B ≡ false → test 0x2D ≡ false → test 0x2E ≡ false
    → (c : ℕ) → in_mantissa c ≡ true → test c ≡ false
mantissa_unlike test digit plus hyphen point c h = by (or_cases (is_decimal c || is_plus_or_minus c) (is_point c) h)
  where
    same : (n : ℕ) → test n ≡ false → (c == n) ≡ true → test c ≡ false
    same n other e = ap test (eqb-true c n e) ∙ other

    sign : ((c == 0x2B) ≡ true) ⊎ ((c == 0x2D) ≡ true) → test c ≡ false
    sign (inl e) = same 0x2B plus e
    sign (inr e) = same 0x2D hyphen e

    first : (is_decimal c ≡ true) ⊎ (is_plus_or_minus c ≡ true) → test c ≡ false
    first (inl e) = digit c e
    first (inr e) = sign (or_cases (c == 0x2B) (c == 0x2D) e)

    by : ((is_decimal c || is_plus_or_minus c) ≡ true) ⊎ (is_point c ≡ true) → test c ≡ false
    by (inl e) = first (or_cases (is_decimal c) (is_plus_or_minus c) e)
    by (inr e) = same 0x2E point e

mantissa_lacks : (letter : ℕ) → is_decimal letter ≡ false → (0x2B == letter) ≡ false → (0x2D == letter) ≡ false → (0x2E == letter) ≡ false → (text : Text)
    → list_all in_mantissa text ≡ true → lacks letter text ≡ true
mantissa_lacks letter other plus hyphen point text h =
    all_pass in_mantissa (λ c. not (c == letter))
    (λ c e. not_from_false (c == letter) (mantissa_unlike (λ c. c == letter) (λ c digit. digit_unlike c letter other digit) plus hyphen point c e)) text h

mantissa_uncut : (text : Text) → list_all in_mantissa text ≡ true → All (λ c. is_exponent_letter c ≡ false) text
mantissa_uncut text h =
    uncut_by in_mantissa is_exponent_letter
    (λ c e. mantissa_unlike is_exponent_letter
    (λ c digit. or_from (c == 0x65) (c == 0x45) (digit_unlike c 0x65 refl digit) (digit_unlike c 0x45 refl digit)) refl refl refl c e) text h

digits_within : (digits : Text) → list_all is_decimal digits ≡ true → list_all in_mantissa digits ≡ true
digits_within digits h = all_pass is_decimal in_mantissa (λ c e. or_left (is_decimal c || is_plus_or_minus c) _ (or_left (is_decimal c) _ e)) digits h

pointed_within : (text : Text) → is_pointed (slice_split is_point text) ≡ true → list_all in_mantissa text ≡ true
pointed_within text h =
    let parts = mantissa_parts text h in
    let both = and_parts (list_all is_decimal parts.whole) (list_all is_decimal parts.fraction)
    (sym (list_all-append is_decimal parts.whole parts.fraction) ∙ all_digits 10 (parts.whole ++ parts.fraction) parts.digits) in
    ap (list_all in_mantissa) parts.text_is ∙ list_all-append in_mantissa parts.whole (0x2E ∷ parts.fraction)
    ∙ and_from (list_all in_mantissa parts.whole) (list_all in_mantissa (0x2E ∷ parts.fraction)) (digits_within parts.whole both.0)
    (digits_within parts.fraction both.1)

signed_within : (text : Text) → is_signed text ≡ true → list_all in_mantissa text ≡ true
signed_within [] h = absurd (true≢false (sym h))
signed_within (c ∷ rest) h =
    let both = and_parts (is_plus_or_minus c) (are_digits 10 (past_sign (c ∷ rest))) h in
    let digits = sym (ap (λ x. are_digits 10 (if x then rest else c ∷ rest)) both.0) ∙ both.1 in
    and_from (in_mantissa c) (list_all in_mantissa rest) (or_left (is_decimal c || is_plus_or_minus c) _ (or_right (is_decimal c) _ both.0))
    (digits_within rest (all_digits 10 rest digits))

-- A sign comes first.
sign_there : (text : Text) → is_some (sign_of text) ≡ first_meets is_plus_or_minus text
sign_there [] = refl
sign_there (c ∷ rest) = by (c == 0x2D) (c == 0x2B)
  where
    by : (hyphen plus : Bool) → is_some (if hyphen then Some true else (if plus then Some false else None)) ≡ (plus || hyphen)
    by true true = refl
    by true false = refl
    by false true = refl
    by false false = refl

-- a mantissa and an exponent that are well formed
abbrev pub well_cut : Text × Option JsonExponent → Bool
well_cut parts = is_pointed (slice_split is_point parts.0) && is_signed_exponent parts.1

abbrev split_float : Text → Bool
split_float text = is_float_cut (slice_split is_exponent_letter text)

-- cut at a letter
letter_split : (letter : ℕ) (text mantissa exponent : Text) → text ≡ mantissa ++ (letter ∷ exponent) → is_exponent_letter letter ≡ true
    → is_pointed (slice_split is_point mantissa) ≡ true → (is_some (sign_of exponent) && are_digits 10 (past_sign exponent)) ≡ true → split_float text ≡ true
letter_split letter text mantissa exponent is mark pointed has =
    let signed = ap (λ x. x && are_digits 10 (past_sign exponent)) (sym (sign_there exponent)) ∙ has in
    ap is_float_cut
    (ap (slice_split is_exponent_letter) is
    ∙ slice_split_at is_exponent_letter mantissa letter exponent (mantissa_uncut mantissa (pointed_within mantissa pointed)) mark
    ∙ ap (λ parts. mantissa ∷ parts) (slice_split_none is_exponent_letter exponent (mantissa_uncut exponent (signed_within exponent signed))))
    ∙ and_from (is_pointed (slice_split is_point mantissa)) (is_signed exponent) pointed signed

cut_split : (text : Text) → well_cut (exponent_cut text) ≡ true → split_float text ≡ true
cut_split text h = by (cut_at_first 0x65 text) (cut_at_first 0x45 text) (cut_joins 0x65 text) (cut_joins 0x45 text) h
  where
    by : (small capital : Option (Text × Text)) → Joins 0x65 text small → Joins 0x45 text capital
        → well_cut (around false small (around true capital (text, None))) ≡ true → split_float text ≡ true
    by (Some parts) capital is other h =
        let both = and_parts (is_pointed (slice_split is_point parts.0)) (is_some (sign_of parts.1) && are_digits 10 (past_sign parts.1)) h in
        letter_split 0x65 text parts.0 parts.1 is refl both.0 both.1
    by None (Some parts) other is h =
        let both = and_parts (is_pointed (slice_split is_point parts.0)) (is_some (sign_of parts.1) && are_digits 10 (past_sign parts.1)) h in
        letter_split 0x45 text parts.0 parts.1 is refl both.0 both.1
    by None None one two h =
        let pointed = (and_parts (is_pointed (slice_split is_point text)) true h).0 in
        ap is_float_cut (slice_split_none is_exponent_letter text (mantissa_uncut text (pointed_within text pointed))) ∙ pointed

split_cut : (text : Text) → split_float text ≡ true → well_cut (exponent_cut text) ≡ true
split_cut text h = by (slice_split is_exponent_letter text) refl h
  where
    lacks_small : (part : Text) → list_all in_mantissa part ≡ true → lacks 0x65 part ≡ true
    lacks_small part within = mantissa_lacks 0x65 refl refl refl refl part within

    lacks_capital : (part : Text) → list_all in_mantissa part ≡ true → lacks 0x45 part ≡ true
    lacks_capital part within = mantissa_lacks 0x45 refl refl refl refl part within

    alone : (part : Text) → is_pointed (slice_split is_point part) ≡ true → Cut is_exponent_letter text part [] → well_cut (exponent_cut text) ≡ true
    alone part pointed (cut c more is at end) = absurd (some_part is_exponent_letter more end)
    alone part pointed (uncut is end) =
        let within = pointed_within part pointed in
        ap (λ t. well_cut (exponent_cut t)) is
        ∙ ap (λ o. well_cut (around false o (around true (cut_at_first 0x45 part) (part, None)))) (cut_none 0x65 part (lacks_small part within))
        ∙ ap (λ o. well_cut (around true o (part, None))) (cut_none 0x45 part (lacks_capital part within))
        ∙ and_from (is_pointed (slice_split is_point part)) true pointed refl

    at_small : (part exponent : Text) → is_pointed (slice_split is_point part) ≡ true → is_signed exponent ≡ true
        → well_cut (exponent_cut (part ++ (0x65 ∷ exponent))) ≡ true
    at_small part exponent pointed signed =
        ap (λ o. well_cut (around false o (around true (cut_at_first 0x45 (part ++ (0x65 ∷ exponent))) (part ++ (0x65 ∷ exponent), None))))
        (cut_found 0x65 part exponent (lacks_small part (pointed_within part pointed)))
        ∙ and_from (is_pointed (slice_split is_point part)) _ pointed (ap (λ x. x && are_digits 10 (past_sign exponent)) (sign_there exponent) ∙ signed)

    at_capital : (part exponent : Text) → is_pointed (slice_split is_point part) ≡ true → is_signed exponent ≡ true
        → well_cut (exponent_cut (part ++ (0x45 ∷ exponent))) ≡ true
    at_capital part exponent pointed signed =
        ap (λ o. well_cut (around false o (around true (cut_at_first 0x45 (part ++ (0x45 ∷ exponent))) (part ++ (0x45 ∷ exponent), None))))
        (cut_none 0x65 (part ++ (0x45 ∷ exponent))
        (list_all-append (λ c. not (c == 0x65)) part (0x45 ∷ exponent)
        ∙ and_from (lacks 0x65 part) (lacks 0x65 (0x45 ∷ exponent)) (lacks_small part (pointed_within part pointed))
        (lacks_small exponent (signed_within exponent signed))))
        ∙ ap (λ o. well_cut (around true o (part ++ (0x45 ∷ exponent), None)))
        (cut_found 0x45 part exponent (lacks_capital part (pointed_within part pointed)))
        ∙ and_from (is_pointed (slice_split is_point part)) _ pointed (ap (λ x. x && are_digits 10 (past_sign exponent)) (sign_there exponent) ∙ signed)

    at_letter : (c : ℕ) (part exponent : Text) → ((c == 0x65) ≡ true) ⊎ ((c == 0x45) ≡ true) → is_pointed (slice_split is_point part) ≡ true
        → is_signed exponent ≡ true → well_cut (exponent_cut (part ++ (c ∷ exponent))) ≡ true
    at_letter c part exponent (inl e) pointed signed =
        ap (λ c. well_cut (exponent_cut (part ++ (c ∷ exponent)))) (eqb-true c 0x65 e) ∙ at_small part exponent pointed signed
    at_letter c part exponent (inr e) pointed signed =
        ap (λ c. well_cut (exponent_cut (part ++ (c ∷ exponent)))) (eqb-true c 0x45 e) ∙ at_capital part exponent pointed signed

    last : (c : ℕ) (part more exponent : Text) → text ≡ part ++ (c ∷ more) → is_exponent_letter c ≡ true → is_pointed (slice_split is_point part) ≡ true
        → is_signed exponent ≡ true → Cut is_exponent_letter more exponent [] → well_cut (exponent_cut text) ≡ true
    last c part more exponent is at pointed signed (cut d later same on end) = absurd (some_part is_exponent_letter later end)
    last c part more exponent is at pointed signed (uncut same end) =
        ap (λ t. well_cut (exponent_cut t)) (is ∙ ap (λ t. part ++ (c ∷ t)) same)
        ∙ at_letter c part exponent (or_cases (c == 0x65) (c == 0x45) at) pointed signed

    two : (part exponent : Text) → is_pointed (slice_split is_point part) ≡ true → is_signed exponent ≡ true
        → Cut is_exponent_letter text part (exponent ∷ []) → well_cut (exponent_cut text) ≡ true
    two part exponent pointed signed (uncut is end) = absurd (none end)
      where
        none : (exponent ∷ []) ≡ [] → ⊥
        none e = cc
    two part exponent pointed signed (cut c more is at others) =
        last c part more exponent is at pointed signed (cut_of is_exponent_letter more exponent [] others)

    by : (parts : List Text) → slice_split is_exponent_letter text ≡ parts → is_float_cut parts ≡ true → well_cut (exponent_cut text) ≡ true
    by (part ∷ []) is h = alone part h (cut_of is_exponent_letter text part [] is)
    by (part ∷ exponent ∷ []) is h =
        let both = and_parts (is_pointed (slice_split is_point part)) (is_signed exponent) h in
        two part exponent both.0 both.1 (cut_of is_exponent_letter text part (exponent ∷ []) is)
    by _ is h = absurd (true≢false (sym h))

-- two tests that imply each other
same_test : (x y : Bool) → (x ≡ true → y ≡ true) → (y ≡ true → x ≡ true) → x ≡ y
same_test true y there back = sym (there refl)
same_test false true there back = back refl
same_test false false there back = refl

pub float_by_cut : (text : Text) → well_cut (exponent_cut text) ≡ is_float_cut (slice_split is_exponent_letter text)
float_by_cut text = same_test (well_cut (exponent_cut text)) (split_float text) (cut_split text) (split_cut text)

-- ---- by bytes and by characters

by_chars : (shape : Text → Bool) → ((text : Text) → shape text ≡ true → is_ascii_text text ≡ true) → (bytes : List ℕ) → IsUtf8 bytes
    → shape bytes ≡ shape (chars bytes)
by_chars shape ascii bytes utf8 = same_test (shape bytes) (shape (chars bytes)) there back
  where
    there : shape bytes ≡ true → shape (chars bytes) ≡ true
    there h = ap shape (chars-IsAscii bytes (ascii_of bytes (ascii bytes h))) ∙ h

    back : shape (chars bytes) ≡ true → shape bytes ≡ true
    back h = ap shape (sym (encodes-chars bytes utf8) ∙ encodes-IsAscii (chars bytes) (ascii_of (chars bytes) (ascii (chars bytes) h))) ∙ h

pub integer_by_chars : (bytes : List ℕ) → IsUtf8 bytes → is_plain_integer bytes ≡ is_plain_integer (chars bytes)
integer_by_chars = by_chars is_plain_integer (λ text h. shaped_ascii text (by text (or_cases (are_integer_digits (past_sign text)) (is_hexadecimal text) h)))
  where
    by : (text : Text) → (are_integer_digits (past_sign text) ≡ true) ⊎ (is_hexadecimal text ≡ true) → Shaped text
    by text (inl e) = integer e
    by text (inr e) = based e

pub float_by_chars : (bytes : List ℕ) → IsUtf8 bytes → is_plain_float bytes ≡ is_plain_float (chars bytes)
float_by_chars = by_chars is_plain_float (λ text h. shaped_ascii text (float h))

pub number_tag_by_chars : (bytes : List ℕ) (whole pointed : Bool) → IsUtf8 bytes → is_plain_integer bytes ≡ whole → is_plain_float bytes ≡ pointed
    → plain_number_tag (chars bytes) ≡ option_or (some_if whole int_tag) (some_if pointed float_tag)
number_tag_by_chars bytes whole pointed utf8 h g =
    ap (λ x. option_or (some_if x int_tag) (some_if (is_plain_float (chars bytes)) float_tag)) (sym (integer_by_chars bytes utf8) ∙ h)
    ∙ ap (λ x. option_or (some_if whole int_tag) (some_if x float_tag)) (sym (float_by_chars bytes utf8) ∙ g)

-- ---- after `0` and `x`

pub no_zero_begins : (text : Text) → ((rest : Text) → text ≢ 0x30 ∷ rest) → is_hexadecimal text ≡ false
no_zero_begins (c ∷ d ∷ rest) h = and_left (c == 0x30 && d == 0x78) (are_digits 16 rest) (and_left (c == 0x30) (d == 0x78) (first_unlike 0x30 c (d ∷ rest) h))
no_zero_begins _ h = refl

pub no_letter_behind : (rest : Text) → ((more : Text) → rest ≢ 0x78 ∷ more) → is_hexadecimal (0x30 ∷ rest) ≡ false
no_letter_behind [] h = refl
no_letter_behind (d ∷ rest) h = and_left (d == 0x78) (are_digits 16 rest) (first_unlike 0x78 d rest h)
