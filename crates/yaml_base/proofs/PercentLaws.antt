-- Percent decoding undoes escaping; and the characters that a written text holds.
use Rattle.yaml_base.proofs.Common.{or_parts}
use Rattle.yaml_base.proofs.Common.{ℕ, ◌%◌, ◌/◌, ◌<◌, ◌==◌, Some, codes, nat_lt, length, Bool, cond, false, not, true, ◌&&◌, ◌||◌, List, [], ◌++◌, ◌∷◌, refl}
use Rattle.yaml_base.proofs.Common.{◌≡◌, eqb-true, ltb-true, ap, ◌∙◌, arith, and_parts, and_from, or_from, agree_below_at, not-true, nat_tests}
use Rattle.yaml_base.proofs.Common.{list_all-append, list_any-append, chars-encodes, length-encode, len_utf8_bounds, len_utf8, flat_map, list_all, list_any}
use Rattle.yaml_base.proofs.Common.{scalar_cases, scalars, Text, is_among, is_alpha, is_blank, is_break, hex_digit, percent_sign, is_tag_character}
use Rattle.yaml_base.proofs.Common.{byte_escaped, character_written, percent_escaped, is_suffix_character, suffix_escaped, prefix_escaped, percent_read}
use Rattle.std.{proofs.Common.⊎_elim, proofs.lemmas.Str.is_utf8-from_IsUtf8}
use lib.Utf8.{encode, encodes, scalar}
use Rattle.yaml_base.specs.reading.ReadPercent.{between_forms, digit_given, byte_given, form_bytes}
use Rattle.yaml_base.proofs.AllPass.{all_pass}

abbrev pub are_bytes : List ℕ → Bool
are_bytes bs = list_all (λ b. nat_lt b 256) bs

-- the two digits of a byte give the byte
digits_read : (b : ℕ) → b < 256 → byte_given (digit_given (hex_digit (b / 16 % 16))) (digit_given (hex_digit (b % 16))) ≡ b
digits_read b h = eqb-true _ _ (agree_below_at (λ n. byte_given (digit_given (hex_digit (n / 16 % 16))) (digit_given (hex_digit (n % 16))) == n)
    (λ n. true) 256 b refl h)

form_read : (b : ℕ) (rest : Text) → b < 256 → form_bytes between_forms (byte_escaped b ++ rest) ≡ b ∷ form_bytes between_forms rest
form_read b rest h = ap (λ x. x ∷ form_bytes between_forms rest) (digits_read b h)

forms_read : (bs : List ℕ) (rest : Text) → are_bytes bs ≡ true
    → form_bytes between_forms (flat_map byte_escaped bs ++ rest) ≡ bs ++ form_bytes between_forms rest
forms_read [] rest h = refl
forms_read (b ∷ bs) rest h = grind (arith, and_parts, and_from, or_parts, or_from, form_read, ltb-true, forms_read bs rest)

-- UTF-8 is bytes
pub encode_is_bytes : (c : ℕ) → c < 0x110000 → are_bytes (encode c) ≡ true
unfolding encode
encode_is_bytes c h = grind (arith, nat_tests)

scalar_below : (c : ℕ) → scalar c ≡ true → c < 0x110000
scalar_below c e = ⊎_elim (λ h. omega arith) (λ h. omega arith) (scalar_cases c e)

tag_character_is_no_percent : (c : ℕ) → is_tag_character c ≡ true → (c == percent_sign) ≡ false
tag_character_is_no_percent c h = grind (arith, nat_tests)

-- a character that is written as itself only if it is no `%` reads as its bytes
character_read : (stands : Bool) (c : ℕ) (rest : Text) → (stands ≡ true → (c == percent_sign) ≡ false) → scalar c ≡ true
    → form_bytes between_forms (character_written stands c ++ rest) ≡ encode c ++ form_bytes between_forms rest
character_read true c rest k h = rw (k refl) refl
character_read false c rest k h = forms_read (encode c) rest (encode_is_bytes c (scalar_below c h))

-- so does a text, whichever of its characters are written as themselves
text_read_by : (stands : ℕ → Bool) → ((c : ℕ) → stands c ≡ true → (c == percent_sign) ≡ false) → (text : Text) → scalars text ≡ true
    → form_bytes between_forms (flat_map (λ c. character_written (stands c) c) text) ≡ encodes text
text_read_by stands k [] h = refl
text_read_by stands k (c ∷ text) h = grind (arith, and_parts, and_from, or_parts, or_from, character_read, text_read_by stands k text)

-- a written text reads as its bytes
pub text_read : (text : Text) → scalars text ≡ true → form_bytes between_forms (percent_escaped text) ≡ encodes text
text_read text h = text_read_by is_tag_character tag_character_is_no_percent text h

-- a character that may come after a handle may be in a tag
suffix_in_tags : (portable : Bool) (c : ℕ) → is_suffix_character portable c ≡ true → is_tag_character c ≡ true
suffix_in_tags portable c h = (and_parts (not (portable && is_among (codes ",[]") c)) (is_tag_character c) h).1

-- a text reads as its bytes after a handle
suffix_read : (portable : Bool) (text : Text) → scalars text ≡ true → form_bytes between_forms (suffix_escaped portable text) ≡ encodes text
suffix_read portable text h =
    text_read_by (is_suffix_character portable) (λ c k. tag_character_is_no_percent c (suffix_in_tags portable c k)) text h

-- the first character of a prefix is no `%`
first_is_no_percent : (portable : Bool) (c : ℕ) → ((portable && c == 0x21) || is_tag_character c) ≡ true → (c == percent_sign) ≡ false
first_is_no_percent true c h = grind (arith, nat_tests)
first_is_no_percent false c h = tag_character_is_no_percent c h

-- a prefix reads as its bytes
prefix_read : (portable : Bool) (text : Text) → scalars text ≡ true → form_bytes between_forms (prefix_escaped portable text) ≡ encodes text
prefix_read portable [] h = refl
prefix_read portable (c ∷ text) h =
    let both = and_parts _ _ h in
    character_read _ c _ (first_is_no_percent _ c) both.0 ∙ ap (λ x. encode c ++ x) (text_read text both.1)

-- a text that reads as the bytes of another is decoded as that one
decoded_by : (text written : Text) → scalars text ≡ true → form_bytes between_forms written ≡ encodes text → percent_read written ≡ Some text
decoded_by text written h e = grind (arith, is_utf8-from_IsUtf8, chars-encodes)

-- decoding undoes escaping
pub decoded_escaped : (text : Text) → scalars text ≡ true → percent_read (percent_escaped text) ≡ Some text
decoded_escaped text h = decoded_by text (percent_escaped text) h (text_read text h)

-- it does so after a handle
pub decoded_suffix : (portable : Bool) (text : Text) → scalars text ≡ true → percent_read (suffix_escaped portable text) ≡ Some text
decoded_suffix portable text h = decoded_by text (suffix_escaped portable text) h (suffix_read portable text h)

-- and in a prefix
pub decoded_prefix : (portable : Bool) (text : Text) → scalars text ≡ true → percent_read (prefix_escaped portable text) ≡ Some text
decoded_prefix portable text h = decoded_by text (prefix_escaped portable text) h (prefix_read portable text h)

-- Each character of a written text may be in a tag, or is of a percent form: no space, no break, no `!`, no `<` and no `>`.
abbrev pub stands_written : ℕ → Bool
stands_written c = is_tag_character c || c == percent_sign

digit_stands : (n : ℕ) → stands_written (hex_digit (n % 16)) ≡ true
digit_stands n = agree_below_at (λ d. stands_written (hex_digit d)) (λ d. true) 16 (n % 16) refl (omega arith)

forms_stand : (bs : List ℕ) → list_all stands_written (flat_map byte_escaped bs) ≡ true
forms_stand [] = refl
forms_stand (b ∷ bs) = rw (digit_stands (b / 16), digit_stands b, forms_stand bs) refl

pub character_stands : (kept : Bool) (c : ℕ) → (kept ≡ true → is_tag_character c ≡ true) → list_all stands_written (character_written kept c) ≡ true
character_stands true c k = rw (k refl) refl
character_stands false c k = forms_stand (encode c)

-- each character of a text that is written by a test on tags' characters may be there
text_stands : (kept : ℕ → Bool) → ((c : ℕ) → kept c ≡ true → is_tag_character c ≡ true) → (text : Text)
    → list_all stands_written (flat_map (λ c. character_written (kept c) c) text) ≡ true
text_stands kept k [] = refl
text_stands kept k (c ∷ text) = grind (arith, list_all-append, and_from, character_stands, text_stands kept k text)

-- each character of a written text may be there
pub escaped_stands : (text : Text) → list_all stands_written (percent_escaped text) ≡ true
escaped_stands text = text_stands is_tag_character (λ c h. h) text

-- so does each after a handle
pub suffix_stands : (portable : Bool) (text : Text) → list_all stands_written (suffix_escaped portable text) ≡ true
suffix_stands portable text = text_stands (is_suffix_character portable) (suffix_in_tags portable) text

-- In a prefix a `!` may come too.
abbrev pub stands_in_prefix : ℕ → Bool
stands_in_prefix c = stands_written c || c == 0x21

all_in_prefix : (text : Text) → list_all stands_written text ≡ true → list_all stands_in_prefix text ≡ true
all_in_prefix text h = all_pass stands_written stands_in_prefix (λ c e. rw e refl) text h

first_in_prefix : (kept : Bool) (c : ℕ) → (kept ≡ true → stands_in_prefix c ≡ true) → list_all stands_in_prefix (character_written kept c) ≡ true
first_in_prefix true c k = rw (k refl) refl
first_in_prefix false c k = all_in_prefix (flat_map byte_escaped (encode c)) (forms_stand (encode c))

kept_in_prefix : (portable : Bool) (c : ℕ) → ((portable && c == 0x21) || is_tag_character c) ≡ true → stands_in_prefix c ≡ true
kept_in_prefix false c h = rw h refl
kept_in_prefix true c h = grind (arith)

-- each character of a written prefix may be there
pub prefix_stands : (portable : Bool) (text : Text) → list_all stands_in_prefix (prefix_escaped portable text) ≡ true
prefix_stands portable [] = refl
prefix_stands portable (c ∷ text) =
    let kept = (portable && c == 0x21) || is_tag_character c in
    list_all-append stands_in_prefix (character_written kept c) (percent_escaped text)
    ∙ and_from _ _ (first_in_prefix kept c (kept_in_prefix portable c)) (all_in_prefix (percent_escaped text) (escaped_stands text))

-- In portable mode no flow indicator follows a handle.
abbrev is_flow_indicator : ℕ → Bool
is_flow_indicator c = is_among (codes ",[]") c

digit_is_no_flow_indicator : (n : ℕ) → is_flow_indicator (hex_digit (n % 16)) ≡ false
digit_is_no_flow_indicator n = agree_below_at (λ d. is_flow_indicator (hex_digit d)) (λ d. false) 16 (n % 16) refl (omega arith)

forms_hold_no_flow_indicator : (bs : List ℕ) → list_any is_flow_indicator (flat_map byte_escaped bs) ≡ false
forms_hold_no_flow_indicator [] = refl
forms_hold_no_flow_indicator (b ∷ bs) = rw (digit_is_no_flow_indicator (b / 16), digit_is_no_flow_indicator b, forms_hold_no_flow_indicator bs) refl

pub character_is_no_flow_indicator : (kept : Bool) (c : ℕ) → (kept ≡ true → is_flow_indicator c ≡ false)
    → list_any is_flow_indicator (character_written kept c) ≡ false
character_is_no_flow_indicator true c k = rw (k refl) refl
character_is_no_flow_indicator false c k = forms_hold_no_flow_indicator (encode c)

kept_is_no_flow_indicator : (c : ℕ) → is_suffix_character true c ≡ true → is_flow_indicator c ≡ false
kept_is_no_flow_indicator c h = not-true (is_flow_indicator c) (and_parts (not (is_flow_indicator c)) (is_tag_character c) h).0

pub portable_suffix_has_no_flow_indicator : (text : Text) → list_any (is_among (codes ",[]")) (suffix_escaped true text) ≡ false
portable_suffix_has_no_flow_indicator [] = refl
portable_suffix_has_no_flow_indicator (c ∷ text) =
    list_any-append is_flow_indicator (character_written (is_suffix_character true c) c) (suffix_escaped true text)
    ∙ or_from _ _ (character_is_no_flow_indicator (is_suffix_character true c) c (kept_is_no_flow_indicator c)) (portable_suffix_has_no_flow_indicator text)

-- no such character is a space, a break, `!`, `<` or `>`
abbrev pub separates : ℕ → Bool
separates c = is_blank c || is_break c || is_among (codes "!<>") c

pub written_never_separates : (c : ℕ) → stands_written c ≡ true → separates c ≡ false
written_never_separates c h = grind (arith, nat_tests)

pub written_is_no_exclamation : (c : ℕ) → stands_written c ≡ true → (c == 0x21) ≡ false
written_is_no_exclamation c h = grind (arith, nat_tests)

pub written_is_no_less : (c : ℕ) → stands_written c ≡ true → (c == 0x3C) ≡ false
written_is_no_less c h = grind (arith, nat_tests)

pub alpha_is_no_less : (c : ℕ) → is_alpha c ≡ true → (c == 0x3C) ≡ false
alpha_is_no_less c h = grind (arith, nat_tests)

-- a character is written in at least one
escaped_begins_by : (kept : Bool) (c : ℕ) (bs : List ℕ) (rest : Text) → length bs ≡ len_utf8 c → (d : ℕ) × (more : Text)
    × (cond kept (c ∷ []) (flat_map byte_escaped bs) ++ rest ≡ d ∷ more)
escaped_begins_by true c bs rest e = (c, rest, refl)
escaped_begins_by false c [] rest e = absurd (omega (arith, (len_utf8_bounds c).0))
escaped_begins_by false c (b ∷ bs) rest e = (percent_sign, _, refl)

pub escaped_begins : (c : ℕ) (text : Text) → (d : ℕ) × (more : Text) × (percent_escaped (c ∷ text) ≡ d ∷ more)
escaped_begins c text = escaped_begins_by (is_tag_character c) c (encode c) (percent_escaped text) (length-encode c)

pub suffix_begins : (portable : Bool) (c : ℕ) (text : Text) → (d : ℕ) × (more : Text) × (suffix_escaped portable (c ∷ text) ≡ d ∷ more)
suffix_begins portable c text =
    escaped_begins_by (is_suffix_character portable c) c (encode c) (suffix_escaped portable text) (length-encode c)

pub prefix_begins : (portable : Bool) (c : ℕ) (text : Text) → (d : ℕ) × (more : Text) × (prefix_escaped portable (c ∷ text) ≡ d ∷ more)
prefix_begins portable c text =
    escaped_begins_by ((portable && c == 0x21) || is_tag_character c) c (encode c) (percent_escaped text) (length-encode c)
