-- The canonical reader finds a text in its bytes.
use Rattle.yaml_emitter.proofs.Common.{ℕ, ◌%◌, ◌+◌, ◌-◌, ◌/◌, ◌<◌, ◌≤◌, ◌==◌, option_map, option_and_then, None, Some, nat_le, nat_lt, Bool, false, true}
use Rattle.yaml_emitter.proofs.Common.{◌&&◌, List, [], ◌++◌, ◌∷◌, refl, ◌≡◌, le-ltb, inl, inr, ap, ◌∙◌, arith, and_parts, nat_tests, list_all-append}
use Rattle.yaml_emitter.proofs.Common.{list_all, all_scalars, Text, Encoding, utf8, utf16_little, utf16_big}
use Rattle.yaml_base.proofs.Common.{◌*◌, le-leb, lt-ltb, chars-encodes, scalar_cases, scalars, characters_read}
use Rattle.std.{proofs.Common.⊎_elim, proofs.lemmas.Bool.lt-leb, proofs.lemmas.Bool.cases_lt, proofs.lemmas.Str.is_utf8-from_IsUtf8, specs.Char.IsScalar}
use Rattle.std.{specs.Char.Utf16.is_high_surrogate, specs.Char.Utf16.is_low_surrogate, specs.Str.is_utf8}
use lib.Utf8.{encode, encodes, scalar}
use Rattle.yaml_base.proofs.Decoding.{units_of, text_bytes-big, text_bytes-little, text_bytes-utf8}
use Rattle.yaml_base.specs.Encoding.{utf16_units, upper_first, lower_first}
use Rattle.yaml_base.specs.reading.ReadBytes.{units_read, utf16_read, utf8_read}
use Rattle.yaml_base.specs.Encoding as spec

-- UTF-8 has no byte of a byte order mark of UTF-16
abbrev below : List ℕ → Bool
below bytes = list_all (λ b. nat_lt b 0xF8) bytes

encode_below : (c : ℕ) → c < 0x110000 → below (encode c) ≡ true
unfolding encode
encode_below c h = grind (arith, nat_tests)

scalar_below : (c : ℕ) → scalar c ≡ true → c < 0x110000
scalar_below c e = ⊎_elim (λ h. omega arith) (λ h. omega arith) (scalar_cases c e)

encodes_below : (text : Text) → scalars text ≡ true → below (encodes text) ≡ true
encodes_below [] h = refl
encodes_below (c ∷ text) h =
    let both = and_parts (scalar c) (scalars text) h in
    list_all-append (λ b. nat_lt b 0xF8) (encode c) (encodes text)
    ∙ (rw (encode_below c (scalar_below c both.0)) (encodes_below text both.1))

no_exclamation : (a : ℕ) → nat_lt a 0xF8 ≡ true → ((a == 0xFE) ≡ false) × ((a == 0xFF) ≡ false)
no_exclamation a h = (grind (arith, nat_tests), grind (arith, nat_tests))

as_utf8 : (bytes : List ℕ) → below bytes ≡ true → characters_read bytes ≡ utf8_read bytes
as_utf8 (a ∷ b ∷ rest) h =
    let no = no_exclamation a (and_parts (nat_lt a 0xF8) (below (b ∷ rest)) h).0 in
    rw (no.0, no.1) refl
as_utf8 _ h = refl

utf8_back : (text : Text) → scalars text ≡ true → utf8_read (encodes text) ≡ Some text
utf8_back text h =
    let whole : is_utf8 (encodes text) ≡ true = is_utf8-from_IsUtf8 _ (text, (h, refl)) in
    rw (whole, chars-encodes text h) refl

units_back_big : (units : List ℕ) → units_read true (upper_first units) ≡ Some units
units_back_big [] = refl
units_back_big (u ∷ rest) =
    let e : u / 0x100 * 0x100 + u % 0x100 ≡ u = omega arith in
    rw (units_back_big rest, e) refl

units_back_little : (units : List ℕ) → units_read false (lower_first units) ≡ Some units
units_back_little [] = refl
units_back_little (u ∷ rest) =
    let e : u / 0x100 * 0x100 + u % 0x100 ≡ u = omega arith in
    rw (units_back_little rest, e) refl

lone_high : (c : ℕ) → IsScalar c → is_high_surrogate c ≡ false
lone_high c s =
    elim (scalar_cases c s) as (λ _. (nat_le 0xD800 c && nat_lt c 0xDC00) ≡ false) [
      | inl low ↦ rw (lt-leb 0xD800 c low)
      | inr high ↦ rw (le-leb 0xD800 c (omega arith), le-ltb c 0xDC00 (omega arith))
    ]

lone_low : (c : ℕ) → IsScalar c → is_low_surrogate c ≡ false
lone_low c s =
    elim (scalar_cases c s) as (λ _. (nat_le 0xDC00 c && nat_lt c 0xE000) ≡ false) [
      | inl low ↦ rw (lt-leb 0xDC00 c (omega arith))
      | inr high ↦ rw (le-leb 0xDC00 c (omega arith), le-ltb c 0xE000 (omega arith))
    ]

lone : (c : ℕ) (units : List ℕ) → IsScalar c → utf16_read None (c ∷ units) ≡ option_map (λ text. c ∷ text) (utf16_read None units)
lone c units s = rw (lone_high c s, lone_low c s) refl

pair : (c : ℕ) (units : List ℕ) → IsScalar c → 0x10000 ≤ c
    → utf16_read None ((0xD800 + (c - 0x10000) / 0x400) ∷ (0xDC00 + (c - 0x10000) % 0x400) ∷ units) ≡ option_map (λ text. c ∷ text) (utf16_read None units)
pair c units s above =
    let below = scalar_below c s in
    let high : is_high_surrogate (0xD800 + (c - 0x10000) / 0x400)
    ≡ true = rw (le-leb 0xD800 (0xD800 + (c - 0x10000) / 0x400) (omega arith), lt-ltb (0xD800 + (c - 0x10000) / 0x400) 0xDC00 (omega arith)) refl in
    let low : is_low_surrogate (0xDC00 + (c - 0x10000) % 0x400)
    ≡ true = rw (le-leb 0xDC00 (0xDC00 + (c - 0x10000) % 0x400) (omega arith), lt-ltb (0xDC00 + (c - 0x10000) % 0x400) 0xE000 (omega arith)) refl in
    let same : 0x10000 + (0xD800 + (c - 0x10000) / 0x400 - 0xD800) * 0x400 + (0xDC00 + (c - 0x10000) % 0x400 - 0xDC00) ≡ c = omega arith in
    rw (high, low) (ap (λ x. option_map (λ text. x ∷ text) (utf16_read None units)) same)

units_character : (c : ℕ) (units : List ℕ) → IsScalar c → utf16_read None (utf16_units c ++ units) ≡ option_map (λ text. c ∷ text) (utf16_read None units)
units_character c units s =
    elim (cases_lt c 0x10000) as (λ _. utf16_read None (utf16_units c ++ units) ≡ option_map (λ text. c ∷ text) (utf16_read None units)) [
      | inl low ↦ rw (lt-ltb c 0x10000 low) (lone c units s)
      | inr high ↦ rw (le-ltb c 0x10000 high) (pair c units s high)
    ]

units_text : (text : Text) → all_scalars text ≡ true → utf16_read None (units_of text) ≡ Some text
units_text [] s = refl
units_text (c ∷ rest) s =
    let parts = and_parts _ _ s in
    units_character c (units_of rest) parts.0 ∙ ap (option_map (λ text. c ∷ text)) (units_text rest parts.1)

-- A text's characters are read from its bytes in each encoding.
pub characters_back : (encoding : Encoding) (text : Text) → all_scalars text ≡ true → characters_read (spec.encode (Some encoding) text) ≡ Some text
characters_back utf8 text s = ap characters_read (text_bytes-utf8 text) ∙ as_utf8 (encodes text) (encodes_below text s) ∙ utf8_back text s
characters_back utf16_little text s =
    ap (λ bytes. option_and_then (utf16_read None) (units_read false bytes)) (text_bytes-little text)
    ∙ ap (option_and_then (utf16_read None)) (units_back_little (units_of text)) ∙ units_text text s
characters_back utf16_big text s =
    ap (λ bytes. option_and_then (utf16_read None) (units_read true bytes)) (text_bytes-big text)
    ∙ ap (option_and_then (utf16_read None)) (units_back_big (units_of text)) ∙ units_text text s
