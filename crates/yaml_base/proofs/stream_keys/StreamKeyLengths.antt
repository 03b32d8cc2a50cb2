-- The text of a simple key isn't longer than a reader allows: a byte of its names, its tag and its value makes four characters at
-- most.
use Rattle.yaml_base.proofs.Common.{suc, ℕ, ◌*◌, ◌+◌, ◌≤◌, if◌then◌else◌, Option, None, Some, nat_le, length, encode_utf8, Bool, false, true, List, [], ◌++◌}
use Rattle.yaml_base.proofs.Common.{◌∷◌, refl, ◌≡◌, length-append, subst, sym, arith, nat_tests, length-encode, len_utf8_bounds, length-le-encodes, len_utf8}
use Rattle.yaml_base.proofs.Common.{flat_map, Text, hex_digits, ScalarStyle, plain, single_quoted, TagDirective, byte_count, name_count, tag_count}
use Rattle.yaml_base.proofs.Common.{is_tag_character, byte_escaped, character_written, percent_escaped, is_suffix_character, suffix_escaped, Spelling}
use Rattle.yaml_base.proofs.Common.{shorthand, verbatim, spelled, short_escapes, letter_among, escape_after_backslash, escape_text, needs_escape}
use Rattle.yaml_base.{proofs.Common.character_text, proofs.Common.quotes_doubled, proofs.stream_flow.StreamPropertyWords.lead}
use Rattle.yaml_base.{proofs.stream_keys.StreamKeyBodies.key_body, proofs.stream_nodes.StreamStands.tag_written, specs.Layout.spelling_count}

-- Bytes of characters

some_byte : (c : ℕ) → 1 ≤ length (encode_utf8 c)
some_byte c = subst (λ n. 1 ≤ n) (sym (length-encode c)) (len_utf8_bounds c).0

two_bytes : (c : ℕ) → nat_le c 0xFF ≡ false → 2 ≤ len_utf8 c
two_bytes c h = grind (arith, nat_tests, h)

four_bytes : (c : ℕ) → nat_le c 0xFFFF ≡ false → 4 ≤ len_utf8 c
four_bytes c h = grind (arith, nat_tests, h)

-- Values

-- an escape has at most four characters for each byte
number_length : (c : ℕ) (two four : Bool) → nat_le c 0xFF ≡ two → nat_le c 0xFFFF ≡ four
    → suc (length (if two then 120 ∷ hex_digits 2 c else (if four then 117 ∷ hex_digits 4 c else 85 ∷ hex_digits 8 c))) ≤ 4 * length (encode_utf8 c)
number_length c two four h k = grind (arith, nat_tests, some_byte, length-encode, two_bytes, four_bytes)

escape_length : (c : ℕ) (found : Option ℕ) → suc (length (escape_after_backslash found c)) ≤ 4 * length (encode_utf8 c)
escape_length c (Some letter) = let some = some_byte c in omega arith
escape_length c None = number_length c (nat_le c 0xFF) (nat_le c 0xFFFF) refl refl

character_length : (unicode : Bool) (c : ℕ) → length (character_text unicode c) ≤ 4 * length (encode_utf8 c)
character_length unicode c = by (needs_escape unicode c)
  where
    by : (x : Bool) → length (if x then escape_text c else c ∷ []) ≤ 4 * length (encode_utf8 c)
    by true = escape_length c (letter_among short_escapes c)
    by false = let some = some_byte c in omega arith

characters_length : (unicode : Bool) (value : Text) → length (flat_map (character_text unicode) value) ≤ 4 * byte_count value
characters_length unicode [] = omega arith
characters_length unicode (c ∷ value) = grind (arith, character_length, length-append, characters_length unicode value)

-- in single quotes it has at most two
doubled_length : (value : Text) → length (quotes_doubled value) ≤ 4 * byte_count value
doubled_length [] = omega arith
doubled_length (c ∷ value) = grind (arith, some_byte, length-append, doubled_length value)

-- with its quotes
quoted_length : (quote : ℕ) (inside : Text) (bytes : ℕ) → length inside ≤ 4 * bytes → length (quote ∷ (inside ++ (quote ∷ []))) ≤ 4 * bytes + 2
quoted_length quote inside bytes h = let both = length-append inside (quote ∷ []) in omega arith

-- the body of a simple key
pub body_length : (style : ScalarStyle) (unicode : Bool) (value : Text) → length (key_body style unicode value) ≤ 4 * byte_count value + 2
body_length plain unicode value = let less = length-le-encodes value in let same : length value ≤ byte_count value = less in omega arith
body_length single_quoted unicode value = quoted_length 39 (quotes_doubled value) (byte_count value) (doubled_length value)
body_length style unicode value = quoted_length 0x22 (flat_map (character_text unicode) value) (byte_count value) (characters_length unicode value)

-- Properties

-- a percent form has three characters for each byte
forms_length : (bytes : Text) → length (flat_map byte_escaped bytes) ≡ 3 * length bytes
forms_length [] = refl
forms_length (b ∷ bytes) =
    let more = forms_length bytes in let both = length-append (byte_escaped b) (flat_map byte_escaped bytes) in omega arith

written_length : (stands : Bool) (c : ℕ) → length (character_written stands c) ≤ 3 * length (encode_utf8 c)
written_length true c = let some = some_byte c in omega arith
written_length false c = let forms = forms_length (encode_utf8 c) in omega arith

-- so has a text in such forms, at most
escaped_length : (stands : ℕ → Bool) (text : Text) → length (flat_map (λ c. character_written (stands c) c) text) ≤ 3 * byte_count text
escaped_length stands [] = omega arith
escaped_length stands (c ∷ text) = grind (arith, written_length, length-append, escaped_length stands text)

-- a tag as it is spelled
spelled_length : (portable : Bool) (s : Spelling) → length (spelled portable s) ≤ 3 * spelling_count s + 3
spelled_length portable (shorthand handle suffix) =
    let less : length handle ≤ byte_count handle = length-le-encodes handle in
    let more = escaped_length (is_suffix_character portable) suffix in
    let both = length-append handle (suffix_escaped portable suffix) in
    omega arith
spelled_length portable (verbatim tag) =
    let more : length (percent_escaped tag) ≤ 3 * byte_count tag = escaped_length is_tag_character tag in
    let both = length-append (percent_escaped tag) (0x3E ∷ []) in
    omega arith

-- an anchor and a tag, and the space after them
pub lead_length : (portable : Bool) (directives : List TagDirective) (anchor tag : Option Text) (bare : Bool)
    → length (lead anchor (tag_written portable directives tag bare)) ≤ name_count anchor + 3 * tag_count directives tag + 6
lead_length portable directives anchor tag bare = grind (arith, spelled_length, length-append, length-le-encodes)
