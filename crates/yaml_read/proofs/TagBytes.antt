-- The bytes of written tags.
use Rattle.yaml_read.proofs.Common.{ℕ, false, nat_tests, and_parts, and_from, append-nil, not-true, ltb-true, flat_map, or_parts, hex_digit, hex_digits, length}
use Rattle.yaml_read.proofs.Common.{◌%◌, ◌/◌, ◌<◌, ◌==◌, Bool, true, ◌&&◌, List, [], ◌∷◌, ◌++◌, refl, ◌≡◌, ap, sym, ◌∙◌, arith, chars, Text, true≢false}
use Rattle.yaml_read.proofs.Common.{append_assoc, chars-encodes, scalar_cases, encode_utf8, all_scalars, length-append, agree_below_at, if◌then◌else◌, nat_lt}
use Rattle.yaml_read.proofs.Common.{list_all-append, encode_utf8_all, is_tag_character, percent_escaped, flat_map-append, are_bytes, escaped_stands}
use Rattle.yaml_read.proofs.Common.{stands_written, all_pass, digit_meaning, String, Vec, string_bytes, IsUtf8, same_Some, encode_same, encode_ascii}
use Rattle.yaml_read.proofs.Common.{string_vec, byte_in_tag, ends_tag}
use lib.Utf8.{scalar}
use Rattle.yaml_base.{proofs.Common.byte_escaped, proofs.Common.percent_sign, proofs.PercentLaws.encode_is_bytes}
use Rattle.std.proofs.Common.{⊎_elim}
use Rattle.yaml_mark.proofs.EscapingLemmas.{escaped_by_bytes}
use Rattle.yaml_read.proofs.{HeadsRead.word_bytes, Encoded.are_ascii, Encoded.word_encoded, Escapes.digit_reads, Firsts.first_is, Firsts.not_empty}

-- ---- ASCII

pub tag_character_is_ascii : (c : ℕ) → is_tag_character c ≡ true → nat_lt c 128 ≡ true
tag_character_is_ascii c h = grind (arith, nat_tests)

stands_is_ascii : (c : ℕ) → stands_written c ≡ true → nat_lt c 128 ≡ true
stands_is_ascii c h = grind (arith, is_tag_character, percent_sign, true, nat_lt, tag_character_is_ascii, false, nat_tests)

-- percent forms are ASCII
pub escaped_ascii : (text : Text) → are_ascii (percent_escaped text) ≡ true
escaped_ascii text = all_pass stands_written (λ c. nat_lt c 128) stands_is_ascii (percent_escaped text) (escaped_stands text)

digit_ascii : (n : ℕ) → nat_lt (hex_digit (n % 16)) 128 ≡ true
digit_ascii n = agree_below_at (λ d. nat_lt (hex_digit d) 128) (λ d. true) 16 (n % 16) refl (omega arith)

-- so is each byte as it is written
pub byte_ascii : (b : ℕ) → are_ascii (byte_in_tag b) ≡ true
byte_ascii b = by (is_tag_character b) refl
  where
    by : (stands : Bool) → is_tag_character b ≡ stands → are_ascii (if stands then b ∷ [] else byte_escaped b) ≡ true
    by true is = ap (λ x. x && true) (tag_character_is_ascii b is)
    by false is = rw (digit_ascii (b / 16), digit_ascii b) refl

pub bytes_ascii : (bs : List ℕ) → are_ascii (flat_map byte_in_tag bs) ≡ true
bytes_ascii [] = refl
bytes_ascii (b ∷ bs) = grind (arith, list_all-append, nat_lt, byte_in_tag, flat_map, and_from, byte_ascii, bytes_ascii bs)

-- ---- a text's bytes

-- percent forms of a text are those of its bytes
pub escaped_bytes : (text : Text) → all_scalars text ≡ true → percent_escaped text ≡ flat_map byte_in_tag (encode_utf8_all text)
escaped_bytes text scalars = sym (escaped_by_bytes false (encode_utf8_all text) (text, (scalars, refl)) ∙ ap percent_escaped (chars-encodes text scalars))

pub bytes_escaped : (bytes : List ℕ) → IsUtf8 bytes → flat_map byte_in_tag bytes ≡ percent_escaped (chars bytes)
bytes_escaped bytes utf8 = escaped_by_bytes false bytes utf8

encoded_bytes : (text : Text) → all_scalars text ≡ true → are_bytes (encode_utf8_all text) ≡ true
encoded_bytes [] h = refl
encoded_bytes (c ∷ text) h =
    let both : (scalar c ≡ true) × (all_scalars text ≡ true) = and_parts _ _ h in
    let below : c < 0x110000 = ⊎_elim (λ h. omega arith) (λ h. omega arith) (scalar_cases c both.0) in
    list_all-append (λ b. nat_lt b 256) (encode_utf8 c) (encode_utf8_all text) ∙ and_from _ _ (encode_is_bytes c below) (encoded_bytes text both.1)

-- one byte more
pub byte_more : (text now after bytes more : List ℕ) (byte : ℕ) → more ≡ bytes ++ byte ∷ [] → text ≡ flat_map byte_in_tag bytes ++ now
    → now ≡ byte_in_tag byte ++ after → text ≡ flat_map byte_in_tag more ++ after
byte_more text now after bytes more byte are is next = grind (arith, flat_map, append_assoc, flat_map-append, append-nil)

pub bytes_more : (bytes more : List ℕ) (byte : ℕ) → more ≡ bytes ++ byte ∷ [] → are_bytes bytes ≡ true → byte < 256 → are_bytes more ≡ true
bytes_more bytes more byte are small below = grind (arith, are_bytes, list_all-append, nat_lt, and_from, nat_tests)

-- ---- one byte is written in one way

same_digit : (n m : ℕ) → hex_digit (n % 16) ≡ hex_digit (m % 16) → n % 16 ≡ m % 16
same_digit n m is = grind (arith, same_Some, digit_reads, digit_meaning)

-- lists that are the same begin alike
pub same_first : (a b : ℕ) (x y : List ℕ) → a ∷ x ≡ b ∷ y → (a ≡ b) × (x ≡ y)
same_first a b x y is = (cc, cc)

no_percent : is_tag_character percent_sign ≡ false
no_percent = refl

pub byte_first : (b d : ℕ) (x y : List ℕ) → b < 256 → d < 256 → byte_in_tag b ++ x ≡ byte_in_tag d ++ y → (b ≡ d) × (x ≡ y)
byte_first b d x y few also is = by (is_tag_character b) (is_tag_character d) refl refl is
  where
    by : (s t : Bool) → is_tag_character b ≡ s → is_tag_character d ≡ t
        → (if s then b ∷ [] else byte_escaped b) ++ x ≡ (if t then d ∷ [] else byte_escaped d) ++ y → (b ≡ d) × (x ≡ y)
    by true true e f is = same_first b d x y is
    by true false e f is = absurd (true≢false (sym e ∙ ap is_tag_character (same_first b percent_sign x _ is).0 ∙ no_percent))
    by false true e f is = absurd (true≢false (sym f ∙ ap is_tag_character (sym (same_first percent_sign d _ y is).0) ∙ no_percent))
    by false false e f is =
        let one = same_first percent_sign percent_sign (hex_digit (b / 16 % 16) ∷ hex_digit (b % 16) ∷ x)
        (hex_digit (d / 16 % 16) ∷ hex_digit (d % 16) ∷ y) is in
        let two = same_first (hex_digit (b / 16 % 16)) (hex_digit (d / 16 % 16)) (hex_digit (b % 16) ∷ x) (hex_digit (d % 16) ∷ y) one.1 in
        let three = same_first (hex_digit (b % 16)) (hex_digit (d % 16)) x y two.1 in
        let high = same_digit (b / 16) (d / 16) two.0 in
        let low = same_digit b d three.0 in
        (omega (arith, few, also, high, low), three.1)

-- none begins what ends a tag
pub over : (rest : Text) (b : ℕ) (x : List ℕ) → ends_tag rest ≡ true → encode_utf8_all rest ≡ byte_in_tag b ++ x → ⊥
over [] b x ends is = grind (arith, is_tag_character, byte_escaped, true, false)
over (c ∷ rest) b x ends is = by (is_tag_character b) refl is
  where
    neither : ((is_tag_character c ≡ false) × ((c == percent_sign) ≡ false))
    neither = or_parts (is_tag_character c) (c == percent_sign) (not-true _ ends)

    by : (s : Bool) → is_tag_character b ≡ s → encode_utf8_all (c ∷ rest) ≡ (if s then b ∷ [] else byte_escaped b) ++ x → ⊥
    by true e is =
        let first = encode_same c b (encode_utf8_all rest) x (is ∙ ap (λ t. t ++ x) (sym (encode_ascii b (ltb-true b 128 (tag_character_is_ascii b e))))) in
        true≢false (sym e ∙ ap is_tag_character (sym first.0) ∙ neither.0)
    by false e is =
        let first = encode_same c percent_sign (encode_utf8_all rest) (hex_digit (b / 16 % 16) ∷ hex_digit (b % 16) ∷ x)
        (is ∙ ap (λ t. t ++ (hex_digit (b / 16 % 16) ∷ hex_digit (b % 16) ∷ x)) (sym (encode_ascii percent_sign (omega arith)))) in
        true≢false (ap (λ n. n == percent_sign) (sym first.0) ∙ neither.1)

-- ---- bytes that were read

-- the rest of bytes that were written, after those that were read
pub record Unread (read written left end : List ℕ) : Type 0 where
  pub todo : List ℕ
  pub parts : read ++ todo ≡ written
  pub left_is : left ≡ flat_map byte_in_tag todo ++ end
  pub bytes : are_bytes todo ≡ true

pub unread : (read written left : List ℕ) (rest : Text) → are_bytes read ≡ true → are_bytes written ≡ true → ends_tag rest ≡ true
    → flat_map byte_in_tag read ++ left ≡ flat_map byte_in_tag written ++ encode_utf8_all rest → Unread read written left (encode_utf8_all rest)
unread [] written left rest few also ends is = record { todo = written; parts = refl; left_is = is; bytes = also }
unread (b ∷ read) [] left rest few also ends is =
    absurd (over rest b (flat_map byte_in_tag read ++ left) ends (sym is ∙ append_assoc (byte_in_tag b) (flat_map byte_in_tag read) left))
unread (b ∷ read) (d ∷ written) left rest few also ends is =
    let one = and_parts (nat_lt b 256) (are_bytes read) few in
    let other = and_parts (nat_lt d 256) (are_bytes written) also in
    let first = byte_first b d (flat_map byte_in_tag read ++ left) (flat_map byte_in_tag written ++ encode_utf8_all rest)
    (ltb-true b 256 one.0) (ltb-true d 256 other.0) (sym (append_assoc (byte_in_tag b) (flat_map byte_in_tag read) left) ∙ is
    ∙ append_assoc (byte_in_tag d) (flat_map byte_in_tag written) (encode_utf8_all rest)) in
    let more = unread read written left rest one.1 other.1 ends first.1 in
    record { todo = more.todo; parts = ap (λ a. a ∷ (read ++ more.todo)) first.0 ∙ ap (λ t. d ∷ t) more.parts; left_is = more.left_is; bytes = more.bytes }

-- if none follows, all were read
pub all_unread : (text read left : List ℕ) (value rest : Text) → text ≡ flat_map byte_in_tag read ++ left → are_bytes read ≡ true
    → ((byte : ℕ) (more : Text) → byte < 256 → left ≡ encode_utf8_all (byte_in_tag byte ++ more) → ⊥)
    → all_scalars value ≡ true → ends_tag rest ≡ true → text ≡ encode_utf8_all (percent_escaped value ++ rest)
    → (read ≡ encode_utf8_all value) × (left ≡ encode_utf8_all rest)
all_unread text read left value rest parts few none scalars ends is = by un.todo un.parts un.left_is un.bytes
  where
    un : Unread read (encode_utf8_all value) left (encode_utf8_all rest)
    un =
        unread read (encode_utf8_all value) left rest few (encoded_bytes _ scalars) ends
        (sym parts ∙ is ∙ word_encoded (percent_escaped value) rest (escaped_ascii value) ∙ ap (λ t. t ++ encode_utf8_all rest) (escaped_bytes _ scalars))

    by : (todo : List ℕ) → read ++ todo ≡ encode_utf8_all value → left ≡ flat_map byte_in_tag todo ++ encode_utf8_all rest → are_bytes todo ≡ true
        → (read ≡ encode_utf8_all value) × (left ≡ encode_utf8_all rest)
    by [] parts left_is bytes = (sym (append-nil read) ∙ parts, left_is)
    by (d ∷ todo) parts left_is bytes =
        let both = and_parts (nat_lt d 256) (are_bytes todo) bytes in
        absurd (none d (flat_map byte_in_tag todo ++ rest) (ltb-true d 256 both.0)
        (left_is ∙ append_assoc (byte_in_tag d) (flat_map byte_in_tag todo) (encode_utf8_all rest)
        ∙ ap (λ t. byte_in_tag d ++ t) (sym (word_encoded (flat_map byte_in_tag todo) rest (bytes_ascii todo)))
        ∙ sym (word_encoded (byte_in_tag d) (flat_map byte_in_tag todo ++ rest) (byte_ascii d))))

-- ---- by its first character

-- the meaning of the first character of a written byte
pub data FirstOfByte (byte : ℕ) (rest : Text) (c : ℕ) (tail : List ℕ) : Type 0 where
  as_itself : is_tag_character byte ≡ true → c ≡ byte → tail ≡ encode_utf8_all rest → FirstOfByte byte rest c tail
  as_form : is_tag_character byte ≡ false → c ≡ percent_sign → tail ≡ encode_utf8_all (hex_digits 2 byte ++ rest) → FirstOfByte byte rest c tail

pub first_of_byte : (byte : ℕ) (rest : Text) (c : ℕ) (text tail : List ℕ) → text ≡ encode_utf8 c ++ tail → text ≡ encode_utf8_all (byte_in_tag byte ++ rest)
    → FirstOfByte byte rest c tail
first_of_byte byte rest c text tail starts is = by (is_tag_character byte) refl is
  where
    by : (s : Bool) → is_tag_character byte ≡ s → text ≡ encode_utf8_all ((if s then byte ∷ [] else byte_escaped byte) ++ rest) → FirstOfByte byte rest c tail
    by true e is = let first = first_is text tail c byte rest starts is in as_itself e first.0 first.1
    by false e is = let first = first_is text tail c percent_sign (hex_digits 2 byte ++ rest) starts is in as_form e first.0 first.1

-- a text that a byte begins isn't empty
pub byte_there : (byte : ℕ) (rest : Text) (text : List ℕ) → text ≡ encode_utf8_all (byte_in_tag byte ++ rest) → length text ≡ 0 → ⊥
byte_there byte rest text is none = by (is_tag_character byte) is
  where
    by : (s : Bool) → text ≡ encode_utf8_all ((if s then byte ∷ [] else byte_escaped byte) ++ rest) → ⊥
    by true is = not_empty text byte rest is none
    by false is = not_empty text percent_sign (hex_digits 2 byte ++ rest) is none

-- two digits follow `%`
pub form_follows : (byte : ℕ) (rest : Text) (c : ℕ) (tail : List ℕ) → FirstOfByte byte rest c tail → c ≡ percent_sign
    → (is_tag_character byte ≡ false) × (tail ≡ encode_utf8_all (hex_digits 2 byte ++ rest))
form_follows byte rest c tail (as_itself stands same behind) is = absurd (true≢false (sym stands ∙ ap is_tag_character (sym same ∙ is) ∙ no_percent))
form_follows byte rest c tail (as_form other same behind) is = (other, behind)

-- another character is written as itself
pub itself_follows : (byte : ℕ) (rest : Text) (c : ℕ) (tail : List ℕ) → FirstOfByte byte rest c tail → (c ≡ percent_sign → ⊥)
    → (is_tag_character c ≡ true) × (c ≡ byte) × (tail ≡ encode_utf8_all rest)
itself_follows byte rest c tail (as_itself stands same behind) is = (ap is_tag_character same ∙ stands, same, behind)
itself_follows byte rest c tail (as_form other same behind) is = absurd (is same)

-- a character that was read for itself
pub itself_read : (text tail : List ℕ) (c : ℕ) → text ≡ encode_utf8 c ++ tail → is_tag_character c ≡ true → text ≡ byte_in_tag c ++ tail
itself_read text tail c starts stands =
    starts ∙ ap (λ t. t ++ tail) (encode_ascii c (ltb-true c 128 (tag_character_is_ascii c stands))
    ∙ ap (λ b. if b then c ∷ [] else byte_escaped c) (sym stands))

pub itself_small : (c : ℕ) → is_tag_character c ≡ true → c < 256
itself_small c stands = let low : c < 128 = ltb-true c 128 (tag_character_is_ascii c stands) in omega arith

-- a byte that was read leaves less
pub byte_shorter : (text rest : List ℕ) (byte : ℕ) → text ≡ byte_in_tag byte ++ rest → length rest < length text
byte_shorter text rest byte is = omega (arith, ap length is, length-append (byte_in_tag byte) rest, some (is_tag_character byte))
  where
    some : (b : Bool) → 0 < length (if b then byte ∷ [] else byte_escaped byte)
    some true = omega arith
    some false = omega arith

-- a form that was read
pub form_read : (text tail rest : List ℕ) (c n : ℕ) → text ≡ encode_utf8 c ++ tail → c ≡ percent_sign → tail ≡ encode_utf8_all (hex_digits 2 n) ++ rest
    → is_tag_character n ≡ false → text ≡ byte_in_tag n ++ rest
form_read text tail rest c n starts sign digits other =
    let ascii : are_ascii (byte_escaped n) ≡ true = rw (digit_ascii (n / 16), digit_ascii n) refl in
    starts ∙ ap (λ d. encode_utf8 d ++ tail) sign ∙ ap (λ t. encode_utf8 percent_sign ++ t) digits
    ∙ sym (append_assoc (encode_utf8 percent_sign) (encode_utf8_all (hex_digits 2 n)) rest)
    ∙ ap (λ t. t ++ rest) (word_bytes (byte_escaped n) ascii ∙ ap (λ b. if b then n ∷ [] else byte_escaped n) (sym other))

-- a text of bytes that were read
pub bytes_of : {A : Type 0} (found : String A) (bytes : Vec ℕ A) → string_vec found ≡ bytes → string_bytes found ≡ bytes.items
bytes_of {A} found bytes is = ap (λ (v : Vec ℕ A). v.items) is
