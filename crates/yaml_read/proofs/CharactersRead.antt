-- A character that was read was written in its one spelling.
use Rattle.yaml_read.proofs.Common.{ℕ, ◌+◌, ◌*◌, ◌-◌, ◌<◌, ◌≤◌, not, ◌||◌, None, Some, List, [], ◌∷◌, ◌++◌, refl, ◌≡◌, ap, sym, ◌∙◌, Text, ◌==◌}
use Rattle.yaml_read.proofs.Common.{if◌then◌else◌, encode_utf8_all, character_text, flat_map-append, chars-encodes, short_escapes, escape_after_backslash, Bool}
use Rattle.yaml_read.proofs.Common.{true, false, ◌&&◌, subst, arith, nat_tests, and_parts, eqb-true, nat_le, hex_digit, flat_map, codes, chars, Option}
use Rattle.yaml_read.proofs.Common.{append_assoc, append-nil, encode_utf8, all_scalars, hex_digits, is_between, letter_among, needs_escape, escape_text, length}
use Rattle.yaml_read.proofs.Common.{length-append, length-le-encodes, digit_meaning, letter_meaning, meaning_among, quote, seen_text, in_quotes, backslash}
use Rattle.yaml_read.proofs.Common.{String, IfSome, MatchOption, IsUtf8, string_bytes, encodes-append, same_Some, Bor, IsCharacter}
use lib.Utf8.{scalar}
use Rattle.std.proofs.lemmas.Str.{cons_from_encodes}
use Rattle.yaml_read.specs.Sound.{NumberRead, IsByNumber, IsEscape}
use Rattle.yaml_read.proofs.{Encoded.word_encoded, Escapes.is_answer, Escapes.is_answer-is, Firsts.four_text, Scalars.joined_scalars}

-- the first character of a text is a Unicode scalar value
pub scalar_of : (bytes rest : List ℕ) (c : ℕ) → IsUtf8 bytes → bytes ≡ encode_utf8 c ++ rest → all_scalars (c ∷ []) ≡ true
scalar_of bytes rest c utf8 is = grind (arith, cons_from_encodes, all_scalars, and_parts)

-- ---- digits

digit_by : (c d : ℕ) (low high : Bool) → is_between 48 57 c ≡ low → is_between 65 70 c ≡ high
    → (if low then Some (c - 48) else (if high then Some (c - 55) else None)) ≡ Some d → c ≡ hex_digit d
digit_by c d low high h1 h2 h3 = grind (arith, nat_tests, and_parts)

-- a digit that was read
pub digit_is : (c d : ℕ) → digit_meaning c ≡ Some d → c ≡ hex_digit d
digit_is c d is = digit_by c d (is_between 48 57 c) (is_between 65 70 c) refl refl is

-- one number after another
pub two_read : (bytes behind rest : List ℕ) (upper lower : ℕ) → upper < 16 → lower < 16 → bytes ≡ encode_utf8_all (hex_digit upper ∷ []) ++ behind
    → behind ≡ encode_utf8_all (hex_digit lower ∷ []) ++ rest → bytes ≡ encode_utf8_all (hex_digits 2 (upper * 16 + lower)) ++ rest
two_read bytes behind rest upper lower few also first second = grind (arith, encode_utf8_all, hex_digit, append_assoc, encodes-append, hex_digits)

pub four_read : (bytes behind rest : List ℕ) (upper lower : ℕ) → lower < 256 → bytes ≡ encode_utf8_all (hex_digits 2 upper) ++ behind
    → behind ≡ encode_utf8_all (hex_digits 2 lower) ++ rest → bytes ≡ encode_utf8_all (hex_digits 4 (upper * 256 + lower)) ++ rest
four_read bytes behind rest upper lower few first second = grind (arith, encode_utf8_all, hex_digits, append_assoc, encodes-append, append-nil, four_text)

-- ---- letters

-- each letter is that of its meaning, if that needs an escape
abbrev letters_fit : (letters meanings : Text) → Bool
letters_fit (letter ∷ letters) (meaning ∷ meanings) =
    (not (needs_escape true meaning) || is_answer (letter_among short_escapes meaning) letter) && letters_fit letters meanings
letters_fit _ _ = true

letter_fits : (letters meanings : Text) (c meaning : ℕ) → letters_fit letters meanings ≡ true → meaning_among letters meanings c ≡ Some meaning
    → needs_escape true meaning ≡ true → letter_among short_escapes meaning ≡ Some c
letter_fits (letter ∷ letters) (m ∷ meanings) c meaning fit is needs =
    let parts : ((not (needs_escape true m) || is_answer (letter_among short_escapes m) letter) ≡ true) × (letters_fit letters meanings ≡ true) =
    and_parts _ _ fit in
    first (c == letter) refl parts.0 (letter_fits letters meanings c meaning parts.1) is
  where
    answered : (needed : Bool) (o : Option ℕ) → needed ≡ true → (not needed || is_answer o letter) ≡ true → o ≡ Some letter
    answered true o need h = is_answer-is o letter h
    answered false o need h = cc

    first : (b : Bool) → (c == letter) ≡ b → (not (needs_escape true m) || is_answer (letter_among short_escapes m) letter) ≡ true
        → (meaning_among letters meanings c ≡ Some meaning → needs_escape true meaning ≡ true → letter_among short_escapes meaning ≡ Some c)
        → (if b then Some m else meaning_among letters meanings c) ≡ Some meaning → letter_among short_escapes meaning ≡ Some c
    first true same fits more found = grind (arith, letter_among, short_escapes, answered, needs_escape, eqb-true)
    first false other fits more found = more found needs
letter_fits _ _ c meaning fit is needs = cc

pub letter_is : (letter c : ℕ) → letter_meaning letter ≡ Some c → needs_escape true c ≡ true → letter_among short_escapes c ≡ Some letter
letter_is letter c is needs =
    letter_fits (codes "0abtnvfre\"\\N_LP ")
    (0 ∷ 7 ∷ 8 ∷ 9 ∷ 0xA ∷ 0xB ∷ 0xC ∷ 0xD ∷ 0x1B ∷ 0x22 ∷ 0x5C ∷ 0x85 ∷ 0xA0 ∷ 0x2028 ∷ 0x2029 ∷ 0x20 ∷ []) letter c refl is needs

-- a letter that was read, with what precedes it
pub letter_read : (bytes rest : List ℕ) (letter c : ℕ) → all_scalars (c ∷ []) ≡ true → letter_meaning letter ≡ Some c → needs_escape true c ≡ true
    → bytes ≡ encode_utf8 letter ++ rest → IsEscape bytes c rest
letter_read bytes rest letter c scalar means needs starts =
    record {
      scalar = scalar;
      needs = needs;
      text =
          starts ∙ ap (λ b. b ++ rest) (sym (append-nil (encode_utf8 letter)))
          ∙ ap (λ o. encode_utf8_all (escape_after_backslash o c) ++ rest) (sym (letter_is letter c means needs));
    }

-- ---- numbers

behind_first : (bytes rest tail : List ℕ) (first : ℕ) (digits escape : Text) → bytes ≡ encode_utf8 first ++ tail → tail ≡ encode_utf8_all digits ++ rest
    → escape ≡ first ∷ digits → bytes ≡ encode_utf8_all escape ++ rest
behind_first bytes rest tail first digits escape starts is same = grind (arith, encode_utf8, append_assoc, encode_utf8_all)

by_tests : (c : ℕ) (two four : Bool) → nat_le c 0xFF ≡ two → nat_le c 0xFFFF ≡ four
    → escape_after_backslash None c ≡ (if two then 120 ∷ hex_digits 2 c else (if four then 117 ∷ hex_digits 4 c else 85 ∷ hex_digits 8 c))
by_tests c two four is_two is_four = grind (arith, hex_digits, nat_le)

pub short_read : (bytes tail rest : List ℕ) (first c : ℕ) → IsByNumber tail 2 c rest → c < 256 → bytes ≡ encode_utf8 first ++ tail → first ≡ 120
    → IsEscape bytes c rest
short_read bytes tail rest first c number few starts is =
    let at_most : nat_le c 0xFF ≡ true = grind (arith, nat_tests, few) in
    record {
      scalar = number.scalar;
      needs = number.needs;
      text =
          behind_first _ rest _ 120 (hex_digits 2 c) _ (starts ∙ ap (λ f. encode_utf8 f ++ tail) is) number.text
          (ap (λ o. escape_after_backslash o c) number.none ∙ by_tests _ _ (nat_le c 0xFFFF) at_most refl);
    }

pub long_read : (bytes tail rest : List ℕ) (first c : ℕ) → IsByNumber tail 4 c rest → 256 ≤ c → c < 65536 → bytes ≡ encode_utf8 first ++ tail
    → first ≡ 117 → IsEscape bytes c rest
long_read bytes tail rest first c number many few starts is =
    let more : nat_le c 0xFF ≡ false = grind (arith, nat_tests, many) in
    let at_most : nat_le c 0xFFFF ≡ true = grind (arith, nat_tests, few) in
    record {
      scalar = number.scalar;
      needs = number.needs;
      text =
          behind_first bytes rest tail 117 (hex_digits 4 c) (escape_after_backslash (letter_among short_escapes c) c)
          (starts ∙ ap (λ f. encode_utf8 f ++ tail) is) number.text (ap (λ o. escape_after_backslash o c) number.none ∙ by_tests c false true more at_most);
    }

-- ---- characters

pub escape_read : (bytes tail rest : List ℕ) (first c : ℕ) → IsEscape tail c rest → bytes ≡ encode_utf8 first ++ tail → first ≡ backslash
    → IsCharacter bytes c rest
escape_read bytes tail rest first c escape starts is =
    record {
      scalar = escape.scalar;
      text =
          behind_first bytes rest tail backslash (escape_after_backslash (letter_among short_escapes c) c) (character_text true c)
          (starts ∙ ap (λ f. encode_utf8 f ++ tail) is) escape.text (ap (λ b. if b then escape_text c else c ∷ []) escape.needs);
    }

pub itself_read : (bytes rest : List ℕ) (c : ℕ) → all_scalars (c ∷ []) ≡ true → needs_escape true c ≡ false → bytes ≡ encode_utf8 c ++ rest
    → IsCharacter bytes c rest
itself_read bytes rest c scalar plain starts =
    record {
      scalar = scalar;
      text =
          starts ∙ ap (λ b. b ++ rest) (sym (append-nil (encode_utf8 c)))
          ∙ ap (λ t. encode_utf8_all t ++ rest) (sym (ap (λ b. if b then escape_text c else c ∷ []) plain));
    }

-- ---- texts

-- the characters so far
pub record ReadSoFar (whole value bytes : List ℕ) : Type 0 where
  pub read : Text
  pub scalars : all_scalars read ≡ true
  pub value_is : value ≡ encode_utf8_all read
  pub whole_is : whole ≡ codes "\"" ++ (encode_utf8_all (flat_map (character_text true) read) ++ bytes)

pub none_yet : (whole bytes : List ℕ) → whole ≡ codes "\"" ++ bytes → ReadSoFar whole [] bytes
none_yet whole bytes is = record { read = []; scalars = refl; value_is = refl; whole_is = is }

pub one_more : (whole value bytes rest : List ℕ) (c : ℕ) → ReadSoFar whole value bytes → IsCharacter bytes c rest
    → ReadSoFar whole (value ++ encode_utf8 c) rest
one_more whole value bytes rest c so_far character =
    let text = character_text true c in
    let before = flat_map (character_text true) so_far.read in
    record {
      read = so_far.read ++ c ∷ [];
      scalars = joined_scalars so_far.read (c ∷ []) so_far.scalars character.scalar;
      value_is =
          ap (λ v. v ++ encode_utf8 c) so_far.value_is ∙ ap (λ t. encode_utf8_all so_far.read ++ t) (sym (append-nil (encode_utf8 c)))
          ∙ sym (encodes-append so_far.read (c ∷ []));
      whole_is =
          so_far.whole_is ∙ ap (λ t. codes "\"" ++ t)
          (ap (λ b. encode_utf8_all before ++ b) character.text ∙ sym (append_assoc (encode_utf8_all before) (encode_utf8_all text) rest)
          ∙ ap (λ b. b ++ rest) (sym (encodes-append before text)
          ∙ ap encode_utf8_all (ap (λ t. before ++ t) (sym (append-nil text)) ∙ sym (flat_map-append (character_text true) so_far.read (c ∷ [])))));
    }

pub all_read : {A : Type 0} (whole bytes end : List ℕ) (value : String A) → ReadSoFar whole (string_bytes value) bytes → bytes ≡ codes "\"" ++ end
    → whole ≡ encode_utf8_all (in_quotes (seen_text value)) ++ end
all_read whole bytes end value so_far ends =
    let inside = flat_map (character_text true) so_far.read in
    so_far.whole_is ∙ ap (λ b. codes "\"" ++ (encode_utf8_all inside ++ b)) ends
    ∙ ap (λ t. codes "\"" ++ t) (sym (append_assoc (encode_utf8_all inside) (codes "\"") end)
    ∙ ap (λ b. b ++ end) (ap (λ q. encode_utf8_all inside ++ q) (sym (word_encoded (codes "\"") [] refl)) ∙ sym (encodes-append inside (quote ∷ []))))
    ∙ ap (λ b. b ++ end) (sym (word_encoded (codes "\"") (inside ++ quote ∷ []) refl))
    ∙ ap (λ t. encode_utf8_all (in_quotes t) ++ end) (sym (ap chars so_far.value_is ∙ chars-encodes so_far.read so_far.scalars))

-- a letter means a Unicode scalar value
means_scalar : (letters meanings : Text) (c meaning : ℕ) → all_scalars meanings ≡ true → meaning_among letters meanings c ≡ Some meaning
    → all_scalars (meaning ∷ []) ≡ true
means_scalar (letter ∷ letters) (m ∷ meanings) c meaning h is =
    let parts : (all_scalars (m ∷ []) ≡ true) × (all_scalars meanings ≡ true) = (
      ap (λ b. b && true) (and_parts _ (all_scalars meanings) h).0,
      (and_parts _ (all_scalars meanings) h).1,
    ) in
    first (c == letter) parts.0 (means_scalar letters meanings c meaning parts.1) is
  where
    first : (b : Bool) → all_scalars (m ∷ []) ≡ true → (meaning_among letters meanings c ≡ Some meaning → all_scalars (meaning ∷ []) ≡ true)
        → (if b then Some m else meaning_among letters meanings c) ≡ Some meaning → all_scalars (meaning ∷ []) ≡ true
    first true fits more found = let meant : m ≡ meaning = cc in subst (λ k. all_scalars (k ∷ []) ≡ true) meant fits
    first false fits more found = more found
means_scalar _ _ c meaning h is = cc

pub letter_scalar : (letter c : ℕ) → letter_meaning letter ≡ Some c → all_scalars (c ∷ []) ≡ true
letter_scalar letter c is =
    means_scalar (codes "0abtnvfre\"\\N_LP ")
    (0 ∷ 7 ∷ 8 ∷ 9 ∷ 0xA ∷ 0xB ∷ 0xC ∷ 0xD ∷ 0x1B ∷ 0x22 ∷ 0x5C ∷ 0x85 ∷ 0xA0 ∷ 0x2028 ∷ 0x2029 ∷ 0x20 ∷ []) letter c refl is

-- ---- numbers that were read

pub number_reads : (least c : ℕ) (rest : Text) (found answer : Option (ℕ × Bor (List ℕ)))
    → MatchOption found ⊥ (λ read. (read.0 ≡ c) × (read.1.now ≡ encode_utf8_all rest)) → NumberRead least found answer → all_scalars (c ∷ []) ≡ true
    → needs_escape true c ≡ true → letter_among short_escapes c ≡ None → least ≤ c
    → MatchOption answer ⊥ (λ read. (read.0 ≡ c) × (read.1.now ≡ encode_utf8_all rest))
number_reads least c rest found answer h1 h2 h3 h4 h5 h6 =
    grind (arith, needs_escape, true, letter_among, short_escapes, all_scalars, scalar, encode_utf8_all, same_Some)

pub number_sound : (digits least : ℕ) (bytes : List ℕ) (Few : ℕ → Type 0) (found answer : Option (ℕ × Bor (List ℕ)))
    → IfSome found (λ read. bytes ≡ encode_utf8_all (hex_digits digits read.0) ++ read.1.now) → IfSome found (λ read. Few read.0)
    → NumberRead least found answer → IfSome answer (λ read. IsByNumber bytes digits read.0 read.1.now × (least ≤ read.0) × Few read.0)
number_sound digits least bytes Few found answer h1 h2 h3 = grind (arith, scalar, encode_utf8_all, hex_digits)

-- a character that was read leaves less
pub character_shorter : (bytes : List ℕ) (c : ℕ) (rest : List ℕ) → IsCharacter bytes c rest → length rest < length bytes
character_shorter bytes c rest read =
    omega (
      arith,
      ap length read.text,
      length-append (encode_utf8_all (character_text true c)) rest,
      length-le-encodes (character_text true c),
      some (needs_escape true c),
    )
  where
    some : (b : Bool) → 0 < length (if b then escape_text c else c ∷ [])
    some true = omega arith
    some false = omega arith
