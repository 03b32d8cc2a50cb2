-- Whether a text is surely one is seen by its bytes: they are its characters up to the first past ASCII, from which on nothing
-- is looked at but that it is no character of ASCII.
use Rattle.yaml_base.proofs.Common.{ℕ, if◌then◌else◌, ◌==◌, codes, length, Bool, false, not, true, ◌&&◌, ◌||◌, List, [], map, ◌++◌, ◌∷◌, refl, ◌≡◌, eqb-true}
use Rattle.yaml_base.proofs.Common.{le-leb, leb-true, ltb-true, length-append, true≢false, ap, subst, sym, ◌∙◌, arith, and_parts, and_left, and_right}
use Rattle.yaml_base.proofs.Common.{or_from, take_while-cons, length-encode, len_utf8_bounds, digit_value, list_all, list_any, take_while, chars}
use Rattle.yaml_base.proofs.Common.{encode_utf8_all, Text, is_among, is_ascii, is_blank, is_word, is_plus_or_minus, is_decimal, first_meets}
use Rattle.yaml_base.proofs.Common.{is_colon, past, is_reserved, is_symbol, is_based, is_number_letter, in_number, is_numeric}
use Rattle.std.{proofs.lemmas.Str.encode_ascii, proofs.lemmas.Str.char_from_byte, proofs.lemmas.Str.encodes-chars, proofs.lemmas.Str.Parse.digit_from_value}
use Rattle.std.{specs.Char.encode_utf8, specs.Char.to_ascii_lowercase, specs.Str.IsUtf8}
use Rattle.yaml_base.proofs.no_numbers.NoNumbers.{filled, past_cons}
use Rattle.yaml_base.specs.values.SurelyText.{reserved_words, ascii_prefix, precedes_number, begins_based, begins_number, is_doubtful}

-- ---- texts and bytes alike

-- a text and bytes are the same up to the first character past ASCII
data Alike : Text → List ℕ → Type 0 where
  at_end : Alike [] []
  same : (c : ℕ) (text : Text) (bytes : List ℕ) → Alike text bytes → Alike (c ∷ text) (c ∷ bytes)
  others : (c b : ℕ) (text : Text) (bytes : List ℕ) → is_ascii c ≡ false → is_ascii b ≡ false → Alike (c ∷ text) (b ∷ bytes)

-- a byte of a character past ASCII is past ASCII
past_byte : (c : ℕ) (rest : List ℕ) (b : ℕ) (bytes : List ℕ) → b ∷ bytes ≡ encode_utf8 c ++ rest → is_ascii c ≡ false → is_ascii b ≡ false
past_byte c rest b bytes e h = by (is_ascii b) refl
  where
    by : (x : Bool) → is_ascii b ≡ x → x ≡ false
    by true f =
        let few = leb-true b 0x7F f in
        sym f ∙ ap is_ascii (sym (char_from_byte (b ∷ bytes) rest c e (omega (arith, few)) (omega arith))) ∙ h
    by false f = refl

-- a text and its bytes are alike
alike_bytes : (text : Text) → Alike text (encode_utf8_all text)
alike_bytes [] = at_end
alike_bytes (c ∷ text) = by (is_ascii c) refl (alike_bytes text)
  where
    rest : List ℕ
    rest = encode_utf8_all text

    shaped : is_ascii c ≡ false → (bytes : List ℕ) → bytes ≡ encode_utf8 c ++ rest → Alike (c ∷ text) bytes
    shaped h [] e = absurd (omega (arith, ap (λ (l : List ℕ). length l) e, length-append (encode_utf8 c) rest, length-encode c, (len_utf8_bounds c).0))
    shaped h (b ∷ bytes) e = others c b text bytes h (past_byte c rest b bytes e h)

    by : (x : Bool) → is_ascii c ≡ x → Alike text rest → Alike (c ∷ text) (encode_utf8 c ++ rest)
    by true h later =
        let few = leb-true c 0x7F h in
        subst (λ (bytes : List ℕ). Alike (c ∷ text) (bytes ++ rest)) (sym (encode_ascii c (omega (arith, few)))) (same c text rest later)
    by false h later = shaped h (encode_utf8 c ++ rest) refl

-- ---- characters past ASCII

unlike : (n c : ℕ) → is_ascii n ≡ true → is_ascii c ≡ false → (c == n) ≡ false
unlike n c small h = by (c == n) refl
  where
    by : (x : Bool) → (c == n) ≡ x → x ≡ false
    by true e = absurd (true≢false (sym small ∙ ap is_ascii (sym (eqb-true c n e)) ∙ h))
    by false e = refl

not_among : (members : Text) (c : ℕ) → list_all is_ascii members ≡ true → is_ascii c ≡ false → is_among members c ≡ false
not_among [] c small h = refl
not_among (member ∷ members) c small h =
    let both = and_parts (is_ascii member) (list_all is_ascii members) small in
    or_from (c == member) _ (unlike member c both.0 h) (not_among members c both.1 h)

no_digit : (c : ℕ) → is_ascii c ≡ false → is_decimal c ≡ false
no_digit c h = by (is_decimal c) refl
  where
    by : (x : Bool) → is_decimal c ≡ x → x ≡ false
    by true e =
        let within = digit_from_value c (ltb-true (digit_value c) 10 e) in absurd (true≢false (sym (le-leb c 0x7F (omega (arith, within))) ∙ h))
    by false e = refl

not_before_number : (c : ℕ) → is_ascii c ≡ false → precedes_number c ≡ false
not_before_number c h = or_from (is_plus_or_minus c) _ (or_from (c == 0x2B) _ (unlike 0x2B c refl h) (unlike 0x2D c refl h)) (unlike 0x5F c refl h)

not_within : (c : ℕ) → is_ascii c ≡ false → in_number c ≡ false
not_within c h =
    or_from (is_decimal c || is_number_letter c || is_blank c) _
    (or_from (is_decimal c || is_number_letter c) _ (or_from (is_decimal c) _ (no_digit c h) (not_among (codes "eEtTzZxXoObB") c refl h))
    (or_from (c == 0x20) _ (unlike 0x20 c refl h) (unlike 0x9 c refl h)))
    (not_among (codes "+-._:,") c refl h)

-- ---- the bytes that are looked at

first_alike : (test : ℕ → Bool) → ((c : ℕ) → is_ascii c ≡ false → test c ≡ false) → (text : Text) (bytes : List ℕ) → Alike text bytes
    → first_meets test text ≡ first_meets test bytes
first_alike test fails _ _ (others c b text bytes h k) = fails c h ∙ sym (fails b k)
first_alike test fails _ _ _ = refl

prefix_alike : (text : Text) (bytes : List ℕ) → Alike text bytes → take_while is_ascii text ≡ take_while is_ascii bytes
prefix_alike _ _ at_end = refl
prefix_alike _ _ (same c text bytes a) =
    take_while-cons is_ascii c text ∙ ap (λ (t : Text). if is_ascii c then c ∷ t else []) (prefix_alike text bytes a) ∙ sym (take_while-cons is_ascii c bytes)
prefix_alike _ _ (others c b text bytes h k) =
    take_while-cons is_ascii c text ∙ ap (λ x. if x then c ∷ take_while is_ascii text else []) h
    ∙ sym (take_while-cons is_ascii b bytes ∙ ap (λ x. if x then b ∷ take_while is_ascii bytes else []) k)

empty_alike : (text : Text) (bytes : List ℕ) → Alike text bytes → (length text == 0) ≡ (length bytes == 0)
empty_alike _ _ at_end = refl
empty_alike _ _ (same c text bytes a) = filled (length text) ∙ sym (filled (length bytes))
empty_alike _ _ (others c b text bytes h k) = filled (length text) ∙ sym (filled (length bytes))

reserved_alike : (text : Text) (bytes : List ℕ) → Alike text bytes → is_reserved text ≡ is_reserved bytes
reserved_alike text bytes a =
    ap (λ x. x || list_any (is_word (ascii_prefix text)) reserved_words) (empty_alike text bytes a)
    ∙ ap (λ (t : Text). length bytes == 0 || list_any (is_word (map to_ascii_lowercase t)) reserved_words) (prefix_alike text bytes a)

second_alike : (c : ℕ) (text : Text) (bytes : List ℕ) → Alike text bytes → begins_based (c ∷ text) ≡ begins_based (c ∷ bytes)
second_alike c _ _ (others d b text bytes h k) = ap (λ x. c == 0x30 && x) (not_among (codes "_xXoObB") d refl h ∙ sym (not_among (codes "_xXoObB") b refl k))
second_alike c _ _ _ = refl

no_base : (c : ℕ) (text : Text) → is_ascii c ≡ false → begins_based (past precedes_number (c ∷ text)) ≡ false
no_base c text h =
    ap begins_based (past_cons precedes_number c text ∙ ap (λ x. if x then past precedes_number text else c ∷ text) (not_before_number c h)) ∙ by text
  where
    by : (rest : Text) → begins_based (c ∷ rest) ≡ false
    by [] = refl
    by (d ∷ rest) = and_left (c == 0x30) _ (unlike 0x30 c refl h)

based_alike : (text : Text) (bytes : List ℕ) → Alike text bytes → is_based text ≡ is_based bytes
based_alike _ _ at_end = refl
based_alike _ _ (same c text bytes a) =
    ap begins_based (past_cons precedes_number c text) ∙ by (precedes_number c) (based_alike text bytes a)
    ∙ sym (ap begins_based (past_cons precedes_number c bytes))
  where
    by : (x : Bool) → is_based text ≡ is_based bytes
        → begins_based (if x then past precedes_number text else c ∷ text) ≡ begins_based (if x then past precedes_number bytes else c ∷ bytes)
    by true later = later
    by false later = second_alike c text bytes a
based_alike _ _ (others c b text bytes h k) = no_base c text h ∙ sym (no_base b bytes k)

all_alike : (text : Text) (bytes : List ℕ) → Alike text bytes → list_all in_number text ≡ list_all in_number bytes
all_alike _ _ at_end = refl
all_alike _ _ (same c text bytes a) = ap (λ x. in_number c && x) (all_alike text bytes a)
all_alike _ _ (others c b text bytes h k) = and_left (in_number c) _ (not_within c h) ∙ sym (and_left (in_number b) _ (not_within b k))

equal_alike : (text : Text) (bytes : List ℕ) → Alike text bytes → list_all in_number text ≡ true → text ≡ bytes
equal_alike _ _ at_end e = refl
equal_alike _ _ (same c text bytes a) e = ap (λ (t : Text). c ∷ t) (equal_alike text bytes a (and_parts (in_number c) (list_all in_number text) e).1)
equal_alike _ _ (others c b text bytes h k) e = absurd (true≢false (sym (and_parts (in_number c) (list_all in_number text) e).0 ∙ not_within c h))

numeric_alike : (text : Text) (bytes : List ℕ) → Alike text bytes → is_numeric text ≡ is_numeric bytes
numeric_alike text bytes a = by (list_all in_number text) refl
  where
    none : (t : Text) → list_all in_number t ≡ false → is_numeric t ≡ false
    none t h =
        and_left (first_meets begins_number t && list_all in_number t) (list_any is_decimal t || not (list_any is_number_letter t))
        (and_right (first_meets begins_number t) (list_all in_number t) h)

    by : (x : Bool) → list_all in_number text ≡ x → is_numeric text ≡ is_numeric bytes
    by true e = ap is_numeric (equal_alike text bytes a e)
    by false e = none text e ∙ sym (none bytes (sym (all_alike text bytes a) ∙ e))

-- ---- all

doubtful_alike : (text : Text) (bytes : List ℕ) → Alike text bytes → is_doubtful text ≡ is_doubtful bytes
doubtful_alike text bytes a =
    ap (λ x. x || is_symbol text || is_based text || is_numeric text) (reserved_alike text bytes a)
    ∙ ap (λ x. is_reserved bytes || x || is_based text || is_numeric text) (first_alike is_colon (λ c h. unlike 0x3A c refl h) text bytes a)
    ∙ ap (λ x. is_reserved bytes || is_symbol bytes || x || is_numeric text) (based_alike text bytes a)
    ∙ ap (λ x. is_reserved bytes || is_symbol bytes || is_based bytes || x) (numeric_alike text bytes a)

-- A text is doubtful if its bytes are.
pub doubtful_by_bytes : (bytes : List ℕ) → IsUtf8 bytes → is_doubtful (chars bytes) ≡ is_doubtful bytes
doubtful_by_bytes bytes is = doubtful_alike (chars bytes) bytes (subst (Alike (chars bytes)) (encodes-chars bytes is) (alike_bytes (chars bytes)))
