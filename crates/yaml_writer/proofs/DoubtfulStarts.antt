-- A text whose first bytes are those of nothing doubtful is not doubtful.
use Rattle.yaml_writer.proofs.Common.{ℕ, ◌<◌, if◌then◌else◌, ◌==◌, Bool, false, not, true, ◌&&◌, ◌||◌, List, [], map, ◌∷◌, refl, ◌≡◌, eqb-true, true≢false, ap}
use Rattle.yaml_writer.proofs.Common.{sym, ◌∙◌, and_parts, and_right, ascii_prefix, codes, is_among, or_from, not-true, take_while-cons, to_ascii_lowercase}
use Rattle.yaml_writer.proofs.Common.{list_all, list_any, take_while, Text, is_ascii, is_word, reserved_words, is_doubtful}
use Rattle.yaml_base.proofs.Common.{agree_below_at, arith, bytes_eq, bytes_eq-Decides, le-leb, leb-true, ltb-true, nat_le, nat_lt}
use Rattle.yaml_base.proofs.Common.{slice_index_or as get_or, length, nat_tests, or_parts}
use Rattle.yaml_base.specs.values.Resolved.{first_meets, is_decimal, is_exponent_letter}
use Rattle.yaml_base.specs.values.SurelyText.{is_reserved, is_symbol, is_based, begins_based, names_base, is_numeric, begins_number, precedes_number, in_number}
use Rattle.yaml_base.specs.values.SurelyText.{is_number_letter}
use Rattle.std.proofs.Common.{◌+◌, drop}
use Rattle.std.specs.List.{prefix_len}
use Rattle.yaml_writer.specs.Words.{begins_doubtful, begins_reserved, leaves_reserved}

-- begins a word, a symbol, a number in a base, or a number
abbrev begins_some : ℕ → Bool
begins_some c = begins_reserved (to_ascii_lowercase c) || c == 0x3A || precedes_number c || c == 0x30 || begins_number c

begins_none : (c : ℕ) → c < 256 → begins_doubtful c ≡ false → begins_some c ≡ false
begins_none c fits h =
    not-true (begins_some c)
    (sym (ap (λ b. b || not (begins_some c)) h) ∙ agree_below_at (λ b. begins_doubtful b || not (begins_some b)) (λ b. true) 256 c refl fits)

-- no word begins so
no_first : (c : ℕ) (text : Text) → begins_reserved c ≡ false → (words : List Text) → list_all (first_meets begins_reserved) words ≡ true
    → list_any (is_word (c ∷ text)) words ≡ false
no_first c text h [] all = refl
no_first c text h ([] ∷ words) all = absurd (true≢false (sym all))
no_first c text h ((d ∷ word) ∷ words) all =
    ap (λ x. (x && bytes_eq text word) || list_any (is_word (c ∷ text)) words) (differs (c == d) refl) ∙ no_first c text h words both.1
  where
    both : (begins_reserved d ≡ true) × (list_all (first_meets begins_reserved) words ≡ true)
    both = and_parts (begins_reserved d) (list_all (first_meets begins_reserved) words) all

    differs : (b : Bool) → (c == d) ≡ b → b ≡ false
    differs true e = absurd (true≢false (sym both.0 ∙ ap begins_reserved (sym (eqb-true c d e)) ∙ h))
    differs false e = refl

no_word : (c : ℕ) (rest : Text) → begins_reserved (to_ascii_lowercase c) ≡ false → is_reserved (c ∷ rest) ≡ false
no_word c rest h =
    let some : (length (c ∷ rest) == 0) ≡ false = grind (arith, nat_tests) in
    ap (λ x. x || list_any (is_word (map to_ascii_lowercase (take_while is_ascii (c ∷ rest)))) reserved_words) some
    ∙ ap (λ t. list_any (is_word (map to_ascii_lowercase t)) reserved_words) (take_while-cons is_ascii c rest) ∙ by (is_ascii c)
  where
    by : (x : Bool) → list_any (is_word (map to_ascii_lowercase (if x then c ∷ take_while is_ascii rest else []))) reserved_words ≡ false
    by true = no_first (to_ascii_lowercase c) (map to_ascii_lowercase (take_while is_ascii rest)) h reserved_words refl
    by false = refl

no_base : (c : ℕ) (rest : Text) → precedes_number c ≡ false → (c == 0x30) ≡ false → is_based (c ∷ rest) ≡ false
no_base c rest h g = ap (λ x. begins_based (drop (if x then 1 + prefix_len precedes_number rest else 0) (c ∷ rest))) h ∙ by rest
  where
    by : (more : Text) → begins_based (c ∷ more) ≡ false
    by [] = refl
    by (d ∷ more) = ap (λ x. x && names_base d) g

no_number : (c : ℕ) (rest : Text) → begins_number c ≡ false → is_numeric (c ∷ rest) ≡ false
no_number c rest h = ap (λ x. x && list_all in_number (c ∷ rest) && (list_any is_decimal (c ∷ rest) || not (list_any is_number_letter (c ∷ rest)))) h

pub undoubtful : (c : ℕ) (rest : Text) → c < 256 → begins_doubtful c ≡ false → is_doubtful (c ∷ rest) ≡ false
undoubtful c rest fits h =
    let word = begins_reserved (to_ascii_lowercase c) in
    let none = or_parts (word || c == 0x3A || precedes_number c || c == 0x30) (begins_number c) (begins_none c fits h) in
    let unbased = or_parts (word || c == 0x3A || precedes_number c) (c == 0x30) none.0 in
    let unsigned = or_parts (word || c == 0x3A) (precedes_number c) unbased.0 in
    let unnamed = or_parts word (c == 0x3A) unsigned.0 in
    or_from (is_reserved (c ∷ rest) || is_symbol (c ∷ rest) || is_based (c ∷ rest)) (is_numeric (c ∷ rest))
    (or_from (is_reserved (c ∷ rest) || is_symbol (c ∷ rest)) (is_based (c ∷ rest))
    (or_from (is_reserved (c ∷ rest)) (is_symbol (c ∷ rest)) (no_word c rest unnamed.0) unnamed.1) (no_base c rest unsigned.1 unbased.1))
    (no_number c rest none.1)

-- Numbers in a base begin as numbers

pub unbased : (text : Text) → first_meets begins_number text ≡ false → is_based text ≡ false
unbased [] h = refl
unbased (c ∷ rest) h =
    let marked = or_parts (is_decimal c || c == 0x2E || precedes_number c) (is_exponent_letter c) h in
    let signed = or_parts (is_decimal c || c == 0x2E) (precedes_number c) marked.0 in
    no_base c rest signed.1 (no_zero (c == 0x30) refl (or_parts (is_decimal c) (c == 0x2E) signed.0).0)
  where
    no_zero : (x : Bool) → (c == 0x30) ≡ x → is_decimal c ≡ false → x ≡ false
    no_zero true e other = absurd (true≢false (sym (ap is_decimal (eqb-true c 0x30 e)) ∙ other))
    no_zero false e other = refl

-- A text that is no such number is neither in a base nor numeric.
pub no_form : (text : Text) → first_meets begins_number text ≡ false → (is_based text || is_numeric text) ≡ false
no_form text h =
    or_from (is_based text) (is_numeric text) (unbased text h)
    (ap (λ x. x && list_all in_number text && (list_any is_decimal text || not (list_any is_number_letter text))) h)

-- The second and the third byte of a reserved word

-- the second or the third character of a reserved word in lower case
abbrev continues : ℕ → Bool
continues c = is_among (codes "uraeonfils<.") c

-- they are such, as far as they are there
abbrev goes_on : Text → Bool
goes_on [] = true
goes_on (c ∷ []) = true
goes_on (c ∷ d ∷ []) = continues d
goes_on (c ∷ d ∷ e ∷ rest) = continues d && continues e

leaves_ascii : (c : ℕ) → leaves_reserved c ≡ true → is_ascii c ≡ true
leaves_ascii c h = by (c == 0x20) refl h
  where
    others : Bool
    others = not (is_among (codes "AEFILNORSUaefilnorsu") c)

    by : (x : Bool) → (c == 0x20) ≡ x → (x || (nat_le 0x41 c && nat_lt c 0x80 && others)) ≡ true → is_ascii c ≡ true
    by true e g = ap is_ascii (eqb-true c 0x20 e)
    by false e g =
        let within = ltb-true c 0x80 (and_parts (nat_le 0x41 c) (nat_lt c 0x80) (and_parts (nat_le 0x41 c && nat_lt c 0x80) others g).0).1 in
        le-leb c 0x7F (omega (arith, within))

leaves_lower : (c : ℕ) → leaves_reserved c ≡ true → continues (to_ascii_lowercase c) ≡ false
leaves_lower c h =
    not-true (continues (to_ascii_lowercase c))
    (sym (ap (λ x. not x || not (continues (to_ascii_lowercase c))) h)
    ∙ agree_below_at (λ b. not (leaves_reserved b) || not (continues (to_ascii_lowercase b))) (λ b. true) 128 c refl (few (leaves_ascii c h)))
  where
    few : is_ascii c ≡ true → c < 128
    few small = let within = leb-true c 0x7F small in omega (arith, within)

no_such_word : (text : Text) → goes_on text ≡ false → (words : List Text) → list_all goes_on words ≡ true → list_any (is_word text) words ≡ false
no_such_word text h [] all = refl
no_such_word text h (word ∷ words) all =
    or_from (is_word text word) (list_any (is_word text) words) (differs (is_word text word) refl) (no_such_word text h words both.1)
  where
    both : (goes_on word ≡ true) × (list_all goes_on words ≡ true)
    both = and_parts (goes_on word) (list_all goes_on words) all

    differs : (x : Bool) → is_word text word ≡ x → x ≡ false
    differs true e = absurd (true≢false (sym both.0 ∙ ap goes_on (sym ((bytes_eq-Decides text word).0 e)) ∙ h))
    differs false e = refl

-- after one character of ASCII, and after two
second_leaves : (c d : ℕ) (rest : Text) → leaves_reserved d ≡ true → list_any (is_word (ascii_prefix (c ∷ d ∷ rest))) reserved_words ≡ false
second_leaves c d rest h = ap (λ t. list_any (is_word (map to_ascii_lowercase t)) reserved_words) (take_while-cons is_ascii c (d ∷ rest)) ∙ by (is_ascii c)
  where
    unlike : (t : Text) → goes_on (to_ascii_lowercase c ∷ to_ascii_lowercase d ∷ t) ≡ false
    unlike [] = leaves_lower d h
    unlike (e ∷ t) = ap (λ x. x && continues e) (leaves_lower d h)

    after : list_any (is_word (to_ascii_lowercase c ∷ map to_ascii_lowercase (take_while is_ascii (d ∷ rest)))) reserved_words ≡ false
    after =
        ap (λ t. list_any (is_word (to_ascii_lowercase c ∷ map to_ascii_lowercase t)) reserved_words)
        (take_while-cons is_ascii d rest ∙ ap (λ x. if x then d ∷ take_while is_ascii rest else []) (leaves_ascii d h))
        ∙ no_such_word (to_ascii_lowercase c ∷ to_ascii_lowercase d ∷ map to_ascii_lowercase (take_while is_ascii rest))
        (unlike (map to_ascii_lowercase (take_while is_ascii rest))) reserved_words refl

    by : (x : Bool) → list_any (is_word (map to_ascii_lowercase (if x then c ∷ take_while is_ascii (d ∷ rest) else []))) reserved_words ≡ false
    by true = after
    by false = refl

third_leaves : (c d e : ℕ) (rest : Text) → is_ascii d ≡ true → leaves_reserved e ≡ true
    → list_any (is_word (ascii_prefix (c ∷ d ∷ e ∷ rest))) reserved_words ≡ false
third_leaves c d e rest small h =
    ap (λ t. list_any (is_word (map to_ascii_lowercase t)) reserved_words) (take_while-cons is_ascii c (d ∷ e ∷ rest)) ∙ by (is_ascii c)
  where
    unlike : goes_on (to_ascii_lowercase c ∷ to_ascii_lowercase d ∷ to_ascii_lowercase e ∷ map to_ascii_lowercase (take_while is_ascii rest)) ≡ false
    unlike = and_right (continues (to_ascii_lowercase d)) (continues (to_ascii_lowercase e)) (leaves_lower e h)

    after : list_any (is_word (to_ascii_lowercase c ∷ map to_ascii_lowercase (take_while is_ascii (d ∷ e ∷ rest)))) reserved_words ≡ false
    after =
        ap (λ t. list_any (is_word (to_ascii_lowercase c ∷ map to_ascii_lowercase t)) reserved_words)
        (take_while-cons is_ascii d (e ∷ rest) ∙ ap (λ x. if x then d ∷ take_while is_ascii (e ∷ rest) else []) small
        ∙ ap (λ t. d ∷ t) (take_while-cons is_ascii e rest ∙ ap (λ x. if x then e ∷ take_while is_ascii rest else []) (leaves_ascii e h)))
        ∙ no_such_word
        (to_ascii_lowercase c ∷ to_ascii_lowercase d ∷ to_ascii_lowercase e ∷ map to_ascii_lowercase (take_while is_ascii rest)) unlike reserved_words refl

    by : (x : Bool) → list_any (is_word (map to_ascii_lowercase (if x then c ∷ take_while is_ascii (d ∷ e ∷ rest) else []))) reserved_words ≡ false
    by true = after
    by false = refl

-- by their places
pub second_tells : (text : Text) → 1 < length text → leaves_reserved (get_or text 1 0) ≡ true
    → list_any (is_word (ascii_prefix text)) reserved_words ≡ false
second_tells (c ∷ d ∷ rest) few h = second_leaves c d rest h
second_tells _ few h = absurd (omega (arith, few))

pub third_tells : (text : Text) → 2 < length text → get_or text 1 0 < 128 → leaves_reserved (get_or text 2 0) ≡ true
    → list_any (is_word (ascii_prefix text)) reserved_words ≡ false
third_tells (c ∷ d ∷ e ∷ rest) few small h = third_leaves c d e rest (le-leb d 0x7F (omega (arith, small))) h
third_tells _ few small h = absurd (omega (arith, few))
