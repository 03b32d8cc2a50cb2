-- The lexer byte by byte.
use Rattle.yaml_json.proofs.Common.{◌≡◌, ℕ, zero, suc, ◌+◌, ◌<◌, ◌≤◌, Bool, true, false, cond, ◌||◌, ◌==◌, List, [], ◌∷◌, drop, get_or, length, refl, sym, ap}
use Rattle.yaml_json.proofs.Common.{◌∙◌, subst, arith, is_operator, is_space, Class, quote, backslash, operator, space, other, class, Lexeme, in_word}
use Rattle.yaml_json.proofs.Common.{in_string, in_escape, lex_byte, is_stop, true≢false, eqb-true, or_parts, drop_more, drop-drop}
use Rattle.json.specs.Lex.{Mode, between, lex}
use Rattle.json.specs.Ascii as ascii

pub or_elim : {C : Type 0} (a b : Bool) → (a ≡ true → C) → (b ≡ true → C) → (a || b) ≡ true → C
or_elim true b f g e = f refl
or_elim false b f g e = g e

pub value_is : (P : ℕ → Type 0) (x v : ℕ) → P v → (x == v) ≡ true → P x
value_is P x v p e = subst P (sym (eqb-true x v e)) p

-- A property of each blank.
pub each_space : (P : ℕ → Type 0) → P 32 → P 9 → P 10 → P 13 → (x : ℕ) → is_space x ≡ true → P x
each_space P a b c d x e =
    or_elim ((x == 32) || (x == 9) || (x == 10)) (x == 13)
    (or_elim ((x == 32) || (x == 9)) (x == 10) (or_elim (x == 32) (x == 9) (value_is P x 32 a) (value_is P x 9 b)) (value_is P x 10 c)) (value_is P x 13 d) e

-- A property of each bracket, colon and comma.
pub each_operator : (P : ℕ → Type 0) → P 123 → P 125 → P 91 → P 93 → P 58 → P 44 → (x : ℕ) → is_operator x ≡ true → P x
each_operator P a b c d f g x e =
    or_elim ((x == 123) || (x == 125) || (x == 91) || (x == 93) || (x == 58)) (x == 44) (or_elim ((x == 123) || (x == 125) || (x == 91) || (x == 93)) (x == 58)
    (or_elim ((x == 123) || (x == 125) || (x == 91)) (x == 93) (or_elim ((x == 123) || (x == 125)) (x == 91) (or_elim (x == 123) (x == 125) (value_is P x 123 a)
    (value_is P x 125 b)) (value_is P x 91 c)) (value_is P x 93 d)) (value_is P x 58 f)) (value_is P x 44 g) e

word_over : (q b o s : Bool) (x : ℕ) (xs : List ℕ) (k : Mode → List Lexeme) → (o || s) ≡ false
    → lex_byte in_word (cond q quote (cond b backslash (cond o operator (cond s space other)))) x xs k ≡ k in_word
word_over false false false true x xs k e = absurd (true≢false e)
word_over false false true s x xs k e = absurd (true≢false e)
word_over _ _ _ _ x xs k e = refl

string_over : (o s : Bool) (x : ℕ) (xs : List ℕ) (k : Mode → List Lexeme) → lex_byte in_string (cond o operator (cond s space other)) x xs k ≡ k in_string
string_over true s x xs k = refl
string_over false true x xs k = refl
string_over false false x xs k = refl

escape_over : (c : Class) (x : ℕ) (xs : List ℕ) (k : Mode → List Lexeme) → lex_byte in_escape c x xs k ≡ k in_string
escape_over quote x xs k = refl
escape_over _ x xs k = refl

-- ---- one byte

pub lex-blank : (x : ℕ) (xs : List ℕ) → is_space x ≡ true → lex between (x ∷ xs) ≡ lex between xs
unfolding lex
lex-blank x xs e = each_space (λ y. lex between (y ∷ xs) ≡ lex between xs) refl refl refl refl x e

pub lex-in_word : (x : ℕ) (xs : List ℕ) → (is_operator x || is_space x) ≡ false → lex in_word (x ∷ xs) ≡ lex in_word xs
unfolding lex
lex-in_word x xs e = word_over (x == ascii.quote) (x == ascii.backslash) (is_operator x) (is_space x) x xs (λ next. lex next xs) e

pub lex-in_string : (x : ℕ) (xs : List ℕ) → (x == ascii.quote) ≡ false → (x == ascii.backslash) ≡ false → lex in_string (x ∷ xs) ≡ lex in_string xs
unfolding lex
lex-in_string x xs q b =
    (λ i. lex_byte in_string (cond (q i) quote (cond (b i) backslash (cond (is_operator x) operator (cond (is_space x) space other)))) x xs
    (λ next. lex next xs))
    ∙ string_over (is_operator x) (is_space x) x xs (λ next. lex next xs)

pub lex-quote : (xs : List ℕ) → lex in_string (34 ∷ xs) ≡ lex between xs
unfolding lex
lex-quote xs = refl

pub lex-escape : (x : ℕ) (xs : List ℕ) → lex in_string (92 ∷ x ∷ xs) ≡ lex in_string xs
unfolding lex
lex-escape x xs = escape_over (class x) x xs (λ next. lex next xs)

pub lex-cut : lex in_string (92 ∷ []) ≡ lex between []
unfolding lex
lex-cut = refl

pub lex-none : (mode : Mode) → lex mode [] ≡ []
unfolding lex
lex-none mode = refl

pub lex-delimiter : (x : ℕ) (xs : List ℕ) → (is_operator x || is_space x) ≡ true → lex in_word (x ∷ xs) ≡ lex between (x ∷ xs)
unfolding lex
lex-delimiter x xs e =
    or_elim (is_operator x) (is_space x) (each_operator (λ y. lex in_word (y ∷ xs) ≡ lex between (y ∷ xs)) refl refl refl refl refl refl x)
    (each_space (λ y. lex in_word (y ∷ xs) ≡ lex between (y ∷ xs)) refl refl refl refl x) e

-- ---- at a place of a text

pub blank_at : (d : List ℕ) (i : ℕ) → i < length d → is_space (get_or d i 0) ≡ true → lex between (drop (i + 1) d) ≡ lex between (drop i d)
blank_at d i h e = sym (ap (lex between) (drop_more d i 0 h) ∙ lex-blank (get_or d i 0) (drop (i + 1) d) e)

pub string_at : (d : List ℕ) (i : ℕ) → i < length d → (get_or d i 0 == 34) ≡ false → (get_or d i 0 == 92) ≡ false
    → lex in_string (drop (i + 1) d) ≡ lex in_string (drop i d)
string_at d i h q b = sym (ap (lex in_string) (drop_more d i 0 h) ∙ lex-in_string (get_or d i 0) (drop (i + 1) d) q b)

pub quote_at : (d : List ℕ) (i : ℕ) → i < length d → get_or d i 0 ≡ 34 → lex between (drop (i + 1) d) ≡ lex in_string (drop i d)
quote_at d i h e = sym (ap (lex in_string) (drop_more d i 0 h) ∙ ap (λ x. lex in_string (x ∷ drop (i + 1) d)) e ∙ lex-quote (drop (i + 1) d))

escape_here : (xs : List ℕ) → lex in_string (92 ∷ xs) ≡ lex in_string (drop 1 xs)
escape_here [] = lex-cut ∙ lex-none between ∙ sym (lex-none in_string)
escape_here (x ∷ xs) = lex-escape x xs

pub escape_at : (d : List ℕ) (i : ℕ) → i < length d → get_or d i 0 ≡ 92 → lex in_string (drop (i + 2) d) ≡ lex in_string (drop i d)
escape_at d i h e =
    let two : i + 1 + 1 ≡ i + 2 = omega arith in
    ap (λ n. lex in_string (drop n d)) (sym two) ∙ ap (lex in_string) (sym (drop-drop 1 (i + 1) d)) ∙ sym (escape_here (drop (i + 1) d))
    ∙ sym (ap (λ x. lex in_string (x ∷ drop (i + 1) d)) e) ∙ sym (ap (lex in_string) (drop_more d i 0 h))

-- ---- over plain bytes

pub plain_over : (d : List ℕ) (i n : ℕ) → i + n ≤ length d → ((k : ℕ) → i ≤ k → k < i + n → is_stop (get_or d k 0) ≡ false)
    → lex in_string (drop (i + n) d) ≡ lex in_string (drop i d)
plain_over d i zero h each = let none : i + 0 ≡ i = omega arith in ap (λ n. lex in_string (drop n d)) none
plain_over d i (suc n) h each =
    let next : i + suc n ≡ i + n + 1 = omega arith in
    let here = or_parts _ _ (or_parts _ _ (each (i + n) (omega arith) (omega arith))).0 in
    ap (λ m. lex in_string (drop m d)) next ∙ string_at d (i + n) (omega arith) here.0 here.1
    ∙ plain_over d i n (omega arith) (λ k low high. each k low (omega arith))
