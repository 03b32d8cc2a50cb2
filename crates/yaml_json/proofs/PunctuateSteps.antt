-- The rules for commas and colons, token by token.
use Rattle.yaml_json.proofs.Common.{◌≡◌, ℕ, Bool, true, false, cond, ◌&&◌, ◌==◌, ◌-◌, List, [], ◌∷◌, length, take, drop, Option, Some, None, refl, sym, ap, ◌∙◌}
use Rattle.yaml_json.proofs.Common.{arith, true≢false, ne_eqb, false_from_ne_true, Token, begin_object, end_object, begin_array, end_array, key, bad, content}
use Rattle.yaml_json.proofs.Common.{ends_word, head, is_operator, is_space, literal, number_before, IsTrimmed, Lexeme, after_comma, after_key, after_value}
use Rattle.yaml_json.proofs.Common.{backslash, begins_colon, class, colon, comma, fresh, in_string, in_word, lex_byte, may_begin, may_close, if_allowed}
use Rattle.yaml_json.proofs.Common.{operator, other, place_token, quote, space, string_token, token, starts_with, nat_eq}
use Rattle.json.specs.{Token.string, Token.number, Token.boolean, Token.null, Text.plain, Word.after_number, Word.word}
use Rattle.json.specs.Lex.{Place, between, lex, Mode, punctuate}
use Rattle.yaml_json.proofs.LexSteps.{each_operator}
use Rattle.json.specs.Ascii as ascii

-- ---- the first lexeme of a text

begins_with : (t : List ℕ) (v : ℕ) → head t ≡ v → (32 ≡ v → ⊥) → t ≡ v ∷ drop 1 t
begins_with [] v e apart = absurd (apart e)
begins_with (x ∷ xs) v e apart = ap (λ y. y ∷ xs) e

pub lex-begin_object : (t : List ℕ) → head t ≡ 123 → lex between t ≡ token begin_object ∷ lex between (drop 1 t)
unfolding lex
lex-begin_object t e = ap (lex between) (begins_with t 123 e (λ f. absurd (omega arith)))

pub lex-end_object : (t : List ℕ) → head t ≡ 125 → lex between t ≡ token end_object ∷ lex between (drop 1 t)
unfolding lex
lex-end_object t e = ap (lex between) (begins_with t 125 e (λ f. absurd (omega arith)))

pub lex-begin_array : (t : List ℕ) → head t ≡ 91 → lex between t ≡ token begin_array ∷ lex between (drop 1 t)
unfolding lex
lex-begin_array t e = ap (lex between) (begins_with t 91 e (λ f. absurd (omega arith)))

pub lex-end_array : (t : List ℕ) → head t ≡ 93 → lex between t ≡ token end_array ∷ lex between (drop 1 t)
unfolding lex
lex-end_array t e = ap (lex between) (begins_with t 93 e (λ f. absurd (omega arith)))

pub lex-comma : (t : List ℕ) → head t ≡ 44 → lex between t ≡ comma ∷ lex between (drop 1 t)
unfolding lex
lex-comma t e = ap (lex between) (begins_with t 44 e (λ f. absurd (omega arith)))

pub lex-colon : (t : List ℕ) → head t ≡ 58 → lex between t ≡ colon ∷ lex between (drop 1 t)
unfolding lex
lex-colon t e = ap (lex between) (begins_with t 58 e (λ f. absurd (omega arith)))

pub lex-string : (t : List ℕ) → head t ≡ 34 → lex between t ≡ token (string_token (content plain (drop 1 t))) ∷ lex in_string (drop 1 t)
unfolding lex
lex-string t e = ap (lex between) (begins_with t 34 e (λ f. absurd (omega arith)))

pub lex-stray : (t : List ℕ) → head t ≡ 92 → lex between t ≡ token bad ∷ lex in_word (drop 1 t)
unfolding lex
lex-stray t e = ap (lex between) (begins_with t 92 e (λ f. absurd (omega arith)))

space_apart : space ≡ other → ⊥
space_apart e = cc

pub lex-word : (t : List ℕ) → class (head t) ≡ other → lex between t ≡ token (word t) ∷ lex in_word (drop 1 t)
unfolding lex
lex-word [] e = absurd (space_apart e)
lex-word (x ∷ xs) e = ap (λ c. lex_byte between c x xs (λ next. lex next xs)) e

-- ---- a token at a place that allows it

pub put-begin_object : (p : Place) (ls : List Lexeme) → may_begin p ≡ true → punctuate p (token begin_object ∷ ls) ≡ begin_object ∷ punctuate fresh ls
unfolding punctuate
put-begin_object after_value ls e = absurd (true≢false (sym e))
put-begin_object after_key ls e = absurd (true≢false (sym e))
put-begin_object _ ls e = refl

pub put-begin_array : (p : Place) (ls : List Lexeme) → may_begin p ≡ true → punctuate p (token begin_array ∷ ls) ≡ begin_array ∷ punctuate fresh ls
unfolding punctuate
put-begin_array after_value ls e = absurd (true≢false (sym e))
put-begin_array after_key ls e = absurd (true≢false (sym e))
put-begin_array _ ls e = refl

pub put-end_object : (p : Place) (ls : List Lexeme) → may_close p ≡ true → punctuate p (token end_object ∷ ls) ≡ end_object ∷ punctuate after_value ls
unfolding punctuate
put-end_object after_comma ls e = absurd (true≢false (sym e))
put-end_object after_key ls e = absurd (true≢false (sym e))
put-end_object _ ls e = refl

pub put-end_array : (p : Place) (ls : List Lexeme) → may_close p ≡ true → punctuate p (token end_array ∷ ls) ≡ end_array ∷ punctuate after_value ls
unfolding punctuate
put-end_array after_comma ls e = absurd (true≢false (sym e))
put-end_array after_key ls e = absurd (true≢false (sym e))
put-end_array _ ls e = refl

pub put-key : (p : Place) (s : List ℕ) (ls : List Lexeme) → may_begin p ≡ true → punctuate p (token (string s) ∷ colon ∷ ls) ≡ key s ∷ punctuate fresh ls
unfolding punctuate
put-key after_value s ls e = absurd (true≢false (sym e))
put-key after_key s ls e = absurd (true≢false (sym e))
put-key _ s ls e = refl

put-text : (b : Bool) (p : Place) (s : List ℕ) (k : Place → List Token) → may_begin p ≡ true → b ≡ false
    → place_token p (string s) b k ≡ string s ∷ k after_value
put-text true p s k e f = absurd (true≢false f)
put-text false after_value s k e f = absurd (true≢false (sym e))
put-text false after_key s k e f = absurd (true≢false (sym e))
put-text false _ s k e f = refl

pub as_placed : (p : Place) (t : Token) (ls : List Lexeme) → punctuate p (token t ∷ ls) ≡ place_token p t (begins_colon ls) (λ next. punctuate next ls)
unfolding punctuate
as_placed fresh t ls = refl
as_placed _ t ls = refl

pub put-string : (p : Place) (s : List ℕ) (ls : List Lexeme) → may_begin p ≡ true → begins_colon ls ≡ false
    → punctuate p (token (string s) ∷ ls) ≡ string s ∷ punctuate after_value ls
put-string p s ls e f = as_placed p (string s) ls ∙ put-text (begins_colon ls) p s (λ next. punctuate next ls) e f

-- ---- a word

-- True if a token is that of a word: a number, a boolean or null, or bad.
abbrev pub IsWord : Token → Type 0
IsWord (number text) = Unit {0}
IsWord (boolean flag) = Unit {0}
IsWord null = Unit {0}
IsWord bad = Unit {0}
IsWord _ = ⊥

IsWord-cond : (b : Bool) (x y : Token) → IsWord x → IsWord y → IsWord (cond b x y)
IsWord-cond true x y p q = p
IsWord-cond false x y p q = q

IsWord-literal : (name t : List ℕ) (x : Token) → IsWord x → IsWord (literal name x t)
IsWord-literal name t x p = IsWord-cond (starts_with nat_eq t name && ends_word (drop (length name) t)) x bad p tt

IsWord-number : (t : List ℕ) (rest : Option (List ℕ)) → IsWord (number_before t rest)
IsWord-number t None = tt
IsWord-number t (Some rest) = IsWord-cond (ends_word rest) (number (take (length t - length rest) t)) bad tt tt

pub IsWord-word : (t : List ℕ) → IsWord (word t)
unfolding word
IsWord-word t =
    let third = literal ascii.null_text null t in
    let last = number_before t (after_number t) in
    let second = literal ascii.false_text (boolean false) t in
    let later = cond (head t == ascii.lower_n) third last in
    IsWord-cond (head t == ascii.lower_t) (literal ascii.true_text (boolean true) t) (cond (head t == ascii.lower_f) second later)
    (IsWord-literal ascii.true_text t (boolean true) tt)
    (IsWord-cond (head t == ascii.lower_f) second later (IsWord-literal ascii.false_text t (boolean false) tt)
    (IsWord-cond (head t == ascii.lower_n) third last (IsWord-literal ascii.null_text t null tt) (IsWord-number t (after_number t))))

put-good : (b : Bool) (p : Place) (w : Token) (k : Place → List Token) → IsWord w → (w ≡ bad → ⊥) → may_begin p ≡ true → place_token p w b k ≡ w ∷ k after_value
put-good b p (number s) k i n e = ap (λ may. if_allowed may (number s) k after_value) e
put-good b p (boolean v) k i n e = ap (λ may. if_allowed may (boolean v) k after_value) e
put-good b p null k i n e = ap (λ may. if_allowed may null k after_value) e
put-good b p bad k i n e = absurd (n refl)
put-good b p _ k i n e = absurd i

pub put-word : (p : Place) (w : Token) (ls : List Lexeme) → IsWord w → (w ≡ bad → ⊥) → may_begin p ≡ true
    → punctuate p (token w ∷ ls) ≡ w ∷ punctuate after_value ls
put-word p w ls i n e = as_placed p w ls ∙ put-good (begins_colon ls) p w (λ next. punctuate next ls) i n e

pub put-bad : (p : Place) (ls : List Lexeme) → punctuate p (token bad ∷ ls) ≡ bad ∷ []
put-bad p ls = as_placed p bad ls

-- ---- lexemes that no place allows

pub stray-comma : (p : Place) (ls : List Lexeme) → may_begin p ≡ true → punctuate p (comma ∷ ls) ≡ bad ∷ []
unfolding punctuate
stray-comma after_value ls e = absurd (true≢false (sym e))
stray-comma after_key ls e = absurd (true≢false (sym e))
stray-comma _ ls e = refl

pub stray-colon : (p : Place) (ls : List Lexeme) → may_begin p ≡ true → punctuate p (colon ∷ ls) ≡ bad ∷ []
unfolding punctuate
stray-colon after_value ls e = absurd (true≢false (sym e))
stray-colon after_key ls e = absurd (true≢false (sym e))
stray-colon _ ls e = refl

abbrev IsNoCloser : Token → Type 0
IsNoCloser end_object = ⊥
IsNoCloser end_array = ⊥
IsNoCloser _ = Unit {0}

word_no_closer : (w : Token) → IsWord w → IsNoCloser w
word_no_closer end_object i = i
word_no_closer end_array i = i
word_no_closer _ i = tt

text_no_closer : (o : Option (List ℕ)) → IsNoCloser (string_token o)
text_no_closer None = tt
text_no_closer (Some s) = tt

late : (b : Bool) (t : Token) (k : Place → List Token) → IsNoCloser t → place_token after_value t b k ≡ bad ∷ []
late b end_object k n = absurd n
late b end_array k n = absurd n
late true (string s) k n = refl
late _ _ k n = refl

late_token : (t : Token) (ls : List Lexeme) → IsNoCloser t → punctuate after_value (token t ∷ ls) ≡ bad ∷ []
late_token t ls n = as_placed after_value t ls ∙ late (begins_colon ls) t (λ next. punctuate next ls) n

late_byte : (q b : Bool) (x : ℕ) (xs : List ℕ) (k : Mode → List Lexeme)
    → punctuate after_value (lex_byte between (cond q quote (cond b backslash (cond false operator (cond false space other)))) x xs k) ≡ bad ∷ []
late_byte true b x xs k = late_token (string_token (content plain xs)) (k in_string) (text_no_closer (content plain xs))
late_byte false true x xs k = late_token bad (k in_word) tt
late_byte false false x xs k = late_token (word (x ∷ xs)) (k in_word) (word_no_closer (word (x ∷ xs)) (IsWord-word (x ∷ xs)))

-- Nothing may follow a value but a comma and a bracket that closes.
pub stray-behind : (t : List ℕ) → IsTrimmed t → (t ≡ [] → ⊥) → (head t ≡ 44 → ⊥) → (head t ≡ 125 → ⊥) → (head t ≡ 93 → ⊥)
    → punctuate after_value (lex between t) ≡ bad ∷ []
unfolding lex punctuate
stray-behind [] trimmed some a b c = absurd (some refl)
stray-behind (x ∷ xs) trimmed some a b c = go (is_operator x) (is_space x) refl refl
  where
    go : (o s : Bool) → is_operator x ≡ o → is_space x ≡ s → punctuate after_value (lex between (x ∷ xs)) ≡ bad ∷ []
    go true s e f =
        each_operator (λ v. (v ≡ 44 → ⊥) → (v ≡ 125 → ⊥) → (v ≡ 93 → ⊥) → punctuate after_value (lex between (v ∷ xs)) ≡ bad ∷ [])
        (λ p q r. refl) (λ p q r. absurd (q refl)) (λ p q r. refl) (λ p q r. absurd (r refl)) (λ p q r. refl) (λ p q r. absurd (p refl)) x e a b c
    go false true e f = let none = trimmed f in cc
    go false false e f =
        (λ i. punctuate after_value (lex_byte between
        (cond (x == ascii.quote) quote (cond (x == ascii.backslash) backslash (cond (e i) operator (cond (f i) space other)))) x xs (λ next. lex next xs)))
        ∙ late_byte (x == ascii.quote) (x == ascii.backslash) x xs (λ next. lex next xs)

no_colon_byte : (q b : Bool) (x : ℕ) (xs : List ℕ) (k : Mode → List Lexeme)
    → begins_colon (lex_byte between (cond q quote (cond b backslash (cond false operator (cond false space other)))) x xs k) ≡ false
no_colon_byte true b x xs k = refl
no_colon_byte false true x xs k = refl
no_colon_byte false false x xs k = refl

pub no_colon : (t : List ℕ) → IsTrimmed t → (head t ≡ 58 → ⊥) → begins_colon (lex between t) ≡ false
unfolding lex
no_colon [] trimmed apart = refl
no_colon (x ∷ xs) trimmed apart = go (is_operator x) (is_space x) refl refl
  where
    go : (o s : Bool) → is_operator x ≡ o → is_space x ≡ s → begins_colon (lex between (x ∷ xs)) ≡ false
    go true s e f =
        each_operator (λ v. (v ≡ 58 → ⊥) → begins_colon (lex between (v ∷ xs)) ≡ false)
        (λ p. refl) (λ p. refl) (λ p. refl) (λ p. refl) (λ p. absurd (p refl)) (λ p. refl) x e apart
    go false true e f = let none = trimmed f in cc
    go false false e f =
        (λ i. begins_colon (lex_byte between
        (cond (x == ascii.quote) quote (cond (x == ascii.backslash) backslash (cond (e i) operator (cond (f i) space other)))) x xs (λ next. lex next xs)))
        ∙ no_colon_byte (x == ascii.quote) (x == ascii.backslash) x xs (λ next. lex next xs)

class_other : (q b : Bool) → q ≡ false → b ≡ false → (o s : Bool) → o ≡ false → s ≡ false
    → cond q quote (cond b backslash (cond o operator (cond s space other))) ≡ other
class_other q b e f o s g h = λ i. cond (e i) quote (cond (f i) backslash (cond (g i) operator (cond (h i) space other)))

-- a byte that is nothing else begins a word
pub begins_word : (t : List ℕ) → IsTrimmed t → (t ≡ [] → ⊥) → (head t ≡ 34 → ⊥) → (head t ≡ 92 → ⊥) → is_operator (head t) ≡ false → class (head t) ≡ other
begins_word t trimmed some q b o =
    class_other _ _ (ne_eqb _ _ q) (ne_eqb _ _ b) _ _ o (false_from_ne_true _ (λ (s : is_space (head t) ≡ true). some (trimmed s)))
