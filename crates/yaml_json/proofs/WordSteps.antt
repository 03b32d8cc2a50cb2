-- The lexer over a word: a number, or the name of a value.
use Rattle.yaml_json.proofs.Common.{◌≡◌, ℕ, suc, ◌+◌, Bool, true, false, cond, ◌||◌, ◌==◌, List, [], ◌∷◌, drop, length, Option, Some, None, option_and_then}
use Rattle.yaml_json.proofs.Common.{refl, ap, sym, ◌∙◌, ◌&&◌, ◌-◌, subst, arith, nat_eq, take, length-drop, backslash, class, in_word, lex, operator, other}
use Rattle.yaml_json.proofs.Common.{quote, space, after_digits, after_exponent, after_fraction, after_minus, after_sign, after_whole, ends_word, head}
use Rattle.yaml_json.proofs.Common.{is_operator, is_space, literal, number_before, Token, bad, true≢false, eqb-true, ne_eqb, or_parts, and_parts, nat_tests}
use Rattle.yaml_json.proofs.Common.{is_ascii_digit, prefix_len, starts_with}
use Rattle.json.specs.{Lex.between, Word.after_number, Word.word, Token.boolean, Token.null, Token.number}
use Rattle.yaml_json.specs.Lexemes.{IsInWord, LeavesAt}
use Rattle.yaml_json.proofs.LexSteps.{lex-delimiter, lex-in_word, lex-none, value_is}
use Rattle.json.specs.Ascii as ascii

-- a word goes on over the byte
abbrev pub Inner : ℕ → Type 0
Inner x = (is_operator x || is_space x) ≡ false

pub digit_inner : (x : ℕ) → is_ascii_digit x ≡ true → Inner x
digit_inner x digit = grind (arith, nat_tests)

pub sign_inner : (x : ℕ) → ((x == 45) || (x == 43)) ≡ true → Inner x
sign_inner x sign = grind (arith, nat_tests)

pub letter_inner : (x : ℕ) → ((x == 101) || (x == 69)) ≡ true → Inner x
letter_inner x letter = grind (arith, nat_tests)

other_by : (q b o s : Bool) → cond q quote (cond b backslash (cond o operator (cond s space other))) ≡ other → (o || s) ≡ false
other_by false false false false e = refl
other_by _ _ _ _ e = cc

pub other_inner : (x : ℕ) → class x ≡ other → Inner x
other_inner x = other_by (x == ascii.quote) (x == ascii.backslash) (is_operator x) (is_space x)

-- ---- at the front of a text

pub one_over : (t : List ℕ) → Inner (head t) → lex in_word (drop 1 t) ≡ lex in_word t
one_over [] inner = refl
one_over (x ∷ xs) inner = sym (lex-in_word x xs inner)

ends_here : (t : List ℕ) → ends_word t ≡ true → lex between t ≡ lex in_word t
ends_here [] e = lex-none between ∙ sym (lex-none in_word)
ends_here (x ∷ xs) e = sym (lex-delimiter x xs e)

name_over : (name t : List ℕ) → IsInWord name → starts_with nat_eq t name ≡ true → lex in_word (drop (length name) t) ≡ lex in_word t
name_over [] t inner same = refl
name_over (n ∷ ns) [] inner same = absurd (true≢false (sym same))
name_over (n ∷ ns) (x ∷ xs) inner same =
    let each = and_parts _ _ same in
    let parts = or_parts _ _ inner in
    name_over ns xs parts.1 each.1 ∙ sym (lex-in_word x xs (subst Inner (eqb-true n x each.0) parts.0))

-- ---- the parts of a number

digit_over : (b : Bool) (x : ℕ) (xs : List ℕ) (n : ℕ) → (b ≡ true → Inner x) → lex in_word (drop n xs) ≡ lex in_word xs
    → lex in_word (drop (cond b (1 + n) 0) (x ∷ xs)) ≡ lex in_word (x ∷ xs)
digit_over true x xs n inner more =
    let next : 1 + n ≡ suc n = omega arith in
    ap (λ m. lex in_word (drop m (x ∷ xs))) next ∙ more ∙ sym (lex-in_word x xs (inner refl))
digit_over false x xs n inner more = refl

digits_over : (t : List ℕ) → lex in_word (drop (prefix_len is_ascii_digit t) t) ≡ lex in_word t
digits_over [] = refl
digits_over (x ∷ xs) = digit_over (is_ascii_digit x) x xs (prefix_len is_ascii_digit xs) (digit_inner x) (digits_over xs)

over_if : (b : Bool) (t : List ℕ) → (b ≡ true → Inner (head t)) → lex in_word (cond b (drop 1 t) t) ≡ lex in_word t
over_if true t inner = one_over t (inner refl)
over_if false t inner = refl

-- either part leaves the rest
pub pick : {G : Type 0} (b : Bool) (one two : Option (List ℕ)) (rest : List ℕ) → (b ≡ true → one ≡ Some rest → G) → (two ≡ Some rest → G)
    → cond b one two ≡ Some rest → G
pick true one two rest f g e = f refl e
pick false one two rest f g e = g e

-- one part follows another
pub chained : {G : Type 0} (f : List ℕ → Option (List ℕ)) (found : Option (List ℕ)) (rest : List ℕ)
    → ((middle : List ℕ) → found ≡ Some middle → f middle ≡ Some rest → G) → option_and_then f found ≡ Some rest → G
chained f None rest go e = cc
chained f (Some middle) rest go e = go middle refl e

left_is : (t rest : List ℕ) → Some t ≡ Some rest → lex in_word rest ≡ lex in_word t
left_is t rest e = let same : rest ≡ t = cc in ap (lex in_word) same

digits : (t rest : List ℕ) → after_digits t ≡ Some rest → lex in_word rest ≡ lex in_word t
digits t rest =
    pick (prefix_len is_ascii_digit t == 0) None (Some (drop (prefix_len is_ascii_digit t) t)) rest (λ none e. cc)
    (λ e. left_is (drop (prefix_len is_ascii_digit t) t) rest e ∙ digits_over t)

whole : (t rest : List ℕ) → after_whole t ≡ Some rest → lex in_word rest ≡ lex in_word t
whole t rest =
    pick (head t == 48) (Some (drop 1 t)) (after_digits t) rest (λ zero e. left_is (drop 1 t) rest e ∙ one_over t (value_is Inner (head t) 48 refl zero))
    (digits t rest)

fraction : (t rest : List ℕ) → after_fraction t ≡ Some rest → lex in_word rest ≡ lex in_word t
fraction t rest =
    pick (head t == 46) (after_digits (drop 1 t)) (Some t) rest (λ dot e. digits (drop 1 t) rest e ∙ one_over t (value_is Inner _ 46 refl dot)) (left_is t rest)

exponent : (t rest : List ℕ) → after_exponent t ≡ Some rest → lex in_word rest ≡ lex in_word t
exponent t rest =
    pick ((head t == 101) || (head t == 69)) (after_digits (after_sign (drop 1 t))) (Some t) rest (λ letter e. digits (after_sign (drop 1 t)) rest e
    ∙ over_if ((head (drop 1 t) == 45) || (head (drop 1 t) == 43)) (drop 1 t) (sign_inner (head (drop 1 t))) ∙ one_over t (letter_inner (head t) letter))
    (left_is t rest)

number_over : (t rest : List ℕ) → after_number t ≡ Some rest → lex in_word rest ≡ lex in_word t
unfolding after_number
number_over t rest =
    chained after_exponent (option_and_then after_fraction (after_whole (after_minus t))) rest
    (λ power found last. chained after_fraction (after_whole (after_minus t)) power
    (λ point first next. exponent power rest last ∙ fraction point power next ∙ whole (after_minus t) point first
    ∙ over_if (head t == 45) t (value_is Inner (head t) 45 refl)) found)

-- ---- the token that is read

pub literal_read : (name t left : List ℕ) (named : Token) → IsInWord name → (named ≡ bad → ⊥) → starts_with nat_eq t name ≡ true
    → ends_word (drop (length name) t) ≡ true → left ≡ drop (length name) t
    → (named ≡ literal name named t) × (literal name named t ≡ bad → ⊥) × (lex between left ≡ lex in_word t)
literal_read name t left named inner good starts ends is =
    let found : literal name named t ≡ named = λ i. cond (starts i && ends i) named bad in
    (sym found, (λ e. good (sym found ∙ e)), ap (lex between) is ∙ ends_here (drop (length name) t) ends ∙ name_over name t inner starts)

pub number_read : (t run left : List ℕ) (end : ℕ) → LeavesAt t (Some end) (after_number t) → ends_word (drop end t) ≡ true
    → run ≡ take end t → left ≡ drop end t
    → (number run ≡ number_before t (after_number t)) × (number_before t (after_number t) ≡ bad → ⊥) × (lex between left ≡ lex in_word t)
number_read t run left end leaves ends same is =
    let size : length t - length (drop end t) ≡ end = omega (arith, leaves.1, length-drop end t) in
    let found : number_before t (after_number t) ≡ number run =
    ap (number_before t) (sym leaves.0) ∙ (λ i. cond (ends i) (number (take (size i) t)) bad) ∙ ap number (sym same) in (
      sym found,
      (λ e. let apart : number run ≡ bad = sym found ∙ e in cc),
      ap (lex between) is ∙ ends_here (drop end t) ends ∙ number_over t (drop end t) (sym leaves.0),
    )

-- A word that names no value is a number, or no token.
pub number_word : (t : List ℕ) → (head t ≡ 116 → ⊥) → (head t ≡ 102 → ⊥) → (head t ≡ 110 → ⊥) → word t ≡ number_before t (after_number t)
unfolding word
number_word t no_true no_false no_null = λ i. cond (ne_eqb (head t) 116 no_true i) (literal ascii.true_text (boolean true) t) (cond
    (ne_eqb (head t) 102 no_false i) (literal ascii.false_text (boolean false) t)
    (cond (ne_eqb (head t) 110 no_null i) (literal ascii.null_text null t) (number_before t (after_number t))))
