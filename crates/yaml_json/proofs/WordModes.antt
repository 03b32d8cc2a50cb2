-- The lexer's mode over a word: a number, or the name of a value.
use Rattle.yaml_json.proofs.Common.{◌≡◌, ℕ, suc, ◌+◌, Bool, true, false, cond, ◌||◌, ◌==◌, List, [], ◌∷◌, ◌++◌, drop, length, Some, None, option_and_then, refl}
use Rattle.yaml_json.proofs.Common.{sym, inl, inr, ap, ◌∙◌, subst, arith, nat_eq, true≢false, eqb-true, or_parts, and_parts, backslash, class, in_word}
use Rattle.yaml_json.proofs.Common.{operator, other, quote, space, after_digits, after_exponent, after_fraction, after_minus, after_sign, after_whole}
use Rattle.yaml_json.proofs.Common.{ends_word, head, is_operator, is_space, is_ascii_digit, prefix_len, starts_with, Leads, mode_after, mode_over}
use Rattle.json.specs.{Lex.between, Word.after_number}
use Rattle.yaml_json.{proofs.LexSteps.value_is, proofs.ModeSteps.goes_nowhere, proofs.ModeSteps.goes_on, specs.Lexemes.IsInWord, specs.Lexing.GoesOver}
use Rattle.yaml_json.proofs.WordSteps.{Inner, chained, digit_inner, letter_inner, other_inner, pick, sign_inner}
use Rattle.json.specs.Ascii as ascii

abbrev pub InWord : (text rest : List ℕ) → Type 0
InWord text rest = GoesOver in_word text rest in_word

inner_stays : (q b o s : Bool) → (o || s) ≡ false → mode_after in_word (cond q quote (cond b backslash (cond o operator (cond s space other)))) ≡ in_word
inner_stays false false false true e = absurd (true≢false e)
inner_stays false false true s e = absurd (true≢false e)
inner_stays _ _ _ _ e = refl

pub byte_stays : (x : ℕ) → Inner x → mode_after in_word (class x) ≡ in_word
byte_stays x e = inner_stays (x == ascii.quote) (x == ascii.backslash) (is_operator x) (is_space x) e

pub one_goes : (t : List ℕ) → Inner (head t) → InWord t (drop 1 t)
one_goes [] inner = goes_nowhere in_word []
one_goes (x ∷ xs) inner = record { passed = x ∷ []; parts = refl; mode = byte_stays x inner }

more_goes : (x : ℕ) (xs rest : List ℕ) → Inner x → InWord xs rest → InWord (x ∷ xs) rest
more_goes x xs rest inner so = record {
  passed = x ∷ so.passed;
  parts = ap (λ t. x ∷ t) so.parts;
  mode = ap (λ m. mode_over m so.passed) (byte_stays x inner) ∙ so.mode;
}

pub then_goes : (t left rest : List ℕ) → InWord t left → InWord left rest → InWord t rest
then_goes t left rest one two = goes_on in_word in_word in_word t left rest one two

pub name_goes : (name t : List ℕ) → IsInWord name → starts_with nat_eq t name ≡ true → InWord t (drop (length name) t)
name_goes [] t inner same = goes_nowhere in_word t
name_goes (n ∷ ns) [] inner same = absurd (true≢false (sym same))
name_goes (n ∷ ns) (x ∷ xs) inner same =
    let each = and_parts _ _ same in
    let parts = or_parts _ _ inner in
    more_goes x xs (drop (length ns) xs) (subst Inner (eqb-true n x each.0) parts.0) (name_goes ns xs parts.1 each.1)

digit_goes : (b : Bool) (x : ℕ) (xs : List ℕ) (n : ℕ) → (b ≡ true → Inner x) → InWord xs (drop n xs) → InWord (x ∷ xs) (drop (cond b (1 + n) 0) (x ∷ xs))
digit_goes true x xs n inner more =
    let next : suc n ≡ 1 + n = omega arith in
    subst (λ m. InWord (x ∷ xs) (drop m (x ∷ xs))) next (more_goes x xs (drop n xs) (inner refl) more)
digit_goes false x xs n inner more = goes_nowhere in_word (x ∷ xs)

digits_go : (t : List ℕ) → InWord t (drop (prefix_len is_ascii_digit t) t)
digits_go [] = goes_nowhere in_word []
digits_go (x ∷ xs) = digit_goes (is_ascii_digit x) x xs (prefix_len is_ascii_digit xs) (digit_inner x) (digits_go xs)

goes_if : (b : Bool) (t : List ℕ) → (b ≡ true → Inner (head t)) → InWord t (cond b (drop 1 t) t)
goes_if true t inner = one_goes t (inner refl)
goes_if false t inner = goes_nowhere in_word t

left_goes : (start t rest : List ℕ) → Some t ≡ Some rest → InWord start t → InWord start rest
left_goes start t rest e so = let same : t ≡ rest = cc in subst (InWord start) same so

digits : (t rest : List ℕ) → after_digits t ≡ Some rest → InWord t rest
digits t rest =
    pick (prefix_len is_ascii_digit t == 0) None (Some (drop (prefix_len is_ascii_digit t) t)) rest (λ none e. cc)
    (λ e. left_goes t (drop (prefix_len is_ascii_digit t) t) rest e (digits_go t))

whole : (t rest : List ℕ) → after_whole t ≡ Some rest → InWord t rest
whole t rest =
    pick (head t == 48) (Some (drop 1 t)) (after_digits t) rest (λ zero e. left_goes t (drop 1 t) rest e (one_goes t (value_is Inner (head t) 48 refl zero)))
    (digits t rest)

fraction : (t rest : List ℕ) → after_fraction t ≡ Some rest → InWord t rest
fraction t rest =
    pick (head t == 46) (after_digits (drop 1 t)) (Some t) rest
    (λ dot e. then_goes t (drop 1 t) rest (one_goes t (value_is Inner _ 46 refl dot)) (digits (drop 1 t) rest e)) (λ e. left_goes t t rest e (goes_nowhere _ t))

exponent : (t rest : List ℕ) → after_exponent t ≡ Some rest → InWord t rest
exponent t rest =
    pick ((head t == 101) || (head t == 69)) (after_digits (after_sign (drop 1 t))) (Some t) rest (λ letter e. then_goes t (drop 1 t) rest
    (one_goes t (letter_inner (head t) letter)) (then_goes (drop 1 t) (after_sign (drop 1 t)) rest (goes_if ((head (drop 1 t) == 45) || (head (drop 1 t) == 43))
    (drop 1 t) (sign_inner (head (drop 1 t)))) (digits (after_sign (drop 1 t)) rest e))) (λ e. left_goes t t rest e (goes_nowhere _ t))

pub number_goes : (t rest : List ℕ) → after_number t ≡ Some rest → InWord t rest
unfolding after_number
number_goes t rest =
    chained after_exponent (option_and_then after_fraction (after_whole (after_minus t))) rest (λ power found last. chained after_fraction
    (after_whole (after_minus t)) power (λ point first next. then_goes t (after_minus t) rest (goes_if (head t == 45) t (value_is Inner (head t) 45 refl))
    (then_goes (after_minus t) point rest (whole (after_minus t) point first)
    (then_goes point power rest (fraction point power next) (exponent power rest last)))) found)

-- ---- a whole word

space_apart : space ≡ other → ⊥
space_apart e = cc

not_ended : (t : List ℕ) → class (head t) ≡ other → ends_word t ≡ true → ⊥
not_ended [] is ends = space_apart is
not_ended (x ∷ xs) is ends = true≢false (sym ends ∙ other_inner x is)

some_left : (t : List ℕ) → class (head t) ≡ other → t ≡ [] → ⊥
some_left [] is none = space_apart is
some_left (x ∷ xs) is none = cc

first_is : (x : ℕ) (xs t : List ℕ) → x ∷ xs ≡ t → class (head t) ≡ other → class x ≡ other
first_is x xs t same is = subst (λ (l : List ℕ). class (head l) ≡ other) (sym same) is

either_way : (passed t rest : List ℕ) → passed ++ rest ≡ t → class (head t) ≡ other → ends_word rest ≡ true → mode_over in_word passed ≡ in_word
    → mode_over between passed ≡ in_word
either_way [] t rest parts is ends so = absurd (not_ended t is (subst (λ (l : List ℕ). ends_word l ≡ true) parts ends))
either_way (x ∷ xs) t rest parts is ends so =
    let first = first_is x (xs ++ rest) t parts is in
    ap (λ c. mode_over (mode_after between c) xs) first ∙ sym (ap (λ c. mode_over (mode_after in_word c) xs) first) ∙ so

pub word_leads : (t rest : List ℕ) → class (head t) ≡ other → InWord t rest → ends_word rest ≡ true → Leads t rest
word_leads t rest is goes ends from (inl none) = absurd (some_left t is none)
word_leads t rest is goes ends between (inr may) =
    (in_word, record { passed = goes.passed; parts = goes.parts; mode = either_way goes.passed t rest goes.parts is ends goes.mode }, inr ends)
word_leads t rest is goes ends in_word (inr may) = absurd (not_ended t is may)
word_leads t rest is goes ends _ (inr may) = absurd may
