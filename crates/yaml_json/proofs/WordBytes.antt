-- A word that is a token has no quote.
use Rattle.yaml_json.proofs.Common.{◌≡◌, ℕ, suc, ◌+◌, ◌-◌, Bool, true, false, cond, ◌||◌, ◌&&◌, ◌==◌, List, [], ◌∷◌, ◌++◌, drop, length, take, Option, Some}
use Rattle.yaml_json.proofs.Common.{None, option_and_then, refl, sym, ap, ◌∙◌, subst, arith, nat_eq, append_assoc, Token, bad, after_digits, after_exponent}
use Rattle.yaml_json.proofs.Common.{after_fraction, after_minus, after_sign, after_whole, ends_word, head, is_operator, is_space, literal, number_before}
use Rattle.yaml_json.proofs.Common.{true≢false, eqb-true, and_parts, nat_tests, is_ascii_digit, prefix_len, starts_with}
use Rattle.json.specs.{Token.boolean, Token.null, Token.number, Word.after_number, Word.word}
use Rattle.yaml_json.proofs.{LexSteps.value_is, WordSteps.chained, WordSteps.pick}
use Rattle.json.specs.Ascii as ascii

abbrev NoQuote : ℕ → Type 0
NoQuote x = (x == 34) ≡ false

abbrev NoQuotes : List ℕ → Type 0
NoQuotes [] = Unit {0}
NoQuotes (x ∷ xs) = NoQuote x × NoQuotes xs

digit_none : (x : ℕ) → is_ascii_digit x ≡ true → NoQuote x
digit_none x digit = grind (arith, nat_tests)

sign_none : (x : ℕ) → ((x == 45) || (x == 43)) ≡ true → NoQuote x
sign_none x sign = grind (arith, nat_tests)

letter_none : (x : ℕ) → ((x == 101) || (x == 69)) ≡ true → NoQuote x
letter_none x letter = grind (arith, nat_tests)

NoQuotes-append : (xs ys : List ℕ) → NoQuotes xs → NoQuotes ys → NoQuotes (xs ++ ys)
NoQuotes-append [] ys none more = more
NoQuotes-append (x ∷ xs) ys none more = (none.0, NoQuotes-append xs ys none.1 more)

-- ---- from a text to the rest

record Plainly (t rest : List ℕ) : Type 0 where
  passed : List ℕ
  parts : passed ++ rest ≡ t
  none : NoQuotes passed

nowhere : (t : List ℕ) → Plainly t t
nowhere t = record { passed = []; parts = refl; none = tt }

one_byte : (t : List ℕ) → NoQuote (head t) → Plainly t (drop 1 t)
one_byte [] none = nowhere []
one_byte (x ∷ xs) none = record { passed = x ∷ []; parts = refl; none = (none, tt) }

one_more : (x : ℕ) (xs rest : List ℕ) → NoQuote x → Plainly xs rest → Plainly (x ∷ xs) rest
one_more x xs rest none so = record { passed = x ∷ so.passed; parts = ap (λ (t : List ℕ). x ∷ t) so.parts; none = (none, so.none) }

goes_on : (t left rest : List ℕ) → Plainly t left → Plainly left rest → Plainly t rest
goes_on t left rest first second = record {
  passed = first.passed ++ second.passed;
  parts = append_assoc first.passed second.passed rest ∙ ap (λ (l : List ℕ). first.passed ++ l) second.parts ∙ first.parts;
  none = NoQuotes-append first.passed second.passed first.none second.none;
}

name_passed : (bytes t : List ℕ) → NoQuotes bytes → starts_with nat_eq t bytes ≡ true → Plainly t (drop (length bytes) t)
name_passed [] t none same = nowhere t
name_passed (n ∷ ns) [] none same = absurd (true≢false (sym same))
name_passed (n ∷ ns) (x ∷ xs) none same =
    let each = and_parts _ _ same in
    one_more x xs (drop (length ns) xs) (subst NoQuote (eqb-true n x each.0) none.0) (name_passed ns xs none.1 each.1)

digit_passed : (b : Bool) (x : ℕ) (xs : List ℕ) (n : ℕ) → (b ≡ true → NoQuote x) → Plainly xs (drop n xs) → Plainly (x ∷ xs) (drop (cond b (1 + n) 0) (x ∷ xs))
digit_passed true x xs n none so =
    let next : suc n ≡ 1 + n = omega arith in subst (λ m. Plainly (x ∷ xs) (drop m (x ∷ xs))) next (one_more x xs (drop n xs) (none refl) so)
digit_passed false x xs n none so = nowhere (x ∷ xs)

some_digits : (t : List ℕ) → Plainly t (drop (prefix_len is_ascii_digit t) t)
some_digits [] = nowhere []
some_digits (x ∷ xs) = digit_passed (is_ascii_digit x) x xs (prefix_len is_ascii_digit xs) (digit_none x) (some_digits xs)

one_if : (b : Bool) (t : List ℕ) → (b ≡ true → NoQuote (head t)) → Plainly t (cond b (drop 1 t) t)
one_if true t none = one_byte t (none refl)
one_if false t none = nowhere t

left_is : (start t rest : List ℕ) → Some t ≡ Some rest → Plainly start t → Plainly start rest
left_is start t rest e so = let same : t ≡ rest = cc in subst (Plainly start) same so

digits : (t rest : List ℕ) → after_digits t ≡ Some rest → Plainly t rest
digits t rest =
    pick (prefix_len is_ascii_digit t == 0) None (Some (drop (prefix_len is_ascii_digit t) t)) rest (λ none e. cc)
    (λ e. left_is t (drop (prefix_len is_ascii_digit t) t) rest e (some_digits t))

whole : (t rest : List ℕ) → after_whole t ≡ Some rest → Plainly t rest
whole t rest =
    pick (head t == 48) (Some (drop 1 t)) (after_digits t) rest
    (λ zero e. left_is t (drop 1 t) rest e (one_byte t (value_is NoQuote (head t) 48 refl zero))) (digits t rest)

fraction : (t rest : List ℕ) → after_fraction t ≡ Some rest → Plainly t rest
fraction t rest =
    pick (head t == 46) (after_digits (drop 1 t)) (Some t) rest
    (λ dot e. goes_on t (drop 1 t) rest (one_byte t (value_is NoQuote (head t) 46 refl dot)) (digits (drop 1 t) rest e)) (λ e. left_is t t rest e (nowhere t))

exponent : (t rest : List ℕ) → after_exponent t ≡ Some rest → Plainly t rest
exponent t rest =
    pick ((head t == 101) || (head t == 69)) (after_digits (after_sign (drop 1 t))) (Some t) rest (λ letter e. goes_on t (drop 1 t) rest
    (one_byte t (letter_none (head t) letter)) (goes_on (drop 1 t) (after_sign (drop 1 t)) rest (one_if ((head (drop 1 t) == 45) || (head (drop 1 t) == 43))
    (drop 1 t) (sign_none (head (drop 1 t)))) (digits (after_sign (drop 1 t)) rest e))) (λ e. left_is t t rest e (nowhere t))

number_plain : (t rest : List ℕ) → after_number t ≡ Some rest → Plainly t rest
unfolding after_number
number_plain t rest =
    chained after_exponent (option_and_then after_fraction (after_whole (after_minus t))) rest (λ power found last. chained after_fraction
    (after_whole (after_minus t)) power (λ point first next. goes_on t (after_minus t) rest (one_if (head t == 45) t (value_is NoQuote (head t) 45 refl))
    (goes_on (after_minus t) point rest (whole (after_minus t) point first) (goes_on point power rest (fraction point power next) (exponent power rest last))))
    found)

-- ---- a word

-- up to the end of the word
abbrev pub QuoteFree : List ℕ → Type 0
QuoteFree [] = Unit {0}
QuoteFree (x ∷ xs) = NoQuote x × ((is_operator x || is_space x) ≡ false → QuoteFree xs)

delimiter_none : (b : Bool) (x : ℕ) → (x == 34) ≡ b → (is_operator x || is_space x) ≡ true → b ≡ false
delimiter_none true x e ends = absurd (true≢false (sym ends ∙ value_is (λ v. (is_operator v || is_space v) ≡ false) x 34 refl e))
delimiter_none false x e ends = refl

free_at_end : (rest : List ℕ) → ends_word rest ≡ true → QuoteFree rest
free_at_end [] ends = tt
free_at_end (x ∷ xs) ends = (delimiter_none (x == 34) x refl ends, λ inner. absurd (true≢false (sym ends ∙ inner)))

free_before : (passed rest : List ℕ) → NoQuotes passed → ends_word rest ≡ true → QuoteFree (passed ++ rest)
free_before [] rest none ends = free_at_end rest ends
free_before (x ∷ xs) rest none ends = (none.0, λ inner. free_before xs rest none.1 ends)

free : (t rest : List ℕ) → Plainly t rest → ends_word rest ≡ true → QuoteFree t
free t rest so ends = subst QuoteFree so.parts (free_before so.passed rest so.none ends)

by_bit : {G : Type 0} (b : Bool) (x y : Token) → (cond b x y ≡ bad → ⊥) → (b ≡ true → (x ≡ bad → ⊥) → G) → ((y ≡ bad → ⊥) → G) → G
by_bit true x y good f g = f refl good
by_bit false x y good f g = g good

never_bad : {G : Type 0} → (bad ≡ bad → ⊥) → G
never_bad good = absurd (good refl)

literal_free : (bytes t : List ℕ) (named : Token) → NoQuotes bytes → (literal bytes named t ≡ bad → ⊥) → QuoteFree t
literal_free bytes t named none good =
    by_bit (starts_with nat_eq t bytes && ends_word (drop (length bytes) t)) named bad good
    (λ is apart. let each = and_parts _ _ is in free t (drop (length bytes) t) (name_passed bytes t none each.0) each.1) never_bad

number_free : (t : List ℕ) (found : Option (List ℕ)) → after_number t ≡ found → (number_before t found ≡ bad → ⊥) → QuoteFree t
number_free t None is good = never_bad good
number_free t (Some rest) is good =
    by_bit (ends_word rest) (number (take (length t - length rest) t)) bad good (λ ends apart. free t rest (number_plain t rest is) ends) never_bad

pub good_word : (t : List ℕ) → (word t ≡ bad → ⊥) → QuoteFree t
unfolding word
good_word t good =
    let numeric = number_before t (after_number t) in
    let nothing = literal ascii.null_text null t in
    let denial = literal ascii.false_text (boolean false) t in
    let assent = literal ascii.true_text (boolean true) t in
    let later = cond (head t == ascii.lower_n) nothing numeric in
    let others = cond (head t == ascii.lower_f) denial later in
    by_bit (head t == ascii.lower_t) assent others good (λ is so. literal_free ascii.true_text t (boolean true) (refl, (refl, (refl, (refl, tt)))) so) (λ so.
    by_bit (head t == ascii.lower_f) denial later so (λ is then. literal_free ascii.false_text t (boolean false) (refl, (refl, (refl, (refl, (refl, tt)))))
    then) (λ then. by_bit (head t == ascii.lower_n) nothing numeric then (λ is now. literal_free ascii.null_text t null (refl, (refl, (refl, (refl, tt)))) now)
    (λ now. number_free t (after_number t) refl now)))
