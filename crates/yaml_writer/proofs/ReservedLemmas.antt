-- The reserved words by the first bytes of a text.
use Rattle.yaml_writer.proofs.Common.{suc, zero, ℕ, ◌<◌, if◌then◌else◌, ◌==◌, nat_lt, length, take, Bool, false, true, ◌&&◌, ◌||◌, List, [], map, ◌∷◌}
use Rattle.yaml_writer.proofs.Common.{refl, ◌≡◌, ltb-true, ap, sym, ◌∙◌, arith, and_parts, take_while-cons, to_ascii_lowercase, list_all}
use Rattle.yaml_writer.proofs.Common.{list_any, take_while, Text, is_ascii, is_word, reserved_words, ascii_prefix, is_reserved_word}
use Rattle.yaml_base.proofs.Common.{bytes_eq}

-- the prefix of a text, in lower case
abbrev lowered : Text → Text
lowered text = map to_ascii_lowercase text

-- the first bytes of a text, more than a word has, are the word if and only if the text's ASCII start is
short_word : (n : ℕ) (text word : Text) → length word < n
    → bytes_eq (lowered (take_while is_ascii (take n text))) word ≡ bytes_eq (lowered (take_while is_ascii text)) word
short_word zero text word h = absurd (omega (arith, h))
short_word (suc n) [] word h = refl
short_word (suc n) (c ∷ rest) [] h =
    ap (λ t. bytes_eq (lowered t) []) (take_while-cons is_ascii c (take n rest)) ∙ by (is_ascii c)
    ∙ ap (λ t. bytes_eq (lowered t) []) (sym (take_while-cons is_ascii c rest))
  where
    by : (x : Bool) → bytes_eq (lowered (if x then c ∷ take_while is_ascii (take n rest) else [])) []
        ≡ bytes_eq (lowered (if x then c ∷ take_while is_ascii rest else [])) []
    by true = refl
    by false = refl
short_word (suc n) (c ∷ rest) (d ∷ word) h =
    ap (λ t. bytes_eq (lowered t) (d ∷ word)) (take_while-cons is_ascii c (take n rest)) ∙ by (is_ascii c) (short_word n rest word (omega (arith, h)))
    ∙ ap (λ t. bytes_eq (lowered t) (d ∷ word)) (sym (take_while-cons is_ascii c rest))
  where
    by : (x : Bool) → bytes_eq (lowered (take_while is_ascii (take n rest))) word ≡ bytes_eq (lowered (take_while is_ascii rest)) word
        → bytes_eq (lowered (if x then c ∷ take_while is_ascii (take n rest) else [])) (d ∷ word)
        ≡ bytes_eq (lowered (if x then c ∷ take_while is_ascii rest else [])) (d ∷ word)
    by true later = ap (λ x. to_ascii_lowercase c == d && x) later
    by false later = refl

short_words : (text : Text) (words : List Text) → list_all (λ word. nat_lt (length word) 10) words ≡ true
    → list_any (is_word (lowered (take_while is_ascii (take 10 text)))) words ≡ list_any (is_word (ascii_prefix text)) words
short_words text [] h = refl
short_words text (word ∷ words) h =
    let both = and_parts (nat_lt (length word) 10) (list_all (λ w. nat_lt (length w) 10) words) h in
    ap (λ x. x || list_any (is_word (lowered (take_while is_ascii (take 10 text)))) words) (short_word 10 text word (ltb-true (length word) 10 both.0))
    ∙ ap (λ x. is_word (ascii_prefix text) word || x) (short_words text words both.1)

-- the first bytes tell a reserved word
pub reserved_by_head : (text : Text) → is_reserved_word (lowered (take_while is_ascii (take 10 text))) ≡ list_any (is_word (ascii_prefix text)) reserved_words
reserved_by_head text = short_words text reserved_words refl
