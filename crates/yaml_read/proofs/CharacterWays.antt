-- Texts between quotes can be read in one way only.
use Rattle.yaml_read.proofs.Common.{ℕ, true, true≢false, None, Some, Option, List, [], ◌∷◌, ◌++◌, refl, ◌≡◌, ap, sym, ◌∙◌, ◌⊎◌, inl, inr, append_assoc}
use Rattle.yaml_read.proofs.Common.{append-nil, arith, codes, flat_map, all_scalars, encode_utf8, encode_utf8_all, character_text, ◌&&◌, and_parts}
use Rattle.yaml_read.proofs.Common.{escape_after_backslash, hex_digits, letter_among, needs_escape, short_escapes, Text, quote, in_quotes, backslash}
use Rattle.yaml_read.proofs.Common.{letter_meaning, encode_same, encodes-append, characters, integer, quoted_text}
use Rattle.yaml_read.proofs.OneWays.{OneWay, nothing_more, word_way, words_same}
use Rattle.yaml_read.proofs.{Escapes.Stands, Escapes.as_escape, Escapes.as_itself, Escapes.stands, Firsts.AfterBackslash, Firsts.after_backslash}
use Rattle.yaml_read.proofs.{Encoded.word_encoded, HeadsRead.word_bytes, Scalars.int_scalars, WordTexts.flat}

-- ---- characters

-- of two texts that begin the same bytes one goes on with the other
longer : (one other : Text) (a b : List ℕ) → encode_utf8_all one ++ a ≡ encode_utf8_all other ++ b
    → ((more : Text) × (other ≡ one ++ more)) ⊎ ((more : Text) × (one ≡ other ++ more))
longer [] other a b is = inl (other, refl)
longer (c ∷ one) [] a b is = inr (c ∷ one, refl)
longer (c ∷ one) (d ∷ other) a b is =
    let first = encode_same c d (encode_utf8_all one ++ a) (encode_utf8_all other ++ b)
    (sym (append_assoc (encode_utf8 c) (encode_utf8_all one) a) ∙ is ∙ append_assoc (encode_utf8 d) (encode_utf8_all other) b) in
    by first.0 (longer one other a b first.1)
  where
    by : c ≡ d → ((more : Text) × (other ≡ one ++ more)) ⊎ ((more : Text) × (one ≡ other ++ more))
        → ((more : Text) × (d ∷ other ≡ c ∷ (one ++ more))) ⊎ ((more : Text) × (c ∷ one ≡ d ∷ (other ++ more)))
    by same (inl goes) = inl (goes.0, ap (λ t. d ∷ t) goes.1 ∙ ap (λ e. e ∷ (one ++ goes.0)) (sym same))
    by same (inr goes) = inr (goes.0, ap (λ t. c ∷ t) goes.1 ∙ ap (λ e. e ∷ (other ++ goes.0)) same)

-- the texts of the words between quotes
data Between : Text → Type 0 where
  closes : Between (quote ∷ [])
  goes_on : (c : ℕ) (text : Text) → all_scalars (c ∷ []) ≡ true → Stands c text → Between text

heads : (c d : ℕ) (one other : Text) → c ∷ one ≡ d ∷ other → c ≡ d
heads c d one other is = cc

none_some : (c : ℕ) → ◌≡◌ {A = Option ℕ} None (Some c) → ⊥
none_some c is = cc

escapes_same : (c d : ℕ) (one other more : Text) → AfterBackslash c one → AfterBackslash d other → other ≡ one ++ more → one ≡ other
escapes_same c d one other more h1 h2 h3 = grind (arith, none_some, letter_meaning, heads, hex_digits)

stand_same : (c d : ℕ) (one other more : Text) → all_scalars (c ∷ []) ≡ true → all_scalars (d ∷ []) ≡ true → Stands c one → Stands d other
    → other ≡ one ++ more → one ≡ other
stand_same c d _ _ more scalar also (as_itself plain) (as_itself other) is = cc
stand_same c d _ _ more scalar also (as_itself plain) (as_escape needs) is =
    absurd (true≢false (ap (needs_escape true) (heads backslash c (escape_after_backslash (letter_among short_escapes d) d) more is) ∙ plain))
stand_same c d _ _ more scalar also (as_escape needs) (as_itself plain) is =
    absurd (true≢false (ap (needs_escape true) (sym (heads d backslash [] (escape_after_backslash (letter_among short_escapes c) c ++ more) is)) ∙ plain))
stand_same c d _ _ more scalar also (as_escape needs) (as_escape other) is =
    let behind : escape_after_backslash (letter_among short_escapes d) d ≡ escape_after_backslash (letter_among short_escapes c) c ++ more = cc in
    ap (λ t. backslash ∷ t) (escapes_same _ _ _ _ more (after_backslash c scalar needs) (after_backslash d also other) behind)

-- no character's text begins with a quote
no_quote : (c : ℕ) (text more : Text) → Stands c text → text ≡ quote ∷ more → ⊥
no_quote c text more h1 h2 = grind (arith, true≢false, needs_escape, true, heads, quote, backslash, escape_after_backslash, letter_among, short_escapes)

quoted_first : (c : ℕ) (text more : Text) → Stands c text → quote ∷ [] ≡ text ++ more → ⊥
quoted_first c text more h1 h2 = grind (arith, true≢false, needs_escape, true, heads, quote, backslash, escape_after_backslash, letter_among, short_escapes)

between_same : (one other more : Text) → Between one → Between other → other ≡ one ++ more → one ≡ other
between_same _ _ more closes closes is = refl
between_same _ _ more closes (goes_on d other scalar written) is = absurd (no_quote d other more written is)
between_same _ _ more (goes_on c one scalar written) closes is = absurd (quoted_first c one more written is)
between_same _ _ more (goes_on c one scalar written) (goes_on d other also next) is = stand_same c d one other more scalar also written next is

-- a word between quotes, in bytes
record BetweenWord (word : List ℕ) : Type 0 where
  pub text : Text
  pub between : Between text
  pub is : word ≡ encode_utf8_all text

between_word : (word : List ℕ) (words : List (List ℕ)) → characters (word ∷ words) → BetweenWord word
between_word word words (inl ends) = record { text = quote ∷ []; between = closes; is = ends.0 ∙ sym (word_bytes (codes "\"") refl) }
between_word word words (inr goes) =
    record { text = character_text true goes.0; between = goes_on goes.0 (character_text true goes.0) goes.1 (stands goes.0); is = goes.2 }

word_alike : (one other a b : List ℕ) → BetweenWord one → BetweenWord other → one ++ a ≡ other ++ b → one ≡ other
word_alike one other a b first second is =
    by (longer first.text second.text a b (ap (λ w. w ++ a) (sym first.is) ∙ is ∙ ap (λ w. w ++ b) second.is))
  where
    by : ((more : Text) × (second.text ≡ first.text ++ more)) ⊎ ((more : Text) × (first.text ≡ second.text ++ more)) → one ≡ other
    by (inl goes) = first.is ∙ ap encode_utf8_all (between_same first.text second.text goes.0 first.between second.between goes.1) ∙ sym second.is
    by (inr goes) = first.is ∙ ap encode_utf8_all (sym (between_same second.text first.text goes.0 second.between first.between goes.1)) ∙ sym second.is

-- after a character
inner : (word : List ℕ) (read : List (List ℕ)) (next : List ℕ) (words : List (List ℕ)) → characters (word ∷ (read ++ next ∷ words))
    → characters (read ++ next ∷ words)
inner word read next words (inl ends) = absurd (nothing_more read next words ends.1)
inner word read next words (inr goes) = goes.3

characters_alike : (read : List (List ℕ)) (one other : List ℕ) (ones others : List (List ℕ)) (a b : List ℕ) → characters (read ++ one ∷ ones)
    → characters (read ++ other ∷ others) → one ++ a ≡ other ++ b → one ≡ other
characters_alike [] one other ones others a b are also is = word_alike one other a b (between_word one ones are) (between_word other others also) is
characters_alike (word ∷ read) one other ones others a b are also is =
    characters_alike read one other ones others a b (inner word read one ones are) (inner word read other others also) is

-- the closing quote is the last word
quote_last : (word : List ℕ) (c : ℕ) → word ≡ codes "\"" → word ≡ encode_utf8_all (character_text true c) → ⊥
quote_last word c ends goes =
    by (longer (quote ∷ []) (character_text true c) [] [] (ap (λ w. w ++ []) (word_bytes (codes "\"") refl ∙ sym ends ∙ goes)))
  where
    by : ((more : Text) × (character_text true c ≡ quote ∷ more)) ⊎ ((more : Text) × (quote ∷ [] ≡ character_text true c ++ more)) → ⊥
    by (inl is) = no_quote c (character_text true c) is.0 (stands c) is.1
    by (inr is) = quoted_first c (character_text true c) is.0 (stands c) is.1

characters_end : (read : List (List ℕ)) (word : List ℕ) (words : List (List ℕ)) → characters read → characters (read ++ word ∷ words) → ⊥
characters_end [] word words are also = are
characters_end (first ∷ read) word words (inl ends) (inl also) = nothing_more read word words also.1
characters_end (first ∷ read) word words (inl ends) (inr goes) = quote_last first goes.0 ends.0 goes.2
characters_end (first ∷ read) word words (inr goes) (inl ends) = quote_last first goes.0 ends.0 goes.2
characters_end (first ∷ read) word words (inr goes) (inr also) = characters_end read word words goes.3 also.3

pub quoted_way : OneWay quoted_text
quoted_way = word_way (codes "\"") characters (record { alike = characters_alike; ends = characters_end })

-- ---- the words of a text

abbrev pub inner_words : Text → List (List ℕ)
inner_words [] = codes "\"" ∷ []
inner_words (c ∷ text) = encode_utf8_all (character_text true c) ∷ inner_words text

abbrev pub text_words : Text → List (List ℕ)
text_words text = codes "\"" ∷ inner_words text

inner_are : (text : Text) → all_scalars text ≡ true → characters (inner_words text)
inner_are [] scalars = inl (refl, tt)
inner_are (c ∷ text) scalars =
    let parts = and_parts _ (all_scalars text) scalars in
    inr (c, ap (λ b. b && true) parts.0, refl, inner_are text parts.1)

inner_flat : (text : Text) → flat (inner_words text) ≡ encode_utf8_all (flat_map (character_text true) text ++ quote ∷ [])
inner_flat [] = append-nil (codes "\"") ∙ sym (word_bytes (codes "\"") refl)
inner_flat (c ∷ text) = grind (arith, flat_map, character_text, encode_utf8_all, encodes-append, append_assoc, inner_flat text)

pub words_are : (text : Text) → all_scalars text ≡ true → quoted_text (text_words text)
words_are text scalars = (refl, inner_are text scalars)

pub words_flat : (text : Text) → flat (text_words text) ≡ encode_utf8_all (in_quotes text)
words_flat text = ap (λ t. codes "\"" ++ t) (inner_flat text) ∙ sym (word_encoded (codes "\"") (flat_map (character_text true) text ++ quote ∷ []) refl)

-- ---- integers

quoted_alike : (one other : Text) (a b : List ℕ) → all_scalars one ≡ true → all_scalars other ≡ true
    → encode_utf8_all (in_quotes one) ++ a ≡ encode_utf8_all (in_quotes other) ++ b → encode_utf8_all (in_quotes one) ≡ encode_utf8_all (in_quotes other)
quoted_alike one other a b scalars also is =
    let same = words_same quoted_text (text_words one) (text_words other) a b quoted_way (words_are one scalars) (words_are other also)
    (ap (λ w. w ++ a) (words_flat one) ∙ is ∙ ap (λ w. w ++ b) (sym (words_flat other))) in
    sym (words_flat one) ∙ ap flat same ∙ words_flat other

integer_alike : (read : List (List ℕ)) (one other : List ℕ) (ones others : List (List ℕ)) (a b : List ℕ) → integer (read ++ one ∷ ones)
    → integer (read ++ other ∷ others) → one ++ a ≡ other ++ b → one ≡ other
integer_alike [] one other ones others a b are also is = grind (arith, quoted_alike, int_scalars)
integer_alike (word ∷ read) one other ones others a b are also is = absurd (nothing_more read one ones are.2.1)

integer_ends : (read : List (List ℕ)) (word : List ℕ) (words : List (List ℕ)) → integer read → integer (read ++ word ∷ words) → ⊥
integer_ends [] word words are also = are.2
integer_ends (first ∷ read) word words are also = nothing_more read word words also.2.1

pub integer_way : OneWay integer
integer_way = record { alike = integer_alike; ends = integer_ends }
