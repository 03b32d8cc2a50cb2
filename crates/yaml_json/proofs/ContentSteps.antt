-- The content of a string (RFC 8259, section 7), run by run and escape by escape.
use Rattle.yaml_json.proofs.Common.{◌≡◌, ℕ, zero, suc, ◌+◌, ◌-◌, ◌*◌, ◌<◌, ◌≤◌, Bool, true, false, not, inl, inr, cond, ◌||◌, ◌&&◌, ◌==◌, List, [], ◌∷◌, ◌++◌}
use Rattle.yaml_json.proofs.Common.{take, drop, get_or, length, Option, Some, None, option_and_then, refl, subst, sym, ap, ◌∙◌, arith, append_assoc, append-nil}
use Rattle.yaml_json.proofs.Common.{drop-drop, drop_more, drop_all, get_or-drop, length-drop, take_all, encode_utf8, after_backslash, after_u, after_high}
use Rattle.yaml_json.proofs.Common.{prepend, ArePlain, Unescapes, first_unit, is_stop, true≢false, ne_eqb, or_parts, nat_tests}
use Rattle.std.{proofs.Common.nat_lt, specs.Char.InScalarRange, specs.Char.OutOfScalarRange, specs.Char.digit_value, specs.Char.is_digit}
use Rattle.json.specs.Text.{Within, plain, content, code_unit, short_escape, is_high_surrogate, is_low_surrogate, surrogate_pair}

-- No content is in nothing.
none_in_nothing : (within : Within) → content within [] ≡ None
unfolding content
none_in_nothing plain = refl
none_in_nothing _ = refl

pub none_at_end : (within : Within) (text : List ℕ) (from : ℕ) → length text ≤ from → content within (drop from text) ≡ None
none_at_end within text from past = ap (content within) (drop_all from text past) ∙ none_in_nothing within

-- The rest of a text begins with the byte at its place.
content_at : (within : Within) (text : List ℕ) (from : ℕ) → from < length text
    → content within (drop from text) ≡ content within (get_or text from 0 ∷ drop (from + 1) text)
content_at within text from before_end = ap (content within) (drop_more text from 0 before_end)

low_is : (q b c : Bool) → (q || b || c) ≡ true → q ≡ false → b ≡ false → c ≡ true
low_is true b c e f g = absurd (true≢false f)
low_is false true c e f g = absurd (true≢false g)
low_is false false c e f g = e

control_first : (x : ℕ) (xs : List ℕ) → is_stop x ≡ true → (x == 34) ≡ false → (x == 92) ≡ false → content plain (x ∷ xs) ≡ None
unfolding content
control_first x xs e q b =
    let low : nat_lt x 32 ≡ true = low_is (x == 34) (x == 92) (nat_lt x 32) e q b in
    λ i. cond (q i) (Some []) (cond (b i) (content after_backslash xs) (cond (low i) None (prepend (x ∷ []) (content plain xs))))

-- A stop that is neither a quote nor a backslash is no content.
pub content-control : (d : List ℕ) (i : ℕ) → i < length d → is_stop (get_or d i 0) ≡ true → (get_or d i 0 ≡ 34 → ⊥) → (get_or d i 0 ≡ 92 → ⊥)
    → content plain (drop i d) ≡ None
content-control d i h e q b = content_at plain d i h ∙ control_first (get_or d i 0) (drop (i + 1) d) e (ne_eqb _ _ q) (ne_eqb _ _ b)

plain_first : (x : ℕ) (xs : List ℕ) → is_stop x ≡ false → content plain (x ∷ xs) ≡ prepend (x ∷ []) (content plain xs)
unfolding content
plain_first x xs e =
    let all = or_parts ((x == 34) || (x == 92)) (nat_lt x 32) e in
    let two = or_parts (x == 34) (x == 92) all.0 in
    λ i. cond (two.0 i) (Some []) (cond (two.1 i) (content after_backslash xs) (cond (all.1 i) None (prepend (x ∷ []) (content plain xs))))

-- Two runs before some content are one run.
prepend-both : (done run : List ℕ) (more : Option (List ℕ)) → prepend (done ++ run) more ≡ prepend done (prepend run more)
prepend-both done run None = refl
prepend-both done run (Some bytes) = ap Some (append_assoc done run bytes)

pub prepend-nothing : (r : Option (List ℕ)) → r ≡ prepend [] r
prepend-nothing None = refl
prepend-nothing (Some s) = refl

-- A run of bytes that mean themselves.
pub plain_run : (d : List ℕ) (i n : ℕ) → i + n ≤ length d → ((k : ℕ) → i ≤ k → k < i + n → is_stop (get_or d k 0) ≡ false)
    → content plain (drop i d) ≡ prepend (take n (drop i d)) (content plain (drop (i + n) d))
plain_run d i zero h each =
    let none : i ≡ i + 0 = omega arith in
    prepend-nothing (content plain (drop i d)) ∙ ap (λ m. prepend [] (content plain (drop m d))) none
plain_run d i (suc n) h each =
    let next : i + 1 + n ≡ i + suc n = omega arith in
    ap (content plain) (drop_more d i 0 (omega arith)) ∙ plain_first (get_or d i 0) (drop (i + 1) d) (each i (omega arith) (omega arith))
    ∙ ap (prepend (get_or d i 0 ∷ [])) (plain_run d (i + 1) n (omega arith) (λ k low high. each k (omega arith) (omega arith)))
    ∙ sym (prepend-both (get_or d i 0 ∷ []) (take n (drop (i + 1) d)) (content plain (drop (i + 1 + n) d)))
    ∙ ap (λ m. prepend (get_or d i 0 ∷ take n (drop (i + 1) d)) (content plain (drop m d))) next
    ∙ ap (λ l. prepend (take (suc n) l) (content plain (drop (i + suc n) d))) (sym (drop_more d i 0 (omega arith)))

-- ---- escapes

-- The code unit at the front of four bytes or more is that of their first four.
pub unit_of_four : (text : List ℕ) → 4 ≤ length text → first_unit text ≡ code_unit (get_or text 0 0) (get_or text 1 0) (get_or text 2 0) (get_or text 3 0)
unit_of_four (a ∷ b ∷ c ∷ d ∷ rest) four = refl
unit_of_four _ four = absurd (omega arith)

-- Four digits spell a code unit by two bytes.
and_last : (first c d : Bool) → (c && d) ≡ false → ((first && c) && d) ≡ false
and_last true c d none = none
and_last false c d none = refl

pub no_high_byte : (a b c d : ℕ) → (is_digit a 16 && is_digit b 16) ≡ false → code_unit a b c d ≡ None
unfolding code_unit
no_high_byte a b c d none = λ i.
    cond ((none i && is_digit c 16) && is_digit d 16) (Some (digit_value a * 4096 + digit_value b * 256 + digit_value c * 16 + digit_value d)) None

pub no_low_byte : (a b c d : ℕ) → (is_digit c 16 && is_digit d 16) ≡ false → code_unit a b c d ≡ None
unfolding code_unit
no_low_byte a b c d none = λ i. cond (and_last (is_digit a 16 && is_digit b 16) (is_digit c 16) (is_digit d 16) none i)
    (Some (digit_value a * 4096 + digit_value b * 256 + digit_value c * 16 + digit_value d)) None

pub unit_of_bytes : (a b c d high low : ℕ) → is_digit a 16 ≡ true → is_digit b 16 ≡ true → is_digit c 16 ≡ true → is_digit d 16 ≡ true
    → high ≡ digit_value a * 16 + digit_value b → low ≡ digit_value c * 16 + digit_value d → code_unit a b c d ≡ Some (high * 256 + low)
unfolding code_unit
unit_of_bytes a b c d high low first second third fourth high_is low_is =
    let sum : digit_value a * 4096 + digit_value b * 256 + digit_value c * 16 + digit_value d ≡ high * 256 + low = omega (arith, high_is, low_is) in
    λ i. cond (((first i && second i) && third i) && fourth i) (Some (sum i)) None

-- After `\u` the content goes on by the code unit.
abbrev pub after_unit : (text : List ℕ) → (unit : ℕ) → Option (List ℕ)
after_unit text unit =
    cond (is_high_surrogate unit) (content (after_high unit) (drop 4 text))
    (cond (is_low_surrogate unit) None (prepend (encode_utf8 unit) (content plain (drop 4 text))))

pub by_unit : (text : List ℕ) → content after_u text ≡ option_and_then (after_unit text) (first_unit text)
unfolding content
by_unit [] = refl
by_unit (a ∷ []) = refl
by_unit (a ∷ b ∷ []) = refl
by_unit (a ∷ b ∷ c ∷ []) = refl
by_unit (a ∷ b ∷ c ∷ d ∷ rest) = refl

-- After the first half of a pair it goes on by the second.
pub by_half : (high : ℕ) (text : List ℕ) → 6 ≤ length text → content (after_high high) text
    ≡ cond ((get_or text 0 0 == 92) && (get_or text 1 0 == 117)) (option_and_then
    (λ low. cond (is_low_surrogate low) (prepend (encode_utf8 (surrogate_pair high low)) (content plain (drop 6 text))) None) (first_unit (drop 2 text))) None
unfolding content
by_half high (slash ∷ u ∷ a ∷ b ∷ c ∷ d ∷ rest) six = refl
by_half high _ six = absurd (omega arith)

pub no_half : (text : List ℕ) → length text < 6 → (high : ℕ) → content (after_high high) text ≡ None
unfolding content
no_half (slash ∷ u ∷ a ∷ b ∷ c ∷ d ∷ rest) few high = absurd (omega arith)
no_half _ few high = refl

-- After a backslash it goes on by the letter.
pub by_letter : (text : List ℕ) → 0 < length text → content after_backslash text
    ≡ cond (get_or text 0 0 == 117) (content after_u (drop 1 text))
    (option_and_then (λ byte. prepend (byte ∷ []) (content plain (drop 1 text))) (short_escape (get_or text 0 0)))
unfolding content
by_letter [] some = absurd (omega arith)
by_letter (letter ∷ rest) some = refl

-- ---- an escape by its code units

-- The tests of a code unit in the code.
pub no_high : (unit : ℕ) → (nat_lt unit 55296 || nat_lt 56319 unit) ≡ true → is_high_surrogate unit ≡ false
no_high unit test = grind (arith, nat_tests)

pub is_high : (unit : ℕ) → (nat_lt unit 55296 || nat_lt 56319 unit) ≡ false → is_high_surrogate unit ≡ true
is_high unit test = grind (arith, nat_tests)

pub no_low : (unit : ℕ) → (nat_lt unit 56320 || nat_lt 57343 unit) ≡ true → is_low_surrogate unit ≡ false
no_low unit test = grind (arith, nat_tests)

pub is_low : (unit : ℕ) → (nat_lt unit 56320 || nat_lt 57343 unit) ≡ false → is_low_surrogate unit ≡ true
is_low unit test = grind (arith, nat_tests)

pub low_bounds : (unit : ℕ) → (nat_lt unit 56320 || nat_lt 57343 unit) ≡ false → (56320 ≤ unit) × (unit < 57344)
low_bounds unit test = (grind (arith, nat_tests), grind (arith, nat_tests))

pub low_alone : (unit : ℕ) → (nat_lt unit 55296 || nat_lt 56319 unit) ≡ true → unit < 65536 → OutOfScalarRange unit → is_low_surrogate unit ≡ true
low_alone unit test few (inl range) = grind (arith, nat_tests)
low_alone unit test few (inr many) = absurd (omega (arith, few, many))

pub no_low_scalar : (unit : ℕ) → InScalarRange unit → is_low_surrogate unit ≡ false
no_low_scalar unit (inl below) = grind (arith, nat_tests)
no_low_scalar unit (inr range) = grind (arith, nat_tests)

apart : (a b : Bool) → (not a || not b) ≡ true → (a && b) ≡ false
apart true true e = absurd (true≢false (sym e))
apart _ _ e = refl

both : (a b : Bool) → (not a || not b) ≡ false → (a && b) ≡ true
both true true e = refl
both _ _ e = absurd (true≢false e)

-- After `\u`, by the code unit there.
module _ (text : List ℕ) where
  pub no_unit_spelled : first_unit text ≡ None → content after_u text ≡ None
  no_unit_spelled none = by_unit text ∙ ap (option_and_then (after_unit text)) none

  module _ (unit : ℕ) (is : first_unit text ≡ Some unit) where
    unit_spelled : content after_u text ≡ after_unit text unit
    unit_spelled = by_unit text ∙ ap (option_and_then (after_unit text)) is

    pub high_spelled : is_high_surrogate unit ≡ true → content after_u text ≡ content (after_high unit) (drop 4 text)
    high_spelled high =
        unit_spelled
        ∙ (λ i. cond (high i) (content (after_high unit) (drop 4 text))
        (cond (is_low_surrogate unit) None (prepend (encode_utf8 unit) (content plain (drop 4 text)))))

    alone : is_high_surrogate unit ≡ false → content after_u text ≡ cond (is_low_surrogate unit) None (prepend (encode_utf8 unit) (content plain (drop 4 text)))
    alone high =
        unit_spelled
        ∙ (λ i. cond (high i) (content (after_high unit) (drop 4 text))
        (cond (is_low_surrogate unit) None (prepend (encode_utf8 unit) (content plain (drop 4 text)))))

    pub low_spelled : is_high_surrogate unit ≡ false → is_low_surrogate unit ≡ true → content after_u text ≡ None
    low_spelled high low = alone high ∙ (λ i. cond (low i) None (prepend (encode_utf8 unit) (content plain (drop 4 text))))

    pub scalar_spelled : is_high_surrogate unit ≡ false → is_low_surrogate unit ≡ false
        → content after_u text ≡ prepend (encode_utf8 unit) (content plain (drop 4 text))
    scalar_spelled high low = alone high ∙ (λ i. cond (low i) None (prepend (encode_utf8 unit) (content plain (drop 4 text))))

-- After the first half of a pair, by the escape there.
abbrev half_then : (text : List ℕ) → (high low : ℕ) → Option (List ℕ)
half_then text high low = cond (is_low_surrogate low) (prepend (encode_utf8 (surrogate_pair high low)) (content plain (drop 6 text))) None

module _ (text : List ℕ) (six : 6 ≤ length text) where
  pub no_escape : (not (get_or text 0 0 == 92) || not (get_or text 1 0 == 117)) ≡ true → (high : ℕ) → content (after_high high) text ≡ None
  no_escape test high =
      by_half high text six
      ∙ (λ i. cond (apart (get_or text 0 0 == 92) (get_or text 1 0 == 117) test i) (option_and_then (half_then text high) (first_unit (drop 2 text))) None)

  module _ (test : (not (get_or text 0 0 == 92) || not (get_or text 1 0 == 117)) ≡ false) where
    half_read : (high : ℕ) → content (after_high high) text ≡ option_and_then (half_then text high) (first_unit (drop 2 text))
    half_read high =
        by_half high text six
        ∙ (λ i. cond (both (get_or text 0 0 == 92) (get_or text 1 0 == 117) test i) (option_and_then (half_then text high) (first_unit (drop 2 text))) None)

    pub no_half_unit : first_unit (drop 2 text) ≡ None → (high : ℕ) → content (after_high high) text ≡ None
    no_half_unit none high = half_read high ∙ ap (option_and_then (half_then text high)) none

    module _ (low : ℕ) (is : first_unit (drop 2 text) ≡ Some low) where
      pub no_low_half : is_low_surrogate low ≡ false → (high : ℕ) → content (after_high high) text ≡ None
      no_low_half test_low high =
          half_read high ∙ ap (option_and_then (half_then text high)) is
          ∙ (λ i. cond (test_low i) (prepend (encode_utf8 (surrogate_pair high low)) (content plain (drop 6 text))) None)

      pub low_half : is_low_surrogate low ≡ true → (high : ℕ)
          → content (after_high high) text ≡ prepend (encode_utf8 (surrogate_pair high low)) (content plain (drop 6 text))
      low_half test_low high =
          half_read high ∙ ap (option_and_then (half_then text high)) is
          ∙ (λ i. cond (test_low i) (prepend (encode_utf8 (surrogate_pair high low)) (content plain (drop 6 text))) None)

-- After a backslash, by the letter there.
pub no_letter : (text : List ℕ) → length text ≡ 0 → content after_backslash text ≡ None
unfolding content
no_letter [] none = refl
no_letter (letter ∷ rest) none = absurd (omega arith)

pub some_left : (text : List ℕ) → (length text == 0) ≡ false → 0 < length text
some_left text some = grind (arith, nat_tests)

pub letter_u : (text : List ℕ) → 0 < length text → get_or text 0 0 ≡ 117 → content after_backslash text ≡ content after_u (drop 1 text)
letter_u text some is =
    by_letter text some
    ∙ ap (λ letter. cond (letter == 117) (content after_u (drop 1 text))
    (option_and_then (λ byte. prepend (byte ∷ []) (content plain (drop 1 text))) (short_escape (get_or text 0 0)))) is

pub other_letter : (text : List ℕ) (meaning : Option ℕ) → 0 < length text → (get_or text 0 0 ≡ 117 → ⊥) → short_escape (get_or text 0 0) ≡ meaning
    → content after_backslash text ≡ option_and_then (λ byte. prepend (byte ∷ []) (content plain (drop 1 text))) meaning
other_letter text meaning some isn't means =
    by_letter text some
    ∙ (λ i. cond (ne_eqb (get_or text 0 0) 117 isn't i) (content after_u (drop 1 text))
    (option_and_then (λ byte. prepend (byte ∷ []) (content plain (drop 1 text))) (means i)))

-- The rest of a slice is the list without its first elements.
pub rest_is : (text : List ℕ) (n : ℕ) → take (length text - n) (drop n text) ≡ drop n text
rest_is text n = take_all (length text - n) (drop n text) (omega (arith, length-drop n text))

-- An escape whose rest begins later.
pub escape_later : (within later : Within) (text : List ℕ) (n character size : ℕ) → content within text ≡ content later (drop n text)
    → Unescapes later (drop n text) (Some (character, size)) → Unescapes within text (Some (character, size + n))
escape_later within later text n character size same read =
    let further : n + size ≡ size + n = omega arith in
    let last : n + (size - 1) ≡ size + n - 1 = omega (arith, read.1) in (
      same ∙ read.0 ∙ ap (λ rest. prepend (encode_utf8 character) (content plain rest)) (drop-drop size n text ∙ ap (λ k. drop k text) further),
      omega (arith, read.1),
      omega (arith, read.1, read.2, length-drop n text),
      subst (λ byte. byte < 128) (get_or-drop n text (size - 1) 0 ∙ ap (λ k. get_or text k 0) last) read.3,
    )

-- ---- a string that is read so far

-- One run more is read, up to its stop.
pub run_more : (d done run : List ℕ) (from at stop : ℕ) → ArePlain d at stop → run ≡ take (stop - at) (drop at d)
    → content plain (drop from d) ≡ prepend done (content plain (drop at d)) → content plain (drop from d) ≡ prepend (done ++ run) (content plain (drop stop d))
run_more d done run from at stop are is so_far =
    let back : at + (stop - at) ≡ stop = omega (arith, are.ordered) in
    let ran : content plain (drop at d) ≡ prepend (take (stop - at) (drop at d)) (content plain (drop (at + (stop - at)) d))
    = plain_run d at (stop - at) (omega (arith, are.ordered, are.within)) (λ k low high. are.plain k low (omega (arith, are.ordered))) in
    so_far ∙ ap (prepend done) (ran ∙ ap (λ n. prepend (take (stop - at) (drop at d)) (content plain (drop n d))) back)
    ∙ sym (prepend-both done (take (stop - at) (drop at d)) (content plain (drop stop d)))
    ∙ ap (λ r. prepend (done ++ r) (content plain (drop stop d))) (sym is)

-- If nothing is content from the stop on, nothing is.
pub none_more : (d done : List ℕ) (from stop : ℕ) → content plain (drop from d) ≡ prepend done (content plain (drop stop d))
    → content plain (drop stop d) ≡ None → content plain (drop from d) ≡ None
none_more d done from stop so_far none = so_far ∙ ap (prepend done) none

-- The string is closed.
pub closes_here : (d done : List ℕ) (from stop : ℕ) → content plain (drop from d) ≡ prepend done (content plain (drop stop d))
    → stop < length d → get_or d stop 0 ≡ 34 → content plain (drop from d) ≡ Some done
unfolding content
closes_here d done from stop so_far within quote =
    let empty : content plain (drop stop d) ≡ Some [] = content_at plain d stop within ∙ ap (λ byte. content plain (byte ∷ drop (stop + 1) d)) quote in
    so_far ∙ ap (prepend done) empty ∙ ap Some (append-nil done)

-- A backslash is passed over.
pub past_backslash : (text : List ℕ) (stop : ℕ) → stop < length text → get_or text stop 0 ≡ 92
    → content plain (drop stop text) ≡ content after_backslash (drop (stop + 1) text)
unfolding content
past_backslash text stop within slash = content_at plain text stop within ∙ ap (λ byte. content plain (byte ∷ drop (stop + 1) text)) slash

-- One escape more is read.
pub escape_more : (d done letter : List ℕ) (from stop size : ℕ) → content plain (drop from d) ≡ prepend done (content plain (drop stop d))
    → stop < length d → get_or d stop 0 ≡ 92
    → content after_backslash (drop (stop + 1) d) ≡ prepend letter (content plain (drop size (drop (stop + 1) d)))
    → content plain (drop from d) ≡ prepend (done ++ letter) (content plain (drop (stop + 1 + size) d))
escape_more d done letter from stop size so_far within slash read =
    so_far ∙ ap (prepend done) (past_backslash d stop within slash ∙ read ∙ ap (λ rest. prepend letter (content plain rest)) (drop-drop size (stop + 1) d))
    ∙ sym (prepend-both done letter (content plain (drop (stop + 1 + size) d)))
