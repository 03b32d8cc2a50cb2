-- The refusals of names and handles, which are defined by characters, follow from a text's bytes.
use Rattle.yaml_mark.proofs.Common.{ℕ, ◌<◌, ◌==◌, IsUtf8, Option, None, Some, length, slice_index_or as get_or, encode_utf8 as encode, Bool, cond, false, true}
use Rattle.yaml_mark.proofs.Common.{encode_utf8_all as encodes, List, [], ◌++◌, ◌∷◌, ◌≢◌, refl, ◌≡◌, eqb-true, ne_eqb, lit<, length-append, ap, subst, sym, ◌∙◌}
use Rattle.yaml_mark.proofs.Common.{arith, take-append_seam, chars-nil, encode_ascii, encodes-append, IsCharBoundary-before_ascii, IsUtf8-past_char, list_all}
use Rattle.yaml_mark.proofs.Common.{encodes-chars, chars-append, chars_past_char, Text, exclamation_mark}
use Rattle.yaml_base.proofs.Common.{option_or, is_alpha, name_fault, handle_fault, prefix_fault, nat_tests}
use Rattle.std.{proofs.lemmas.Grind.common_steps, proofs.lemmas.Str.IsUtf8-take, specs.Str.chars}
use Rattle.yaml_base.proofs.TagForms.{last-append, without_last-append, prefix_and_last}
use Rattle.yaml_base.specs.{Tags.last_from, Tags.without_last, declared.errors.yaml_error_t.yaml_error_t}
use Rattle.yaml_base.specs.declared.errors.yaml_error_t.TheVariants.{TagHandleAlphabet, TagHandleEmpty, TagHandleEnd, TagHandleStart, TagPrefixEmpty}

nothing : (bytes : List ℕ) → (length bytes == 0) ≡ true → bytes ≡ []
nothing [] h = refl
nothing (b ∷ bytes) h = let e : length (b ∷ bytes) ≡ 0 = eqb-true _ _ h in absurd (omega arith)

pub no_characters : (bytes : List ℕ) → (length bytes == 0) ≡ true → chars bytes ≡ []
no_characters bytes h = ap chars (nothing bytes h) ∙ chars-nil

begins : (text : Text) (bytes : List ℕ) → encodes text ≡ bytes → (length bytes == 0) ≡ false → (c : ℕ) × (rest : Text) × (text ≡ c ∷ rest)
begins [] bytes e h = let P : List ℕ → Type 0 = λ x. (length x == 0) ≡ false in absurd (let k : true ≡ false = subst P (sym e) h in cc)
begins (c ∷ rest) bytes e h = (c, rest, refl)

-- a text that isn't empty has a first character
pub characters_begin : (bytes : List ℕ) → IsUtf8 bytes → (length bytes == 0) ≡ false → (c : ℕ) × (rest : Text) × (chars bytes ≡ c ∷ rest)
characters_begin bytes u h = begins (chars bytes) bytes (encodes-chars bytes u) h

pub empty_name : (bytes : List ℕ) (if_empty if_other : yaml_error_t) → (length bytes == 0) ≡ true → Some if_empty ≡ name_fault if_empty if_other (chars bytes)
empty_name bytes a b h = rw (no_characters bytes h) refl

good : (text : Text) (if_empty if_other : yaml_error_t) (c : ℕ) (rest : Text) → text ≡ c ∷ rest → list_all is_alpha text ≡ true
    → None ≡ name_fault if_empty if_other text
good text a b c rest e h = grind (arith, nat_tests, list_all, is_alpha, name_fault)

pub good_name : (bytes : List ℕ) (if_empty if_other : yaml_error_t) → IsUtf8 bytes → (length bytes == 0) ≡ false → list_all is_alpha (chars bytes) ≡ true
    → None ≡ name_fault if_empty if_other (chars bytes)
good_name bytes a b u n h = let first = characters_begin bytes u n in good (chars bytes) a b first.0 first.1 first.2 h

-- Handles.

pub empty_handle : (bytes : List ℕ) → (length bytes == 0) ≡ true → Some TagHandleEmpty ≡ handle_fault (chars bytes)
empty_handle bytes h = rw (no_characters bytes h) refl

started : (c : ℕ) (rest : Text) → (c == exclamation_mark) ≡ false → Some TagHandleStart ≡ handle_fault (c ∷ rest)
started c rest h = rw h refl

begins_otherwise : (bytes : List ℕ) (c : ℕ) (rest : Text) → encodes (c ∷ rest) ≡ bytes → ((more : List ℕ) → bytes ≢ exclamation_mark ∷ more)
    → (c == exclamation_mark) ≡ false
begins_otherwise bytes c rest e h = grind (arith, nat_tests, ne_eqb, exclamation_mark, encodes, encode, encode_ascii, lit<)

pub no_start : (bytes : List ℕ) → IsUtf8 bytes → (length bytes == 0) ≡ false → ((more : List ℕ) → bytes ≢ exclamation_mark ∷ more)
    → Some TagHandleStart ≡ handle_fault (chars bytes)
no_start bytes u n h =
    let first = characters_begin bytes u n in
    let e : encodes (first.0 ∷ first.1) ≡ bytes = ap encodes (sym first.2) ∙ encodes-chars bytes u in
    started first.0 first.1 (begins_otherwise bytes first.0 first.1 e h) ∙ ap handle_fault (sym first.2)

-- `!` and a rest
exclamation_and : (bytes rest : List ℕ) → IsUtf8 bytes → bytes ≡ exclamation_mark ∷ rest → (chars bytes ≡ exclamation_mark ∷ chars rest) × IsUtf8 rest
exclamation_and bytes rest u e =
    let split : bytes ≡ encode exclamation_mark ++ rest = e ∙ ap (λ x. x ++ rest) (sym (encode_ascii exclamation_mark (lit< tt))) in
    (chars_past_char bytes rest exclamation_mark u split, IsUtf8-past_char bytes rest exclamation_mark u split)

pub exclamation_alone : (bytes rest : List ℕ) → IsUtf8 bytes → bytes ≡ exclamation_mark ∷ rest → (length rest == 0) ≡ true → None ≡ handle_fault (chars bytes)
exclamation_alone bytes rest u e h =
    ap handle_fault (sym ((exclamation_and bytes rest u e).0 ∙ ap (λ x. exclamation_mark ∷ x) (no_characters rest h)))

ends_otherwise : (bytes : List ℕ) (c : ℕ) (more : Text) → encodes (c ∷ more) ≡ bytes → ((head : List ℕ) → bytes ≢ head ++ exclamation_mark ∷ [])
    → (last_from exclamation_mark (c ∷ more) == exclamation_mark) ≡ false
ends_otherwise bytes c more e h =
    ne_eqb _ _
    (λ same. h (encodes (without_last (c ∷ more)))
    (sym e
    ∙ ap encodes (prefix_and_last exclamation_mark c more)
    ∙ encodes-append (without_last (c ∷ more)) (last_from exclamation_mark (c ∷ more) ∷ [])
    ∙ ap (λ x. encodes (without_last (c ∷ more)) ++ (encode x ++ [])) same
    ∙ ap (λ x. encodes (without_last (c ∷ more)) ++ (x ++ [])) (encode_ascii exclamation_mark (lit< tt))))

ended : (c : ℕ) (more : Text) → (last_from exclamation_mark (c ∷ more) == exclamation_mark) ≡ false
    → Some TagHandleEnd ≡ handle_fault (exclamation_mark ∷ c ∷ more)
ended c more h = rw h refl

pub no_end : (bytes rest : List ℕ) → IsUtf8 bytes → bytes ≡ exclamation_mark ∷ rest → (length rest == 0) ≡ false
    → ((head : List ℕ) → rest ≢ head ++ exclamation_mark ∷ [])
    → Some TagHandleEnd ≡ handle_fault (chars bytes)
no_end bytes rest u e n h =
    let whole = exclamation_and bytes rest u e in
    let first = characters_begin rest whole.1 n in
    let spelled : encodes (first.0 ∷ first.1) ≡ rest = ap encodes (sym first.2) ∙ encodes-chars rest whole.1 in
    ended first.0 first.1 (ends_otherwise rest first.0 first.1 spelled h)
    ∙ ap handle_fault (ap (λ x. exclamation_mark ∷ x) (sym first.2) ∙ sym whole.0)

one_exclamation : chars (exclamation_mark ∷ []) ≡ exclamation_mark ∷ []
unfolding chars
one_exclamation = refl

prefix_is_text : (head : List ℕ) → IsUtf8 (head ++ exclamation_mark ∷ []) → IsUtf8 head
prefix_is_text head u =
    let inside : length head < length (head ++ exclamation_mark ∷ []) = omega (arith, length-append head (exclamation_mark ∷ [])) in
    let byte : get_or (head ++ exclamation_mark ∷ []) (length head) 0 < 128 = grind (arith, common_steps) in
    let P : List ℕ → Type 0 = λ x. IsUtf8 x in
    subst P (take-append_seam head (exclamation_mark ∷ []))
    (IsUtf8-take (head ++ exclamation_mark ∷ []) (length head) u
    (IsCharBoundary-before_ascii (head ++ exclamation_mark ∷ []) (length head) inside byte))

between : (middle : Text) (kept : Bool) → list_all is_alpha middle ≡ kept
    → cond kept None (Some TagHandleAlphabet) ≡ handle_fault (exclamation_mark ∷ (middle ++ exclamation_mark ∷ []))
between middle kept h = rw (last-append exclamation_mark middle exclamation_mark, without_last-append middle exclamation_mark, h) refl

pub both_exclamations : (bytes rest middle : List ℕ) (kept : Bool) → IsUtf8 bytes → bytes ≡ exclamation_mark ∷ rest → rest ≡ middle ++ exclamation_mark ∷ []
    → list_all is_alpha (chars middle) ≡ kept → cond kept None (Some TagHandleAlphabet) ≡ handle_fault (chars bytes)
both_exclamations bytes rest middle kept u e f h =
    let whole = exclamation_and bytes rest u e in
    let P : List ℕ → Type 0 = λ x. IsUtf8 x in
    let cut : chars rest ≡ chars middle ++ exclamation_mark ∷ [] =
    ap chars f ∙ chars-append middle (exclamation_mark ∷ []) (prefix_is_text middle (subst P f whole.1)) ∙ ap (λ x. chars middle ++ x) one_exclamation
    in
    between (chars middle) kept h ∙ ap handle_fault (ap (λ x. exclamation_mark ∷ x) (sym cut) ∙ sym whole.0)

-- Prefixes.

pub empty_prefix : (bytes : List ℕ) → (length bytes == 0) ≡ true → Some TagPrefixEmpty ≡ prefix_fault (chars bytes)
empty_prefix bytes h = rw (no_characters bytes h) refl

pub good_prefix : (bytes : List ℕ) → IsUtf8 bytes → (length bytes == 0) ≡ false → None ≡ prefix_fault (chars bytes)
good_prefix bytes u h = rw (characters_begin bytes u h).2 refl

-- a directive with a good handle is refused for its prefix alone; its texts are those that were read from it
pub by_prefix : (handle prefix handle_got prefix_got : List ℕ) (fault : Option yaml_error_t) → handle_got ≡ handle → prefix_got ≡ prefix
    → None ≡ handle_fault (chars handle_got) → fault ≡ prefix_fault (chars prefix_got)
    → fault ≡ option_or (handle_fault (chars handle)) (prefix_fault (chars prefix))
by_prefix handle prefix handle_got prefix_got fault e f h k = grind (arith, nat_tests, prefix_fault, chars, option_or, handle_fault)
