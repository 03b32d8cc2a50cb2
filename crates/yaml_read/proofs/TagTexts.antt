-- How a tag is written, and read: verbatim, or after a handle.
use Rattle.yaml_base.proofs.Common.{ℕ, ◌<◌, ◌==◌, ◌&&◌, [], ◌∷◌, ◌++◌, ◌≡◌, ◌∙◌, true≢false, if◌then◌else◌, Bool, true, false, not, Option, None, Some, List}
use Rattle.yaml_base.proofs.Common.{refl, ap, subst, sym, arith, nat_tests, and_parts, append_assoc, codes, length, is_some, space, list_all, list_all-append}
use Rattle.yaml_base.proofs.Common.{and_from, chars, chars-IsAscii, ne_eqb, nat_lt, ltb-true, Text, encode_utf8_all, all_scalars, percent_escaped, tag_fault}
use Rattle.yaml_base.proofs.PercentLaws.{escaped_begins, escaped_stands, stands_written, written_is_no_exclamation, written_is_no_less}
use Rattle.yaml_base.{proofs.Common.spelled, proofs.Common.verbatim, proofs.Common.eqb-true, proofs.TagForms.behind-whole, proofs.TagForms.behind_begins}
use Rattle.yaml_base.{proofs.TagForms.scalars_behind, proofs.AsciiWords.ascii_of, specs.Tags.behind, specs.Tags.spelling_by, specs.graphs.DumpedText.tag_text}
use Rattle.std.proofs.lemmas.Str.{chars-append, encodes-chars, encode_ascii, IsUtf8-from_ascii, IsUtf8-past_char}
use Rattle.std.{proofs.lemmas.List.append_cancel_left, specs.Str.IsUtf8}
use Rattle.yaml_read.specs.WrittenTags.{OpensTag, ends_tag, is_spelled_by, opens_document, opens_type, opens_whole, stays_verbatim, type_prefix}
use Rattle.yaml_read.{proofs.Encoded.are_ascii, proofs.Encoded.word_encoded, proofs.TagBytes.escaped_ascii, proofs.TagBytes.same_first, proofs.Firsts.not_empty}
use Rattle.yaml_read.{proofs.HeadsRead.word_bytes, proofs.Words.no_word, specs.Words.past_word}

-- ---- how a tag is written

-- verbatim, or after `!!` or `!`, with the space after it
abbrev pub verbatim_text : Text → Text
verbatim_text tag = codes "!<" ++ (percent_escaped tag ++ codes "> ")

abbrev pub handle_text : (handle suffix : Text) → Text
handle_text handle suffix = handle ++ (percent_escaped suffix ++ space ∷ [])

pub data IsSpelled (tag : Text) : Text → Type 0 where
  whole : stays_verbatim tag ≡ true → IsSpelled tag (verbatim_text tag)
  of_type : (suffix : Text) → 0 < length suffix → tag ≡ type_prefix ++ suffix → IsSpelled tag (handle_text (codes "!!") suffix)
  of_document : (suffix : Text) → 0 < length suffix → tag ≡ codes "!" ++ suffix → IsSpelled tag (handle_text (codes "!") suffix)

some_behind : (prefix tag suffix : Text) → behind prefix tag ≡ Some suffix → 0 < length suffix
some_behind prefix tag [] is = absurd (behind_begins prefix tag is)
some_behind prefix tag (c ∷ suffix) is = omega arith

pub is_spelled : (tag : Text) → tag_fault tag ≡ None → IsSpelled tag (tag_text (Some tag) false)
is_spelled [] sound = cc
is_spelled (c ∷ tail) sound = by (behind (codes "!") (c ∷ tail)) (behind type_prefix (c ∷ tail)) refl refl
  where
    by : (o p : Option Text) → behind (codes "!") (c ∷ tail) ≡ o → behind type_prefix (c ∷ tail) ≡ p
        → IsSpelled (c ∷ tail) (spelled false (spelling_by (codes "!") o (spelling_by (codes "!!") p (verbatim (c ∷ tail)))) ++ space ∷ [])
    by (Some suffix) p e f = of_document suffix (some_behind (codes "!") (c ∷ tail) suffix e) (sym (behind-whole (codes "!") (c ∷ tail) suffix e))
    by None (Some suffix) e f = of_type suffix (some_behind type_prefix (c ∷ tail) suffix f) (sym (behind-whole type_prefix (c ∷ tail) suffix f))
    by None None e f =
        subst (λ (t : Text). IsSpelled (c ∷ tail) (codes "!<" ++ t)) (sym (append_assoc (percent_escaped (c ∷ tail)) (codes ">") (space ∷ [])))
        (whole (ap (λ o. not (is_some o) && not (is_some (behind type_prefix (c ∷ tail)))) e ∙ ap (λ o. not (is_some o)) f))

-- ---- a tag that was read is written so

none_is : (o : Option Text) → not (is_some o) ≡ true → o ≡ None
none_is o h1 = grind (arith, true≢false)

pub verbatim_is : (tag : Text) → stays_verbatim tag ≡ true → (tag_fault tag ≡ None) × (tag_text (Some tag) false ≡ verbatim_text tag)
verbatim_is [] h = absurd (true≢false (sym h))
verbatim_is (c ∷ tail) h =
    let both = and_parts (not (is_some (behind (codes "!") (c ∷ tail)))) (not (is_some (behind type_prefix (c ∷ tail)))) h in (
      refl,
      ap (λ o. spelled false (spelling_by (codes "!") o (spelling_by (codes "!!") (behind type_prefix (c ∷ tail)) (verbatim (c ∷ tail)))) ++ space ∷ [])
          (none_is _ both.0) ∙ ap (λ o. spelled false (spelling_by (codes "!!") o (verbatim (c ∷ tail))) ++ space ∷ []) (none_is _ both.1)
          ∙ ap (λ t. codes "!<" ++ t) (append_assoc (percent_escaped (c ∷ tail)) (codes ">") (space ∷ [])),
    )

pub type_is : (suffix : Text) → 0 < length suffix → (tag_fault (type_prefix ++ suffix) ≡ None)
    × (tag_text (Some (type_prefix ++ suffix)) false ≡ handle_text (codes "!!") suffix)
type_is [] some = absurd (omega (arith, some))
type_is (c ∷ suffix) some = (refl, refl)

pub document_is : (suffix : Text) → 0 < length suffix → (tag_fault (codes "!" ++ suffix) ≡ None)
    × (tag_text (Some (codes "!" ++ suffix)) false ≡ handle_text (codes "!") suffix)
document_is [] some = absurd (omega (arith, some))
document_is (c ∷ suffix) some = (refl, refl)

-- ---- its bytes

-- a tag's text ends in ASCII
ends_ascii : (suffix end : Text) → are_ascii end ≡ true → are_ascii (percent_escaped suffix ++ end) ≡ true
ends_ascii suffix end h = grind (arith, list_all-append, nat_lt, percent_escaped, and_from, escaped_ascii)

pub verbatim_bytes : (tag : Text) → encode_utf8_all (verbatim_text tag) ≡ verbatim_text tag
verbatim_bytes tag = word_bytes (verbatim_text tag) (ends_ascii tag (codes "> ") refl)

pub type_bytes : (suffix : Text) → encode_utf8_all (handle_text (codes "!!") suffix) ≡ handle_text (codes "!!") suffix
type_bytes suffix = word_bytes (handle_text (codes "!!") suffix) (ends_ascii suffix (space ∷ []) refl)

pub document_bytes : (suffix : Text) → encode_utf8_all (handle_text (codes "!") suffix) ≡ handle_text (codes "!") suffix
document_bytes suffix = word_bytes (handle_text (codes "!") suffix) (ends_ascii suffix (space ∷ []) refl)

-- ---- the meaning of the first bytes

-- a handle's text after its handle
behind_handle : (handle suffix rest : Text) → are_ascii handle ≡ true
    → encode_utf8_all (handle_text handle suffix ++ rest) ≡ handle ++ encode_utf8_all (percent_escaped suffix ++ space ∷ rest)
behind_handle handle suffix rest ascii = grind (arith, encode_utf8_all, append_assoc, percent_escaped, word_encoded)

behind_verbatim : (tag rest : Text)
    → encode_utf8_all (verbatim_text tag ++ rest) ≡ codes "!<" ++ encode_utf8_all (percent_escaped tag ++ (codes "> " ++ rest))
behind_verbatim tag rest =
    ap (λ t. encode_utf8_all (codes "!<" ++ t)) (append_assoc (percent_escaped tag) (codes "> ") rest)
    ∙ word_encoded (codes "!<") (percent_escaped tag ++ (codes "> " ++ rest)) refl

-- the first character of a suffix is neither `!` nor `<`
suffix_first : (suffix end : Text) → 0 < length suffix
    → (d : ℕ) × (more : List ℕ) × (encode_utf8_all (percent_escaped suffix ++ end) ≡ d ∷ more) × (stands_written d ≡ true)
suffix_first [] end some = absurd (omega (arith, some))
suffix_first (c ∷ suffix) end some =
    let begins = escaped_begins c suffix in
    let stands : stands_written begins.0 ≡ true =
    (and_parts (stands_written begins.0) (list_all stands_written begins.1)
    (subst (λ (t : Text). list_all stands_written t ≡ true) begins.2 (escaped_stands (c ∷ suffix)))).0
    in (
      begins.0,
      begins.1 ++ encode_utf8_all end,
      word_encoded (percent_escaped (c ∷ suffix)) end (escaped_ascii (c ∷ suffix)) ∙ ap (λ t. t ++ encode_utf8_all end) begins.2,
      stands,
    )

no_less : (suffix end : Text) (inside : List ℕ) → 0 < length suffix → encode_utf8_all (percent_escaped suffix ++ end) ≡ 0x3C ∷ inside → ⊥
no_less suffix end inside some is =
    let first = suffix_first suffix end some in
    true≢false (ap (λ n. n == 0x3C) (sym (same_first first.0 0x3C first.1 inside (sym first.2 ∙ is)).0) ∙ written_is_no_less first.0 first.3)

no_mark : (suffix end : Text) (inside : List ℕ) → 0 < length suffix → encode_utf8_all (percent_escaped suffix ++ end) ≡ 0x21 ∷ inside → ⊥
no_mark suffix end inside some is =
    let first = suffix_first suffix end some in
    true≢false (ap (λ n. n == 0x21) (sym (same_first first.0 0x21 first.1 inside (sym first.2 ∙ is)).0) ∙ written_is_no_exclamation first.0 first.3)

-- the whole tag follows `!<`
pub at_verbatim : (tag written rest : Text) (text inside : List ℕ) → IsSpelled tag written → text ≡ encode_utf8_all (written ++ rest)
    → text ≡ codes "!<" ++ inside → (stays_verbatim tag ≡ true) × (inside ≡ encode_utf8_all (percent_escaped tag ++ (codes "> " ++ rest)))
at_verbatim tag _ rest text inside (whole stays) is cut = (stays, append_cancel_left (codes "!<") inside _ (sym cut ∙ is ∙ behind_verbatim tag rest))
at_verbatim tag _ rest text inside (of_type suffix some same) is cut =
    absurd (apart (sym cut ∙ is ∙ behind_handle (codes "!!") suffix rest refl))
  where
    apart : codes "!<" ++ inside ≡ codes "!!" ++ encode_utf8_all (percent_escaped suffix ++ space ∷ rest) → ⊥
    apart e = cc
at_verbatim tag _ rest text inside (of_document suffix some same) is cut =
    absurd (no_less suffix (space ∷ rest) inside some
    (append_cancel_left (codes "!") (encode_utf8_all (percent_escaped suffix ++ space ∷ rest)) (0x3C ∷ inside)
    (sym (is ∙ behind_handle (codes "!") suffix rest refl) ∙ cut)))

-- the text after a handle
pub record IsSuffix (prefix tag rest : Text) (inside : List ℕ) : Type 0 where
  pub suffix : Text
  pub some : 0 < length suffix
  pub is : prefix ++ suffix ≡ tag
  pub text : inside ≡ encode_utf8_all (percent_escaped suffix ++ space ∷ rest)

-- after `!!`
pub at_type : (tag written rest : Text) (text inside : List ℕ) → IsSpelled tag written → text ≡ encode_utf8_all (written ++ rest)
    → past_word (codes "!<") text ≡ None → text ≡ codes "!!" ++ inside → IsSuffix type_prefix tag rest inside
at_type tag _ rest text inside (whole stays) is none cut = absurd (no_word (codes "!<") text _ none (is ∙ behind_verbatim tag rest))
at_type tag _ rest text inside (of_type suffix some same) is none cut =
    record {
      suffix = suffix;
      some = some;
      is = sym same;
      text = append_cancel_left (codes "!!") inside _ (sym cut ∙ is ∙ behind_handle (codes "!!") suffix rest refl);
    }
at_type tag _ rest text inside (of_document suffix some same) is none cut =
    absurd (no_mark suffix (space ∷ rest) inside some
    (append_cancel_left (codes "!") (encode_utf8_all (percent_escaped suffix ++ space ∷ rest)) (0x21 ∷ inside)
    (sym (is ∙ behind_handle (codes "!") suffix rest refl) ∙ cut)))

-- after `!`
pub at_document : (tag written rest : Text) (text inside : List ℕ) → IsSpelled tag written → text ≡ encode_utf8_all (written ++ rest)
    → past_word (codes "!<") text ≡ None → past_word (codes "!!") text ≡ None → text ≡ codes "!" ++ inside → IsSuffix (codes "!") tag rest inside
at_document tag _ rest text inside (whole stays) is none also cut = absurd (no_word (codes "!<") text _ none (is ∙ behind_verbatim tag rest))
at_document tag _ rest text inside (of_type suffix some same) is none also cut =
    absurd (no_word (codes "!!") text _ also (is ∙ behind_handle (codes "!!") suffix rest refl))
at_document tag _ rest text inside (of_document suffix some same) is none also cut =
    record {
      suffix = suffix;
      some = some;
      is = sym same;
      text = append_cancel_left (codes "!") inside _ (sym cut ∙ is ∙ behind_handle (codes "!") suffix rest refl);
    }

-- and each begins so
pub tag_there : (tag written rest : Text) (text : List ℕ) → IsSpelled tag written → text ≡ encode_utf8_all (written ++ rest)
    → past_word (codes "!") text ≡ None → ⊥
tag_there tag _ rest text (whole stays) is none = no_word (codes "!") text _ none (is ∙ behind_verbatim tag rest)
tag_there tag _ rest text (of_type suffix some same) is none = no_word (codes "!") text _ none (is ∙ behind_handle (codes "!!") suffix rest refl)
tag_there tag _ rest text (of_document suffix some same) is none = no_word (codes "!") text _ none (is ∙ behind_handle (codes "!") suffix rest refl)

-- a suffix is of scalar values if its tag is
pub suffix_scalars : (prefix tag suffix : Text) → prefix ++ suffix ≡ tag → all_scalars tag ≡ true → all_scalars suffix ≡ true
suffix_scalars prefix tag suffix is scalars = scalars_behind prefix suffix (ap all_scalars is ∙ scalars)

-- ---- the prefix from which a tag goes on

behind_prefix : (prefix rest : Text) → behind prefix (prefix ++ rest) ≡ behind [] rest
behind_prefix [] rest = refl
behind_prefix (p ∷ prefix) rest =
    ap (λ b. if b then behind prefix (prefix ++ rest) else None) (same p) ∙ behind_prefix prefix rest
  where
    same : (p : ℕ) → (p == p) ≡ true
    same p = grind (arith, nat_tests)

-- a text of bytes has a character if it has a byte
pub some_text : (bytes : List ℕ) → IsUtf8 bytes → is_some (behind [] (chars bytes)) ≡ not (length bytes == 0)
some_text bytes utf8 = by (chars bytes) (encodes-chars bytes utf8)
  where
    by : (text : Text) → encode_utf8_all text ≡ bytes → is_some (behind [] text) ≡ not (length bytes == 0)
    by [] is = ap (λ (t : List ℕ). not (length t == 0)) is
    by (c ∷ text) is = ap not (sym (ne_eqb (length bytes) 0 (λ none. not_empty bytes c text (sym is) none)))

-- the characters after a prefix of ASCII
pub chars_behind : (prefix rest : List ℕ) → are_ascii prefix ≡ true → chars (prefix ++ rest) ≡ prefix ++ chars rest
chars_behind prefix rest ascii =
    let is_ascii = ascii_of prefix ascii in
    chars-append prefix rest (IsUtf8-from_ascii prefix is_ascii) ∙ ap (λ t. t ++ chars rest) (chars-IsAscii prefix is_ascii)

-- and that they are a text
pub utf8_behind : (prefix rest : List ℕ) → are_ascii prefix ≡ true → IsUtf8 (prefix ++ rest) → IsUtf8 rest
utf8_behind [] rest ascii utf8 = utf8
utf8_behind (p ∷ prefix) rest ascii utf8 =
    let both = and_parts (nat_lt p 128) (are_ascii prefix) ascii in
    utf8_behind prefix rest both.1 (IsUtf8-past_char (p ∷ (prefix ++ rest)) (prefix ++ rest) p utf8
    (ap (λ t. t ++ (prefix ++ rest)) (sym (encode_ascii p (ltb-true p 128 both.0)))))

pub goes_on_behind : (text prefix rest : List ℕ) → are_ascii prefix ≡ true → IsUtf8 text → text ≡ prefix ++ rest
    → not (length rest == 0) ≡ is_some (behind prefix (chars text))
goes_on_behind text prefix rest ascii utf8 is =
    sym (ap (λ t. is_some (behind prefix t)) (ap chars is ∙ chars_behind prefix rest ascii) ∙ ap is_some (behind_prefix prefix (chars rest))
    ∙ some_text rest (utf8_behind prefix rest ascii (subst (λ (t : List ℕ). IsUtf8 t) is utf8)))

pub goes_on_never : (text prefix : List ℕ) → are_ascii prefix ≡ true → IsUtf8 text → past_word prefix text ≡ None
    → false ≡ is_some (behind prefix (chars text))
goes_on_never text prefix ascii utf8 none = by (behind prefix (chars text)) refl
  where
    by : (o : Option Text) → behind prefix (chars text) ≡ o → false ≡ is_some o
    by None is = refl
    by (Some suffix) is =
        absurd (no_word prefix text (encode_utf8_all suffix) none
        (sym (encodes-chars text utf8) ∙ ap encode_utf8_all (sym (behind-whole prefix (chars text) suffix is)) ∙ word_encoded prefix suffix ascii))

-- a tag of which all tests are known
pub stays_by : (text : List ℕ) (mark type : Bool) → IsUtf8 text → (length text == 0) ≡ false → mark ≡ is_some (behind (codes "!") (chars text))
    → type ≡ is_some (behind type_prefix (chars text)) → (not mark && not type) ≡ stays_verbatim (chars text)
stays_by text mark type utf8 some first second = by (chars text) (some_text text utf8) first second
  where
    by : (tag : Text) → is_some (behind [] tag) ≡ not (length text == 0) → mark ≡ is_some (behind (codes "!") tag)
        → type ≡ is_some (behind type_prefix tag) → (not mark && not type) ≡ stays_verbatim tag
    by [] is e f = absurd (true≢false (sym (is ∙ ap not some)))
    by (c ∷ tag) is e f = ap (λ b. not b && not type) e ∙ ap (λ b. not (is_some (behind (codes "!") (c ∷ tag))) && not b) f

pub stays_not : (text : List ℕ) → (length text == 0) ≡ true → IsUtf8 text → false ≡ stays_verbatim (chars text)
stays_not text none utf8 = by (chars text) (some_text text utf8)
  where
    by : (tag : Text) → is_some (behind [] tag) ≡ not (length text == 0) → false ≡ stays_verbatim tag
    by [] is = refl
    by (c ∷ tag) is = absurd (true≢false (is ∙ ap not none))

-- by whether there is a prefix
pub spelled_whole : (prefix tag : Text) → (length prefix == 0) ≡ true → is_spelled_by prefix tag ≡ stays_verbatim tag
spelled_whole prefix tag h1 = grind (arith, eqb-true, length)

pub spelled_behind : (prefix tag : Text) → (length prefix == 0) ≡ false → is_spelled_by prefix tag ≡ is_some (behind prefix tag)
spelled_behind prefix tag h1 = grind (arith, true≢false)

-- ---- tags that were read

verbatim_sound : (tag : Text) (text inside rest : List ℕ) → text ≡ codes "!<" ++ inside → stays_verbatim tag ≡ true
    → inside ≡ percent_escaped tag ++ (codes "> " ++ rest) → (tag_fault tag ≡ None) × (text ≡ encode_utf8_all (tag_text (Some tag) false) ++ rest)
verbatim_sound tag text inside rest cut stays read =
    let is = verbatim_is tag stays in (
      is.0,
      cut ∙ ap (λ t. codes "!<" ++ t) (read ∙ sym (append_assoc (percent_escaped tag) (codes "> ") rest))
          ∙ ap (λ t. t ++ rest) (sym (verbatim_bytes tag)) ∙ ap (λ t. encode_utf8_all t ++ rest) (sym is.1),
    )

-- a tag after its handle, by what its text and its bytes are
handle_sound : (handle prefix tag suffix : Text) (text inside rest : List ℕ)
    → (tag_fault (prefix ++ suffix) ≡ None) × (tag_text (Some (prefix ++ suffix)) false ≡ handle_text handle suffix)
    → encode_utf8_all (handle_text handle suffix) ≡ handle_text handle suffix → text ≡ handle ++ inside → tag ≡ prefix ++ suffix
    → inside ≡ percent_escaped suffix ++ space ∷ rest → (tag_fault tag ≡ None) × (text ≡ encode_utf8_all (tag_text (Some tag) false) ++ rest)
handle_sound handle prefix tag suffix text inside rest is bytes cut same read =
    subst (λ (t : Text). (tag_fault t ≡ None) × (text ≡ encode_utf8_all (tag_text (Some t) false) ++ rest)) (sym same) (
      is.0,
      cut ∙ ap (λ t. handle ++ t) (read ∙ sym (append_assoc (percent_escaped suffix) (space ∷ []) rest))
          ∙ sym (append_assoc handle (percent_escaped suffix ++ space ∷ []) rest)
          ∙ ap (λ t. t ++ rest) (sym bytes) ∙ ap (λ t. encode_utf8_all t ++ rest) (sym is.1),
    )

-- ---- by its handle

-- the facts about a handle: the word that ends its tag is ASCII, and no tag goes on with that
pub end_ascii : (text prefix end inside : List ℕ) → OpensTag text prefix end inside → are_ascii end ≡ true
end_ascii text prefix end inside h1 = grind arith

pub end_ends : (text prefix end inside rest : List ℕ) → OpensTag text prefix end inside → ends_tag (end ++ rest) ≡ true
end_ends text _ _ inside rest (opens_whole _ cut) = refl
end_ends text _ _ inside rest _ = refl

-- a tag that goes on from a prefix
goes_behind : (prefix tag suffix : Text) → prefix ++ suffix ≡ tag → 0 < length suffix → is_some (behind prefix tag) ≡ true
goes_behind prefix tag suffix h1 h2 = grind (arith, is_some, behind, behind_prefix)

suffix_some : (prefix tag suffix : Text) → tag ≡ prefix ++ suffix → is_some (behind prefix tag) ≡ true → 0 < length suffix
suffix_some prefix tag suffix is goes = grind (arith, is_some, behind_prefix, behind, true, length, true≢false)

-- a tag if its handle is there
pub record IsWordAt (prefix end tag rest : Text) (inside : List ℕ) : Type 0 where
  pub word : Text
  pub is : prefix ++ word ≡ tag
  pub spelled : is_spelled_by prefix tag ≡ true
  pub text : inside ≡ encode_utf8_all (percent_escaped word ++ (end ++ rest))

pub word_at : (tag written rest : Text) (text prefix end inside : List ℕ) → OpensTag text prefix end inside → IsSpelled tag written
    → text ≡ encode_utf8_all (written ++ rest) → IsWordAt prefix end tag rest inside
word_at tag written rest text _ _ inside (opens_whole _ cut) spelled is =
    let at = at_verbatim tag written rest text inside spelled is cut in
    record { word = tag; is = refl; spelled = at.0; text = at.1 }
word_at tag written rest text _ _ inside (opens_type _ none cut) spelled is =
    let at = at_type tag written rest text inside spelled is none cut in
    record { word = at.suffix; is = at.is; spelled = goes_behind type_prefix tag at.suffix at.is at.some; text = at.text }
word_at tag written rest text _ _ inside (opens_document _ none also cut) spelled is =
    let at = at_document tag written rest text inside spelled is none also cut in
    record { word = at.suffix; is = at.is; spelled = goes_behind (codes "!") tag at.suffix at.is at.some; text = at.text }

-- a tag that was read after its handle
pub tag_sound : (tag word : Text) (text prefix end inside rest : List ℕ) → OpensTag text prefix end inside → tag ≡ prefix ++ word
    → is_spelled_by prefix tag ≡ true → inside ≡ percent_escaped word ++ (end ++ rest)
    → (tag_fault tag ≡ None) × (text ≡ encode_utf8_all (tag_text (Some tag) false) ++ rest)
tag_sound tag word text _ _ inside rest (opens_whole _ cut) same spelled read =
    verbatim_sound tag text inside rest cut spelled (read ∙ ap (λ t. percent_escaped t ++ (codes "> " ++ rest)) (sym same))
tag_sound tag word text _ _ inside rest (opens_type _ none cut) same spelled read =
    let is = type_is word (suffix_some type_prefix tag word same spelled) in
    handle_sound (codes "!!") type_prefix tag word text inside rest is (type_bytes word) cut same read
tag_sound tag word text _ _ inside rest (opens_document _ none also cut) same spelled read =
    let is = document_is word (suffix_some (codes "!") tag word same spelled) in
    handle_sound (codes "!") (codes "!") tag word text inside rest is (document_bytes word) cut same read
