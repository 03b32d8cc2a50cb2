-- Names, and the anchors in front of nodes.
use Rattle.yaml_read.proofs.Common.{ℕ, ◌+◌, ◌<◌, ◌==◌, [], ◌∷◌, ◌++◌, ◌≡◌, ◌∙◌, true≢false, if◌then◌else◌, ◌&&◌, Bool, true, false, cond, Option, None, Some}
use Rattle.yaml_read.proofs.Common.{List, refl, ap, subst, sym, arith, nat_tests, eqb-true, not-true, and_parts, and_from, append_assoc, length}
use Rattle.yaml_read.proofs.Common.{list_all-append, list_all, take, drop, chars, chars-IsAscii, codes, nat_lt, ltb-true, Text, encode_utf8_all}
use Rattle.yaml_read.proofs.Common.{AliasAlphabet, AnchorAlphabet, encode_utf8, is_alpha, alias_fault, space, all_pass, ascii_of, seen_text, yaml_error_t}
use Rattle.yaml_read.proofs.Common.{anchor_text, IsUtf8-from_ascii, append_cancel_left, prefix_len, IsCharBoundary, IsUtf8, String, string_bytes, IsAnchor}
use Rattle.yaml_read.proofs.Common.{ends_name, past_word}
use Rattle.yaml_read.proofs.{Encoded.are_ascii, Encoded.word_encoded, HeadsRead.word_bytes, Words.no_word}
use Rattle.std.proofs.{lemmas.Str.IsCharBoundary-from_take, lemmas.Str.char_from_byte, lemmas.List.take-append-drop, lemmas.List.Sums.prefix_len-le-length}

-- ---- the alphabet

alpha_is_ascii : (c : ℕ) → is_alpha c ≡ true → nat_lt c 128 ≡ true
alpha_is_ascii c h = grind (arith, nat_tests)

-- names are ASCII
pub name_ascii : (name : Text) → list_all is_alpha name ≡ true → are_ascii name ≡ true
name_ascii name h = all_pass is_alpha (λ c. nat_lt c 128) alpha_is_ascii name h

-- a name's characters are of the alphabet
pub name_letters : (name : Text) → alias_fault name ≡ None → list_all is_alpha name ≡ true
name_letters name h1 = grind (arith, list_all, is_alpha, yaml_error_t, true, false)

-- characters of the alphabet are a name
pub letters_name : (name : Text) → list_all is_alpha name ≡ true → (length name == 0) ≡ false → alias_fault name ≡ None
letters_name name h1 h2 = grind (arith, true≢false)

-- ---- the run of characters that a name may have

letters_first : (bytes : List ℕ) → list_all is_alpha (take (prefix_len is_alpha bytes) bytes) ≡ true
letters_first [] = refl
letters_first (b ∷ bytes) = by (is_alpha b) refl (letters_first bytes)
  where
    by : (t : Bool) → is_alpha b ≡ t → list_all is_alpha (take (prefix_len is_alpha bytes) bytes) ≡ true
        → list_all is_alpha (take (cond t (1 + prefix_len is_alpha bytes) 0) (b ∷ bytes)) ≡ true
    by true e rest = grind (arith, prefix_len, is_alpha, list_all, and_from)
    by false e rest = refl

-- it is a whole text
pub name_boundary : (bytes : List ℕ) (size : ℕ) → IsUtf8 bytes → size ≡ prefix_len is_alpha bytes → IsCharBoundary bytes size
name_boundary bytes size u is =
    subst (λ (n : ℕ). IsCharBoundary bytes n) (sym is) (IsCharBoundary-from_take bytes (prefix_len is_alpha bytes) u (prefix_len-le-length is_alpha bytes)
    (IsUtf8-from_ascii (take (prefix_len is_alpha bytes) bytes)
    (ascii_of (take (prefix_len is_alpha bytes) bytes) (name_ascii (take (prefix_len is_alpha bytes) bytes) (letters_first bytes)))))

-- it ends if no character of a name follows
no_letter : (bytes : List ℕ) (c : ℕ) (rest : List ℕ) → bytes ≡ encode_utf8 c ++ rest → is_alpha c ≡ false → prefix_len is_alpha bytes ≡ 0
no_letter [] c rest is plain = refl
no_letter (b ∷ bytes) c rest is plain = by (is_alpha b) refl
  where
    by : (t : Bool) → is_alpha b ≡ t → cond t (1 + prefix_len is_alpha bytes) 0 ≡ 0
    by false e = refl
    by true e =
        let low : b < 128 = ltb-true b 128 (alpha_is_ascii b e) in
        absurd (true≢false (sym e ∙ ap is_alpha (sym (char_from_byte (b ∷ bytes) rest c is low (omega arith))) ∙ plain))

name_over : (rest : Text) → ends_name rest ≡ true → prefix_len is_alpha (encode_utf8_all rest) ≡ 0
name_over rest h1 = grind (arith, no_letter, encode_utf8_all, not-true, is_alpha)

run_is : (name behind : List ℕ) → list_all is_alpha name ≡ true → prefix_len is_alpha behind ≡ 0 → prefix_len is_alpha (name ++ behind) ≡ length name
run_is [] behind h none = none
run_is (c ∷ name) behind h none =
    grind (arith, and_parts, is_alpha, list_all, prefix_len, run_is name behind (and_parts (is_alpha c) (list_all is_alpha name) h).1 none)

-- ---- a name that was cut off a text

pub record IsNameCut (text name behind : List ℕ) : Type 0 where
  pub parts : text ≡ name ++ behind
  pub letters : list_all is_alpha name ≡ true
  pub run : length name ≡ prefix_len is_alpha text

pub name_cut : (text name behind : List ℕ) (size : ℕ) → size ≡ prefix_len is_alpha text → name ≡ take size text → behind ≡ drop size text
    → length name ≡ size → IsNameCut text name behind
name_cut text name behind size is front back counted =
    record {
      parts = sym (take-append-drop size text) ∙ ap (λ t. t ++ drop size text) (sym front) ∙ ap (λ t. name ++ t) (sym back);
      letters = ap (list_all is_alpha) (front ∙ ap (λ n. take n text) is) ∙ letters_first text;
      run = counted ∙ is;
    }

-- lists of one length at the beginning of one list are the same
same_front : (xs ys rest more : List ℕ) → xs ++ rest ≡ ys ++ more → length xs ≡ length ys → (xs ≡ ys) × (rest ≡ more)
same_front [] [] rest more e h = (refl, e)
same_front (x ∷ xs) (y ∷ ys) rest more e h =
    let first : x ≡ y = cc in
    let behind : xs ++ rest ≡ ys ++ more = cc in
    let both = same_front xs ys rest more behind (omega (arith, h)) in (ap (λ a. a ∷ xs) first ∙ ap (λ t. y ∷ t) both.0, both.1)
same_front _ _ rest more e h = absurd (omega (arith, h))

-- it is the name there
pub name_found : (text name behind : List ℕ) (wanted rest : Text) → IsNameCut text name behind → alias_fault wanted ≡ None → ends_name rest ≡ true
    → text ≡ encode_utf8_all (wanted ++ rest) → (name ≡ wanted) × (behind ≡ encode_utf8_all rest)
name_found text name behind wanted rest cut named ends is =
    let letters = name_letters wanted named in
    let whole : text ≡ wanted ++ encode_utf8_all rest = is ∙ word_encoded wanted rest (name_ascii wanted letters) in
    same_front name wanted behind (encode_utf8_all rest) (sym cut.parts ∙ whole)
    (cut.run ∙ ap (prefix_len is_alpha) whole ∙ run_is wanted (encode_utf8_all rest) letters (name_over rest ends))

-- and isn't empty
pub name_there : (text name behind : List ℕ) (wanted rest : Text) → IsNameCut text name behind → alias_fault wanted ≡ None → ends_name rest ≡ true
    → text ≡ encode_utf8_all (wanted ++ rest) → (length name == 0) ≡ true → ⊥
name_there text name behind wanted rest cut named ends is none =
    by wanted named (ap (λ (t : List ℕ). length t == 0) (sym (name_found text name behind wanted rest cut named ends is).0) ∙ none)
  where
    by : (wanted : Text) → alias_fault wanted ≡ None → (length wanted == 0) ≡ true → ⊥
    by [] named none = cc
    by (c ∷ wanted) named none = absurd (omega (arith, eqb-true (length (c ∷ wanted)) 0 none))

-- a copy of it
pub copied_name : {A : Type 0} (found : String A) (text name behind : List ℕ) → IsNameCut text name behind → string_bytes found ≡ name → seen_text found ≡ name
copied_name found text name behind cut is = ap chars is ∙ chars-IsAscii name (ascii_of name (name_ascii name cut.letters))

pub name_sound : {A : Type 0} (found : String A) (text name behind : List ℕ) → IsNameCut text name behind → string_bytes found ≡ name
    → (length name == 0) ≡ false → (alias_fault (seen_text found) ≡ None) × (text ≡ encode_utf8_all (seen_text found) ++ behind)
name_sound found text name behind cut is some =
    let same = copied_name found text name behind cut is in (
      ap alias_fault same ∙ letters_name name cut.letters some,
      cut.parts ∙ ap (λ t. t ++ behind) (sym (word_bytes name (name_ascii name cut.letters)) ∙ ap encode_utf8_all (sym same)),
    )

-- ---- anchors

-- an anchor is a name between `&` and a space
anchor_name : (name : Text) (rest : Text) (text inside : List ℕ) → text ≡ codes "&" ++ inside
    → text ≡ encode_utf8_all (anchor_text (Some name) ++ rest) → inside ≡ encode_utf8_all (name ++ space ∷ rest)
anchor_name name rest text inside cut is =
    append_cancel_left (codes "&") inside (encode_utf8_all (name ++ space ∷ rest))
    (sym cut ∙ is ∙ ap (λ t. encode_utf8_all (0x26 ∷ t)) (append_assoc name (space ∷ []) rest) ∙ word_encoded (codes "&") (name ++ space ∷ rest) refl)

-- the text after `&`
pub record IsBehindMark (anchor : Option Text) (rest : Text) (inside : List ℕ) : Type 0 where
  pub name : Text
  pub is : Some name ≡ anchor
  pub named : alias_fault name ≡ None
  pub text : inside ≡ encode_utf8_all (name ++ space ∷ rest)

pub anchor_there : (anchor : Option Text) (rest : Text) (text inside : List ℕ) → IsAnchor anchor → past_word (codes "&") (encode_utf8_all rest) ≡ None
    → text ≡ codes "&" ++ inside → text ≡ encode_utf8_all (anchor_text anchor ++ rest) → IsBehindMark anchor rest inside
anchor_there None rest text inside named none cut is = absurd (no_word (codes "&") (encode_utf8_all rest) inside none (sym is ∙ cut))
anchor_there (Some name) rest text inside named none cut is =
    record { name = name; is = refl; named = plain name named; text = anchor_name name rest text inside cut is }
  where
    plain : (name : Text) → IsAnchor (Some name) → alias_fault name ≡ None
    plain [] named = cc
    plain (c ∷ name) named = by (list_all is_alpha (c ∷ name)) named
      where
        by : (b : Bool) → ◌≡◌ {A = Option yaml_error_t} (if b then None else Some AnchorAlphabet) None
            → ◌≡◌ {A = Option yaml_error_t} (if b then None else Some AliasAlphabet) None
        by true e = refl
        by false e = cc

-- a text that doesn't begin with `&` begins with no anchor
pub anchor_absent : (anchor : Option Text) (rest : Text) (text : List ℕ) → past_word (codes "&") text ≡ None
    → text ≡ encode_utf8_all (anchor_text anchor ++ rest) → (None ≡ anchor) × (text ≡ encode_utf8_all rest)
anchor_absent None rest text none is = (refl, is)
anchor_absent (Some name) rest text none is = absurd (no_word (codes "&") text _ none (is ∙ word_encoded (codes "&") ((name ++ space ∷ []) ++ rest) refl))

-- the space after a name
pub space_there : (rest : Text) (behind : List ℕ) → behind ≡ encode_utf8_all (space ∷ rest) → past_word (codes " ") behind ≡ None → ⊥
space_there rest behind is none = no_word (codes " ") behind (encode_utf8_all rest) none (is ∙ word_encoded (codes " ") rest refl)

-- an anchor that was read
pub anchor_sound : (name : Text) (text inside behind rest : List ℕ) → alias_fault name ≡ None → text ≡ codes "&" ++ inside
    → inside ≡ encode_utf8_all name ++ behind → behind ≡ codes " " ++ rest
    → IsAnchor (Some name) × (text ≡ encode_utf8_all (anchor_text (Some name)) ++ rest)
anchor_sound name text inside behind rest named cut read spaced =
    let letters = name_letters name named in
    let bytes = word_bytes name (name_ascii name letters) in (
      anchor_named name named,
      cut ∙ ap (λ t. 0x26 ∷ t) (read ∙ ap (λ t. t ++ behind) bytes ∙ ap (λ t. name ++ t) spaced ∙ sym (append_assoc name (space ∷ []) rest))
          ∙ ap (λ t. t ++ rest) (sym (word_bytes (anchor_text (Some name)) (anchor_ascii name letters))),
    )
  where
    anchor_named : (name : Text) → alias_fault name ≡ None → IsAnchor (Some name)
    anchor_named [] named = cc
    anchor_named (c ∷ name) named = ap (λ b. if b then None else Some AnchorAlphabet) (name_letters (c ∷ name) named)

    anchor_ascii : (name : Text) → list_all is_alpha name ≡ true → are_ascii (anchor_text (Some name)) ≡ true
    anchor_ascii name letters = list_all-append (λ c. nat_lt c 128) name (space ∷ []) ∙ ap (λ b. b && true) (name_ascii name letters)
