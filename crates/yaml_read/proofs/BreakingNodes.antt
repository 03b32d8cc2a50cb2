-- The places at which the bytes of a node break off, and the bytes after a node.
use Rattle.yaml_read.proofs.Common.{ℕ, ◌<◌, ◌≤◌, suc, true, None, Some, List, [], ◌∷◌, ◌++◌, refl, ◌≡◌, ap, subst, sym, ◌∙◌, ◌⊎◌, inl, inr, pos, arith}
use Rattle.yaml_read.proofs.Common.{append_assoc, append-nil, codes, flat_map, length, encode_utf8_all, encode_utf8, character_text, Text, TypedValue}
use Rattle.yaml_read.proofs.Common.{most_nested, quote, in_quotes, IsUtf8-past_char, encode_ascii, encodes-append, ℤ, ◌^◌, signed_decimal, mag, IsUtf8}
use Rattle.yaml_read.proofs.Common.{behind_tag, characters, these_or_those, integer, line_then, node, nothing, quoted_text, unless_deep, word_then}
use Rattle.yaml_read.proofs.Common.{ReadsCharacter, tag_word, BreaksAt, BreaksOff, IsHere, IsHereOrMemory, IsWholeWord, LacksEnd, StopsIn, behind_all}
use Rattle.yaml_read.proofs.Common.{behind_node, in_node, more_follows, OpenLevel, items_open, pairs_open, value_due, Keys, KeysAllow, OpenKeysAllow}
use Rattle.yaml_read.proofs.Common.{HasRead, IsOpen, OpenCanBeRead, no_end, IsCharacter, IsMemory, past_word, Stop, Kind}
use Rattle.yaml_read.proofs.Breaking.{here, missing, passed, passed_at, second_of}
use Rattle.yaml_read.{specs.Grammar.behind_in, proofs.CharactersRead.ReadSoFar, proofs.Words.absent, proofs.Words.behind_word as behind_itself}
use Rattle.yaml_read.{proofs.Words.no_word}
use Rattle.std.proofs.lemmas.Bool.{cases_lt}
use Rattle.yaml_read.specs.declared.errors.Stop.TheVariants as stop
use Rattle.yaml_read.specs.declared.heads.Kind.TheVariants as kind

-- ---- the text after words in UTF-8 is UTF-8

utf8_behind : (word : Text) (bytes rest : List ℕ) → IsUtf8 bytes → bytes ≡ encode_utf8_all word ++ rest → IsUtf8 rest
utf8_behind [] bytes rest utf8 is = subst IsUtf8 is utf8
utf8_behind (c ∷ word) bytes rest utf8 is =
    utf8_behind word (encode_utf8_all word ++ rest) rest
    (IsUtf8-past_char bytes (encode_utf8_all word ++ rest) c utf8 (is ∙ append_assoc (encode_utf8 c) (encode_utf8_all word) rest)) refl

-- no text goes on with a word
unread : (word : Text) (bytes : List ℕ) → IsUtf8 bytes → ((rest : Text) → bytes ≡ encode_utf8_all (word ++ rest) → ⊥)
    → past_word (encode_utf8_all word) bytes ≡ None
unread word bytes utf8 lacks =
    absent (encode_utf8_all word) bytes (λ rest is.
    let after = utf8_behind word bytes rest utf8 is in
    lacks after.0 (is ∙ ap (λ t. encode_utf8_all word ++ t) (sym after.1.1) ∙ sym (encodes-append word after.0)))

-- ---- texts between quotes

-- the text after the characters that were read
pub utf8_left : (whole value bytes : List ℕ) → IsUtf8 whole → ReadSoFar whole value bytes → IsUtf8 bytes
utf8_left whole value bytes utf8 so_far =
    let inside = flat_map (character_text true) so_far.read in
    utf8_behind inside (encode_utf8_all inside ++ bytes) bytes (IsUtf8-past_char whole (encode_utf8_all inside ++ bytes) quote utf8
    (so_far.whole_is ∙ ap (λ b. b ++ (encode_utf8_all inside ++ bytes)) (sym (encode_ascii quote (omega arith))))) refl

-- the bytes of a text break off at the place at which those after its characters do
pub record PassesCharacters (whole bytes : List ℕ) : Type 0 where
  pub passes : (left : ℕ) → BreaksOff characters bytes left → BreaksOff quoted_text whole left

pub passes_quote : (whole bytes : List ℕ) → whole ≡ codes "\"" ++ bytes → PassesCharacters whole bytes
passes_quote whole bytes is =
    record {
      passes = λ left breaks.
          passed quoted_text characters (codes "\"") whole bytes left is (λ words more. (refl, more)) (λ words these. these.1) breaks;
    }

pub passes_character : (whole bytes rest : List ℕ) (c : ℕ) → PassesCharacters whole bytes → past_word (codes "\"") bytes ≡ None
    → IsCharacter bytes c rest → PassesCharacters whole rest
passes_character whole bytes rest c passes none character =
    record {
      passes = λ left breaks.
          passes.passes left (passed characters characters (encode_utf8_all (character_text true c)) bytes rest left character.text
          (λ words more. inr (c, character.scalar, refl, more)) out breaks);
    }
  where
    out : (words : List (List ℕ)) → characters (encode_utf8_all (character_text true c) ∷ words) → characters words
    out words (inl ends) = absurd (no_word (codes "\"") bytes rest none (character.text ∙ ap (λ w. w ++ rest) ends.0))
    out words (inr goes) = goes.3

-- the bytes begin with no character
pub no_character : (whole bytes : List ℕ) (error : Stop) → PassesCharacters whole bytes → IsUtf8 bytes → past_word (codes "\"") bytes ≡ None
    → ReadsCharacter bytes None → IsHere bytes error → BreaksAt quoted_text whole error
no_character whole bytes error passes utf8 none reads place =
    subst (BreaksAt quoted_text whole) (sym place) (passes.passes (length bytes)
    (record { read = []; rest = bytes; parts = refl; place = refl; due = codes "\""; more = []; begins = inl (refl, tt); none = lacks }))
  where
    lacks : (next : List ℕ) (after : List (List ℕ)) → characters (next ∷ after) → past_word next bytes ≡ None
    lacks next after (inl ends) = subst (λ (w : List ℕ). past_word w bytes ≡ None) (sym ends.0) none
    lacks next after (inr goes) = grind (arith, unread, character_text)

-- a text that is refused as a whole
pub whole_refused : (bytes : List ℕ) (reason error : Stop) → IsWholeWord bytes reason error → IsMemory reason → IsMemory error
whole_refused bytes stop.Memory error is reads = subst IsMemory (sym is) tt
whole_refused bytes _ error is reads = absurd reads

pub whole_placed : (bytes : List ℕ) (reason error : Stop) → IsWholeWord bytes reason error → IsHereOrMemory bytes error
whole_placed bytes stop.Memory error is = inl is
whole_placed bytes _ error is = inr is

-- the bytes begin with no integer
pub no_integer : (bytes : List ℕ) (error : Stop) → IsUtf8 bytes → IsHereOrMemory bytes error
    → ((n : ℤ) (rest : Text) → mag n < 2 ^ 63 → bytes ≡ encode_utf8_all (in_quotes (signed_decimal n) ++ rest) → IsMemory error)
    → BreaksAt integer bytes error
no_integer bytes error utf8 (inl memory) reads = subst (BreaksAt integer bytes) (sym memory) tt
no_integer bytes error utf8 (inr place) reads =
    let few : mag (pos 0) < 2 ^ 63 = omega arith in
    here integer bytes error (encode_utf8_all (in_quotes (signed_decimal (pos 0)))) [] place (pos 0, few, (refl, tt))
    (λ next after is. subst (λ (w : List ℕ). past_word w bytes ≡ None) (sym is.2.0)
    (unread (in_quotes (signed_decimal is.0)) bytes utf8 (λ rest starts. subst IsMemory place (reads is.0 rest is.1 starts))))

-- ---- tags

kinds_same : (k j : Kind) → past_word (tag_word k) (tag_word j) ≡ Some [] → k ≡ j
kinds_same k j h1 = grind arith

same_kind : (k j : Kind) → tag_word k ≡ tag_word j → k ≡ j
same_kind k j is = grind (arith, kinds_same, past_word, tag_word, append-nil, behind_itself)

-- the bytes begin with no tag
pub no_tag_there : (depth : ℕ) (bytes : List ℕ) (error : Stop) → ((k : Kind) → past_word (tag_word k) bytes ≡ None) → IsHere bytes error
    → BreaksAt (node depth) bytes error
no_tag_there depth bytes error none place =
    here (node depth) bytes error (tag_word kind.Null) (codes "\"null\"" ∷ []) place (kind.Null, (refl, (refl, tt)))
    (λ next after is. subst (λ (w : List ℕ). past_word w bytes ≡ None) (sym is.1.0) (none is.0))

-- the bytes break off after a tag
pub tag_passed : (depth : ℕ) (k read : Kind) (bytes rest : List ℕ) (error : Stop) → read ≡ k → bytes ≡ tag_word read ++ rest
    → BreaksAt (behind_tag depth k) rest error → BreaksAt (node depth) bytes error
tag_passed depth k read bytes rest error same is breaks =
    passed_at (node depth) (behind_tag depth k) (tag_word k) bytes rest error (subst (λ (j : Kind). bytes ≡ tag_word j ++ rest) same is)
    (λ words more. (k, (refl, more))) (λ words these. subst (λ (j : Kind). behind_tag depth j words) (sym (same_kind k these.0 these.1.0)) these.1.1) breaks

-- some words come after a bracket
words_inside : (depth : ℕ) (More : List (List ℕ) → Type 0) (words : List (List ℕ)) → More words
    → (inside : List (List ℕ)) × unless_deep depth More inside
words_inside depth More words begins = by (cases_lt depth most_nested)
  where
    by : (depth < most_nested) ⊎ (most_nested ≤ depth) → (inside : List (List ℕ)) × unless_deep depth More inside
    by (inl room) = (words, inl (room, begins))
    by (inr deep) = ([], inr (deep, tt))

-- no bracket follows a list's or a map's tag
pub no_list : (depth : ℕ) (bytes rest : List ℕ) (error : Stop) → bytes ≡ codes "!!seq " ++ rest → past_word (codes "[") rest ≡ None
    → IsHere rest error → BreaksAt (node depth) bytes error
no_list depth bytes rest error is none place =
    let inside = words_inside depth (these_or_those (word_then (codes "]") nothing) (line_then (suc depth) nothing)) (codes "]" ∷ []) (inl (refl, tt)) in
    tag_passed depth kind.List kind.List _ rest error refl is
    (missing _ _ (unless_deep depth (these_or_those (word_then (codes "]") nothing) (line_then (suc depth) nothing))) error inside.0 none place inside.1)

pub no_map : (depth : ℕ) (bytes rest : List ℕ) (error : Stop) → bytes ≡ codes "!!map " ++ rest → past_word (codes "{") rest ≡ None
    → IsHere rest error → BreaksAt (node depth) bytes error
no_map depth bytes rest error is none place =
    let inside = words_inside depth (these_or_those (word_then (codes "}") nothing) (line_then (suc depth) (word_then (codes "? ") nothing))) (codes "}" ∷ [])
    (inl (refl, tt)) in
    tag_passed depth kind.Map kind.Map bytes rest error refl is (missing (codes "{") rest
    (unless_deep depth (these_or_those (word_then (codes "}") nothing) (line_then (suc depth) (word_then (codes "? ") nothing)))) error
    inside.0 none place inside.1)

-- ---- after a node

-- the bytes of a document break off after a value
pub value_stops : (mode : Keys) (whole : List ℕ) (levels : List OpenLevel) (level : OpenLevel) (value : TypedValue) (bytes : List ℕ) (depth : ℕ)
    (error : Stop) → depth ≡ length levels → HasRead whole (level ∷ levels) value bytes → OpenKeysAllow mode (level ∷ levels) → KeysAllow mode value
    → BreaksAt (behind_in depth level) bytes error → StopsIn mode whole error
value_stops mode whole levels level value bytes depth (stop.Refused left) same read open_allow allow breaks =
    behind_node (level ∷ levels) value bytes read open_allow allow (subst (λ n. BreaksOff (behind_in n level) bytes left) same breaks)
value_stops mode whole levels level value bytes depth (stop.TooDeep left) same read open_allow allow breaks = absurd breaks
value_stops mode whole levels level value bytes depth stop.Memory same read open_allow allow breaks = tt

-- and after the outermost value
pub end_lacks : (mode : Keys) (whole : List ℕ) (value : TypedValue) (bytes : List ℕ) (error : Stop) → HasRead whole [] value bytes
    → OpenKeysAllow mode [] → KeysAllow mode value → LacksEnd bytes error → StopsIn mode whole error
end_lacks mode whole value bytes error read open_allow allow (no_end none place) =
    subst (StopsIn mode whole) (sym place)
    (behind_node [] value bytes read open_allow allow (missing (codes "\n") bytes nothing (stop.Refused (length bytes)) [] none refl tt))
end_lacks mode whole value bytes error read open_allow allow (more_follows rest is some place) =
    subst (StopsIn mode whole) (sym place) (behind_all value bytes rest read allow is some refl)

-- ---- at a node

-- the bytes of a document break off in a node
pub node_stops : (mode : Keys) (whole : List ℕ) (levels : List OpenLevel) (bytes : List ℕ) (error : Stop) → IsOpen whole levels bytes
    → OpenKeysAllow mode levels → BreaksAt (node (length levels)) bytes error → StopsIn mode whole error
node_stops mode whole levels bytes (stop.Refused left) opened allow breaks = in_node levels bytes opened allow breaks
node_stops mode whole levels bytes (stop.TooDeep left) opened allow breaks = absurd breaks
node_stops mode whole levels bytes stop.Memory opened allow breaks = tt

-- after the opening bracket of a list or a map that has entries
inside_out : (depth : ℕ) (More : List (List ℕ) → Type 0) (words : List (List ℕ)) → depth < most_nested → unless_deep depth More words → More words
inside_out depth More words room (inl inside) = inside.1
inside_out depth More words room (inr deep) = absurd (omega (arith, room, deep.0))

pub list_line_breaks : (depth : ℕ) (bytes rest : List ℕ) (error : Stop) → depth < most_nested
    → (bytes ≡ codes "!!seq [" ++ rest) × (past_word (codes "]") rest ≡ None) → BreaksAt (line_then (suc depth) nothing) rest error
    → BreaksAt (node depth) bytes error
list_line_breaks depth bytes rest error room found breaks =
    tag_passed depth kind.List kind.List bytes (codes "[" ++ rest) error refl found.0
    (passed_at (behind_tag depth kind.List) (these_or_those (word_then (codes "]") nothing) (line_then (suc depth) nothing)) (codes "[")
    (codes "[" ++ rest) rest error refl (λ words more. (refl, inl (room, more)))
    (λ words these. inside_out depth (these_or_those (word_then (codes "]") nothing) (line_then (suc depth) nothing)) words room these.1)
    (second_of (codes "]") (line_then (suc depth) nothing) rest error found.1 breaks))

pub map_line_breaks : (depth : ℕ) (bytes rest : List ℕ) (error : Stop) → depth < most_nested
    → (bytes ≡ codes "!!map {" ++ rest) × (past_word (codes "}") rest ≡ None)
    → BreaksAt (line_then (suc depth) (word_then (codes "? ") nothing)) rest error → BreaksAt (node depth) bytes error
map_line_breaks depth bytes rest error room found breaks =
    tag_passed depth kind.Map kind.Map bytes (codes "{" ++ rest) error refl found.0
    (passed_at (behind_tag depth kind.Map) (these_or_those (word_then (codes "}") nothing) (line_then (suc depth) (word_then (codes "? ") nothing))) (codes "{")
    (codes "{" ++ rest) rest error refl (λ words more. (refl, inl (room, more)))
    (λ words these. inside_out depth (these_or_those (word_then (codes "}") nothing) (line_then (suc depth) (word_then (codes "? ") nothing))) words room
    these.1) (second_of (codes "}") (line_then (suc depth) (word_then (codes "? ") nothing)) rest error found.1 breaks))

-- ---- too deep

-- no more are open than may be
few_open : (levels : List OpenLevel) → OpenCanBeRead levels → length levels ≤ most_nested
few_open [] readable = omega arith
few_open (items_open items ∷ levels) readable = omega (arith, readable.1.0)
few_open (pairs_open pairs ∷ levels) readable = omega (arith, readable.1.0)
few_open (value_due pairs key ∷ levels) readable = omega (arith, readable.1.0)

pub opens_deep : (mode : Keys) (whole : List ℕ) (levels : List OpenLevel) (bytes inside : List ℕ) (error : Stop) → IsOpen whole levels bytes
    → OpenKeysAllow mode levels → most_nested ≤ length levels → (bytes ≡ codes "!!seq [" ++ inside) ⊎ (bytes ≡ codes "!!map {" ++ inside)
    → error ≡ stop.TooDeep (length bytes) → StopsIn mode whole error
opens_deep mode whole levels bytes inside error opened allow many begins place =
    subst (StopsIn mode whole) (sym place)
    (record {
      levels = levels;
      bytes = bytes;
      opened = opened;
      allowed = allow;
      full = omega (arith, many, few_open levels opened.readable);
      inside = inside;
      begins = begins;
      place = refl;
    })
