-- Texts that have a plain tag: their places, and how they are read.
use Rattle.yaml_writer.proofs.Common.{if◌then◌else◌, Option, None, Some, option_map, option_or, codes, Bool, false, not, true, ◌&&◌, ◌||◌, List, [], map, ◌++◌}
use Rattle.yaml_writer.proofs.Common.{◌∷◌, refl, ◌≡◌, ℕ, chars, ap, sym, ◌∙◌, and_parts, and_from, not_from_false, not-true, list_all, list_any, IsUtf8, Text}
use Rattle.yaml_writer.proofs.Common.{is_word, is_space, float_tag, encode_utf8_all, encodes-chars}
use Rattle.yaml_base.proofs.Common.{bytes_eq, bytes_eq-Decides, list_any-append, named, slice_split, Resolved, words_of_core, resolved_by_core, resolved_by_11}
use Rattle.yaml_base.proofs.Common.{is_empty}
use Rattle.yaml_base.proofs.AsciiWords.{is_ascii_text, ascii_of, same_word}
use Rattle.yaml_base.proofs.{NumbersByCore.found, SchemaWords.named_unlike}
use Rattle.yaml_base.specs.{scalars.Analysis.begins_unlike_plain, values.CanonicalTags.canonical_tag}
use Rattle.yaml_base.specs.values.Resolved.{meant_null, meant_boolean, meant_infinity, meant_nan, words_of_repository}
use Rattle.yaml_base.specs.values.TypedValues.{null_tag, bool_tag}
use Rattle.yaml_writer.proofs.PlainNumbers.{is_harmless, stands_plain}
use Rattle.yaml_writer.proofs.PlainShapes.{Shaped, begins_plainly, shaped_begins, shaped_harmless}
use Rattle.yaml_writer.proofs.ShapesRead.{numbers_by_both}
use Rattle.yaml_writer.specs.Words.{is_one_of}
use Rattle.yaml_writer.specs.PlainTags.{word_meant, plain_number_tag, null_words, bool_words, float_words, IsWrittenPlain, PlainTagsAreRead}

-- equal options hold the same
some_same : {A : Type 0} {a b : A} → Some a ≡ Some b → a ≡ b
some_same h = cc

none_some : {A P : Type 0} {a : A} → None ≡ Some a → P
none_some {A} {P} {a} h = absurd (by h)
  where
    by : None ≡ Some a → ⊥
    by e = cc

-- ---- words

-- The texts that may be plain everywhere.
abbrev is_harmless_text : Text → Bool
is_harmless_text text = list_all is_harmless text && not (is_empty text) && not (begins_unlike_plain text)

harmless_stands : (text : Text) → is_harmless_text text ≡ true → IsWrittenPlain text
harmless_stands text h charset flow simple_key =
    let both = and_parts (list_all is_harmless text && not (is_empty text)) (not (begins_unlike_plain text)) h in
    let first = and_parts (list_all is_harmless text) (not (is_empty text)) both.0 in
    stands_plain text first.0 (not-true _ first.1) (not-true _ both.1) charset false true false flow simple_key refl

-- each word may
word_harmless : (text : Text) (meant : Resolved) → word_meant text ≡ Some meant → is_harmless_text text ≡ true
word_harmless [] meant e = none_some e
word_harmless (c ∷ rest) meant e = by (is_harmless_text (c ∷ rest)) refl
  where
    by : (x : Bool) → is_harmless_text (c ∷ rest) ≡ x → is_harmless_text (c ∷ rest) ≡ true
    by true h = h
    by false h = none_some (sym (named_unlike (λ text. is_empty text || is_harmless_text text) words_of_core (c ∷ rest) refl h) ∙ e)

-- a word of a table is one of a longer table, and means the same
named_before : (table others : List (Text × Resolved)) (text : Text) (meant : Resolved) → named table text ≡ Some meant
    → named (table ++ others) text ≡ Some meant
named_before [] others text meant e = none_some e
named_before (entry ∷ table) others text meant e = by (is_word text entry.0) e (named_before table others text meant)
  where
    by : (x : Bool) → (if x then Some entry.1 else named table text) ≡ Some meant
        → (named table text ≡ Some meant → named (table ++ others) text ≡ Some meant)
        → (if x then Some entry.1 else named (table ++ others) text) ≡ Some meant
    by true e ih = e
    by false e ih = ih e

-- both schemas read a word alike
word_read : (text : Text) (meant : Resolved) → word_meant text ≡ Some meant → (resolved_by_11 text ≡ meant) × (resolved_by_core text ≡ meant)
word_read [] meant e = none_some e
word_read (c ∷ rest) meant e = (found _ _ meant (named_before words_of_core words_of_repository (c ∷ rest) meant e), found _ _ meant e)

-- ---- numbers, and both

number_stands : (text : Text) → Shaped text → IsWrittenPlain text
number_stands text shaped =
    let begins = begins_plainly text (shaped_begins text shaped) in
    harmless_stands text
    (and_from (list_all is_harmless text && not (is_empty text)) (not (begins_unlike_plain text))
    (and_from (list_all is_harmless text) (not (is_empty text)) (shaped_harmless text shaped) (not_from_false _ begins.0))
    (not_from_false _ begins.1))

abbrev IsRead : Text → Text → Type 0
IsRead text tag = IsWrittenPlain text × (resolved_by_11 text ≡ resolved_by_core text) × (canonical_tag (resolved_by_core text) ≡ tag)

pub plain_tags_read : PlainTagsAreRead
plain_tags_read text tag e = by (word_meant text) (plain_number_tag text) refl refl e
  where
    by : (word : Option Resolved) (number : Option Text) → word_meant text ≡ word → plain_number_tag text ≡ number
        → option_or (option_map canonical_tag word) number ≡ Some tag → IsRead text tag
    by (Some meant) number is other said =
        let read = word_read text meant is in
        (harmless_stands text (word_harmless text meant is), read.0 ∙ sym read.1, ap canonical_tag read.1 ∙ some_same said)
    by None (Some found) other is said =
        let shape = numbers_by_both text tag (is ∙ said) in (number_stands text shape.0, shape.1.0, shape.1.1)
    by None None other is said = none_some said

-- ---- code that looks for words

-- words that mean the same, before others
named_all : (words : List Text) (meant : Resolved) (others : List (Text × Resolved)) (text : Text)
    → named (map (λ word. (word, meant)) words ++ others) text ≡ (if list_any (is_word text) words then Some meant else named others text)
named_all [] meant others text = refl
named_all (word ∷ words) meant others text = by (is_word text word) (named_all words meant others text)
  where
    by : (x : Bool)
        → named (map (λ w. (w, meant)) words ++ others) text ≡ (if list_any (is_word text) words then Some meant else named others text)
        → (if x then Some meant else named (map (λ w. (w, meant)) words ++ others) text)
        ≡ (if x || list_any (is_word text) words then Some meant else named others text)
    by true ih = refl
    by false ih = ih

-- words one space apart
abbrev listed : Text → List Text
listed words = slice_split is_space words

abbrev meaning : Text → Resolved → List (Text × Resolved)
meaning words meant = map (λ word. (word, meant)) (listed words)

abbrev picked : (nothing truth float : Bool) → Option Text
picked nothing truth float = if nothing then Some null_tag else (if truth then Some bool_tag else (if float then Some float_tag else None))

collapsed : (a b c d e f : Bool)
    → option_map canonical_tag
    (if a then Some meant_null else (if b then Some (meant_boolean true) else (if c then Some (meant_boolean false) else
    (if d then Some (meant_infinity false) else (if e then Some (meant_infinity true) else (if f then Some meant_nan else None))))))
    ≡ picked a (b || c) (d || (e || f))
collapsed true b c d e f = refl
collapsed false true c d e f = refl
collapsed false false true d e f = refl
collapsed false false false true e f = refl
collapsed false false false false true f = refl
collapsed false false false false false true = refl
collapsed false false false false false false = refl

abbrev trues : Text
trues = codes "true True TRUE"

abbrev falses : Text
falses = codes "false False FALSE"

abbrev infinities : Text
infinities = codes ".inf .Inf .INF +.inf +.Inf +.INF"

abbrev negatives : Text
negatives = codes "-.inf -.Inf -.INF"

abbrev nans : Text
nans = codes ".nan .NaN .NAN"

by_groups : (text : Text)
    → option_map canonical_tag (word_meant text) ≡ picked (is_one_of null_words text) (is_one_of bool_words text) (is_one_of float_words text)
by_groups [] = refl
by_groups (c ∷ rest) =
    let text = c ∷ rest in
    let floats = meaning infinities (meant_infinity false) ++ (meaning negatives (meant_infinity true) ++ (meaning nans meant_nan ++ [])) in
    ap (option_map canonical_tag)
    (named_all (listed null_words) meant_null (meaning trues (meant_boolean true) ++ (meaning falses (meant_boolean false) ++ floats)) text
    ∙ ap (λ (o : Option Resolved). if is_one_of null_words text then Some meant_null else o)
    (named_all (listed trues) (meant_boolean true) (meaning falses (meant_boolean false) ++ floats) text
    ∙ ap (λ (o : Option Resolved). if is_one_of trues text then Some (meant_boolean true) else o)
    (named_all (listed falses) (meant_boolean false) floats text
    ∙ ap (λ (o : Option Resolved). if is_one_of falses text then Some (meant_boolean false) else o)
    (named_all (listed infinities) (meant_infinity false) (meaning negatives (meant_infinity true) ++ (meaning nans meant_nan ++ [])) text
    ∙ ap (λ (o : Option Resolved). if is_one_of infinities text then Some (meant_infinity false) else o)
    (named_all (listed negatives) (meant_infinity true) (meaning nans meant_nan ++ []) text
    ∙ ap (λ (o : Option Resolved). if is_one_of negatives text then Some (meant_infinity true) else o)
    (named_all (listed nans) meant_nan [] text))))))
    ∙ collapsed (is_one_of null_words text) (is_one_of trues text) (is_one_of falses text) (is_one_of infinities text) (is_one_of negatives text)
    (is_one_of nans text)
    ∙ ap (λ x. picked (is_one_of null_words text) x (is_one_of infinities text || (is_one_of negatives text || is_one_of nans text)))
    (sym (list_any-append (is_word text) (listed trues) (listed falses)))
    ∙ ap (picked (is_one_of null_words text) (is_one_of bool_words text))
    (ap (λ x. is_one_of infinities text || x) (sym (list_any-append (is_word text) (listed negatives) (listed nans)))
    ∙ sym (list_any-append (is_word text) (listed infinities) (listed negatives ++ listed nans)))

-- words are found by bytes as by characters
words_by_chars : (words : List Text) (bytes : List ℕ) → list_all is_ascii_text words ≡ true → IsUtf8 bytes
    → list_any (is_word bytes) words ≡ list_any (is_word (chars bytes)) words
words_by_chars [] bytes ascii utf8 = refl
words_by_chars (word ∷ words) bytes ascii utf8 =
    let both = and_parts (is_ascii_text word) (list_all is_ascii_text words) ascii in
    ap (λ x. x || list_any (is_word bytes) words) (same_word bytes word utf8 (ascii_of word both.0))
    ∙ ap (λ x. is_word (chars bytes) word || x) (words_by_chars words bytes both.1 utf8)

-- the tag of a word, by the group in which it is found
pub word_tag : (bytes : List ℕ) (nothing truth float : Bool) → IsUtf8 bytes → is_one_of null_words bytes ≡ nothing → is_one_of bool_words bytes ≡ truth
    → is_one_of float_words bytes ≡ float → option_map canonical_tag (word_meant (chars bytes)) ≡ picked nothing truth float
word_tag bytes nothing truth float utf8 a b c =
    by_groups (chars bytes)
    ∙ ap (λ x. picked x (is_one_of bool_words (chars bytes)) (is_one_of float_words (chars bytes)))
    (sym (words_by_chars (listed null_words) bytes refl utf8) ∙ a)
    ∙ ap (λ x. picked nothing x (is_one_of float_words (chars bytes))) (sym (words_by_chars (listed bool_words) bytes refl utf8) ∙ b)
    ∙ ap (picked nothing truth) (sym (words_by_chars (listed float_words) bytes refl utf8) ∙ c)

-- ---- code that compares texts

-- They are equal by bytes if they are by characters.
pub same_bytes : (a b : List ℕ) → IsUtf8 a → IsUtf8 b → bytes_eq a b ≡ bytes_eq (chars a) (chars b)
same_bytes a b first second = by (bytes_eq a b) (bytes_eq (chars a) (chars b)) refl refl
  where
    by : (x y : Bool) → bytes_eq a b ≡ x → bytes_eq (chars a) (chars b) ≡ y → x ≡ y
    by true false e f = sym ((bytes_eq-Decides (chars a) (chars b)).1 (ap chars ((bytes_eq-Decides a b).0 e))) ∙ f
    by false true e f =
        sym e ∙ (bytes_eq-Decides a b).1
        (sym (encodes-chars a first) ∙ ap encode_utf8_all ((bytes_eq-Decides (chars a) (chars b)).0 f) ∙ encodes-chars b second)
    by _ _ e f = refl
