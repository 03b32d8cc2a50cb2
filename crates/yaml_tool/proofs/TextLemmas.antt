-- A text is read turn by turn: `\u{..}` is cut at its closing brace.
use Rattle.yaml_tool.proofs.Common.{ℕ, if◌then◌else◌, ◌==◌, option_map, Option, None, Some, length, Bool, false, List, [], ◌++◌, ◌∷◌, refl, ◌≡◌, append-nil}
use Rattle.yaml_tool.proofs.Common.{append_assoc, ap, subst, sym, ◌∙◌, chars-nil, encodes-append, chars_from_encodes, encodes-chars, chars-append, arith}
use Rattle.yaml_tool.proofs.Common.{IsUtf8-string_bytes, encode_utf8, IsUtf8, chars, encode_utf8_all, string_bytes, Text, seen_text, at_character, text_from}
use Rattle.yaml_tool.proofs.Common.{IsFree, IsCut, prefix_of, SkipsTo}
use Rattle.std.specs.Prelude.{String}
use Rattle.yaml_base.specs.scripts.Script.{quotation_mark, backslash, at_escape, at_brace, at_digits, goes_on, stands_for, ends, fails, numbered_step}
use Rattle.yaml_base.specs.scripts.Script.{text_step}
use Rattle.yaml_tool.{proofs.CharacterLemmas.passed_to, proofs.CutLemmas.free_parts, specs.Texts.ReadsPrefix}
use Rattle.yaml_base.specs.scripts.Script as notation

-- the reading of a turn and the characters after it
abbrev pub read_turn : notation.QuotedStep → Text → Option Text
read_turn (goes_on next) rest = text_from next rest
read_turn (stands_for character) rest = option_map (λ value. character ∷ value) (text_from at_character rest)
read_turn ends rest = if length rest == 0 then Some [] else None
read_turn fails rest = None

one_turn : (t : notation.QuotedStep) (rest : Text) → (elim t as (λ _. Option Text) [
  | goes_on next ↦ text_from next rest
  | stands_for character ↦ option_map (λ value. character ∷ value) (text_from at_character rest)
  | ends ↦ if length rest == 0 then Some [] else None
  | fails ↦ None
]) ≡ read_turn t rest
one_turn (goes_on next) rest = refl
one_turn (stands_for character) rest = refl
one_turn ends rest = refl
one_turn fails rest = refl

first_turn : (within : notation.Within) (c : ℕ) (rest : Text) → text_from within (c ∷ rest) ≡ read_turn (text_step within c) rest
first_turn within c rest = one_turn (text_step within c) rest

digit_goes_on : (digits : Text) (c : ℕ) → (c == 0x7D) ≡ false → text_step (at_digits digits) c ≡ goes_on (at_digits (digits ++ c ∷ []))
digit_goes_on digits c h = grind (arith, numbered_step, goes_on, at_digits)

-- no closing brace, no character
digits_without_end : (digits prefix : Text) → IsFree 0x7D prefix → text_from (at_digits digits) prefix ≡ None
digits_without_end digits [] free = refl
digits_without_end digits (c ∷ prefix) free =
    grind (arith, free_parts, first_turn, at_digits, read_turn, digit_goes_on, digits_without_end (digits ++ c ∷ []) prefix (free_parts (c == 0x7D) _ free).1)

-- up to the first closing brace they are one character
digits_with_end : (digits prefix back : Text) → IsFree 0x7D prefix
    → text_from (at_digits digits) (prefix ++ (0x7D ∷ back)) ≡ read_turn (numbered_step (digits ++ prefix)) back
digits_with_end digits [] back free = first_turn (at_digits digits) 0x7D back ∙ ap (λ (ds : Text). read_turn (numbered_step ds) back) (sym (append-nil digits))
digits_with_end digits (c ∷ prefix) back free =
    let both = free_parts (c == 0x7D) _ free in
    first_turn (at_digits digits) c (prefix ++ (0x7D ∷ back))
    ∙ ap (λ t. read_turn t (prefix ++ (0x7D ∷ back))) (digit_goes_on digits c both.0)
    ∙ digits_with_end (digits ++ c ∷ []) prefix back both.1
    ∙ ap (λ (ds : Text). read_turn (numbered_step ds) back) (append_assoc digits (c ∷ []) prefix)

pub braced : (behind digits prefix back : Text) → behind ≡ 0x7B ∷ digits → IsCut 0x7D digits prefix back
    → text_from at_brace behind ≡ read_turn (numbered_step prefix) back
braced behind digits prefix back opened cut = rw (opened, cut.0) (digits_with_end [] prefix back cut.1)

pub unbraced : (behind digits : Text) → behind ≡ 0x7B ∷ digits → IsFree 0x7D digits → text_from at_brace behind ≡ None
unbraced behind digits opened free = rw opened (digits_without_end [] digits free)

-- a string that has grown by a character has one character more
pub seen_pushed : {A : Type 0} (text grown : String A) (c : ℕ) → string_bytes grown ≡ string_bytes text ++ encode_utf8 c
    → seen_text grown ≡ seen_text text ++ c ∷ []
seen_pushed text grown c grows =
    let all = chars (string_bytes text) ++ c ∷ [] in
    let spelled : encode_utf8_all all ≡ string_bytes grown =
    encodes-append (chars (string_bytes text)) (c ∷ [])
    ∙ ap (λ (bs : List ℕ). bs ++ encode_utf8_all (c ∷ [])) (encodes-chars (string_bytes text) (IsUtf8-string_bytes text))
    ∙ ap (λ (bs : List ℕ). string_bytes text ++ bs) (append-nil (encode_utf8 c)) ∙ sym grows in
    sym (chars_from_encodes all (string_bytes grown) (IsUtf8-string_bytes grown) spelled)

pub one_more : {A : Type 0} (text grown : String A) (c : ℕ) (others : Option Text) → string_bytes grown ≡ string_bytes text ++ encode_utf8 c
    → option_map (λ more. seen_text text ++ more) (option_map (λ value. c ∷ value) others) ≡ option_map (λ more. seen_text grown ++ more) others
one_more text grown c None grows = refl
one_more text grown c (Some more) grows =
    ap (λ (all : List ℕ). Some all)
    (sym (append_assoc (seen_text text) (c ∷ []) more) ∙ ap (λ (prefix : List ℕ). prefix ++ more) (sym (seen_pushed text grown c grows)))

-- an empty string has no characters
pub nothing_before : {A : Type 0} (text : String A) (read : Option Text) → string_bytes text ≡ [] → read ≡ option_map (λ more. seen_text text ++ more) read
nothing_before text read h1 = grind (arith, chars, chars-nil)

-- characters other than a quotation mark and a backslash mean themselves
pub reads_prefix : (prefix behind : Text) → IsFree quotation_mark prefix → IsFree backslash prefix → ReadsPrefix (prefix ++ behind) prefix behind
reads_prefix [] behind no_exclamation no_backslash = go (text_from at_character behind)
  where
    go : (read : Option Text) → read ≡ option_map (λ more. [] ++ more) read
    go None = refl
    go (Some more) = refl
reads_prefix (c ∷ prefix) behind no_exclamation no_backslash =
    first_turn at_character c (prefix ++ behind)
    ∙ ap (λ t. read_turn t (prefix ++ behind)) stands
    ∙ ap (option_map (λ value. c ∷ value)) (reads_prefix prefix behind quotation.1 slash.1)
    ∙ go (text_from at_character behind)
  where
    quotation : ((c == quotation_mark) ≡ false) × IsFree quotation_mark prefix
    quotation = free_parts (c == quotation_mark) _ no_exclamation

    slash : ((c == backslash) ≡ false) × IsFree backslash prefix
    slash = free_parts (c == backslash) _ no_backslash

    stands : text_step at_character c ≡ stands_for c
    stands =
        ap (λ (b : Bool). if b then ends else (if c == backslash then goes_on at_escape else stands_for c)) quotation.0
        ∙ ap (λ (b : Bool). if b then goes_on at_escape else stands_for c) slash.0

    go : (read : Option Text) → option_map (λ value. c ∷ value) (option_map (λ more. prefix ++ more) read) ≡ option_map (λ more. (c ∷ prefix) ++ more) read
    go None = refl
    go (Some more) = refl

-- so do the characters before the first of them
reads_skipped : (text behind prefix : List ℕ) → IsUtf8 text → SkipsTo quotation_mark backslash text behind → prefix ≡ prefix_of text behind
    → ReadsPrefix (chars text) (chars prefix) (chars behind)
reads_skipped text behind prefix is skipped begins =
    ap (text_from at_character) (passed_to text behind skipped.ends is skipped.is_end).all
    ∙ reads_prefix (chars (prefix_of text behind)) (chars behind) skipped.free.0 skipped.free.1
    ∙ ap (λ (bytes : List ℕ). option_map (λ more. chars bytes ++ more) (text_from at_character (chars behind))) (sym begins)

-- bytes that have grown by those of a prefix
prefix_taken : (text grown prefix : List ℕ) (whole behind : Text) → IsUtf8 text → grown ≡ text ++ prefix → ReadsPrefix whole (chars prefix) behind
    → option_map (λ more. chars text ++ more) (text_from at_character whole) ≡ option_map (λ more. chars grown ++ more) (text_from at_character behind)
prefix_taken text grown prefix whole behind is grows reads = grind (arith, option_map, chars, text_from, at_character, chars-append, append_assoc)

-- a string that has grown by the characters before the first of them
pub skipped_taken : {A : Type 0} (text grown : String A) (rest behind prefix : List ℕ) → IsUtf8 rest → SkipsTo quotation_mark backslash rest behind
    → prefix ≡ prefix_of rest behind → string_bytes grown ≡ string_bytes text ++ prefix
    → option_map (λ more. seen_text text ++ more) (text_from at_character (chars rest))
    ≡ option_map (λ more. seen_text grown ++ more) (text_from at_character (chars behind))
skipped_taken text grown rest behind prefix is skipped begins grows =
    prefix_taken (string_bytes text) (string_bytes grown) prefix (chars rest) (chars behind) (IsUtf8-string_bytes text) grows
    (reads_skipped rest behind prefix is skipped begins)
