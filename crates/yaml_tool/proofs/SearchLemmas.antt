-- The prefix before the byte that a search found.
use Rattle.yaml_tool.proofs.Common.{suc, ℕ, ◌+◌, ◌-◌, ◌<◌, ◌≤◌, ◌==◌, drop, length, take, Bool, false, true, ◌||◌, List, [], ◌++◌, ◌∷◌, refl, ◌≡◌, append-nil}
use Rattle.yaml_tool.proofs.Common.{take-append-drop, ap, subst, sym, ◌∙◌, add-one, arith, nat_tests, list_any-append, IsUtf8-take, encodes-chars, encode_utf8}
use Rattle.yaml_tool.proofs.Common.{list_any, IsUtf8, chars, encode_utf8_all, Nowhere, NoneBefore, Passes, is_byte2, line_feed, IsFree, IsCut, SkipsTo}
use Rattle.yaml_base.proofs.Common.{zero, slice_index, eqb-true, false≢true}
use Rattle.std.proofs.{Common.le_refl, Common.take_all, Math.Seq.drop-cons, lemmas.List.take_rest, lemmas.List.Folds.list_any_more}
use Rattle.std.proofs.lemmas.Str.{IsUtf8-drop, encode_ascii, IsCharBoundary-before_ascii, IsUtf8-nil}
use Rattle.memchr.specs.Find.{is_byte}
use Rattle.yaml_tool.proofs.{CharacterLemmas.take_seam, CharacterLemmas.ends_at_seam, CutLemmas.free_parts}

not_true : (b : Bool) → ¬ (b ≡ true) → b ≡ false
not_true b h1 = grind arith

-- no byte before it passes
pub none_before : (test : ℕ → Bool) (hay : List ℕ) (k : ℕ) → k ≤ length hay → Nowhere (Passes test hay) 0 k → list_any test (take k hay) ≡ false
none_before test hay zero within none = refl
none_before test hay (suc k) within none =
    let before = none_before test hay k (omega arith) (λ i low high. none i low (omega arith)) in
    let last = not_true (test (slice_index hay k)) (none k (omega arith) (omega arith)) in
    rw (← add-one k) (list_any_more test hay k 0 (omega arith) ∙ ap (λ (b : Bool). b || test (slice_index hay k)) before ∙ last)

-- the first LF ends a line
pub line_ends : (bytes : List ℕ) (end : ℕ) → NoneBefore (Passes (is_byte line_feed) bytes) 0 (length bytes) end × Passes (is_byte line_feed) bytes end
    → IsCut line_feed bytes (take end bytes) (take (length bytes - (end + 1)) (drop (end + 1) bytes))
line_ends bytes end found =
    let begins = drop-cons bytes end 0 found.0.high ∙ ap (λ (byte : ℕ). byte ∷ drop (suc end) bytes) (eqb-true (slice_index bytes end) line_feed found.1) in
    let behind : drop (suc end) bytes ≡ take (length bytes - (end + 1)) (drop (end + 1) bytes) = ap (λ (n : ℕ). drop n bytes) (sym (add-one end))
    ∙ sym (take_rest bytes (end + 1)) in (
      sym (take-append-drop end bytes) ∙ ap (λ (back : List ℕ). take end bytes ++ back) (begins ∙ ap (λ (back : List ℕ). line_feed ∷ back) behind),
      none_before (is_byte line_feed) bytes end (omega (arith, found.0.high)) found.0.before,
    )

-- without an LF there is one line
pub one_line : (bytes : List ℕ) → Nowhere (Passes (is_byte line_feed) bytes) 0 (length bytes) → IsFree line_feed bytes
one_line bytes none = ap (list_any (is_byte line_feed)) (sym (take_all (length bytes) bytes (le_refl (length bytes))))
    ∙ none_before (is_byte line_feed) bytes (length bytes) (le_refl (length bytes)) none

-- an ASCII sign is among characters only if its byte is
free_characters : (test : ℕ → Bool) (delimiter : ℕ) (text : List ℕ) → delimiter < 128 → test delimiter ≡ true → list_any test (encode_utf8_all text) ≡ false
    → IsFree delimiter text
free_characters test delimiter [] ascii passes none = refl
free_characters test delimiter (c ∷ text) ascii passes none =
    let both = free_parts (list_any test (encode_utf8 c)) (list_any test (encode_utf8_all text))
    (sym (list_any-append test (encode_utf8 c) (encode_utf8_all text)) ∙ none) in
    let first : (c == delimiter) ≡ false = not_true (c == delimiter) (λ yes. byte_passes (eqb-true c delimiter yes) both.0) in
    ap (λ (b : Bool). b || list_any (λ d. d == delimiter) text) first ∙ free_characters test delimiter text ascii passes both.1
  where
    byte_passes : c ≡ delimiter → list_any test (encode_utf8 c) ≡ false → ⊥
    byte_passes is free =
        false≢true (sym free ∙ ap (λ (d : ℕ). list_any test (encode_utf8 d)) is ∙ ap (list_any test) (encode_ascii delimiter ascii)
        ∙ ap (λ (b : Bool). b || false) passes)

passes_first : (first second : ℕ) → is_byte2 first second first ≡ true
passes_first first second = grind (arith, nat_tests)

passes_second : (first second : ℕ) → is_byte2 first second second ≡ true
passes_second first second = grind (arith, nat_tests)

skips : (first second : ℕ) (text prefix end : List ℕ) → first < 128 → second < 128 → text ≡ prefix ++ end → IsUtf8 prefix → IsUtf8 end
    → list_any (is_byte2 first second) prefix ≡ false → SkipsTo first second text end
skips first second text prefix end first_ascii second_ascii all is_prefix is_end none =
    let test = is_byte2 first second in
    let spelled = ap (list_any test) (encodes-chars prefix is_prefix) ∙ none in
    let before = take_seam text prefix end all in record {
      ends = ends_at_seam text prefix end all;
      is_end = is_end;
      free = (
        ap (λ (bytes : List ℕ). list_any (λ c. c == first) (chars bytes)) before
            ∙ free_characters test first (chars prefix) first_ascii (passes_first first second) spelled,
        ap (λ (bytes : List ℕ). list_any (λ c. c == second) (chars bytes)) before
            ∙ free_characters test second (chars prefix) second_ascii (passes_second first second) spelled,
      );
    }

delimiter_is_ascii : (first second byte : ℕ) → first < 128 → second < 128 → is_byte2 first second byte ≡ true → byte < 128
delimiter_is_ascii first second byte first_ascii second_ascii passes = grind (arith, nat_tests, passes, first_ascii, second_ascii)

-- a text ends with its part from one of two signs on
pub delimiter_found : (first second : ℕ) (text end : List ℕ) (place : ℕ) → IsUtf8 text → first < 128 → second < 128
    → NoneBefore (Passes (is_byte2 first second) text) 0 (length text) place × Passes (is_byte2 first second) text place
    → end ≡ drop place text → SkipsTo first second text end
delimiter_found first second text end place is first_ascii second_ascii found begins =
    let low = delimiter_is_ascii first second (slice_index text place) first_ascii second_ascii found.1 in
    let seam = IsCharBoundary-before_ascii text place found.0.high low in
    skips first second text (take place text) end first_ascii second_ascii
    (sym (take-append-drop place text) ∙ ap (λ (back : List ℕ). take place text ++ back) (sym begins))
    (IsUtf8-take text place is seam)
    (subst IsUtf8 (sym begins) (IsUtf8-drop text place is seam))
    (none_before (is_byte2 first second) text place (omega (arith, found.0.high)) found.0.before)

-- or it has neither
pub no_indicator : (first second : ℕ) (text : List ℕ) → IsUtf8 text → first < 128 → second < 128 → Nowhere (Passes (is_byte2 first second) text) 0 (length text)
    → SkipsTo first second text []
no_indicator first second text is first_ascii second_ascii none =
    let all = length text in
    skips first second text text [] first_ascii second_ascii (sym (append-nil text)) is IsUtf8-nil
    (ap (list_any (is_byte2 first second)) (sym (take_all all text (le_refl all))) ∙ none_before (is_byte2 first second) text all (le_refl all) none)
