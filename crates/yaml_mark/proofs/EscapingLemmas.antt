-- Escaping by bytes is escaping by characters.
use Rattle.yaml_mark.proofs.Common.{suc, ℕ, ◌%◌, ◌+◌, ◌<◌, ◌==◌, flat_map, MatchOption, IsUtf8, Option, Err, Ok, drop, length, take, Bool, cond, []}
use Rattle.yaml_mark.proofs.Common.{slice_index_or as get_or, encode_utf8_all as encodes, false, not, true, List, ◌++◌, ◌∷◌, ◌≢◌, refl, ◌≡◌, ne_eqb, lit<}
use Rattle.yaml_mark.proofs.Common.{take-append-drop, ap, subst, sym, ◌∙◌, arith, cases_lt, and_parts, and_from, prefix_len-le-length, encode_ascii}
use Rattle.yaml_mark.proofs.Common.{IsUtf8-past_char, encodes-chars, chars_past_char, list_all, list_any, position_or_len, chars}
use Rattle.yaml_mark.proofs.Common.{IsCharBoundary, Text, is_break, hex_digit, render_text, is_tag_character, byte_escaped, percent_escaped, suffix_escaped}
use Rattle.yaml_mark.proofs.Common.{prefix_escaped, exclamation_mark, IsPrefixRun, wrote_text_then, wrote_cut, Wrote}
use Rattle.yaml_base.proofs.Common.{◌/◌, ◌≤◌, if◌then◌else◌, codes, nat_le, ◌&&◌, leb-true, true≢false, append-nil, not-true, nat_tests}
use Rattle.yaml_base.proofs.Common.{flat_map-append, chars-IsAscii, is_among, space, Cursor, Rendered, render_then, column_after, space_if, indicator}
use Rattle.yaml_base.proofs.Common.{character_written, is_suffix_character}
use Rattle.std.{proofs.Common.Bor, proofs.Common.Result, proofs.lemmas.List.take_more, proofs.lemmas.List.Sums.passes_at_first}
use Rattle.std.{proofs.lemmas.Str.Ascii.IsAscii-nil, proofs.lemmas.Str.Ascii.IsAscii-cons, specs.List.prefix_len, specs.Str.IsAscii}
use Rattle.std.proofs.lemmas.Str.{IsUtf8-drop, IsUtf8-from_ascii, IsCharBoundary-from_take}
use lib.Utf8.{encode}
use Rattle.yaml_base.specs.{Cursor.render_name, declared.errors.yaml_error_t.yaml_error_t}
use Rattle.yaml_pen.{proofs.Composing.wrote_then, proofs.Composing.wrote_as, specs.Page.Page}

tag_character_is_ascii : (c : ℕ) → is_tag_character c ≡ true → c < 128
tag_character_is_ascii c h = grind (arith, nat_tests)

others_are_none : (c : ℕ) → 128 ≤ c → is_tag_character c ≡ false
others_are_none c h = grind (arith, nat_tests)

no_suffix_character : (portable : Bool) (c : ℕ) → is_tag_character c ≡ false → is_suffix_character portable c ≡ false
no_suffix_character portable c h = by (portable && is_among (codes ",[]") c)
  where
    by : (barred : Bool) → (not barred && is_tag_character c) ≡ false
    by barred = grind (arith, nat_tests)

suffix_character_is_ascii : (portable : Bool) (c : ℕ) → is_suffix_character portable c ≡ true → c < 128
suffix_character_is_ascii portable c h = grind (arith, nat_tests, tag_character_is_ascii, and_parts, not, is_among, codes, is_tag_character)

many_bytes : (c : ℕ) → 128 ≤ c → list_all (λ b. nat_le 128 b) (encode c) ≡ true
unfolding encode
many_bytes c h = grind (arith, nat_tests)

-- a byte of a text's UTF-8 as itself, or as its percent form
abbrev byte_written : (portable : Bool) → ℕ → Text
byte_written portable byte = if is_suffix_character portable byte then byte ∷ [] else byte_escaped byte

module _ (portable : Bool) where
  abbrev none_stands : List ℕ → Bool
  none_stands bytes = list_all (λ b. not (is_suffix_character portable b)) bytes

  high_bytes : (bytes : List ℕ) → list_all (λ b. nat_le 128 b) bytes ≡ true → none_stands bytes ≡ true
  high_bytes [] h = refl
  high_bytes (b ∷ bytes) h = grind (arith, nat_tests, and_parts, nat_le, list_all, no_suffix_character, others_are_none, leb-true, high_bytes bytes)

  escaped_bytes : (bytes : List ℕ) → none_stands bytes ≡ true → flat_map (byte_written portable) bytes ≡ flat_map byte_escaped bytes
  escaped_bytes [] h = refl
  escaped_bytes (b ∷ bytes) h = grind (arith, nat_tests, and_parts, not, is_suffix_character, none_stands, not-true, byte_escaped, escaped_bytes bytes)

  none_of : (c : ℕ) → is_suffix_character portable c ≡ false → none_stands (encode c) ≡ true
  none_of c h = grind (arith, nat_tests, none_stands, encode_ascii, high_bytes, encode, many_bytes, cases_lt)

  character_by_bytes : (kept : Bool) (c : ℕ) → is_suffix_character portable c ≡ kept → flat_map (byte_written portable) (encode c) ≡ character_written kept c
  character_by_bytes true c k = ap (flat_map (byte_written portable)) (encode_ascii c (suffix_character_is_ascii portable c k)) ∙ rw k refl
  character_by_bytes false c k = escaped_bytes (encode c) (none_of c k)

  text_by_bytes : (text : Text) → flat_map (byte_written portable) (encodes text) ≡ suffix_escaped portable text
  text_by_bytes [] = refl
  text_by_bytes (c ∷ text) = grind (arith, nat_tests, flat_map-append, character_by_bytes, text_by_bytes text)

  pub escaped_by_bytes : (bytes : List ℕ) → IsUtf8 bytes → flat_map (byte_written portable) bytes ≡ suffix_escaped portable (chars bytes)
  escaped_by_bytes bytes u = ap (flat_map (byte_written portable)) (sym (encodes-chars bytes u)) ∙ text_by_bytes (chars bytes)

-- one more byte, and the rest after it
pub written_more : (f : ℕ → Text) (bytes : List ℕ) (n : ℕ) → n < length bytes
    → flat_map f (take (n + 1) bytes) ≡ flat_map f (take n bytes) ++ f (get_or bytes n 0)
written_more f bytes n h =
    ap (flat_map f) (take_more bytes n 0 h)
    ∙ flat_map-append f (take n bytes) (get_or bytes n 0 ∷ [])
    ∙ ap (λ x. flat_map f (take n bytes) ++ x) (append-nil (f (get_or bytes n 0)))

pub written_rest : (f : ℕ → Text) (bytes : List ℕ) (n : ℕ) → n < length bytes
    → flat_map f bytes ≡ (flat_map f (take n bytes) ++ f (get_or bytes n 0)) ++ flat_map f (drop (n + 1) bytes)
written_rest f bytes n h =
    ap (flat_map f) (sym (take-append-drop (n + 1) bytes))
    ∙ flat_map-append f (take (n + 1) bytes) (drop (n + 1) bytes)
    ∙ ap (λ x. x ++ flat_map f (drop (n + 1) bytes)) (written_more f bytes n h)

abbrev with_column : ℕ → Text → Text → Bool → Rendered
with_column column head text indention =
    record { text = head ++ text; cursor = record { column = column_after text (column_after head column); whitespace = false; indention = indention } }

content_by : (separated indention : Bool) (column : ℕ) (text : Text)
    → with_column column (cond separated (space ∷ []) [] ++ []) text (indention && false)
    ≡ record {
      text = cond separated (space ∷ []) []
          ++ text;
      cursor = record { column = column_after (cond separated (space ∷ []) [] ++ text) column; whitespace = false; indention = false };
    }
content_by separated indention column text = grind (arith, nat_tests)

-- an indicator without an indicator, and then a name's text
pub render_content : (need : Bool) (text : Text) (cursor : Cursor)
    → render_then (indicator [] need false false cursor) (render_text text) ≡ render_name (space_if need cursor ++ text) cursor
render_content need text cursor = content_by (need && not cursor.whitespace) cursor.indention cursor.column text

-- the three characters of a percent form
pub form_is : (byte high low : ℕ) → byte < 256 → high ≡ hex_digit (byte / 16) → low ≡ hex_digit (byte % 16) → (0x25 ∷ high ∷ []) ++ low ∷ [] ≡ byte_escaped byte
form_is byte high low h e f = grind (arith, nat_tests, hex_digit)

-- A text after a space if one is needed.

abbrev pub content : Bool → Text → Cursor → Rendered
content need text cursor = render_name (space_if need cursor ++ text) cursor

pub content_cut : {before after : Page} {error : yaml_error_t} (need : Bool) (text : Text)
    → Wrote (indicator [] need false false) before after (Err error) → Wrote (content need text) before after (Err error)
content_cut {before} need text wrote =
    wrote_cut (content need text) text (sym (ap (λ t. t ++ text) (append-nil (space_if need before.cursor)))) wrote

pub content_whole : {before between after : Page} {answer : Result (Unit {0}) yaml_error_t} (need : Bool) (text : Text)
    → Wrote (indicator [] need false false) before between (Ok tt) → Wrote (render_text text) between after answer
    → Wrote (content need text) before after answer
content_whole {before} need text one two = wrote_as (content need text) (render_content need text before.cursor) (wrote_then one two)

-- Bytes, one after another.

module _ (f : ℕ → Text) where
  -- one more is written, or fails
  pub bytes_more : {before between after : Page} (bytes : List ℕ) (n : ℕ) → n < length bytes
      → Wrote (render_text (flat_map f (take n bytes))) before between (Ok tt)
      → Wrote (render_text (f (get_or bytes n 0))) between after (Ok tt)
      → Wrote (render_text (flat_map f (take (n + 1) bytes))) before after (Ok tt)
  bytes_more {before} {between} {after} bytes n h one two =
      subst (λ (t : Text). Wrote (render_text t) before after (Ok tt)) (sym (written_more f bytes n h)) (wrote_text_then one two)

  pub bytes_failed : {before between after : Page} {error : yaml_error_t} (bytes : List ℕ) (n : ℕ) → n < length bytes
      → Wrote (render_text (flat_map f (take n bytes))) before between (Ok tt)
      → Wrote (render_text (f (get_or bytes n 0))) between after (Err error)
      → Wrote (render_text (flat_map f bytes)) before after (Err error)
  bytes_failed bytes n h one two =
      wrote_cut (render_text (flat_map f bytes)) (flat_map f (drop (n + 1) bytes)) (written_rest f bytes n h) (wrote_text_then one two)

  -- bytes that are the same
  pub same_bytes : {given bytes : List ℕ} {before after : Page} {answer : Result (Unit {0}) yaml_error_t} → given ≡ bytes
      → Wrote (render_text (flat_map f given)) before after answer → Wrote (render_text (flat_map f bytes)) before after answer
  same_bytes {given} {bytes} {before} {after} {answer} is wrote = subst (λ (l : List ℕ). Wrote (render_text (flat_map f l)) before after answer) is wrote

-- Runs of bytes that stay as they are, and of those that don't.

-- the first bytes that pass
passing : (p : ℕ → Bool) (xs : List ℕ) → list_all p (take (prefix_len p xs) xs) ≡ true
passing p [] = refl
passing p (x ∷ xs) = by (p x) refl (passing p xs)
  where
    by : (b : Bool) → p x ≡ b → list_all p (take (prefix_len p xs) xs) ≡ true → list_all p (take (cond b (1 + prefix_len p xs) 0) (x ∷ xs)) ≡ true
    by b e rest = grind (arith, nat_tests, prefix_len, list_all, take, and_from)

tag_character_is_no_break : (c : ℕ) → is_tag_character c ≡ true → is_break c ≡ false
tag_character_is_no_break c h = grind (arith, nat_tests)

module _ (portable : Bool) where
  -- the end of a run
  abbrev run_end : List ℕ → ℕ
  run_end bytes = prefix_len (is_suffix_character portable) bytes

  -- the beginning of the next
  abbrev next_run : List ℕ → ℕ
  next_run bytes = position_or_len (is_suffix_character portable) bytes

  stands_alone : (bytes : List ℕ) → list_all (is_suffix_character portable) bytes ≡ true → flat_map (byte_written portable) bytes ≡ bytes
  stands_alone [] h = refl
  stands_alone (b ∷ bytes) h = grind (arith, nat_tests, and_parts, is_suffix_character, list_all, stands_alone bytes)

  stands_ascii : (bytes : List ℕ) → list_all (is_suffix_character portable) bytes ≡ true → IsAscii bytes
  stands_ascii [] h = IsAscii-nil
  stands_ascii (b ∷ bytes) h =
      let both = and_parts _ _ h in
      IsAscii-cons b bytes (suffix_character_is_ascii portable b both.0) (stands_ascii bytes both.1)

  stands_unbroken : (bytes : List ℕ) → list_all (is_suffix_character portable) bytes ≡ true → list_any is_break bytes ≡ false
  stands_unbroken [] h = refl
  stands_unbroken (b ∷ bytes) h = grind (arith, nat_tests, and_parts, list_any, is_break, tag_character_is_no_break, stands_unbroken bytes)

  -- a run is ASCII without a break
  pub run_ascii : (bytes : List ℕ) → IsAscii (take (run_end bytes) bytes)
  run_ascii bytes = stands_ascii _ (passing (is_suffix_character portable) bytes)

  pub run_unbroken : (bytes : List ℕ) → list_any is_break (take (run_end bytes) bytes) ≡ false
  run_unbroken bytes = stands_unbroken _ (passing (is_suffix_character portable) bytes)

  -- it ends, and the next begins, between characters
  pub run_boundary : (bytes : List ℕ) → IsUtf8 bytes → IsCharBoundary bytes (run_end bytes)
  run_boundary bytes u =
      IsCharBoundary-from_take bytes (run_end bytes) u (prefix_len-le-length (is_suffix_character portable) bytes)
      (IsUtf8-from_ascii _ (run_ascii bytes))

  pub next_boundary : (bytes : List ℕ) → IsCharBoundary bytes (next_run bytes)
  next_boundary bytes =
      grind (arith, nat_tests, cases_lt, next_run, length, suffix_character_is_ascii, passes_at_first, is_suffix_character, prefix_len-le-length, not)

  -- a text is the part of its bytes up to a place, and the text of the rest
  cut_at : (bytes : List ℕ) (n : ℕ) → IsUtf8 bytes → IsCharBoundary bytes n
      → suffix_escaped portable (chars bytes) ≡ flat_map (byte_written portable) (take n bytes) ++ suffix_escaped portable (chars (drop n bytes))
  cut_at bytes n u boundary =
      sym (escaped_by_bytes portable bytes u)
      ∙ ap (flat_map (byte_written portable)) (sym (take-append-drop n bytes))
      ∙ flat_map-append (byte_written portable) (take n bytes) (drop n bytes)
      ∙ ap (λ x. flat_map (byte_written portable) (take n bytes) ++ x) (escaped_by_bytes portable (drop n bytes) (IsUtf8-drop bytes n u boundary))

  pub run_first : (bytes : List ℕ) → IsUtf8 bytes
      → suffix_escaped portable (chars bytes) ≡ take (run_end bytes) bytes ++ suffix_escaped portable (chars (drop (run_end bytes) bytes))
  run_first bytes u =
      cut_at bytes (run_end bytes) u (run_boundary bytes u)
      ∙ ap (λ x. x ++ suffix_escaped portable (chars (drop (run_end bytes) bytes)))
      (stands_alone _ (passing (is_suffix_character portable) bytes))

  pub forms_first : (bytes : List ℕ) → IsUtf8 bytes
      → suffix_escaped portable (chars bytes)
      ≡ flat_map byte_escaped (take (next_run bytes) bytes) ++ suffix_escaped portable (chars (drop (next_run bytes) bytes))
  forms_first bytes u =
      cut_at bytes (next_run bytes) u (next_boundary bytes)
      ∙ ap (λ x. x ++ suffix_escaped portable (chars (drop (next_run bytes) bytes)))
      (escaped_bytes portable _ (passing (λ b. not (is_suffix_character portable b)) bytes))

  -- a text is cut after its first run
  pub record IsRunCut (bytes run others : List ℕ) : Type 0 where
    pub parts : suffix_escaped portable (chars bytes) ≡ chars run ++ suffix_escaped portable (chars others)
    pub unbroken : list_any is_break (chars run) ≡ false
    pub is_text : IsUtf8 others

  pub run_cut : (bytes run others : List ℕ) (n : ℕ) → IsUtf8 bytes → n ≡ run_end bytes → run ≡ take n bytes → others ≡ drop n bytes
      → IsRunCut bytes run others
  run_cut bytes run others n u e head back =
      let end = run_end bytes in
      let is : chars run ≡ take end bytes = ap chars (head ∙ ap (λ k. take k bytes) e) ∙ chars-IsAscii (take end bytes) (run_ascii bytes) in
      let behind : others ≡ drop end bytes = back ∙ ap (λ k. drop k bytes) e in
      record {
        parts = run_first bytes u ∙ ap (λ x. x ++ suffix_escaped portable (chars (drop end bytes))) (sym is)
            ∙ ap (λ x. chars run ++ suffix_escaped portable (chars x)) (sym behind);
        unbroken = ap (list_any is_break) is ∙ run_unbroken bytes;
        is_text = subst (λ (l : List ℕ). IsUtf8 l) (sym behind) (IsUtf8-drop bytes end u (run_boundary bytes u));
      }

  -- and then before the next
  pub record IsFormsCut (bytes escaped behind : List ℕ) : Type 0 where
    pub parts : suffix_escaped portable (chars bytes) ≡ flat_map byte_escaped escaped ++ suffix_escaped portable (chars behind)
    pub is_text : IsUtf8 behind

  pub forms_cut : (bytes escaped behind : List ℕ) (n : ℕ) → IsUtf8 bytes → n ≡ next_run bytes → escaped ≡ take n bytes → behind ≡ drop n bytes
      → IsFormsCut bytes escaped behind
  forms_cut bytes escaped behind n u e head back =
      let end = next_run bytes in
      let is : escaped ≡ take end bytes = head ∙ ap (λ k. take k bytes) e in
      let rest : behind ≡ drop end bytes = back ∙ ap (λ k. drop k bytes) e in
      record {
        parts = forms_first bytes u ∙ ap (λ x. flat_map byte_escaped x ++ suffix_escaped portable (chars (drop end bytes))) (sym is)
            ∙ ap (λ x. flat_map byte_escaped escaped ++ suffix_escaped portable (chars x)) (sym rest);
        is_text = subst (λ (l : List ℕ). IsUtf8 l) (sym rest) (IsUtf8-drop bytes end u (next_boundary bytes));
      }

  -- both are nonempty, if something is left
  moves_by : (bytes : List ℕ) → (length bytes == 0) ≡ false → 0 < run_end bytes + next_run (drop (run_end bytes) bytes)
  moves_by [] some = absurd (true≢false some)
  moves_by (b ∷ bytes) some = by (is_suffix_character portable b) refl
    where
      by : (kept : Bool) → is_suffix_character portable b ≡ kept
          → 0 < cond kept (1 + run_end bytes) 0 + next_run (drop (cond kept (1 + run_end bytes) 0) (b ∷ bytes))
      by kept e = grind (arith, nat_tests)

  pub moves_on : (bytes others : List ℕ) (n m : ℕ) → (length bytes == 0) ≡ false → n ≡ run_end bytes → others ≡ drop n bytes → m ≡ next_run others
      → 0 < n + m
  moves_on bytes others n m some e back f = grind (arith, nat_tests, drop, run_end, moves_by, next_run)

-- A prefix by its bytes.

-- a prefix is written as a tag is, in portable mode too unless a `!` begins it
pub prefix_markerless : (bytes : List ℕ) → IsUtf8 bytes → ((rest : List ℕ) → bytes ≢ exclamation_mark ∷ rest)
    → prefix_escaped true (chars bytes) ≡ percent_escaped (chars bytes)
prefix_markerless bytes u h = by (chars bytes) (encodes-chars bytes u)
  where
    other : (c : ℕ) (text : Text) → encodes (c ∷ text) ≡ bytes → (c == exclamation_mark) ≡ false
    other c text e = grind (arith, nat_tests, ne_eqb, exclamation_mark, encodes, encode, encode_ascii, lit<)

    by : (text : Text) → encodes text ≡ bytes → prefix_escaped true text ≡ percent_escaped text
    by text e = grind (arith, nat_tests, other)

-- and if one does, the `!` stays raw
pub prefix_marked : (bytes rest : List ℕ) → IsUtf8 bytes → bytes ≡ exclamation_mark ∷ rest
    → prefix_escaped true (chars bytes) ≡ exclamation_mark ∷ percent_escaped (chars rest)
prefix_marked bytes rest u e =
    ap (prefix_escaped true) (chars_past_char bytes rest exclamation_mark u (e ∙ ap (λ x. x ++ rest) (sym (encode_ascii exclamation_mark (lit< tt)))))

-- its form depends on the text after a `!` that begins it
pub prefix_answer : (bytes : List ℕ) (portable : Bool) (answer : Option (Bor (List ℕ))) → portable ≡ true → IsUtf8 bytes
    → MatchOption answer ((rest : List ℕ) → bytes ≢ exclamation_mark ∷ rest) (λ rest. bytes ≡ exclamation_mark ∷ rest.now)
    → MatchOption answer (prefix_escaped portable (chars bytes) ≡ percent_escaped (chars bytes))
    (λ rest. (bytes ≡ exclamation_mark ∷ rest.now) × (prefix_escaped portable (chars bytes) ≡ exclamation_mark ∷ percent_escaped (chars rest.now)))
prefix_answer bytes portable answer e u h = grind (arith, nat_tests, prefix_escaped, chars, prefix_markerless, prefix_marked)

-- without a raw `!` a prefix begins with the run of a tag
pub prefix_run : (portable : Bool) (bytes : List ℕ) → IsUtf8 bytes → prefix_escaped portable (chars bytes) ≡ percent_escaped (chars bytes)
    → IsPrefixRun portable bytes (prefix_len is_tag_character bytes)
prefix_run portable bytes u e =
    record {
      boundary = run_boundary false bytes u;
      run = run_ascii false bytes;
      unbroken = run_unbroken false bytes;
      written = e ∙ run_first false bytes u;
    }

-- with one that run follows the `!`
pub marked_run : (portable : Bool) (bytes rest : List ℕ) → IsUtf8 bytes → bytes ≡ exclamation_mark ∷ rest
    → prefix_escaped portable (chars bytes) ≡ exclamation_mark ∷ percent_escaped (chars rest)
    → IsPrefixRun portable bytes (1 + prefix_len is_tag_character rest)
marked_run portable bytes rest u e is =
    let n = prefix_len is_tag_character rest in
    let more : 1 + n ≡ suc n = omega arith in
    let run : take (1 + n) bytes ≡ exclamation_mark ∷ take n rest = ap (take (1 + n)) e ∙ ap (λ k. take k (exclamation_mark ∷ rest)) more in
    let behind : drop (1 + n) bytes ≡ drop n rest = ap (drop (1 + n)) e ∙ ap (λ k. drop k (exclamation_mark ∷ rest)) more in
    let ascii : IsAscii (take (1 + n) bytes) =
    subst (λ (l : List ℕ). IsAscii l) (sym run) (IsAscii-cons exclamation_mark (take n rest) (lit< tt) (run_ascii false rest)) in
    let within : 1 + n ≤ length bytes = omega (arith, ap (λ (l : List ℕ). length l) e, prefix_len-le-length is_tag_character rest) in
    let is_rest = IsUtf8-past_char bytes rest exclamation_mark u (e ∙ ap (λ x. x ++ rest) (sym (encode_ascii exclamation_mark (lit< tt)))) in
    record {
      boundary = IsCharBoundary-from_take bytes (1 + n) u within (IsUtf8-from_ascii _ ascii);
      run = ascii;
      unbroken = ap (list_any is_break) run ∙ run_unbroken false rest;
      written = is ∙ ap (λ x. exclamation_mark ∷ x) (run_first false rest is_rest)
          ∙ ap (λ x. x ++ percent_escaped (chars (drop n rest))) (sym run)
          ∙ ap (λ x. take (1 + n) bytes ++ percent_escaped (chars x)) (sym behind);
    }

-- a prefix is its run and the rest
pub prefix_parts : {portable : Bool} {prefix run rest : List ℕ} {n : ℕ} → IsPrefixRun portable prefix n → run ≡ take n prefix → rest ≡ drop n prefix
    → chars run ++ percent_escaped (chars rest) ≡ prefix_escaped portable (chars prefix)
prefix_parts {portable} {prefix} {run} {rest} {n} is head back = grind (arith, nat_tests, percent_escaped, chars, chars-IsAscii, take)

pub prefix_unbroken : {portable : Bool} {prefix run : List ℕ} {n : ℕ} → IsPrefixRun portable prefix n → run ≡ take n prefix
    → list_any is_break (chars run) ≡ false
prefix_unbroken {portable} {prefix} {run} {n} is head = grind (arith, nat_tests, list_any, is_break, chars, chars-IsAscii, take)
