-- Repeats of a character are written as the steps of their characters are.
use Rattle.yaml_scalar.proofs.Common.{suc, zero, ℕ, ◌+◌, ◌-◌, ◌<◌, ◌≤◌, if◌then◌else◌, IsUtf8, Option, length, replicate, take, Bool, true, List, [], ◌++◌, ◌∷◌, refl}
use Rattle.yaml_scalar.proofs.Common.{Err, Ok, Page, Wrote, ◌≡◌, ap, subst, sym, ◌∙◌, arith, IsCharBoundary, IsUtf8-drop, chars-cut, line_feed, Text, Cursor, Rendered}
use Rattle.yaml_scalar.proofs.Common.{render_then, render_text, Break, Other, quotes_doubled, indentation, begins_kind, written_as, render_steps, nat_tests}
use Rattle.yaml_base.proofs.Common.{chars-IsAscii}
use Rattle.std.{proofs.Common.drop, proofs.Common.length-drop, specs.Str.chars}
use Rattle.std.proofs.lemmas.List.{drop-replicate, drop-take, length-replicate, replicate-append-replicate, take-replicate, take-take}
use Rattle.std.proofs.lemmas.Str.{IsCharBoundary-from_take, IsCharBoundary-start, IsUtf8-from_ascii}
use Rattle.yaml_base.specs.declared.errors.yaml_error_t.{yaml_error_t}
use Rattle.yaml_pen.proofs.Spaces.{copies_ascii}
use Rattle.yaml_pen.proofs.StillToWrite.{StillToWrite, still_rest, still_failed, still_as}
use Rattle.yaml_scalar.proofs.StaysInLine.{lines_after}
use Rattle.yaml_base.specs.Tags.{last_from}
use Rattle.yaml_scalar.proofs.Common.{and_parts, eqb-true, encode_utf8_all, encodes-chars, list_all, ◌==◌, IsRun}
use Rattle.std.proofs.lemmas.Str.{encodes-IsAscii}
use Rattle.yaml_scalar.specs.Repeats.{AreRepeats, BeginsWithCopies, repeated_text, repeats_length}
use Rattle.yaml_scalar.specs.declared.repeats.Repeats.{Repeats}
use Rattle.yaml_scalar.specs.declared.repeats.Repeats.TheVariants.{Nothing, Quotes, LineFeeds}

-- fewer copies are there, too
pub fewer_copies : (byte : ℕ) {more : ℕ} (count : ℕ) {text : List ℕ} → BeginsWithCopies byte more text → count ≤ more → BeginsWithCopies byte count text
fewer_copies byte {more} count {text} are le =
    record {
      within = omega (arith, are.within);
      copies = sym (take-take count more text le) ∙ ap (take count) are.copies ∙ take-replicate count more byte le;
    }

-- copies of an ASCII character end at a character's boundary, and their characters are themselves
pub copies_boundary : (byte count : ℕ) (text : List ℕ) → byte < 128 → IsUtf8 text → BeginsWithCopies byte count text → IsCharBoundary text count
copies_boundary byte count text low is_text are =
    IsCharBoundary-from_take text count is_text are.within
    (subst IsUtf8 (sym are.copies) (IsUtf8-from_ascii (replicate count byte) (copies_ascii count byte low)))

pub copies_cut : (byte count : ℕ) (text : List ℕ) → byte < 128 → IsUtf8 text → BeginsWithCopies byte count text
    → chars text ≡ replicate count byte ++ chars (drop count text)
copies_cut byte count text low is_text are =
    chars-cut text (replicate count byte) (drop count text) count is_text (copies_boundary byte count text low is_text are) (sym are.copies) refl
    ∙ ap (λ l. l ++ chars (drop count text)) (chars-IsAscii (replicate count byte) (copies_ascii count byte low))

-- each quote is written twice
quotes_run : (limit : Option ℕ) (indent n : ℕ) (rest : Text) (cursor : Cursor)
    → render_steps quotes_doubled limit indent Other (replicate n 39 ++ rest) cursor
    ≡ render_then (render_text (replicate (n + n) 39) cursor) (render_steps quotes_doubled limit indent Other rest)
quotes_run limit indent zero rest cursor = refl
quotes_run limit indent (suc n) rest cursor =
    let next : Cursor = record cursor { column = cursor.column + 1 + 1 } in
    let more : suc (suc (n + n)) ≡ suc n + suc n = omega arith in
    ap (λ (l : Rendered). let m : Rendered = record { text = 39 ∷ 39 ∷ l.text; cursor = l.cursor } in m) (quotes_run limit indent n rest next)
    ∙ ap (λ m. render_then (render_text (replicate m 39) cursor) (render_steps quotes_doubled limit indent Other rest)) more

-- LF within a run of breaks is written as it is
begins_break : (n : ℕ) (rest : Text) → begins_kind Break rest ≡ true → begins_kind Break (replicate n line_feed ++ rest) ≡ true
begins_break n rest h = grind (arith, nat_tests)

line_feeds_run : (written : Text → Text) (limit : Option ℕ) (indent n : ℕ) (rest : Text) (cursor : Cursor) → begins_kind Break rest ≡ true
    → render_steps written limit indent Break (replicate n line_feed ++ rest) cursor
    ≡ render_then (render_text (replicate n line_feed) cursor) (render_steps written limit indent Break rest)
line_feeds_run written limit indent zero rest cursor h = refl
line_feeds_run written limit indent (suc n) rest cursor h =
    let next : Cursor = record cursor { column = 0 } in
    ap (λ (b : Bool). render_then (render_text (line_feed ∷ (if b then [] else indentation indent)) cursor)
    (render_steps written limit indent Break (replicate n line_feed ++ rest))) (begins_break n rest h)
    ∙ ap (λ (l : Rendered). let m : Rendered = record { text = line_feed ∷ l.text; cursor = l.cursor } in m)
    (line_feeds_run written limit indent n rest next h)

-- after all copies but the last there is one more
last_copy : (byte count : ℕ) (text : List ℕ) → BeginsWithCopies byte (count + 1) text → BeginsWithCopies byte 1 (drop count text)
last_copy byte count text are =
    let one : count + 1 - count ≡ 1 = omega arith in
    record {
      within = omega (arith, are.within, length-drop count text);
      copies = sym (drop-take count 1 text) ∙ ap (drop count) are.copies ∙ drop-replicate count (count + 1) byte
          ∙ ap (λ n. replicate n byte) one;
    }

more_breaks : (count : ℕ) (text : List ℕ) → IsUtf8 text → IsCharBoundary text count → BeginsWithCopies line_feed (count + 1) text
    → begins_kind Break (chars (drop count text)) ≡ true
more_breaks count text is_text boundary are =
    ap (begins_kind Break)
    (copies_cut line_feed 1 (drop count text) (omega arith) (IsUtf8-drop text count is_text boundary) (last_copy line_feed count text are))

quotes_stand : (limit : Option ℕ) (indent n : ℕ) (text : List ℕ) (cursor : Cursor) → IsUtf8 text → BeginsWithCopies 39 n text
    → lines_after true limit indent 39 (chars text) cursor
    ≡ render_then (render_text (repeated_text (Quotes n)) cursor) (lines_after true limit indent 39 (chars (drop n text)))
quotes_stand limit indent n text cursor is_text are =
    let rest = chars (drop n text) in
    ap (λ t. render_steps quotes_doubled limit indent Other t cursor) (copies_cut 39 n text (omega arith) is_text are)
    ∙ quotes_run limit indent n rest cursor
    ∙ ap (λ t. render_then (render_text t cursor) (render_steps quotes_doubled limit indent Other rest)) (sym (replicate-append-replicate n n 39))

line_feeds_stand : (quoted : Bool) (limit : Option ℕ) (indent n : ℕ) (text : List ℕ) (cursor : Cursor) → IsUtf8 text
    → BeginsWithCopies line_feed (n + 1) text
    → lines_after quoted limit indent line_feed (chars text) cursor
    ≡ render_then (render_text (repeated_text (LineFeeds n)) cursor) (lines_after quoted limit indent line_feed (chars (drop n text)))
line_feeds_stand quoted limit indent n text cursor is_text are =
    let less = fewer_copies line_feed n are (omega arith) in
    ap (λ t. render_steps (written_as quoted) limit indent Break t cursor) (copies_cut line_feed n text (omega arith) is_text less)
    ∙ line_feeds_run (written_as quoted) limit indent n (chars (drop n text)) cursor
    (more_breaks n text is_text (copies_boundary line_feed n text (omega arith) is_text less) are)

-- repeats are written as the steps of their characters are
repeats_stand : (quoted : Bool) (limit : Option ℕ) (indent c : ℕ) (repeats : Repeats) (text : List ℕ) (cursor : Cursor) → IsUtf8 text
    → AreRepeats quoted c repeats text
    → lines_after quoted limit indent c (chars text) cursor
    ≡ render_then (render_text (repeated_text repeats) cursor) (lines_after quoted limit indent c (chars (drop (repeats_length repeats) text)))
repeats_stand quoted limit indent c repeats text cursor is_text are = grind (arith, nat_tests, quotes_stand, line_feeds_stand)

-- before repeats it is their text, and the text after them
repeats_still : (quoted : Bool) (limit : Option ℕ) (indent c : ℕ) (repeats : Repeats) {text rest : List ℕ} {whole : Cursor → Rendered} {start here : Page}
    → IsUtf8 text → AreRepeats quoted c repeats text → rest ≡ drop (repeats_length repeats) text
    → StillToWrite (lines_after quoted limit indent c (chars text)) whole start here
    → StillToWrite (λ cursor. render_then (render_text (repeated_text repeats) cursor) (lines_after quoted limit indent c (chars rest))) whole start here
repeats_still quoted limit indent c repeats {text} {rest} {whole} {start} {here} is_text are is still =
    still_as (λ cursor. render_then (render_text (repeated_text repeats) cursor) (lines_after quoted limit indent c (chars rest)))
    (repeats_stand quoted limit indent c repeats text here.cursor is_text are
    ∙ ap (λ l. render_then (render_text (repeated_text repeats) here.cursor) (lines_after quoted limit indent c (chars l))) (sym is)) still

-- once they were written, the text after them is left
pub repeats_more : (quoted : Bool) (limit : Option ℕ) (indent c : ℕ) (repeats : Repeats) {text rest : List ℕ} {whole : Cursor → Rendered}
    {start here later : Page}
    → IsUtf8 text → AreRepeats quoted c repeats text → rest ≡ drop (repeats_length repeats) text
    → StillToWrite (lines_after quoted limit indent c (chars text)) whole start here
    → Wrote (render_text (repeated_text repeats)) here later (Ok tt)
    → StillToWrite (lines_after quoted limit indent c (chars rest)) whole start later
repeats_more quoted limit indent c repeats is_text are is still wrote = still_rest (repeats_still quoted limit indent c repeats is_text are is still) wrote

-- repeats that failed end it
pub repeats_failed : (quoted : Bool) (limit : Option ℕ) (indent c : ℕ) (repeats : Repeats) {text : List ℕ} {whole : Cursor → Rendered}
    {start here later : Page} {error : yaml_error_t}
    → IsUtf8 text → AreRepeats quoted c repeats text
    → StillToWrite (lines_after quoted limit indent c (chars text)) whole start here
    → Wrote (render_text (repeated_text repeats)) here later (Err error) → Wrote whole start later (Err error)
repeats_failed quoted limit indent c repeats {text} is_text are still wrote =
    still_failed (lines_after quoted limit indent c (chars (drop (repeats_length repeats) text)))
    (repeats_still quoted limit indent c repeats is_text are refl still) wrote

-- the end of repeats is a character's boundary, and text follows
pub repeats_boundary : (quoted : Bool) (c : ℕ) (repeats : Repeats) (text : List ℕ) → IsUtf8 text → AreRepeats quoted c repeats text
    → IsCharBoundary text (repeats_length repeats)
repeats_boundary quoted c Nothing text is_text are = IsCharBoundary-start text is_text
repeats_boundary quoted c (Quotes n) text is_text are = copies_boundary 39 n text (omega arith) is_text are.2
repeats_boundary quoted c (LineFeeds n) text is_text are =
    copies_boundary line_feed n text (omega arith) is_text (fewer_copies line_feed n are.1 (omega arith))

pub after_repeats : (quoted : Bool) (c : ℕ) (repeats : Repeats) {text rest : List ℕ} → IsUtf8 text → AreRepeats quoted c repeats text
    → rest ≡ drop (repeats_length repeats) text → IsUtf8 rest
after_repeats quoted c repeats {text} is_text are is =
    subst IsUtf8 (sym is) (IsUtf8-drop text (repeats_length repeats) is_text (repeats_boundary quoted c repeats text is_text are))

-- line feeds alone pass the test, and the last of them is LF
line_feeds_pass : (n : ℕ) → list_all (λ c. c == line_feed) (replicate n line_feed) ≡ true
line_feeds_pass zero = refl
line_feeds_pass (suc n) = line_feeds_pass n

last_copied : (c before n : ℕ) → last_from before (replicate (suc n) c) ≡ c
last_copied c before zero = refl
last_copied c before (suc n) = last_copied c c n

last_line_feed : (before n : ℕ) → 0 < n → last_from before (replicate n line_feed) ≡ line_feed
last_line_feed before zero some = absurd (omega (arith, some))
last_line_feed before (suc n) some = last_copied line_feed before n

-- so they are a run
pub line_feeds_run_after : (before n : ℕ) (text : List ℕ) → IsUtf8 text → BeginsWithCopies line_feed n text → 0 < n
    → IsRun (λ c. c == line_feed) before text n line_feed
line_feeds_run_after before n text is_text are some =
    let same : chars (take n text) ≡ replicate n line_feed =
    ap chars are.copies ∙ chars-IsAscii (replicate n line_feed) (copies_ascii n line_feed (omega arith)) in
    record {
      boundary = copies_boundary line_feed n text (omega arith) is_text are;
      all = ap (list_all (λ c. c == line_feed)) same ∙ line_feeds_pass n;
      last_is = sym (last_line_feed before n some) ∙ sym (ap (last_from before) same);
    }

-- a text of line feeds alone has as many characters as bytes
all_copies : (text : Text) → list_all (λ c. c == line_feed) text ≡ true → text ≡ replicate (length text) line_feed
all_copies [] h = refl
all_copies (c ∷ rest) h = grind (arith, nat_tests, and_parts, line_feed, list_all, eqb-true, all_copies rest)

pub all_line_feeds : (bytes : List ℕ) → IsUtf8 bytes → list_all (λ c. c == line_feed) (chars bytes) ≡ true
    → chars bytes ≡ replicate (length bytes) line_feed
all_line_feeds bytes is_text h =
    let n = length (chars bytes) in
    let copies = all_copies (chars bytes) h in
    let same : replicate n line_feed ≡ bytes =
    sym (encodes-IsAscii (replicate n line_feed) (copies_ascii n line_feed (omega arith))) ∙ ap encode_utf8_all (sym copies) ∙ encodes-chars bytes is_text in
    copies ∙ ap (λ m. replicate m line_feed) (sym (length-replicate n line_feed) ∙ ap length same)
