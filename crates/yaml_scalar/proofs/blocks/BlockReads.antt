-- A literal or folded body is read as exactly its value.
use Rattle.yaml_scalar.proofs.Common.{suc, zero, ℕ, ◌+◌, ◌≤◌, if◌then◌else◌, ◌==◌, Option, None, Some, Bool, false, not, true, ◌&&◌, ◌||◌, List, [], ◌++◌, ◌∷◌}
use Rattle.yaml_scalar.proofs.Common.{is_special_but_tab, begins_with_blanks_alone, bars_literal, allows_literal, tab, is_break, true≢false, nat_tests}
use Rattle.yaml_scalar.proofs.Common.{refl, ◌≡◌, eqb-true, le-leb, append_assoc, ap, sym, ◌∙◌, arith, and_from, or_parts, not-false}
use Rattle.yaml_scalar.proofs.Common.{not-true, false≢true, Text, is_between, line_feed, is_space, is_printable, Cursor, elements, all_unindented, has_content}
use Rattle.yaml_scalar.proofs.Common.{kept_lines, final_ends, unfolded, chomped, read_block, Charset, somewhere, is_empty, is_special, is_trailing_space}
use Rattle.yaml_scalar.proofs.Common.{bars_block, allows_block, Ending, WithoutBreak, OneBreak, MoreBreaks, ending, begins_blank, indentation_hint}
use Rattle.yaml_scalar.proofs.Common.{ending_hint, block_body, Encloses, folded_parts, folded_body, Part, parts, indented, literal_body}
use Rattle.yaml_base.specs.reading.ReadBlock.{read_indentation, lines_read, digit_first, after_digit, read_lines}
use Rattle.yaml_base.proofs.Charsets.{special_tab}
use Rattle.yaml_scalar.proofs.blocks.BlockFinal.{joined-kept, unfolded-kept, ends-parts, chomping_of, chomped-ends}
use Rattle.yaml_scalar.proofs.blocks.BlockFolds.{folded-clean, folded-content, folded-reads, folded-ends, folded-flush}
use Rattle.yaml_scalar.proofs.blocks.BlockParts.{Ordinary, AllOrdinary, Clean, parts-clean, bare, shifted, joined-parts, elements-indented, unindented-shifted}
use Rattle.yaml_scalar.proofs.blocks.BlockParts.{BeginsFlush, detected_indentation-shifted}
use Rattle.yaml_base.proofs.stream_lines.StreamBlockEnds.{hint_text}
use Rattle.yaml_scalar.proofs.LineFolds.{unlike}
use Rattle.std.proofs.Math.Bool.{or-false}

same-break : (feed separator paragraph breaks12 : Bool) → (breaks12 ≡ true → (separator || paragraph) ≡ false)
    → (feed || (not breaks12 && (separator || paragraph))) ≡ (feed || false || false || separator || paragraph)
same-break feed separator paragraph breaks12 h = grind (arith, nat_tests)

-- a character that isn't special is ordinary
pub ordinary : (charset : Charset) (c : ℕ) → is_special charset c ≡ false → Ordinary false charset.breaks12 c
ordinary charset c h =
    let tests = or_parts _ _ h in
    let printable : is_printable c ≡ true = not-false _ (or_parts _ _ tests.0).0 in
    let no_return : (c == 13) ≡ false = unlike c 13 printable refl in
    let no_next_line : (c == 0x85) ≡ false = unlike c 0x85 printable refl in
    record {
      same_break = same-break (c == line_feed) (c == 0x2028) (c == 0x2029) charset.breaks12
          (λ on. sym (ap (λ b. b && (c == 0x2028 || c == 0x2029)) on) ∙ tests.1)
          ∙ ap (λ b. c == line_feed || b || false || c == 0x2028 || c == 0x2029) (sym no_return)
          ∙ ap (λ b. c == line_feed || c == 13 || b || c == 0x2028 || c == 0x2029) (sym no_next_line);
      same_blank = λ none. ap (λ x. is_space c || x) (special_tab charset c h) ∙ or-false (is_space c);
      no_return = no_return;
      no_next_line = no_next_line;
    }

ordinary-somewhere : (charset : Charset) (value : Text) → somewhere (bars_block charset) value ≡ false → AllOrdinary false charset.breaks12 value
ordinary-somewhere charset [] h = tt
ordinary-somewhere charset (c ∷ rest) h =
    grind (arith, nat_tests, or_parts, bars_block, somewhere, is_special, is_trailing_space, is_space, is_empty, ordinary, ordinary-somewhere charset rest)

-- a value that block styles are allowed for isn't empty, and all its characters are ordinary
pub allowed-ordinary : (charset : Charset) (value : Text) → allows_block charset value ≡ true → AllOrdinary false charset.breaks12 value
allowed-ordinary charset value h = grind (arith, or_parts, not-true, ordinary-somewhere)

-- so is a tab, if there may be tabs
tab-ordinary : (breaks12 : Bool) → Ordinary true breaks12 tab
tab-ordinary breaks12 = grind (arith, nat_tests, true≢false)

pub ordinary-or-tab : (charset : Charset) (c : ℕ) → is_special_but_tab charset c ≡ false → Ordinary true charset.breaks12 c
ordinary-or-tab charset c h = by (c == tab) refl h
  where
    by : (x : Bool) → (c == tab) ≡ x → (not x && is_special charset c) ≡ false → Ordinary true charset.breaks12 c
    by x e h = grind (arith, nat_tests, eqb-true, tab, tab-ordinary, ordinary)

tabs-somewhere : (charset : Charset) (value : Text) → somewhere (bars_literal charset) value ≡ false → AllOrdinary true charset.breaks12 value
tabs-somewhere charset [] h = tt
tabs-somewhere charset (c ∷ rest) h =
    let split = or_parts (bars_literal charset c rest) (somewhere (bars_literal charset) rest) h in (
      ordinary-or-tab charset c (or_parts (is_special_but_tab charset c) (is_break c && begins_with_blanks_alone rest) split.0).0,
      tabs-somewhere charset rest split.1,
    )

-- all characters of a value that literal takes are ordinary or tabs
pub literal-ordinary : (charset : Charset) (value : Text) → allows_literal charset value ≡ true → AllOrdinary true charset.breaks12 value
literal-ordinary charset value h = grind (arith, nat_tests, tabs-somewhere, or_parts, is_empty, begins_with_blanks_alone, somewhere, bars_literal, not-true)

-- the text of a header, and the lines after it
pub block-text : (symbol best_indent : ℕ) (value lines : Text) (cursor : Cursor)
    → (block_body symbol best_indent value lines cursor).text ≡ symbol ∷ ((indentation_hint best_indent value ++ ending_hint
    (ending value)) ++ line_feed ∷ lines)
block-text symbol best_indent value lines cursor = grind (arith, hint_text, append_assoc)

-- the digit of an indent of 2 to 9
is-digit : (n : ℕ) → 2 ≤ n → n ≤ 9 → is_between 49 57 (48 + n) ≡ true
is-digit n low high = and_from _ _ (le-leb 49 (48 + n) (omega arith)) (le-leb (48 + n) 57 (omega arith))

digit-read : (n : ℕ) (rest : Text) → 2 ≤ n → n ≤ 9 → digit_first ((48 + n) ∷ rest) ≡ Some n
digit-read n rest low high = grind (arith, is-digit)

digit-passed : (n : ℕ) (rest : Text) → 2 ≤ n → n ≤ 9 → after_digit ((48 + n) ∷ rest) ≡ rest
digit-passed n rest low high = rw (is-digit n low high) refl

-- the digit that a header gives
abbrev digit_of : Bool → ℕ → Option ℕ
digit_of blank best_indent = if blank then Some best_indent else None

abbrev pub digit_text : Bool → ℕ → Text
digit_text blank best_indent = if blank then (48 + best_indent) ∷ [] else []

abbrev pub block_indicator_of : Bool → ℕ
block_indicator_of folded = if folded then 62 else 124

-- the reader finds in a header its hints
read-header : (breaks12 folded blank : Bool) (e : Ending) (best_indent : ℕ) (column : Option ℕ) (lines : Text) → 2 ≤ best_indent → best_indent ≤ 9
    → read_block breaks12 column (block_indicator_of folded ∷ ((digit_text blank best_indent ++ ending_hint e) ++ line_feed ∷ lines))
    ≡ read_lines folded (chomping_of e) (digit_of blank best_indent) column (elements breaks12 lines)
read-header breaks12 true true WithoutBreak n column lines low high = rw
    (digit-read n (45 ∷ line_feed ∷ lines) low high, digit-passed n (45 ∷ line_feed ∷ lines) low high) refl
read-header breaks12 true true OneBreak n column lines low high = rw
    (digit-read n (line_feed ∷ lines) low high, digit-passed n (line_feed ∷ lines) low high) refl
read-header breaks12 true true MoreBreaks n column lines low high = rw
    (digit-read n (43 ∷ line_feed ∷ lines) low high, digit-passed n (43 ∷ line_feed ∷ lines) low high) refl
read-header breaks12 false true WithoutBreak n column lines low high = rw
    (digit-read n (45 ∷ line_feed ∷ lines) low high, digit-passed n (45 ∷ line_feed ∷ lines) low high) refl
read-header breaks12 false true OneBreak n column lines low high = rw
    (digit-read n (line_feed ∷ lines) low high, digit-passed n (line_feed ∷ lines) low high) refl
read-header breaks12 false true MoreBreaks n column lines low high = rw
    (digit-read n (43 ∷ line_feed ∷ lines) low high, digit-passed n (43 ∷ line_feed ∷ lines) low high) refl
read-header breaks12 true false WithoutBreak n column lines low high = refl
read-header breaks12 true false OneBreak n column lines low high = refl
read-header breaks12 true false MoreBreaks n column lines low high = refl
read-header breaks12 false false WithoutBreak n column lines low high = refl
read-header breaks12 false false OneBreak n column lines low high = refl
read-header breaks12 false false MoreBreaks n column lines low high = refl

-- the indentation that a digit gives, or that the first line shows, is the lines' own
unindented-lines : (blank : Bool) (indent best_indent : ℕ) (column : Option ℕ) (ps : List Part) → Encloses indent best_indent column
    → (blank ≡ false → BeginsFlush ps)
    → all_unindented (read_indentation (digit_of blank best_indent) column (shifted indent ps)) (shifted indent ps) ≡ Some (bare ps)
unindented-lines blank indent best_indent column ps e f = grind (arith, nat_tests, unindented-shifted, detected_indentation-shifted)

-- a value's first character decides whether its first line shows the indentation
flush-parts : (c : ℕ) (rest : Text) → begins_blank (c ∷ rest) ≡ false → BeginsFlush (parts (c ∷ rest))
flush-parts c rest h = grind (arith, or_parts, false≢true)

flush-value : (value : Text) → begins_blank value ≡ false → BeginsFlush (parts value)
flush-value value h = grind (arith, nat_tests, flush-parts)

-- whatever lines come after a value's header, they are read without their indentation
block-reads : (tabs breaks12 folded : Bool) (indent best_indent : ℕ) (column : Option ℕ) (value : Text) (ps : List Part) (cursor : Cursor)
    → 2 ≤ best_indent → best_indent ≤ 9 → 1 ≤ indent → Encloses indent best_indent column
    → Clean tabs breaks12 ps → (begins_blank value ≡ false → BeginsFlush ps)
    → read_block breaks12 column (block_body (block_indicator_of folded) best_indent value (indented indent ps) cursor).text
    ≡ Some (lines_read folded (chomping_of (ending value)) (bare ps))
block-reads tabs breaks12 folded zero best_indent column value ps cursor low high positive e clean flush = absurd (omega arith)
block-reads tabs breaks12 folded (suc less) best_indent column value ps cursor low high positive e clean flush =
    grind (arith, block-text, read-header, elements-indented tabs breaks12 less ps clean, unindented-lines)

-- the value's own lines read as the value
literal-lines : (value : Text) → lines_read false (chomping_of (ending value)) (bare (parts value)) ≡ value
literal-lines [] = refl
literal-lines (c ∷ rest) =
    rw (chomped-ends (ending (c ∷ rest)) (bare (parts (c ∷ rest))) (ends-parts c rest)) (joined-kept (bare (parts (c ∷ rest))) ∙ joined-parts (c ∷ rest))

-- and its folded lines
folded-lines : (breaks12 : Bool) (limit : Option ℕ) (indent : ℕ) (value : Text) → AllOrdinary false breaks12 value
    → lines_read true (chomping_of (ending value)) (bare (folded_parts limit indent false (parts value))) ≡ value
folded-lines breaks12 limit indent [] h = refl
folded-lines breaks12 limit indent (c ∷ rest) h =
    let value : Text = c ∷ rest in
    let ps : List Part = parts value in
    let written : List Part = folded_parts limit indent false ps in
    let clean : Clean false breaks12 ps = parts-clean false breaks12 value h in
    let chomping : chomped (chomping_of (ending value)) (has_content (bare written)) (final_ends (bare written)) ≡ final_ends (bare written) =
    rw (folded-content breaks12 limit indent false ps clean, folded-ends breaks12 limit indent false ps clean)
    (chomped-ends (ending value) (bare ps) (ends-parts c rest)) in
    ap (λ t. unfolded false (kept_lines (bare written)) ++ t) chomping
    ∙ unfolded-kept false (bare written) ∙ folded-reads breaks12 limit indent false ps clean ∙ joined-parts value

module _ (charset : Charset) (value : Text) (allowed : allows_literal charset value ≡ true) (indent best_indent : ℕ)
    (low : 2 ≤ best_indent) (high : best_indent ≤ 9) (above : best_indent ≤ indent) (column : Option ℕ) (enclosing : Encloses indent best_indent column)
    (cursor : Cursor) where
  -- a literal body is read as its value
  pub literal-reads : read_block charset.breaks12 column (literal_body indent best_indent value cursor).text ≡ Some value
  literal-reads =
      block-reads true charset.breaks12 false indent best_indent column value (parts value) cursor low high (omega arith) enclosing
      (parts-clean true charset.breaks12 value (literal-ordinary charset value allowed)) (flush-value value)
      ∙ ap Some (literal-lines value)

module _ (charset : Charset) (value : Text) (allowed : allows_block charset value ≡ true) (indent best_indent : ℕ)
    (low : 2 ≤ best_indent) (high : best_indent ≤ 9) (above : best_indent ≤ indent) (column : Option ℕ) (enclosing : Encloses indent best_indent column)
    (cursor : Cursor) where
  -- a folded body is read as its value
  pub folded-read : (limit : Option ℕ) → read_block charset.breaks12 column (folded_body limit indent best_indent value cursor).text ≡ Some value
  folded-read limit =
      let ordinary : AllOrdinary false charset.breaks12 value = allowed-ordinary charset value allowed in
      let clean : Clean false charset.breaks12 (parts value) = parts-clean false charset.breaks12 value ordinary in
      block-reads false charset.breaks12 true indent best_indent column value (folded_parts limit indent false (parts value)) cursor low high (omega arith)
      enclosing (folded-clean charset.breaks12 limit indent false (parts value) clean)
      (λ e. folded-flush charset.breaks12 limit indent (parts value) clean (flush-value value e))
      ∙ ap Some (folded-lines charset.breaks12 limit indent value ordinary)
