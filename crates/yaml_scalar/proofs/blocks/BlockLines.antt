-- A literal or folded body holds no CR and no U+0085, and each of its nonempty lines after the header begins with
-- two spaces at least; so both hold as its line breaks are written, and reading it gives the value.
use Rattle.yaml_scalar.proofs.Common.{suc, zero, ℕ, ◌+◌, ◌≤◌, ◌==◌, Option, Some, replicate, Bool, false, not, true, ◌||◌, List, [], ◌++◌, ◌∷◌, refl, ◌≡◌}
use Rattle.yaml_scalar.proofs.Common.{append_assoc, arith, and_from, or_from, or_right, not_from_false, breaks-round, rendered-append, nat_tests}
use Rattle.yaml_scalar.proofs.Common.{indented-written, Text, line_feed, carriage_return, next_line, space, is_break}
use Rattle.yaml_scalar.proofs.Common.{Cursor, with_breaks_written, with_line_breaks_read, is_rendered_text, begins_indented, is_indented_text, LineBreak}
use Rattle.yaml_scalar.proofs.Common.{read_block, Charset, allows_block, allows_literal, Ending, ending_hint}
use Rattle.yaml_scalar.proofs.Common.{block_body, Encloses, folded_parts, folded_body, Part, line, line_break, parts, indented, literal_body}
use Rattle.yaml_base.proofs.Common.{ne_eqb}
use Rattle.yaml_scalar.proofs.blocks.{BlockFolds.folded-clean, BlockParts.Ordinary, BlockParts.IsLine, BlockParts.Clean, BlockParts.parts-clean}
use Rattle.yaml_scalar.proofs.blocks.BlockReads.{allowed-ordinary, literal-ordinary, block-text, digit_text, block_indicator_of, literal-reads, folded-read}
use Rattle.yaml_base.proofs.BreakLaws.{break-begins}

-- an ordinary character may be in a rendered text
ordinary-rendered : (tabs breaks12 : Bool) (c : ℕ) → Ordinary tabs breaks12 c → not (c == carriage_return || c == next_line) ≡ true
ordinary-rendered tabs breaks12 c o = not_from_false (c == carriage_return || c == next_line) (or_from _ _ o.no_return o.no_next_line)

line-rendered : (tabs breaks12 : Bool) (text : Text) → IsLine tabs breaks12 text → is_rendered_text text ≡ true
line-rendered tabs breaks12 [] h = refl
line-rendered tabs breaks12 (c ∷ rest) h = and_from _ _ (ordinary-rendered tabs breaks12 c h.0) (line-rendered tabs breaks12 rest h.2)

spaces-rendered : (n : ℕ) → is_rendered_text (replicate n space) ≡ true
spaces-rendered zero = refl
spaces-rendered (suc n) = spaces-rendered n

lines-rendered : (tabs breaks12 : Bool) (indent : ℕ) (ps : List Part) → Clean tabs breaks12 ps → is_rendered_text (indented indent ps) ≡ true
lines-rendered tabs breaks12 indent [] h = refl
lines-rendered tabs breaks12 indent (line text ∷ rest) h =
    grind (arith, nat_tests, rendered-append, replicate, space, indented, spaces-rendered, line-rendered, lines-rendered tabs breaks12 indent rest)
lines-rendered tabs breaks12 indent (line_break b ∷ rest) h = grind (arith, nat_tests, and_from, ordinary-rendered, lines-rendered tabs breaks12 indent rest)

-- a text without a break, before another
line-indented : (tabs breaks12 : Bool) (text rest : Text) → IsLine tabs breaks12 text → is_indented_text rest ≡ true → is_indented_text (text ++ rest) ≡ true
line-indented tabs breaks12 [] rest h k = k
line-indented tabs breaks12 (c ∷ text) rest h k = rw h.1 (line-indented tabs breaks12 text rest h.2 k)

spaces-indented : (n : ℕ) (rest : Text) → is_indented_text rest ≡ true → is_indented_text (replicate n space ++ rest) ≡ true
spaces-indented zero rest k = k
spaces-indented (suc n) rest k = spaces-indented n rest k

-- lines after at least two spaces each
lines-begin : (tabs breaks12 : Bool) (less : ℕ) (ps : List Part) → Clean tabs breaks12 ps → begins_indented (indented (suc (suc less)) ps) ≡ true
lines-begin tabs breaks12 less (line_break b ∷ rest) h = break-begins b (indented (suc (suc less)) rest) h.1
lines-begin tabs breaks12 less _ h = refl

lines-indented : (tabs breaks12 : Bool) (less : ℕ) (ps : List Part) → Clean tabs breaks12 ps → is_indented_text (indented (suc (suc less)) ps) ≡ true
lines-indented tabs breaks12 less [] h = refl
lines-indented tabs breaks12 less (line text ∷ rest) h = grind (arith, append_assoc, spaces-indented, line-indented, lines-indented tabs breaks12 less rest h.2)
lines-indented tabs breaks12 less (line_break b ∷ rest) h = grind (arith, nat_tests, and_from, or_right, lines-begin, lines-indented tabs breaks12 less rest)

digit-rendered : (n : ℕ) → n ≤ 9 → not ((48 + n) == carriage_return || (48 + n) == next_line) ≡ true
digit-rendered n high = grind (arith, nat_tests, not_from_false, or_from, ne_eqb, carriage_return, next_line)

digit-unbroken : (n : ℕ) → n ≤ 9 → is_break (48 + n) ≡ false
digit-unbroken n high = grind (arith, or_from, ne_eqb)

hint-rendered : (e : Ending) → is_rendered_text (ending_hint e) ≡ true
hint-rendered e = grind (arith, nat_tests)

digit-text-rendered : (blank : Bool) (n : ℕ) → n ≤ 9 → is_rendered_text (digit_text blank n) ≡ true
digit-text-rendered blank n high = grind (arith, nat_tests, and_from, digit-rendered)

-- the header before rendered lines
header-rendered : (folded blank : Bool) (e : Ending) (n : ℕ) (lines : Text) → n ≤ 9 → is_rendered_text lines ≡ true
    → is_rendered_text (block_indicator_of folded ∷ ((digit_text blank n ++ ending_hint e) ++ line_feed ∷ lines)) ≡ true
header-rendered folded blank e n lines high h =
    grind (arith, nat_tests, rendered-append, digit_text, ending_hint, line_feed, digit-text-rendered, hint-rendered)

-- the header's break is the first, so the lines after it begin with two spaces
hint-indented : (e : Ending) (rest : Text) → is_indented_text rest ≡ true → is_indented_text (ending_hint e ++ rest) ≡ true
hint-indented e rest h = grind (arith, nat_tests)

digit-indented : (blank : Bool) (n : ℕ) (rest : Text) → n ≤ 9 → is_indented_text rest ≡ true → is_indented_text (digit_text blank n ++ rest) ≡ true
digit-indented blank n rest high h = grind (arith, nat_tests, digit-unbroken)

symbol-indented : (folded : Bool) (rest : Text) → is_indented_text rest ≡ true → is_indented_text (block_indicator_of folded ∷ rest) ≡ true
symbol-indented folded rest h = grind (arith, nat_tests)

header-indented : (folded blank : Bool) (e : Ending) (n : ℕ) (lines : Text) → n ≤ 9 → begins_indented lines ≡ true → is_indented_text lines ≡ true
    → is_indented_text (block_indicator_of folded ∷ ((digit_text blank n ++ ending_hint e) ++ line_feed ∷ lines)) ≡ true
header-indented folded blank e n lines high b h = grind (arith, symbol-indented, append_assoc, digit-indented, hint-indented, and_from)

-- a body of clean lines
body-rendered : (tabs breaks12 folded : Bool) (indent best_indent : ℕ) (value : Text) (ps : List Part) (cursor : Cursor)
    → best_indent ≤ 9 → Clean tabs breaks12 ps
    → is_rendered_text (block_body (block_indicator_of folded) best_indent value (indented indent ps) cursor).text ≡ true
body-rendered tabs breaks12 folded indent best_indent value ps cursor high clean =
    grind (arith, block-text, header-rendered, lines-rendered tabs breaks12 indent ps clean)

body-indented : (tabs breaks12 folded : Bool) (indent best_indent : ℕ) (value : Text) (ps : List Part) (cursor : Cursor) → best_indent ≤ 9 → 2 ≤ indent
    → Clean tabs breaks12 ps
    → is_indented_text (block_body (block_indicator_of folded) best_indent value (indented indent ps) cursor).text ≡ true
body-indented tabs breaks12 folded (suc (suc less)) best_indent value ps cursor high low clean =
    grind (arith, block-text, header-indented, lines-begin tabs breaks12 less ps clean, lines-indented tabs breaks12 less ps clean)
body-indented tabs breaks12 folded _ best_indent value ps cursor high low clean = absurd (omega arith)

-- the promise about a body: as it was written, with any line breaks, it reads as the value, and each nonempty
-- line after its first begins with at least two spaces
pub record IsBlockText (breaks12 : Bool) (column : Option ℕ) (setting : LineBreak) (value body : Text) : Type 0 where
  pub reads : read_block breaks12 column (with_line_breaks_read (with_breaks_written setting body)) ≡ Some value
  pub indented : is_indented_text (with_breaks_written setting body) ≡ true

block-kept : (breaks12 : Bool) (column : Option ℕ) (setting : LineBreak) (value body : Text) → is_rendered_text body ≡ true → is_indented_text body ≡ true
    → read_block breaks12 column body ≡ Some value → IsBlockText breaks12 column setting value body
block-kept breaks12 column setting value body rendered lines reads = grind (arith, breaks-round, indented-written)

module _ (charset : Charset) (value : Text) (allowed : allows_literal charset value ≡ true) (indent best_indent : ℕ)
    (low : 2 ≤ best_indent) (high : best_indent ≤ 9) (above : best_indent ≤ indent) (cursor : Cursor) where
  pub literal-rendered : is_rendered_text (literal_body indent best_indent value cursor).text ≡ true
  literal-rendered = body-rendered true charset.breaks12 false indent best_indent value (parts value) cursor high
      (parts-clean true charset.breaks12 value (literal-ordinary charset value allowed))

  pub literal-indented : is_indented_text (literal_body indent best_indent value cursor).text ≡ true
  literal-indented = body-indented true charset.breaks12 false indent best_indent value (parts value) cursor high (omega arith)
      (parts-clean true charset.breaks12 value (literal-ordinary charset value allowed))

  -- a literal body, as it was written, is its value's
  pub literal-kept : (column : Option ℕ) → Encloses indent best_indent column → (setting : LineBreak)
      → IsBlockText charset.breaks12 column setting value (literal_body indent best_indent value cursor).text
  literal-kept column enclosing setting =
      block-kept charset.breaks12 column setting value (literal_body indent best_indent value cursor).text literal-rendered literal-indented
      (literal-reads charset value allowed indent best_indent low high above column enclosing cursor)

module _ (charset : Charset) (value : Text) (allowed : allows_block charset value ≡ true) (indent best_indent : ℕ)
    (low : 2 ≤ best_indent) (high : best_indent ≤ 9) (above : best_indent ≤ indent) (cursor : Cursor) where
  pub folded-rendered : (limit : Option ℕ) → is_rendered_text (folded_body limit indent best_indent value cursor).text ≡ true
  folded-rendered limit = body-rendered false charset.breaks12 true indent best_indent value (folded_parts limit indent false (parts value)) cursor high
      (folded-clean charset.breaks12 limit indent false (parts value) (parts-clean false charset.breaks12 value (allowed-ordinary charset value allowed)))

  pub folded-indented : (limit : Option ℕ) → is_indented_text (folded_body limit indent best_indent value cursor).text ≡ true
  folded-indented limit = body-indented false charset.breaks12 true indent best_indent value (folded_parts limit indent false (parts value)) cursor high
      (omega arith)
      (folded-clean charset.breaks12 limit indent false (parts value) (parts-clean false charset.breaks12 value (allowed-ordinary charset value allowed)))

  -- a folded body, as it was written, is its value's
  pub folded-kept : (limit : Option ℕ) (column : Option ℕ) → Encloses indent best_indent column → (setting : LineBreak)
      → IsBlockText charset.breaks12 column setting value (folded_body limit indent best_indent value cursor).text
  folded-kept limit column enclosing setting =
      block-kept charset.breaks12 column setting value (folded_body limit indent best_indent value cursor).text (folded-rendered limit) (folded-indented limit)
      (folded-read charset value allowed indent best_indent low high above column enclosing cursor limit)
