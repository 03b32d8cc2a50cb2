-- A plain body reads as its value, and its later lines are indented.
use Rattle.yaml_scalar.proofs.Common.{arith, ℕ, ◌≤◌, Option, Some, Bool, false, true, ◌&&◌, [], map, ◌++◌, ◌∷◌, refl, ◌≡◌, append-nil, ap, ◌∙◌, and-false}
use Rattle.yaml_scalar.proofs.Common.{and_parts, or_parts, or_from, not-true, breaks-round, indented-written, Text, is_space, is_break, Cursor, nat_tests}
use Rattle.yaml_scalar.proofs.Common.{with_breaks_written, with_line_breaks_read, is_rendered_text, is_indented_text, LineBreak, unit_of, folding_read}
use Rattle.yaml_scalar.proofs.Common.{begins_no_plain, holds_no_plain, read_plain, Charset, somewhere, begins_with, is_empty, begins_unlike_plain, bars_plain}
use Rattle.yaml_scalar.proofs.Common.{bars_single_quoted, allows_plain, Space, plain_body, render_steps}
use Rattle.yaml_scalar.proofs.{LineIndents.lines_indented, LineRuns.WritesEach, LineRuns.runs_by_steps, LineTexts.bare_steps, LineTexts.any_bare}
use Rattle.yaml_scalar.proofs.{LineTexts.bare_written, PlainStarts.lines_hold, PlainStarts.lines_full, PlainStarts.lines_begin}
use Rattle.yaml_scalar.proofs.LineFolds.{folding_reads, no_returns, rendered_without_returns}

-- plain characters are written one by one
pub itself_writes : WritesEach (λ text. text)
itself_writes = grind (arith, nat_tests)

-- the lines of a plain body
abbrev pub lines : (limit : Option ℕ) (indent : ℕ) (value : Text) → Cursor → Text
lines limit indent value cursor = bare_steps (λ text. text) limit indent Space value cursor

-- a body is its lines
pub body-lines :
    (limit : Option ℕ) (indent : ℕ) (value : Text) (cursor : Cursor) →
    (plain_body limit indent value cursor).text ≡ lines limit indent value cursor
body-lines limit indent value cursor = grind (arith, runs_by_steps, bare_written)

-- a value that allows plain text begins with no break
no_break_begins :
    (charset : Charset) (flow : Bool) (value : Text) →
    somewhere (bars_plain charset flow) value ≡ false →
    begins_with is_break value ≡ false
no_break_begins charset flow value clean = grind (arith, nat_tests, or_parts)

-- a value that allows plain text allows single quotes
pub plain_is_single :
    (charset : Charset) (flow : Bool) (value : Text) →
    somewhere (bars_plain charset flow) value ≡ false →
    somewhere (bars_single_quoted charset) value ≡ false
plain_is_single charset flow [] clean = refl
plain_is_single charset flow (c ∷ rest) clean =
    let parts = or_parts (bars_plain charset flow c rest) (somewhere (bars_plain charset flow) rest) clean in
    let to_break = or_parts _ _ (or_parts _ _ (or_parts _ _ (or_parts _ _ parts.0).0).0).0 in
    let trailing : (is_space c && begins_with is_break rest) ≡ false =
    ap (λ (b : Bool). is_space c && b) (no_break_begins charset flow rest parts.1) ∙ and-false (is_space c) in
    let leading : (is_break c && begins_with is_space rest) ≡ false =
    ap (λ (b : Bool). b && begins_with is_space rest) to_break.1 in
    or_from (bars_single_quoted charset c rest) (somewhere (bars_single_quoted charset) rest)
    (or_from _ _ (or_from _ _ to_break.0 trailing) leading)
    (plain_is_single charset flow rest parts.1)

-- it holds nothing that bars plain text
pub plain_bars :
    (charset : Charset) (flow : Bool) (value : Text) →
    allows_plain charset flow value ≡ true →
    somewhere (bars_plain charset flow) value ≡ false
plain_bars charset flow value allowed = (or_parts _ _ (not-true _ (and_parts _ _ allowed).1)).1

-- it begins with nothing that bars plain text
pub plain_begins :
    (charset : Charset) (flow : Bool) (value : Text) →
    allows_plain charset flow value ≡ true →
    begins_unlike_plain value ≡ false
plain_begins charset flow value allowed = (or_parts _ _ (not-true _ (and_parts _ _ allowed).1)).0

-- a body holds neither CR nor U+0085
pub plain-rendered :
    (charset : Charset) (flow : Bool) (limit : Option ℕ) (indent : ℕ) (value : Text) (cursor : Cursor) →
    allows_plain charset flow value ≡ true →
    is_rendered_text (plain_body limit indent value cursor).text ≡ true
plain-rendered charset flow limit indent value cursor allowed =
    grind (arith, plain_is_single, plain_bars, body-lines, rendered_without_returns, any_bare, no_returns)

-- a text that breaks no rule of plain text is read by folding, unless it is empty in flow
unbarred_read :
    (breaks12 flow : Bool) (text : Text) →
    (is_empty text && flow) ≡ false →
    begins_no_plain breaks12 text ≡ false →
    holds_no_plain breaks12 flow text ≡ false →
    read_plain breaks12 flow text ≡ Some (folding_read (map (unit_of breaks12) text))
unbarred_read breaks12 flow text full begins holds = grind (arith, nat_tests)

-- the lines of such a value are read by folding
value_reads :
    (charset : Charset) (flow : Bool) (limit : Option ℕ) (indent : ℕ) (value : Text) (cursor : Cursor) →
    allows_plain charset flow value ≡ true →
    read_plain charset.breaks12 flow (lines limit indent value cursor) ≡
    Some (folding_read (map (unit_of charset.breaks12) (lines limit indent value cursor)))
value_reads charset flow limit indent value cursor allowed =
    grind (arith, nat_tests, unbarred_read, not-true, and_parts, plain_bars, plain_begins, no_break_begins, lines, lines_full, lines_begin, lines_hold)

-- a body, however its line breaks are written, reads as the value
pub plain-reads :
    (charset : Charset) (flow : Bool) (limit : Option ℕ) (indent : ℕ) (value : Text) (cursor : Cursor) (setting : LineBreak) →
    allows_plain charset flow value ≡ true →
    read_plain charset.breaks12 flow
    (with_line_breaks_read (with_breaks_written setting (plain_body limit indent value cursor).text)) ≡
    Some value
plain-reads charset flow limit indent value cursor setting allowed =
    grind (arith, plain_is_single, plain_bars, breaks-round, plain-rendered, body-lines, value_reads, folding_reads)

-- each nonempty line of a body after the first begins with two spaces, however its line breaks are written
pub plain-indented :
    (limit : Option ℕ) (indent : ℕ) (value : Text) (cursor : Cursor) (setting : LineBreak) →
    2 ≤ indent →
    is_indented_text (with_breaks_written setting (plain_body limit indent value cursor).text) ≡ true
plain-indented limit indent value cursor setting wide =
    let body = (plain_body limit indent value cursor).text in
    let lines : is_indented_text ((render_steps (λ text. text) limit indent Space value cursor).text ++ []) ≡ true =
    lines_indented (λ text. text) itself_writes limit indent wide Space value [] cursor refl in
    indented-written setting body
    (rw (runs_by_steps (λ text. text) itself_writes limit indent value cursor)
    (rw append-nil at lines))
