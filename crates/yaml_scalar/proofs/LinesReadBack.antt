-- The text of a plain or single-quoted scalar reads back.
use Rattle.yaml_scalar.proofs.Common.{ℕ, ◌≤◌, IfOk, Option, Some, Result, Err, Ok, pos, ℤ, ◌≤ℤ◌, Bool, true, ◌≡◌, arith, ints, list_all}
use Rattle.yaml_scalar.proofs.Common.{Text, is_space, Cursor, Rendered, render_then, render_text, space_if, with_breaks_written, with_line_breaks_read}
use Rattle.yaml_scalar.proofs.Common.{is_indented_text, LineBreak, read_plain, read_single, Charset, allows_plain, allows_single_quoted, plain_body, nat_tests}
use Rattle.yaml_scalar.proofs.Common.{render_plain, single_quoted_body, render_single_quoted, wrote_all, Page, natural, Wrote, ReadsBack}
use Rattle.yaml_base.specs.declared.errors.yaml_error_t.{yaml_error_t}
use Rattle.yaml_pen.proofs.Composing.{with_breaks_written-append}
use Rattle.yaml_scalar.proofs.{PlainReads.plain-reads, PlainReads.plain-indented, SingleReads.single-reads, SingleReads.single-indented}

-- an `i32` of two or more
pub two_or_more : (n : ℤ) → pos 2 ≤ℤ n → 2 ≤ natural n
two_or_more n h = grind (arith, nat_tests, ints)

-- a lead is spaces alone
lead_spaces : (setting : LineBreak) (space_stands : Bool) (cursor : Cursor)
    → list_all is_space (with_breaks_written setting (space_if space_stands cursor)) ≡ true
lead_spaces setting need cursor = grind (arith)

-- a lead of at most one space, and a body that reads as a value
pub body_back :
    (read : Text → Option Text) (value : Text) (need : Bool) (body : Cursor → Rendered) {before after : Page} →
    ((cursor : Cursor) (setting : LineBreak) → read (with_line_breaks_read (with_breaks_written setting (body cursor).text)) ≡ Some value) →
    ((cursor : Cursor) (setting : LineBreak) → is_indented_text (with_breaks_written setting (body cursor).text) ≡ true) →
    Wrote (λ cursor. render_then (render_text (space_if need cursor) cursor) body) before after (Ok tt) →
    ReadsBack read value before.text after.text
body_back read value need body {before} {after} reads indented wrote =
    grind (arith, nat_tests, space_if, render_text, with_breaks_written, wrote_all, with_breaks_written-append, lead_spaces)

-- after Ok a plain body reads back
pub plain_back :
    (charset : Charset) (flow : Bool) (limit : Option ℕ) (indent : ℕ) (value : Text) {before after : Page} (answer : Result (Unit {0}) yaml_error_t) →
    2 ≤ indent →
    allows_plain charset flow value ≡ true →
    Wrote (render_plain flow limit indent value) before after answer →
    IfOk answer (λ _. ReadsBack (read_plain charset.breaks12 flow) value before.text after.text)
plain_back charset flow limit indent value {before} {after} (Ok done) wide allowed wrote =
    body_back (read_plain charset.breaks12 flow) value _ (plain_body limit indent value)
    (λ cursor setting. plain-reads charset flow limit indent value cursor setting allowed)
    (λ cursor setting. plain-indented limit indent value cursor setting wide)
    wrote
plain_back charset flow limit indent value {before} {after} (Err error) wide allowed wrote = tt

-- after Ok a single-quoted body reads back
pub single_back :
    (charset : Charset) (limit : Option ℕ) (indent : ℕ) (value : Text) {before after : Page} (answer : Result (Unit {0}) yaml_error_t) →
    2 ≤ indent →
    allows_single_quoted charset value ≡ true →
    Wrote (render_single_quoted limit indent value) before after answer →
    IfOk answer (λ _. ReadsBack (read_single charset.breaks12) value before.text after.text)
single_back charset limit indent value {before} {after} (Ok done) wide allowed wrote =
    body_back (read_single charset.breaks12) value true (single_quoted_body limit indent value)
    (λ cursor setting. single-reads charset limit indent value cursor setting allowed)
    (λ cursor setting. single-indented limit indent value cursor setting wide)
    wrote
single_back charset limit indent value {before} {after} (Err error) wide allowed wrote = tt
