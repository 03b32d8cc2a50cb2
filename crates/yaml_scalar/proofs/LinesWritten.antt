-- Lines written character by character are the lines by runs, and between quotes the single-quoted layout.
use Rattle.yaml_scalar.proofs.Common.{ℕ, if◌then◌else◌, ◌==◌, Option, Result, Bool, false, true, ◌&&◌, [], ◌++◌, ◌∷◌, ◌≡◌, eqb-true, Text}
use Rattle.yaml_scalar.proofs.Common.{Cursor, Rendered, render_then, render_text, space_if, indicator, CharacterKind, Space, runs, render_runs, quotes_doubled}
use Rattle.yaml_scalar.proofs.Common.{single_quote, render_single_quoted, wrote_as, Page, Wrote, written_as, render_steps, arith, nat_tests}
use Rattle.yaml_base.specs.declared.errors.yaml_error_t.{yaml_error_t}
use Rattle.yaml_pen.proofs.StillToWrite.{StillToWrite}
use Rattle.yaml_scalar.proofs.{LineRuns.WritesEach, LineRuns.runs_by_steps, PlainReads.itself_writes, SingleReads.doubled_writes}

-- `'` is written twice
quote_text_by :
    (c : ℕ) (quote : Bool) → (c == 39) ≡ quote →
    (if quote then 39 ∷ [] else []) ++ (c ∷ []) ≡ (if quote then 39 ∷ 39 ∷ [] else c ∷ []) ++ []
quote_text_by c quote e = grind (arith, nat_tests, eqb-true)

-- between quotes `'` follows another one
pub quote_text :
    (quoted : Bool) (c : ℕ) (extra : Bool) → extra ≡ (quoted && c == 39) →
    (if extra then 39 ∷ [] else []) ++ (c ∷ []) ≡ written_as quoted (c ∷ [])
quote_text quoted c extra e = grind (arith, nat_tests, quote_text_by)

-- lines of a value, after a character of a kind, of which some are left to be written, after another
abbrev pub LinesLeft :
    (written : Text → Text) (limit : Option ℕ) (indent : ℕ) (first : CharacterKind) (value left : Text) (kind : CharacterKind) (before now : Page) → Type 0
LinesLeft written limit indent first value left kind before now =
    StillToWrite (render_steps written limit indent kind left) (render_steps written limit indent first value) before now

-- both ways of writing go character by character
pub written_each : (quoted : Bool) → WritesEach (written_as quoted)
written_each quoted = grind (arith, nat_tests, doubled_writes, itself_writes)

-- lines by characters are those by runs
pub wrote_runs :
    (quoted : Bool) (limit : Option ℕ) (indent : ℕ) (value : Text) {before after : Page} {answer : Result (Unit {0}) yaml_error_t} →
    Wrote (render_steps (written_as quoted) limit indent Space value) before after answer →
    Wrote (render_runs (written_as quoted) limit indent true (runs value)) before after answer
wrote_runs quoted limit indent value {before} {after} {answer} wrote =
    grind (arith, nat_tests, wrote_as, render_runs, written_as, runs, runs_by_steps, written_each)

-- without quotes, lines are those of plain text
pub wrote_unquoted :
    (quoted : Bool) (limit : Option ℕ) (indent : ℕ) (value : Text) {before after : Page} {answer : Result (Unit {0}) yaml_error_t} →
    quoted ≡ false →
    Wrote (render_runs (written_as quoted) limit indent true (runs value)) before after answer →
    Wrote (render_runs (λ text. text) limit indent true (runs value)) before after answer
wrote_unquoted quoted limit indent value {before} {after} {answer} e wrote = grind (arith, nat_tests, render_runs, written_as, runs)

-- between quotes, lines have each `'` doubled
pub wrote_quoted :
    (quoted : Bool) (limit : Option ℕ) (indent : ℕ) (value : Text) {before after : Page} {answer : Result (Unit {0}) yaml_error_t} →
    quoted ≡ true →
    Wrote (render_runs (written_as quoted) limit indent true (runs value)) before after answer →
    Wrote (render_runs quotes_doubled limit indent true (runs value)) before after answer
wrote_quoted quoted limit indent value {before} {after} {answer} e wrote = grind (arith, nat_tests, render_runs, written_as, runs)

-- an opening quote after the space that it needs
opened : (column : ℕ) (whitespace indention : Bool) (next : Cursor → Rendered) →
    let cursor : Cursor = record { column = column; whitespace = whitespace; indention = indention } in
    render_then (indicator (39 ∷ []) true false false cursor) next ≡
    render_then (render_text (space_if true cursor) cursor) (λ after. render_then (single_quote after) next)
opened column whitespace indention next = grind (arith, nat_tests)

-- the lines and the closing quote
abbrev pub after_quote : (limit : Option ℕ) (indent : ℕ) (value : Text) → Cursor → Rendered
after_quote limit indent value cursor =
    render_then (render_runs quotes_doubled limit indent true (runs value) cursor) single_quote

-- quotes and lines are the single-quoted layout
pub wrote_single :
    (limit : Option ℕ) (indent : ℕ) (value : Text) {before after : Page} {answer : Result (Unit {0}) yaml_error_t} →
    Wrote (λ cursor. render_then (indicator (39 ∷ []) true false false cursor) (after_quote limit indent value)) before after answer →
    Wrote (render_single_quoted limit indent value) before after answer
wrote_single limit indent value {before} {after} {answer} wrote = grind (arith, nat_tests, wrote_as, render_single_quoted, opened)
