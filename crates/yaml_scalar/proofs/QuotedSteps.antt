-- A double-quoted scalar is written as a quote, the text inside, and a quote; and its reading.
use Rattle.yaml_scalar.proofs.Common.{ℕ, ◌≤◌, IfOk, Option, None, Result, Err, Ok, Bool, false, true, [], ◌∷◌, ◌≡◌, all_scalars, Text, Cursor, Rendered}
use Rattle.yaml_scalar.proofs.Common.{render_then, indicator, read_double, quote, double_inside, render_quote, double_quoted_body, render_double_quoted, Page}
use Rattle.yaml_scalar.proofs.Common.{Wrote, ReadsBack, arith, nat_tests}
use Rattle.yaml_base.specs.declared.errors.yaml_error_t.{yaml_error_t}
use Rattle.yaml_scalar.proofs.{DoubleReads.double-reads, DoubleReads.double-indented, LinesReadBack.body_back}

-- from the opening quote, with its lead, to the closing quote
abbrev pub double_steps : (unicode : Bool) (limit : Option ℕ) (indent : ℕ) (value : Text) → Cursor → Rendered
double_steps unicode limit indent value cursor =
    render_then (render_then (indicator (quote ∷ []) true false false cursor) (double_inside unicode limit indent None value)) render_quote

steps-at : (unicode : Bool) (limit : Option ℕ) (indent : ℕ) (value : Text) (column : ℕ) (whitespace indention : Bool)
    → let cursor : Cursor = record { column = column; whitespace = whitespace; indention = indention } in
    double_steps unicode limit indent value cursor ≡ render_double_quoted unicode limit indent value cursor
steps-at unicode limit indent value column whitespace indention = grind (arith, nat_tests)

pub double-steps : (unicode : Bool) (limit : Option ℕ) (indent : ℕ) (value : Text) (cursor : Cursor)
    → double_steps unicode limit indent value cursor ≡ render_double_quoted unicode limit indent value cursor
double-steps unicode limit indent value cursor = steps-at unicode limit indent value cursor.column cursor.whitespace cursor.indention

-- the written text reads back, and its later lines are indented
pub double_back : (breaks12 unicode : Bool) (limit : Option ℕ) (indent : ℕ) (value : Text) {before after : Page} (answer : Result (Unit {0}) yaml_error_t)
    → 2 ≤ indent → all_scalars value ≡ true
    → Wrote (render_double_quoted unicode limit indent value) before after answer
    → IfOk answer (λ _. ReadsBack (read_double breaks12) value before.text after.text)
double_back breaks12 unicode limit indent value {before} {after} (Ok done) wide scalars wrote =
    body_back (read_double breaks12) value true (double_quoted_body unicode limit indent value)
    (λ cursor setting. double-reads breaks12 unicode limit indent value cursor setting wide scalars)
    (λ cursor setting. double-indented unicode limit indent value cursor setting wide scalars)
    wrote
double_back breaks12 unicode limit indent value {before} {after} (Err error) wide scalars wrote = tt
