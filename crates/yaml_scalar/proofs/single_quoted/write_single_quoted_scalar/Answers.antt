use Rattle.yaml_scalar.proofs.Common.{codes, refl, Err, Ok, true, ◌≡◌, ap, ◌∙◌, list_any, rules, natural, is_break, Indicator, runs, render_runs}
use Rattle.yaml_scalar.proofs.Common.{single_quote, wrote_then, wrote_failed, wrote_exit, Wrote, limit_where, written_as}
use Rattle.std.specs.Str.{chars}
use Rattle.yaml_scalar.proofs.LinesWritten.{wrote_quoted, after_quote, wrote_single}
use Rattle.yaml_scalar.proofs.LinesReadBack.{two_or_more, single_back}
use Rattle.yaml_scalar.proofs.single_quoted.write_single_quoted_scalar.Goals as goal

quote_chars : chars (codes "'") ≡ codes "'"
unfolding chars
quote_chars = refl

pub put_indicator-requires-clause-no_break : goal.put_indicator-requires-clause-no_break
put_indicator-requires-clause-no_break g c =
    ap (λ (s : Indicator). list_any is_break s.text) c.spaced.ensures ∙ ap (list_any is_break) quote_chars

pub put_indicator-requires-2-clause-no_break : goal.put_indicator-requires-2-clause-no_break
put_indicator-requires-2-clause-no_break g c =
    ap (λ (s : Indicator). list_any is_break s.text) c.tight.ensures ∙ ap (list_any is_break) quote_chars

pub returns-in_err-put_indicator-clause-written : goal.returns-in_err-put_indicator-clause-written
returns-in_err-put_indicator-clause-written g c =
    let limit = limit_where c.args.allow_breaks c.args.width in
    let n = natural c.args.indent in
    wrote_exit c.from_residual.ensures
    (wrote_single limit n (chars c.args.value.now)
    (wrote_failed (after_quote limit n (chars c.args.value.now)) (rw (c.spaced.ensures, quote_chars) at c.in_err-put_indicator.ensures.written)))

pub returns-in_err-write_lines-clause-written : goal.returns-in_err-write_lines-clause-written
returns-in_err-write_lines-clause-written g c =
    let limit = limit_where c.args.allow_breaks c.args.width in
    let n = natural c.args.indent in
    let value = chars c.args.value.now in
    let lines : Wrote (render_runs (written_as true) limit n true (runs value)) c.put_indicator.new.self c.write_lines.new.pen
    (Err c.in_err-write_lines.field-0.0) = search rules in
    wrote_exit c.from_residual-in_err-write_lines.ensures
    (wrote_single limit n value
    (wrote_then (rw (c.spaced.ensures, quote_chars) at c.in_ok-put_indicator.ensures.written)
    (wrote_failed single_quote (wrote_quoted true limit n value refl lines))))

pub returns-clause-written : goal.returns-clause-written
returns-clause-written g c =
    let limit = limit_where c.args.allow_breaks c.args.width in
    let n = natural c.args.indent in
    let value = chars c.args.value.now in
    let lines : Wrote (render_runs (written_as true) limit n true (runs value)) c.put_indicator.new.self c.write_lines.new.pen (Ok tt) = search rules in
    wrote_single limit n value
    (wrote_then (rw (c.spaced.ensures, quote_chars) at c.in_ok-put_indicator.ensures.written)
    (wrote_then (wrote_quoted true limit n value refl lines) (rw (c.tight.ensures, quote_chars) at c.put_indicator-2.ensures.written)))

pub returns-clause-reads : goal.returns-clause-reads
returns-clause-reads g c charset allowed =
    let limit = limit_where c.args.allow_breaks c.args.width in
    single_back charset limit (natural c.args.indent) (chars c.args.value.now) c.put_indicator-2.result
    (two_or_more c.args.indent c.requires.indented) allowed (returns-clause-written g c)
