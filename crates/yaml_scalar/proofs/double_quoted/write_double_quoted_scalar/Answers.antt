use Rattle.yaml_scalar.proofs.Common.{None, codes, refl, ◌≡◌, ap, ◌∙◌, list_any, is_break, Indicator, double_inside, render_quote, render_double_quoted}
use Rattle.yaml_scalar.proofs.Common.{w32, to_z-of_z, scalars-chars, wrote_then, wrote_failed, wrote_as, wrote_exit, natural, limit_where}
use Rattle.std.specs.Str.{chars}
use Rattle.yaml_scalar.proofs.{LinesReadBack.two_or_more, QuotedSteps.double_back, QuotedSteps.double-steps}
use Rattle.yaml_scalar.proofs.double_quoted.write_double_quoted_scalar.Goals as goal

quote_chars : chars (codes "\"") ≡ codes "\""
unfolding chars
quote_chars = refl

pub put_indicator-requires-clause-no_break : goal.put_indicator-requires-clause-no_break
put_indicator-requires-clause-no_break g c =
    ap (λ (s : Indicator). list_any is_break s.text) c.spaced.ensures ∙ ap (list_any is_break) quote_chars

pub put_indicator-requires-2-clause-no_break : goal.put_indicator-requires-2-clause-no_break
put_indicator-requires-2-clause-no_break g c =
    ap (λ (s : Indicator). list_any is_break s.text) c.tight.ensures ∙ ap (list_any is_break) quote_chars

pub returns-in_err-put_indicator-clause-written : goal.returns-in_err-put_indicator-clause-written
returns-in_err-put_indicator-clause-written g c =
    let limit = limit_where c.args.allow_breaks c.args.width in
    let n = natural c.args.indent in
    let value = chars c.args.value.now in
    let opening = rw (c.spaced.ensures, quote_chars) at c.in_err-put_indicator.ensures.written in
    wrote_exit c.from_residual.ensures
    (wrote_as (render_double_quoted c.args.unicode limit n value) (double-steps c.args.unicode limit n value c.args.pen.now.cursor)
    (wrote_failed render_quote (wrote_failed (double_inside c.args.unicode limit n None value) opening)))

pub returns-in_err-write_value-clause-written : goal.returns-in_err-write_value-clause-written
returns-in_err-write_value-clause-written g c =
    let limit = limit_where c.args.allow_breaks c.args.width in
    let n = natural c.args.indent in
    let value = chars c.args.value.now in
    let opening = rw (c.spaced.ensures, quote_chars) at c.in_ok-put_indicator.ensures.written in
    let inside = rw (to_z-of_z w32 c.args.indent c.ranges.indent, to_z-of_z w32 c.args.width c.ranges.width) at c.in_err-write_value.ensures in
    wrote_exit c.from_residual-in_err-write_value.ensures
    (wrote_as (render_double_quoted c.args.unicode limit n value) (double-steps c.args.unicode limit n value c.args.pen.now.cursor)
    (wrote_failed render_quote (wrote_then opening inside)))

pub returns-clause-written : goal.returns-clause-written
returns-clause-written g c =
    let limit = limit_where c.args.allow_breaks c.args.width in
    let n = natural c.args.indent in
    let value = chars c.args.value.now in
    let opening = rw (c.spaced.ensures, quote_chars) at c.in_ok-put_indicator.ensures.written in
    let inside = rw (to_z-of_z w32 c.args.indent c.ranges.indent, to_z-of_z w32 c.args.width c.ranges.width) at c.in_ok-write_value.ensures in
    let closing = rw (c.tight.ensures, quote_chars) at c.put_indicator-2.ensures.written in
    wrote_as (render_double_quoted c.args.unicode limit n value) (double-steps c.args.unicode limit n value c.args.pen.now.cursor)
    (wrote_then (wrote_then opening inside) closing)

pub returns-clause-reads : goal.returns-clause-reads
returns-clause-reads g c breaks12 =
    double_back breaks12 c.args.unicode (limit_where c.args.allow_breaks c.args.width) (natural c.args.indent) (chars c.args.value.now)
    c.put_indicator-2.result (two_or_more c.args.indent c.requires.indented) (scalars-chars c.args.value.now c.utf8.value) (returns-clause-written g c)
