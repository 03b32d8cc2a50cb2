use Rattle.toml_ordered.proofs.Common.{length, sym, ◌∙◌}
use Rattle.toml_ordered.{specs.Reading.expression_view, proofs.Unblamed.expression_neither, proofs.Heads.ends_text, proofs.Heads.line_goes_on}
use Rattle.toml_ordered.proofs.document.line.Goals as goal

pub returns-else-is_line_end : goal.returns-else-is_line_end
returns-else-is_line_end c =
    let end = c.skip_ws-end.result.now in
    ends_text (length end) _ c.not_toml.result _ _ _ c.not_toml.ensures (line_goes_on c.args.s.now (expression_view c.in-Ok.read.0) c.in-Ok.read.1.now end
    c.in-Ok.ensures.0 c.skip_ws-end.ensures.rest (sym c.is_line_end.ensures ∙ c.if-is_line_end.false)) (expression_neither c.args.s.now _ c.in-Ok.ensures.0)
