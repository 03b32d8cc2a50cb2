use Rattle.yaml_pen.proofs.Common.{length, [], ◌≡◌, ap, sym, ◌∙◌, nil_from_length, chars-nil, chars, render_text}
use Rattle.yaml_base.proofs.Common.{eqb-true}
use Rattle.yaml_pen.proofs.Composing.{wrote_as}
use Rattle.yaml_pen.proofs.pen.Pen.write_run.Goals as goal

pub returns-then-is_empty : goal.returns-then-is_empty
returns-then-is_empty g c = record {
  written =
      let none : length c.args.text.now ≡ 0 = eqb-true _ 0 (sym c.is_empty.ensures ∙ c.if-is_empty.true) in
      let empty : chars c.args.text.now ≡ [] = ap chars (nil_from_length c.args.text.now none) ∙ chars-nil in
      wrote_as (render_text (chars c.args.text.now)) (ap (λ t. render_text t c.args.self.now.cursor) (sym empty)) c.write_nothing.ensures;
}
