use Rattle.yaml_pen.proofs.Common.{subst, sym, ◌∙◌}
use Rattle.yaml_pen.{proofs.Starting.IsPen-begun, proofs.Starting.page-begun, specs.Page.IsUntouched}
use Rattle.yaml_pen.proofs.pen.Pen.begin.Goals as goal

pub invariant_of-self : goal.invariant_of-self
invariant_of-self g c =
    let untouched = subst IsUntouched (sym c.self.view_is) c.requires.untouched in
    IsPen-begun _ c.self.inside.encoding _ _ _ _ _ _
    (c.self.invariant.bytes ∙ untouched.no_bytes) untouched.no_error c.has_bom-self-inside.ensures c.self.invariant.sound_output c.self.invariant.column

pub returns : goal.returns
returns g c =
    let untouched = subst IsUntouched (sym c.self.view_is) c.requires.untouched in
    page-begun c.args.encoding c.self.inside.encoding c.args.line_break c.self.inside.line_break c.self.inside.outlet c.self.inside.whitespace
    c.self.inside.indention
    c.has_bom-self-inside.result c.self.inside.bom_due c.args.self.now
    (c.self.invariant.bytes ∙ untouched.no_bytes) c.has_bom-self-inside.ensures c.self.view_is
