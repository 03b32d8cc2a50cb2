use Rattle.yaml_dump.proofs.Common.{ap, arith, IfOk-weaker, styled_decimal}
use Rattle.yaml_dump.proofs.NameLemmas.{printed_name}
use Rattle.yaml_dump.proofs.anchors.numbered_name.Goals as goal

pub returns : goal.returns
returns g c =
    let printed = ap (λ spec. styled_decimal spec c.args.place) c.laid_out.ensures in
    IfOk-weaker c.format.result _ _
    (λ name is. printed_name c.args.place (styled_decimal c.laid_out.result c.args.place) _ (omega (arith, c.ranges.place.fits)) printed is)
    c.format.ensures.ok
