use Rattle.yaml_emitter.proofs.Common.{render_place, seen_effective, seen_place, seen_role, wrote_as, ◌∙◌, ap, render_flow_place}
use Rattle.yaml_emitter.proofs.pieces.AtomsWritten.{flow_here, flow_at_line}
use Rattle.yaml_emitter.specs.declared.place.Role as kinds
use Rattle.yaml_emitter.proofs.writing.places.write_place.Goals as goal

pub returns-then-site : goal.returns-then-site
returns-then-site g c =
    let site = c.args.site.now in
    let s = seen_effective site.settings.now in
    let cursor = c.args.pen.now.cursor in
    wrote_as (render_place s (seen_place site.place) site.simple)
    (ap (λ (r : kinds.Role). render_flow_place s (seen_role r) site.simple c.at_line-place.result.column cursor) c.at_line-place.ensures.role
    ∙ flow_at_line s (seen_role site.place.role) site.simple c.at_line-place.result.column site.place.column cursor c.at_line-place.ensures.column
    ∙ flow_here s (seen_place site.place) site.simple cursor c.if-site.true)
    c.write_flow_place.ensures
