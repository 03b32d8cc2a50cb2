use Rattle.yaml_emitter.proofs.Common.{render_place, seen_effective, seen_place, Cursor, render_then, render_anchor, seen_name, seen_tag, render_spelled_tag}
use Rattle.yaml_emitter.proofs.Common.{wrote_then, wrote_failed, wrote_as, wrote_exit, arith, common_steps, rules}
use Rattle.yaml_emitter.proofs.pieces.AtomsWritten.{rendered_alone}
use Rattle.yaml_emitter.proofs.writing.nodes.write_lead.Goals as goal

pub returns-in_err-write_place : goal.returns-in_err-write_place
returns-in_err-write_place g c =
    wrote_exit c.from_residual.ensures
    (wrote_failed (λ (cursor : Cursor).
    render_then (render_anchor (seen_name c.args.anchor) cursor) (render_spelled_tag c.args.site.now.settings.now.portable (seen_tag c.args.tag) c.args.bare))
    c.in_err-write_place.ensures)

pub returns-then-not-bare : goal.returns-then-not-bare
returns-then-not-bare g c =
    let site = c.args.site.now in
    let place = render_place (seen_effective site.settings.now) (seen_place site.place) site.simple in
    let next = λ (cursor : Cursor).
    render_then (render_anchor (seen_name c.args.anchor) cursor) (render_spelled_tag site.settings.now.portable (seen_tag c.args.tag) c.args.bare) in
    wrote_as (λ (cursor : Cursor). render_then (place cursor) next)
    (rendered_alone place next c.args.pen.now.cursor (first_of (search rules, grind (arith, common_steps))))
    c.in_ok-write_place.ensures

pub returns : goal.returns
returns g c = wrote_then c.in_ok-write_place.ensures c.write_properties.ensures
