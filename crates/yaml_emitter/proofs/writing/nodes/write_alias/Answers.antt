use Rattle.yaml_emitter.proofs.Common.{chars, Cursor, render_then, render_alias, render_place, seen_effective, seen_place, wrote_then, wrote_failed, wrote_as}
use Rattle.yaml_emitter.proofs.{Common.wrote_exit, pieces.WritingPieces.wrote_lead}
use Rattle.yaml_emitter.proofs.writing.nodes.write_alias.Goals as goal

pub returns-in_err-write_place : goal.returns-in_err-write_place
returns-in_err-write_place g c =
    let site = c.args.site.now in
    let alias = render_alias (chars c.args.name.now) site.simple in
    λ open_ended. wrote_lead (λ (cursor : Cursor). render_then
    (render_place (seen_effective site.settings.now) (seen_place site.place) site.simple cursor) alias) open_ended
    (wrote_exit c.from_residual.ensures (wrote_failed alias c.in_err-write_place.ensures))

pub returns : goal.returns
returns g c =
    let site = c.args.site.now in
    let s = seen_effective site.settings.now in
    let alias = render_alias (chars c.args.name.now) site.simple in
    λ open_ended. wrote_lead (λ (cursor : Cursor). render_then (render_place s (seen_place site.place) site.simple cursor) alias) open_ended
    (wrote_then c.in_ok-write_place.ensures
    (wrote_as alias (c.alias_atoms.ensures.rendered s (seen_place site.place) c.write_place.new.pen.cursor) c.write_atoms.ensures))
