use Rattle.yaml_emitter.proofs.Common.{render_anchor, seen_name, seen_effective, seen_place, seen_tag, render_spelled_tag, wrote_then, wrote_failed, wrote_as}
use Rattle.yaml_emitter.proofs.Common.{wrote_exit}
use Rattle.yaml_emitter.proofs.writing.properties.write_properties.Goals as goal

pub returns-in_err-write_atoms : goal.returns-in_err-write_atoms
returns-in_err-write_atoms g c =
    wrote_exit c.from_residual.ensures
    (wrote_failed (render_spelled_tag c.args.site.now.settings.now.portable (seen_tag c.args.tag) c.args.bare)
    (wrote_as (render_anchor (seen_name c.args.anchor))
    (c.anchor_atoms.ensures.rendered (seen_effective c.args.site.now.settings.now) (seen_place c.args.site.now.place) c.args.pen.now.cursor)
    c.in_err-write_atoms.ensures))

pub returns : goal.returns
returns g c =
    let s = seen_effective c.args.site.now.settings.now in
    let place = seen_place c.args.site.now.place in
    wrote_then
    (wrote_as (render_anchor (seen_name c.args.anchor)) (c.anchor_atoms.ensures.rendered s place c.args.pen.now.cursor) c.in_ok-write_atoms.ensures)
    (wrote_as (render_spelled_tag c.args.site.now.settings.now.portable (seen_tag c.args.tag) c.args.bare)
    (c.tag_atoms.ensures.rendered s place c.write_atoms.new.pen.cursor) c.write_atoms-2.ensures)
