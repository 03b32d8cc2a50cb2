use Rattle.yaml_emitter.proofs.Common.{false, Cursor, render_then, collection_tag, render_properties, render_place, seen_name, seen_collection}
use Rattle.yaml_emitter.proofs.Common.{seen_effective, seen_place, seen_tag, wrote_as}
use Rattle.yaml_emitter.proofs.pieces.{AtomsWritten.lead-spelled, WritingPieces.wrote_lead}
use Rattle.yaml_emitter.proofs.writing.nodes.write_collection_start.Goals as goal

pub returns-clause-written : goal.returns-clause-written
returns-clause-written g c = λ directives style open_ended spelled.
    let site = c.args.site.now in
    let s = seen_effective site.settings.now in
    let anchor = seen_name c.args.content.now.anchor in
    let tag = collection_tag s.canonical (seen_collection c.args.content.now style) in
    let lead = λ (cursor : Cursor).
    render_then (render_place s (seen_place site.place) site.simple cursor) (render_properties s.portable directives anchor tag false) in
    wrote_lead lead open_ended
    (wrote_as lead (lead-spelled s directives (seen_place site.place) site.simple anchor tag (seen_tag c.args.tag) false c.args.pen.now.cursor spelled)
    c.write_lead.ensures)
