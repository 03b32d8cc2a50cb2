use Rattle.yaml_emitter.proofs.Common.{seen_effective, seen_place, wrote_then, wrote_failed}
use Rattle.yaml_emitter.specs.{WrittenAtoms.render_atom, declared.writing.atoms.Atom.Atom}
use Rattle.yaml_emitter.proofs.writing.atoms.write_atoms.Goals as goal

pub returns-in-Err : goal.returns-in-Err
returns-in-Err g c =
    let render = λ (atom : Atom). render_atom (seen_effective c.args.site.now.settings.now) (seen_place c.args.site.now.place) atom in
    wrote_failed (render c.args.atoms.2) (wrote_failed (render c.args.atoms.1) c.in-Err.ensures)

pub returns-in-Err-write_atom : goal.returns-in-Err-write_atom
returns-in-Err-write_atom g c =
    wrote_failed (render_atom (seen_effective c.args.site.now.settings.now) (seen_place c.args.site.now.place) c.args.atoms.2)
    (wrote_then c.in-Ok.ensures c.in-Err-write_atom.ensures)

pub returns-in-Ok-write_atom : goal.returns-in-Ok-write_atom
returns-in-Ok-write_atom g c = wrote_then (wrote_then c.in-Ok.ensures c.in-Ok-write_atom.ensures) c.write_atom-in-Ok-write_atom.ensures
