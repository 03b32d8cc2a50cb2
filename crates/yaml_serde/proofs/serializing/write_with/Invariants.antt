use Rattle.yaml_serde.proofs.Common.{None, true, form_of}
use Rattle.yaml_serde.proofs.serializing.write_with.Given as goal

abbrev pub ghosts-given : goal.ghosts-given
ghosts-given g a =
    let writer = a.writer in
    record { outside = record { start = writer.now; lent = writer.ghost_name; held = None; name = 0; keeps = true; form = form_of a.settings.values } }
