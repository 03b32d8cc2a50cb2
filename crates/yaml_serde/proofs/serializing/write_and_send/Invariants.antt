use Rattle.yaml_serde.proofs.Common.{false, form_of}
use Rattle.yaml_serde.proofs.serializing.write_and_send.Given as goal

abbrev pub ghosts-handed : goal.ghosts-handed
ghosts-handed g a =
    record {
      outside = record {
        start = a.writer.now;
        lent = a.writer.ghost_name;
        held = g.W.Write.contents a.sink.now;
        name = a.sink.ghost_name;
        keeps = false;
        form = form_of a.settings.values;
      };
    }
