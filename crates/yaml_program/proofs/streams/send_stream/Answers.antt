use Rattle.std.{proofs.Common.ℕ, proofs.Common.List, proofs.Common.subst, specs.Io.KnownBytes.Appends}
use Rattle.yaml_program.proofs.streams.send_stream.Goals as goal

pub returns-in-Ok-write_all-clause-sent : goal.returns-in-Ok-write_all-clause-sent
returns-in-Ok-write_all-clause-sent g c = λ files are.
    let held = g.W.Write.contents c.send_documents-sent.new.sink in record {
      first = c.in-Ok.writer;
      is_new = c.in-Ok.ensures.made;
      last = c.send_documents-sent.new.writer;
      held = held;
      documents = c.in_default.ensures.sent files are;
      rest = (
        c.in-Ok-finish.bytes.items,
        subst (λ (bytes : List ℕ). Appends held (g.W.Write.contents c.write_all.new.self) bytes) c.as_slice.ensures.value c.in-Ok-write_all.ensures.bytes,
        c.in-Ok-finish.ensures.finishes,
      );
    }
