use Rattle.yaml_program.proofs.streams.begin_next.Goals as goal

pub returns-in-Ok-clause-begun : goal.returns-in-Ok-clause-begun
returns-in-Ok-clause-begun g c = record {
  begun = c.next_document.new.self;
  passed = c.in_default.ensures.passed c.requires;
  sends = c.in-Ok.ensures.sent;
  kept = c.in-Ok.ensures.kept;
}
