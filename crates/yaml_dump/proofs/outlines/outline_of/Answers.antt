use Rattle.yaml_dump.proofs.Common.{length, graph_of}
use Rattle.yaml_dump.proofs.EventLemmas.{named_numbered}
use Rattle.yaml_dump.proofs.outlines.outline_of.Goals as goal

pub returns : goal.returns
returns g c = record {
  begun = c.in-Ok-begun_events.ensures;
  walked = c.in-Ok.ensures.walked;
  numbered = named_numbered (length (graph_of c.args.document.now).nodes) c.in-Ok.walk.items c.in-Ok.ensures.named;
  end_implicit = c.end_implicit.ensures;
}
