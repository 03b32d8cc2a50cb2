use Rattle.yaml_value.proofs.Common.{seen_value}
use Rattle.yaml_value.proofs.WritingLemmas.{below_limit, writes_value}
use Rattle.yaml_value.proofs.writing.written.Goals as goal

pub returns-in-Ok-clause-written : goal.returns-in-Ok-clause-written
returns-in-Ok-clause-written g c =
    writes_value (seen_value c.args.value.now) c.in-Ok.bytes.items c.requires c.in-Ok.ensures.holds (below_limit c.in-Ok.bytes) c.in-Ok.ensures.bytes
