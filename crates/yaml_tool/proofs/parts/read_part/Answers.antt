use Rattle.yaml_tool.proofs.PartLemmas.{goes_on_behind, stays_behind, bad_part}
use Rattle.yaml_tool.proofs.parts.read_part.Goals as goal

pub returns-in-Ok-take_part-clause-goes_on : goal.returns-in-Ok-take_part-clause-goes_on
returns-in-Ok-take_part-clause-goes_on g c =
    goes_on_behind c.args.script.now c.take_part.new.self (g.R.Read.remaining c.args.reader.now) (g.R.Read.remaining c.read.new.self) _
    c.in-Ok.ensures.bytes.0 c.in-Ok-take_part.ensures.taken

pub returns-in-Err-take_part-clause-fault : goal.returns-in-Err-take_part-clause-fault
returns-in-Err-take_part-clause-fault g c =
    bad_part c.args.script.now (g.R.Read.remaining c.args.reader.now) (g.R.Read.remaining c.read.new.self) _ c.in-Err-take_part.error
    c.after_fault.result c.in-Ok.ensures.bytes.0 c.in-Err-take_part.ensures.fault c.after_fault.ensures.fault

pub returns-in-Err-take_part-clause-read : goal.returns-in-Err-take_part-clause-read
returns-in-Err-take_part-clause-read g c = c.after_fault.ensures.read

pub returns-in-Interrupted-clause-goes_on : goal.returns-in-Interrupted-clause-goes_on
returns-in-Interrupted-clause-goes_on g c =
    stays_behind c.args.script.now (g.R.Read.remaining c.args.reader.now) (g.R.Read.remaining c.read.new.self) c.in-Err.ensures.bytes
