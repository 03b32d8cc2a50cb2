use Rattle.yaml_read.proofs.Words.{absent}
use Rattle.yaml_read.proofs.cuts.past.Goals as goal

pub returns-in-None : goal.returns-in-None
returns-in-None c = record { cut = absent _ _ c.in-None.ensures.cases; shorter = tt }
