use Rattle.yaml_tool.proofs.PartLemmas.{StillSays}
use Rattle.yaml_tool.proofs.parts.read_script_from.Given as goal

abbrev pub invariant-parts : goal.invariant-parts
invariant-parts g l = StillSays (g.R.Read.remaining l.initial.reader) l.script (g.R.Read.remaining l.reader)

abbrev pub decreases-parts : goal.decreases-parts
decreases-parts g l = l.turns
