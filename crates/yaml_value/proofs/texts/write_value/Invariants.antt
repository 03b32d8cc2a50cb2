use Rattle.yaml_value.proofs.Common.{map, seen_value}
use Rattle.yaml_value.{proofs.TextSteps.Writes, proofs.WalkLemmas.work, specs.Walk.seen_rest}
use Rattle.yaml_value.proofs.texts.write_value.Given as goal

abbrev pub invariant-loop-rest : goal.invariant-loop-rest
invariant-loop-rest g l = Writes l.fn.bytes.items (seen_value l.value) l.bytes.items l.line.items l.opened (map seen_rest l.levels.items)

abbrev pub decreases-loop-rest : goal.decreases-loop-rest
decreases-loop-rest g l = work (map seen_rest l.levels.items)
