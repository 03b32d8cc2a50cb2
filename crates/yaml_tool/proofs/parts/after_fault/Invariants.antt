use Rattle.yaml_tool.proofs.parts.after_fault.Given as goal

abbrev pub decreases-loop-turns : goal.decreases-loop-turns
decreases-loop-turns g l = l.turns
