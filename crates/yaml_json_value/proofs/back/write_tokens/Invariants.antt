use Rattle.std.proofs.Common.{length}
use Rattle.yaml_value.specs.SeenValues.{seen_value}
use Rattle.yaml_json_value.specs.Rests.{seen_rests}
use Rattle.yaml_json_value.specs.Untyped.{Goes, left_tokens}
use Rattle.std.proofs.Common.{Ok}
use Rattle.yaml_json_value.proofs.back.write_tokens.Given as goal

abbrev pub invariant-loop-rest : goal.invariant-loop-rest
invariant-loop-rest g l = Goes (seen_value l.value) l.fn.writer l.writer (seen_rests l.levels.items) (Ok tt)

abbrev pub decreases-loop-rest : goal.decreases-loop-rest
decreases-loop-rest g l = length (left_tokens (seen_rests l.levels.items))
