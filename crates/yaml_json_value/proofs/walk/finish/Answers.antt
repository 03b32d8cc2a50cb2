use Rattle.yaml_json_value.proofs.Steps.{some_left}
use Rattle.yaml_json_value.proofs.walk.finish.Goals as goal

pub returns-else-is_at_end : goal.returns-else-is_at_end
returns-else-is_at_end g c = some_left c.args.reader.now.ahead (c.is_at_end.ensures.more c.if-is_at_end.false)
