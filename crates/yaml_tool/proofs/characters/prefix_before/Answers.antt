use Rattle.yaml_tool.proofs.CharacterLemmas.{cut_before_end}
use Rattle.yaml_tool.proofs.characters.prefix_before.Goals as goal

pub range-requires-clause-end_boundary : goal.range-requires-clause-end_boundary
range-requires-clause-end_boundary c = cut_before_end c.args.text.now c.args.end.now c.requires c.utf8.end
