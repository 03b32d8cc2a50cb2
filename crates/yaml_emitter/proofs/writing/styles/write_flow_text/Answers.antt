use Rattle.yaml_emitter.proofs.Common.{arith, common_steps, rules}
use Rattle.yaml_emitter.proofs.pieces.WritingScalars.{wrote_plain}
use Rattle.yaml_emitter.proofs.writing.styles.write_flow_text.Goals as goal

pub returns-in-YAML_PLAIN_SCALAR_STYLE : goal.returns-in-YAML_PLAIN_SCALAR_STYLE
returns-in-YAML_PLAIN_SCALAR_STYLE g c = first_of (search (rules, wrote_plain), grind (arith, common_steps, wrote_plain))
