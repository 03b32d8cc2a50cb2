use Rattle.yaml_writer.proofs.Common.{surely_text}
use Rattle.yaml_writer.proofs.laws.surely_text_is_text.Goals as goal

pub returns : goal.returns
returns c = surely_text
