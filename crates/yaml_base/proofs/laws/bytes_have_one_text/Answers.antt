use Rattle.yaml_base.proofs.Decoding.{one_text}
use Rattle.yaml_base.proofs.laws.bytes_have_one_text.Goals as goal

pub returns : goal.returns
returns c = one_text
