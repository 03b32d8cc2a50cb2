use Rattle.yaml_toml.proofs.Several.{documents_read}
use Rattle.yaml_toml.proofs.laws.documents_are_read.Goals as goal

pub returns : goal.returns
returns c = documents_read
