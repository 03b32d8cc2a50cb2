use Rattle.yaml_toml.proofs.Numbered.{scalars_numbers}
use Rattle.yaml_toml.proofs.laws.floats_are_numbers.Goals as goal

pub returns : goal.returns
returns c = scalars_numbers
