use Rattle.yaml_value.proofs.Common.{Some, ap}
use Rattle.yaml_value.proofs.ContentLemmas.{stream_tells_value}
use Rattle.yaml_value.proofs.laws.equal_bytes_equal_values.Goals as goal

pub returns-clause-contents : goal.returns-clause-contents
returns-clause-contents c first second first_bits second_bits same = stream_tells_value first second first_bits second_bits (ap Some same)
