use Rattle.yaml_json.proofs.Common.{refl, arith, start}
use Rattle.yaml_json.proofs.OpenBrackets.{all_bytes, one_byte}
use Rattle.yaml_json.proofs.expecting.front_of.Goals as goal

pub bytes-init : goal.bytes-init
bytes-init c = (
  record { standing = start; is = record { quoting = refl; last = refl; depth = record { count = refl; kind = refl } }; whole = refl },
  omega arith,
)
