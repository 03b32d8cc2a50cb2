-- The view of the block scalars' own types in contracts.
use Rattle.std.specs.Prelude.{ℤ, Bool, true, false, Result, Ok, Err}
use Rattle.yaml_base.specs.declared.errors.yaml_error_t.{yaml_error_t}
use Rattle.yaml_scalar.specs.declared.block_header.BlockStyle.{BlockStyle}
use Rattle.yaml_scalar.specs.declared.block_header.BlockStyle.TheVariants.{Literal, Folded}

-- true if lines are folded
abbrev pub is_folded : BlockStyle → Bool
is_folded Literal = false
is_folded Folded = true

-- an answer without the open-ended state
abbrev pub without_open_ended : Result ℤ yaml_error_t → Result (Unit {0}) yaml_error_t
without_open_ended (Ok open_ended) = Ok tt
without_open_ended (Err error) = Err error
