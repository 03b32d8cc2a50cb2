-- The column past which a scalar is folded, by the arguments of its writer.
use Rattle.std.specs.Prelude.{ℕ, ℤ, pos, negsuc, Bool, Option, None, Some, ◌==◌, if◌then◌else◌}
use Rattle.yaml_base.specs.Settings.{largest_i32}

-- the largest `i32` means no limit; a negative width counts as 0
abbrev pub limit_of : (width : ℤ) → Option ℕ
limit_of (pos width) = if width == largest_i32 then None else Some width
limit_of (negsuc _) = Some 0

-- if folds aren't allowed, there is no limit either
abbrev pub limit_where : (allow_breaks : Bool) (width : ℤ) → Option ℕ
limit_where allow_breaks width = if allow_breaks then limit_of width else None
