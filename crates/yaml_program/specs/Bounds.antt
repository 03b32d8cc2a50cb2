-- The depth to which collections may nest.
use Rattle.std.specs.Prelude.{ℤ, pos, negsuc, Bool, true, false, not, nat_le, ◌&&◌, ◌||◌, Option, None, Some}
use Rattle.yaml_writer.specs.declared.settings.ValueSettings.{ValueSettings}

abbrev pub is_below_zero : Option ℤ → Bool
is_below_zero None = false
is_below_zero (Some (pos n)) = false
is_below_zero (Some (negsuc n)) = true

-- True if no line is indented, since a document is one line.
abbrev pub is_in_one_line : ValueSettings → Bool
is_in_one_line settings = settings.flow && not settings.emitter.canonical && is_below_zero settings.emitter.width

-- True if the depth is at most 10,000 levels, or no line is indented.
abbrev pub is_allowed : ValueSettings → Bool
is_allowed settings = nat_le settings.depth 10000 || is_in_one_line settings
