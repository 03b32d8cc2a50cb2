-- The bytes of an escape.
use Rattle.std.specs.List.{flat_map}
use Rattle.std.specs.Prelude.{ℕ, Bool, true, Some, List, ◌&&◌, not, nat_lt}
use Rattle.yaml_base.specs.Characters.{Text, is_break}
use Rattle.yaml_base.specs.Encoding.{encode}
use Rattle.yaml_base.specs.Settings.{utf8}
use Rattle.yaml_base.specs.scalars.DoubleQuoted.{character_text}
use Rattle.yaml_scalar.specs.declared.escapes.Escape.{Escape}
use Rattle.yaml_scalar.specs.declared.escapes.Escape.TheVariants.{Letter, Two, Four, Eight}

-- the bytes of an escape
abbrev pub escape_bytes : Escape → List ℕ
escape_bytes (Letter bytes) = bytes
escape_bytes (Two bytes) = bytes
escape_bytes (Four bytes) = bytes
escape_bytes (Eight bytes) = bytes

-- true for a byte of ASCII that is no break
abbrev pub is_unbroken_ascii : ℕ → Bool
is_unbroken_ascii b = nat_lt b 128 && not (is_break b)

-- the bytes in UTF-8 of a text's characters, each as itself or as its escape
abbrev pub inside_bytes : Text → List ℕ
inside_bytes text = encode (Some utf8) (flat_map (character_text true) text)
