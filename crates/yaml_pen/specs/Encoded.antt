-- Code units as bytes, in either order.
use Rattle.std.specs.Prelude.{ℕ, List}
use Rattle.yaml_base.specs.Encoding.{upper_first, lower_first}
use Rattle.yaml_pen.specs.declared.encoded.ByteOrder.{ByteOrder}
use Rattle.yaml_pen.specs.declared.encoded.ByteOrder.TheVariants.{LowerFirst, UpperFirst}

-- code units as bytes, in either order
abbrev pub ordered_bytes : ByteOrder → List ℕ → List ℕ
ordered_bytes LowerFirst units = lower_first units
ordered_bytes UpperFirst units = upper_first units
