-- Events within a document, and the stage at which they come.
use Rattle.std.specs.Prelude.{Bool, true, false, None, not, ◌&&◌}
use Rattle.yaml_base.specs.Characters.{Text}
use Rattle.yaml_base.specs.Settings.{Effective}
use Rattle.yaml_base.specs.Event.{Collection, Event, Scalar, ScalarStyle, scalar, sequence_start, sequence_end, mapping_start, mapping_end}
use Rattle.yaml_base.specs.Layout.{Brackets, square, curly, Role, as_item, as_key, is_undented}
use Rattle.yaml_base.specs.Steps.{Stage, at_node}

-- true within a document
abbrev pub is_at_node : Stage → Bool
is_at_node (at_node directives frames) = true
is_at_node _ = false

-- true for a scalar
abbrev pub is_scalar : Event → Bool
is_scalar (scalar content) = true
is_scalar _ = false

-- a scalar without anchor and tag, which needs no tag in any style
abbrev pub bare_scalar : Text → ScalarStyle → Scalar
bare_scalar value style =
    record { anchor = None; tag = None; value = value; plain_implicit = true; quoted_implicit = true; style = style }

-- the start of a mapping, or of a sequence
abbrev pub start_of_kind : (mapping : Bool) → Collection → Event
start_of_kind true start = mapping_start start
start_of_kind false start = sequence_start start

-- the end of a mapping, or of a sequence
abbrev pub end_of_kind : (mapping : Bool) → Event
end_of_kind true = mapping_end
end_of_kind false = sequence_end

-- the brackets of a mapping or a sequence
abbrev pub brackets_of : (mapping : Bool) → Brackets
brackets_of true = curly
brackets_of false = square

-- the role of the first entry of a mapping, or of a sequence
abbrev pub first_entry : (mapping : Bool) → Role
first_entry true = as_key true
first_entry false = as_item true

-- true if the collection that starts is a sequence that is undented
abbrev pub starts_undented : Effective → (mapping : Bool) → Role → Bool
starts_undented s mapping role = not mapping && is_undented s role
