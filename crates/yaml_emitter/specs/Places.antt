-- Places and open collections, as the definitions see them.
use Rattle.std.specs.Prelude.{Bool, true, false}
use Rattle.yaml_base.specs.Layout.{Role, as_root, as_item, as_key, as_value, Place}
use Rattle.yaml_base.specs.Steps.{Frame}
use Rattle.yaml_emitter.specs.declared.place.Role as role
use Rattle.yaml_emitter.specs.declared.place.Role.TheVariants.{Root, Item, Key, Value}
use Rattle.yaml_base.specs.declared.kinds.CollectionKind.{CollectionKind}
use Rattle.yaml_base.specs.declared.kinds.CollectionKind.TheVariants.{Sequence, Mapping}
use Rattle.yaml_emitter.specs.declared.place.Place as place
use Rattle.yaml_emitter.specs.declared.place.Frame as frame

-- true for a mapping, false for a sequence
abbrev pub is_mapping : CollectionKind → Bool
is_mapping Sequence = false
is_mapping Mapping = true

-- an entry's role
abbrev pub seen_role : role.Role → Role
seen_role Root = as_root
seen_role (Item first) = as_item first
seen_role (Key first) = as_key first
seen_role (Value simple) = as_value simple

-- a node's place
abbrev pub seen_place : place.Place → Place
seen_place here = record { in_flow = here.in_flow; role = seen_role here.role; column = here.column }

-- an open collection
abbrev pub seen_frame : frame.Frame → Frame
seen_frame open_here = record { place = seen_place open_here.place; simple = open_here.simple }
