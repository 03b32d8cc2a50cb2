-- The places at which the keys of a table were first defined. A place is the number of bytes of the text that were left there.
use Rattle.std.specs.Prelude.{◌≡◌, ◌⊎◌, ℕ, List, [], ◌∷◌, ◌++◌, map, String, string_bytes, Option, Some, None}
use Rattle.std.specs.declared.alloc.Global.{Global}
use Rattle.toml_ordered.specs.Data.{TomlNode, table, tables, TomlNodes, no_nodes}
use Rattle.toml_ordered.specs.Tables.{Definition, LetsNoPass, get_node, redefine}
use Rattle.toml_ordered.specs.declared.tree.Node.{Node as CodeNode, fold-Node}
use Rattle.toml_ordered.specs.declared.tree.Node.TheOpen.{Node-F, Table-F}
use Rattle.toml_ordered.specs.declared.tree.Table.{Table}
use Rattle.toml_ordered.specs.declared.tree.Origin.TheVariants.{Closed}
use Rattle.toml_ordered.specs.declared.route.Way.{Way}
use Rattle.toml_ordered.specs.declared.fault.Fault.{Fault}
use Rattle.toml_ordered.specs.declared.fault.Fault.TheVariants as fault

-- each key of a table with its place, and the keys inside of it
pub data Firsts : Type 0 where
  no_firsts : Firsts
  first_of : (key : List ℕ) → (left : ℕ) → (inner others : Firsts) → Firsts

-- the key in the table at the end of the path was first defined here
abbrev pub HasFirst : Firsts → (path : List (List ℕ)) → (key : List ℕ) → (left : ℕ) → Type 0
HasFirst no_firsts path key left = ⊥
HasFirst (first_of k l inner others) [] key left = ((key ≡ k) × (left ≡ l)) ⊎ HasFirst others [] key left
HasFirst (first_of k l inner others) (step ∷ path) key left = ((step ≡ k) × HasFirst inner path key left) ⊎ HasFirst others (step ∷ path) key left

-- keys with the keys inside of them, and their places
abbrev pub firsts_of : List (String Global × Firsts × ℕ) → Firsts
firsts_of [] = no_firsts
firsts_of (m ∷ ms) = first_of (string_bytes m.0) m.2 m.1 (firsts_of ms)

-- One level of a table and of a value, given the keys inside. A value that takes no more has none: no key is defined in it again.
abbrev pub table_firsts_level : Table-F Firsts Firsts → Firsts
table_firsts_level t = firsts_of t.keys.items

abbrev pub firsts_level : Node-F Firsts Firsts → Firsts
firsts_level (Node-F.Table Closed keys) = no_firsts
firsts_level (Node-F.Table origin keys) = keys
firsts_level (Node-F.Tables done last) = last
firsts_level other = no_firsts

-- the keys inside of a value, those of a list, and those of a table
abbrev pub node_firsts : CodeNode → Firsts
node_firsts = fold-Node Firsts Firsts firsts_level table_firsts_level

abbrev pub keys_firsts : List (String Global × CodeNode × ℕ) → Firsts
keys_firsts ms = firsts_of (map (λ m. (m.0, node_firsts m.1, m.2)) ms)

abbrev pub table_firsts : Table → Firsts
table_firsts t = keys_firsts t.keys.items

-- the keys of a table, or of the last of an array of tables
abbrev pub keys_in : Option TomlNode → TomlNodes
keys_in (Some (table origin keys)) = keys
keys_in (Some (tables done last)) = last
keys_in other = no_nodes

-- the keys of the table at the end of a path
abbrev pub keys_at : List (List ℕ) → TomlNodes → TomlNodes
keys_at [] keys = keys
keys_at (step ∷ path) keys = keys_at path (keys_in (get_node step keys))

-- the whole path goes along the path to the key, and maybe on
abbrev pub PassesKey : (whole path : List (List ℕ)) → (key : List ℕ) → Type 0
PassesKey whole path key = (more : List (List ℕ)) × (whole ≡ path ++ key ∷ more)

-- True if the key, in the table at the end of the path, takes no more of a definition: a step of the definition doesn't pass it, or it is
-- the definition's own key and isn't redefined so.
abbrev pub IsShutAt : List (Way × List ℕ) → (last : List ℕ) → Definition → TomlNodes → (path : List (List ℕ)) → (key : List ℕ) → Type 0
IsShutAt [] last what keys [] key = (key ≡ last) × (x : TomlNode) × (get_node key keys ≡ Some x) × (redefine what x ≡ None)
IsShutAt [] last what keys (k ∷ path) key = ⊥
IsShutAt (step ∷ steps) last what keys [] key = (key ≡ step.1) × (x : TomlNode) × (get_node key keys ≡ Some x) × LetsNoPass step.0 x
IsShutAt (step ∷ steps) last what keys (k ∷ path) key = (k ≡ step.1) × IsShutAt steps last what (keys_in (get_node k keys)) path key

-- True if a definition along the whole path is the first to define the key: the key was missing.
abbrev pub IsNewKey : (whole : List (List ℕ)) → (keys : TomlNodes) → (path : List (List ℕ)) → (key : List ℕ) → Type 0
IsNewKey whole keys path key = PassesKey whole path key × (get_node key (keys_at path keys) ≡ None)

-- After a definition along the whole path, here: each first definition is one from before, or is new and is here.
abbrev pub AddsFirsts : (whole : List (List ℕ)) → (here : ℕ) → (keys : TomlNodes) → (old new : Firsts) → Type 0
AddsFirsts whole here keys old new =
    (path : List (List ℕ)) (key : List ℕ) (left : ℕ) → HasFirst new path key left
    → HasFirst old path key left ⊎ ((left ≡ here) × IsNewKey whole keys path key)

-- True if no key is defined again so, and nothing nests too deep so.
abbrev pub NeitherTells : (again : List ℕ → (first second : ℕ) → Type 0) → (deep : (left : ℕ) → Type 0) → Type 0
NeitherTells again deep = ((key : List ℕ) (first second : ℕ) → again key first second → ⊥) × ((left : ℕ) → deep left → ⊥)

-- The statement of a fault: `again` of a key that is defined again, `deep` of a value that nests too deep or a key of too many parts; neither of
-- any other text that isn't TOML.
abbrev pub FaultTells : Fault → (again : List ℕ → (first second : ℕ) → Type 0) → (deep : (left : ℕ) → Type 0) → Type 0
FaultTells fault.Memory again deep = Unit {0}
FaultTells (fault.NotToml left why) again deep = NeitherTells again deep
FaultTells (fault.TooDeep left) again deep = deep left
FaultTells (fault.DefinedAgain key name first second) again deep = again (string_bytes key) first second

-- the statement of a fault that a key is defined again, unless an allocation failed
abbrev pub IfAgain : Fault → (List ℕ → (first second : ℕ) → Type 0) → Type 0
IfAgain fault.Memory holds = Unit {0}
IfAgain (fault.NotToml left why) holds = ⊥
IfAgain (fault.TooDeep left) holds = ⊥
IfAgain (fault.DefinedAgain key name first second) holds = holds (string_bytes key) first second

-- True of a fault that is neither that a key is defined again, nor that something nests too deep.
abbrev pub IsOther : Fault → Type 0
IsOther fault.Memory = Unit {0}
IsOther (fault.NotToml left why) = Unit {0}
IsOther found = ⊥

-- True of a fault that a definition along the whole path, here, meets a key that was first defined before and is shut.
abbrev pub IsAgain : (whole : List (List ℕ)) → (here : ℕ) → (old : Firsts) → (Shut : (path : List (List ℕ)) → (key : List ℕ) → Type 0) → Fault → Type 0
IsAgain whole here old Shut found =
    IfAgain found
    (λ key first second. (second ≡ here) × (path : List (List ℕ)) × HasFirst old path key first × PassesKey whole path key × Shut path key)
