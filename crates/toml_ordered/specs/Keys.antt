-- The keys of a table as contracts see them.
use Rattle.std.specs.Prelude.{◌≡◌, ℕ, zero, suc, ◌<◌, true, false, List, [], ◌∷◌, drop, map, bytes_eq, String, string_bytes}
use Rattle.std.specs.BTreeMap.{BTreeMap}
use Rattle.std.specs.declared.alloc.Global.{Global}
use Rattle.toml_ordered.specs.Data.{TomlNode, array, table, tables, counts, push_item, TomlNodes, nodes_from, items_view, node_view}
use Rattle.toml_ordered.specs.declared.keys.LiveKeys.{LiveKeys}
use Rattle.toml_ordered.specs.declared.tree.holder.Holder.{Holder}
use Rattle.toml_ordered.specs.declared.tree.holder.Holder.TheVariants as holder
use Rattle.toml_ordered.specs.declared.tree.Node.{Node as CodeNode}
use Rattle.toml_ordered.specs.declared.tree.Table.{Table as CodeTable}
use Rattle.toml_ordered.specs.declared.tree.Origin.TheVariants.{Closed}

-- keys, each with its value as contracts see it
abbrev pub entries_view : List (String Global × CodeNode × ℕ) → List (String Global × TomlNode × ℕ)
entries_view ms = map (λ m. (m.0, node_view m.1, m.2)) ms

-- of the keys of a table, of a table, and of the keys that are left of one
abbrev pub keys_view : List (String Global × CodeNode × ℕ) → BTreeMap (String Global) ℕ → TomlNodes
keys_view ms index = nodes_from index 0 (entries_view ms)

abbrev pub table_view : CodeTable → TomlNodes
table_view t = keys_view t.keys.items t.index

abbrev pub live_view : LiveKeys → TomlNodes
live_view l = nodes_from l.table.now.index l.at (entries_view (drop l.at l.table.now.keys.items))

-- a value that takes no more
abbrev pub sealed : TomlNode → TomlNode
sealed (table origin keys) = table Closed keys
sealed (tables done last) = array (push_item done (table Closed last))
sealed x = x

-- the value that holds a table of these keys
abbrev pub held_view : Holder → TomlNodes → TomlNode
held_view (holder.Table origin) inner = table origin inner
held_view (holder.Tables done) inner = tables (items_view done.items) inner

-- a key is at this place
abbrev pub HasKey : List ℕ → ℕ → List (String Global × CodeNode × ℕ) → Type 0
HasKey k at [] = ⊥
HasKey k zero (m ∷ ms) = bytes_eq k (string_bytes m.0) ≡ true
HasKey k (suc at) (m ∷ ms) = HasKey k at ms

-- Of a place that has the key: it counts there, and at no place before.
abbrev pub CountsFirst : List ℕ → ℕ → List (String Global × CodeNode × ℕ) → BTreeMap (String Global) ℕ → Type 0
CountsFirst k at ms index = (counts index at k ≡ true) × ((before : ℕ) → before < at → HasKey k before ms → counts index before k ≡ false)

-- the key is at this place, and counts first there
abbrev pub IsFoundAt : List ℕ → ℕ → List (String Global × CodeNode × ℕ) → BTreeMap (String Global) ℕ → Type 0
IsFoundAt k at ms index = CountsFirst k at ms index × HasKey k at ms

-- A key is noted at a place: it counts there, and each other key that counted, and each that didn't, at a place before, is as it was.
abbrev pub IsNoted : List ℕ → ℕ → (old new : BTreeMap (String Global) ℕ) → Type 0
IsNoted k at old new =
    (counts new at k ≡ true)
    × ((l : List ℕ) (before : ℕ) → before < at → (counts old before l ≡ true → bytes_eq k l ≡ false) → counts new before l ≡ counts old before l)
