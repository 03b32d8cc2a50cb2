-- The values of a document, the keys of each table in the order in which they are first defined.
use Rattle.std.specs.Prelude.{ℕ, ℤ, suc, ◌==◌, ◌||◌, nat_lt, Bool, true, false, List, [], ◌∷◌, map, String, string_bytes, Option, Some, None}
use Rattle.std.specs.BTreeMap.{BTreeMap, get_by_text}
use Rattle.std.specs.declared.alloc.Global.{Global}
use Rattle.toml_datetime.specs.declared.datetime.Datetime.{Datetime}
use Rattle.toml_ordered.specs.declared.tree.Node.{Node as CodeNode, fold-Node}
use Rattle.toml_ordered.specs.declared.tree.Node.TheOpen.{Node-F, Table-F}
use Rattle.toml_ordered.specs.declared.tree.Origin.{Origin}

-- A value. A decimal is a float that is a number, by its characters without underscores; the tables of an array are those that are
-- complete, and the last.
mutual
  pub data TomlNode : Type 0 where
    string : List ℕ → TomlNode
    integer : ℤ → TomlNode
    decimal : List ℕ → TomlNode
    infinity : (negative : Bool) → TomlNode
    not_a_number : TomlNode
    boolean : Bool → TomlNode
    datetime : Datetime → TomlNode
    array : Items → TomlNode
    table : Origin → TomlNodes → TomlNode
    tables : Items → TomlNodes → TomlNode

  pub data Items : Type 0 where
    no_items : Items
    item : TomlNode → Items → Items

  pub data TomlNodes : Type 0 where
    no_nodes : TomlNodes
    node : List ℕ → TomlNode → TomlNodes → TomlNodes

-- some values, and one more at the end
abbrev pub push_item : Items → TomlNode → Items
push_item no_items x = item x no_items
push_item (item y xs) x = item y (push_item xs x)

-- a list of values
abbrev pub items_of : List TomlNode → Items
items_of [] = no_items
items_of (x ∷ xs) = item x (items_of xs)

-- a place that an index tells is this one
abbrev pub is_place : Option ℕ → ℕ → Bool
is_place None at = false
is_place (Some place) at = place == at

-- True of a key at a place if it is one of the first 16 of its table, or the index tells the place.
abbrev pub counts : BTreeMap (String Global) ℕ → ℕ → List ℕ → Bool
counts index at k = nat_lt at 16 || is_place (get_by_text index k) at

-- a key before others, if it counts
abbrev pub kept : Bool → List ℕ → TomlNode → TomlNodes → TomlNodes
kept true k x ns = node k x ns
kept false k x ns = ns

-- the keys that count, from this place on
abbrev pub nodes_from : BTreeMap (String Global) ℕ → ℕ → List (String Global × TomlNode × ℕ) → TomlNodes
nodes_from index at [] = no_nodes
nodes_from index at (m ∷ ms) = kept (counts index at (string_bytes m.0)) (string_bytes m.0) m.1 (nodes_from index (suc at) ms)

-- one level of a table and of a value, given the values inside
abbrev pub table_level : Table-F TomlNode TomlNodes → TomlNodes
table_level t = nodes_from t.index 0 t.keys.items

abbrev pub node_level : Node-F TomlNode TomlNodes → TomlNode
node_level (Node-F.Text s) = string (string_bytes s)
node_level (Node-F.Integer z) = integer z
node_level (Node-F.Decimal s) = decimal (string_bytes s)
node_level (Node-F.Infinity negative) = infinity negative
node_level Node-F.NotANumber = not_a_number
node_level (Node-F.Boolean b) = boolean b
node_level (Node-F.Datetime d) = datetime d
node_level (Node-F.Array v) = array (items_of v.items)
node_level (Node-F.Table origin keys) = table origin keys
node_level (Node-F.Tables done last) = tables (items_of done.items) last

-- a value as contracts see it
abbrev pub node_view : CodeNode → TomlNode
node_view = fold-Node TomlNode TomlNodes node_level table_level

-- of some values
abbrev pub items_view : List CodeNode → Items
items_view xs = items_of (map node_view xs)
