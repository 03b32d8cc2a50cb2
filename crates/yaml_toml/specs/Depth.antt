-- How deep arrays and tables nest in a document.
use Rattle.std.specs.Prelude.{◌≡◌, ℕ, suc, max, ◌<◌, ◌≤◌, List, Some}
use Rattle.toml_ordered.specs.Data.{TomlNode, array, table, tables, Items, no_items, item, TomlNodes, no_nodes, node}
use Rattle.toml_ordered.specs.Grammar.{ordered_document}
use Rattle.yaml_toml.specs.declared.error.TomlError.{TomlError}
use Rattle.yaml_toml.specs.declared.error.TomlError.TheVariants as errors

-- the number of arrays and tables in one another in a value, itself among them; the tables of an array are in it
abbrev mutual
  pub toml_nesting : TomlNode → ℕ
  toml_nesting (array items) = suc (items_nesting items)
  toml_nesting (table origin keys) = suc (keys_nesting keys)
  toml_nesting (tables done last) = suc (max (items_nesting done) (suc (keys_nesting last)))
  toml_nesting x = 0

  pub items_nesting : Items → ℕ
  items_nesting no_items = 0
  items_nesting (item x items) = max (toml_nesting x) (items_nesting items)

  pub keys_nesting : TomlNodes → ℕ
  keys_nesting no_nodes = 0
  keys_nesting (node key x keys) = max (toml_nesting x) (keys_nesting keys)

-- the same of a document, whose root table counts
abbrev pub document_nesting : TomlNodes → ℕ
document_nesting root = suc (keys_nesting root)

-- the text is a document in which they nest no deeper than this
pub record NestsWithin (depth : ℕ) (text : List ℕ) : Type 0 where
  pub root : TomlNodes
  pub read : ordered_document text ≡ Some root
  pub within : document_nesting root ≤ depth

-- the text is a document in which they nest deeper
pub record NestsDeeper (depth : ℕ) (text : List ℕ) : Type 0 where
  pub root : TomlNodes
  pub read : ordered_document text ≡ Some root
  pub deeper : depth < document_nesting root

-- the statement of an error on the depth: `TooDeep` comes only of a document that nests deeper than this
abbrev pub ExplainsDepth : (depth : ℕ) → (text : List ℕ) → TomlError → Type 0
ExplainsDepth depth text errors.TooDeep = NestsDeeper depth text
ExplainsDepth depth text _ = Unit {0}
