-- How deep some documents nest, computed.
use Rattle.yaml_toml.proofs.Common.{◌≡◌, codes, refl, pos, table, node, document_nesting}
use Rattle.toml_ordered.specs.{Data.integer, Data.array, Data.tables, Data.no_items, Data.item, Data.no_nodes, declared.tree.Origin.TheVariants.Closed}

-- nothing
empty : document_nesting no_nodes ≡ 1
empty = refl

-- a = 1
flat : document_nesting (node (codes "a") (integer (pos 1)) no_nodes) ≡ 1
flat = refl

-- a = [[], [[1]]]
arrays : document_nesting
    (node (codes "a") (array (item (array no_items) (item (array (item (array (item (integer (pos 1)) no_items)) no_items)) no_items))) no_nodes) ≡ 4
arrays = refl

-- [[a]], and again with b = {}: the root, the array, its second table, and b
last_table :
    document_nesting (node (codes "a") (tables (item (table Closed no_nodes) no_items) (node (codes "b") (table Closed no_nodes) no_nodes)) no_nodes) ≡ 4
last_table = refl

-- [[a]] with b = {}, and again: it lies in a table that is complete
first_table :
    document_nesting (node (codes "a") (tables (item (table Closed (node (codes "b") (table Closed no_nodes) no_nodes)) no_items) no_nodes) no_nodes) ≡ 4
first_table = refl
