-- A value beside the one that contracts see.
use Rattle.std.proofs.Common.{◌≡◌, ℕ, List, [], ◌∷◌, ◌++◌, String, Vec, BTreeMap, Global, refl, ap, rules}
use Rattle.toml_ordered.specs.{declared.tree.holder.Holder.Holder, declared.tree.Origin.Origin, Data.item, Data.push_item, Data.table, Data.tables, Data.array}
use Rattle.toml_ordered.specs.{Data.node_view, Data.items_view, Keys.held_view, Keys.table_view, Passing.held}
use Rattle.toml_ordered.specs.declared.tree.holder.Holder.TheVariants as holder
use Rattle.toml_ordered.specs.declared.tree.Node.{Node as CodeNode, Tables, Table, Array, the_lemmas}
use Rattle.toml_ordered.specs.declared.tree.Table.{Table as CodeTable}

abbrev pub Entry : Type 0
Entry = String Global × CodeNode × ℕ

abbrev pub Places : Type 0
Places = BTreeMap (String Global) ℕ

-- one more item at the end
pub items_view-push : (xs : List CodeNode) (x : CodeNode) → items_view (xs ++ x ∷ []) ≡ push_item (items_view xs) (node_view x)
items_view-push [] x = refl
items_view-push (y ∷ xs) x = ap (item (node_view y)) (items_view-push xs x)

pub node_view-Tables : (done : Vec CodeNode Global) (last : CodeTable) → node_view (Tables done last) ≡ tables (items_view done.items) (table_view last)
node_view-Tables done last = search (rules, the_lemmas)

pub node_view-Table : (origin : Origin) (t : CodeTable) → node_view (Table origin t) ≡ table origin (table_view t)
node_view-Table origin t = search (rules, the_lemmas)

pub node_view-Array : (items : Vec CodeNode Global) → node_view (Array items) ≡ array (items_view items.items)
node_view-Array items = search (rules, the_lemmas)

pub held_is : (h : Holder) (t : CodeTable) → node_view (held h t) ≡ held_view h (table_view t)
held_is (holder.Table origin) t = node_view-Table origin t
held_is (holder.Tables done) t = node_view-Tables done t
