use Rattle.toml_ordered.proofs.Common.{◌≡◌, Some, Vec, Global, sym, ap, ◌∙◌, false≢true, TomlNode, Items, TomlNodes, node_view, table, tables, push_item}
use Rattle.toml_ordered.proofs.Common.{items_view, keys_view, table_view, definition_view, array_table, redefine, Closed}
use Rattle.std.proofs.Common.{ap₂}
use Rattle.toml_ordered.proofs.{Trees.node_view-Tables, tables.redefine.Goals.in-Tables-matches, tables.redefine.Goals.in_default-matches-2}
use Rattle.toml_ordered.specs.{declared.tables.Definition.TheVariants.Tables, declared.tree.Node.Node as CodeNode, declared.tree.Table.Table as CodeTable}
use Rattle.toml_ordered.proofs.tables.redefine.Goals as goal

pub returns-in_ok-begin_table-in-Tables-clause-value : goal.returns-in_ok-begin_table-in-Tables-clause-value
returns-in_ok-begin_table-in-Tables-clause-value c =
    let it = c.in-Tables in
    let begun = c.in_ok-begin_table-in-Tables.ensures in
    let new = c.begin_table.new in
    let is : c.args.what.now ≡ Tables = elim c.match-matches-2.branch [
      | in-Tables-matches w ↦ w.in-Tables-matches.is
      | in_default-matches-2 w ↦ absurd (false≢true (sym w.matches-is ∙ c.if-matches-2.true))
    ] in
    ap (λ what. redefine (definition_view what) (node_view c.args.member.now.1)) is
    ∙ ap (λ x. redefine array_table (node_view x)) it.is ∙ ap (redefine array_table) (node_view-Tables it.done it.last)
    ∙ ap (λ (x : TomlNode). Some x) (sym (node_view-Tables new.done new.last
    ∙ ap₂ (λ (xs : Items) (ns : TomlNodes). tables xs ns) (begun.done
    ∙ ap₂ (λ (done : Vec CodeNode Global) (t : CodeTable). push_item (items_view done.items) (table Closed (table_view t))) it.done-is it.last-is)
    (ap (λ es. keys_view es new.last.index) begun.last)))
