use Rattle.toml_ordered.proofs.Common.{ap, ◌∙◌, table, push_item, items_view, table_view, Closed}
use Rattle.toml_ordered.{proofs.Trees.items_view-push, proofs.Trees.node_view-Table, specs.declared.tree.Table.Table as CodeTable}
use Rattle.toml_ordered.proofs.tables.begin_table.Goals as goal

pub returns-clause-done : goal.returns-clause-done
returns-clause-done c =
    ap items_view c.in_ok-push.ensures.items ∙ items_view-push _ _
    ∙ ap (push_item (items_view c.args.done.now.items))
    (node_view-Table Closed _ ∙ ap (λ (t : CodeTable). table Closed (table_view t)) c.replace-closed.ensures.value)
