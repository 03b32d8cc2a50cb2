use Rattle.toml_ordered.proofs.Common.{ap, ◌∙◌, rules, member_count, node_count}
use Rattle.toml_ordered.proofs.Counts.{entered, node_count-Array, node_count-Table, node_count-Tables}
use Rattle.toml_ordered.proofs.tree.Node.exchange.Goals as goal

pub returns-in-Table : goal.returns-in-Table
returns-in-Table c =
    let it = c.in-Table in
    entered member_count node_count it.table.keys.items c.exchange-in-Table.new.self.keys.items _ _ c.args.other _
    (ap node_count it.is ∙ node_count-Table it._origin it.table) (search (rules, node_count-Table)) (search (rules, c.exchange-in-Table.ensures))

pub returns-in-Tables : goal.returns-in-Tables
returns-in-Tables c =
    let it = c.in-Tables in
    let new = c.exchange_table.new in
    let was = ap node_count it.is ∙ node_count-Tables it.done it.last in
    rw (was, node_count-Tables new.done new.last) (rw (it.done-is, it.last-is) at c.exchange_table.ensures)
