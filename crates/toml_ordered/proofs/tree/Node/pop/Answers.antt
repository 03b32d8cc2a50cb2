use Rattle.toml_ordered.proofs.Common.{ap, ◌∙◌, rules, member_count, node_count}
use Rattle.toml_ordered.proofs.Counts.{left, node_count-Table, node_count-Tables}
use Rattle.toml_ordered.proofs.tree.Node.pop.Goals as goal

pub returns-in-Table : goal.returns-in-Table
returns-in-Table c =
    let it = c.in-Table in
    left member_count node_count it.table.keys.items c.pop-in-Table.new.self.keys.items _ _ _
    (ap node_count it.is ∙ node_count-Table it._origin it.table) (search (rules, node_count-Table)) (search (rules, c.pop-in-Table.ensures))

pub returns-in-Tables : goal.returns-in-Tables
returns-in-Tables c =
    let it = c.in-Tables in
    let new = c.pop_table.new in
    let was = ap node_count it.is ∙ node_count-Tables it.done it.last in
    rw (was, node_count-Tables new.done new.last) (rw (it.done-is, it.last-is) at c.pop_table.ensures)
