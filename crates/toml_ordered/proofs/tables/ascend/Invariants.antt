use Rattle.toml_ordered.proofs.Common.{length, reverse, AreFilled}
use Rattle.toml_ordered.specs.declared.tree.Table.{Table as CodeTable}
use Rattle.toml_ordered.proofs.tables.ascend.Given as goal

-- a table that fills those that are left fills all of them
abbrev pub invariant-tables : goal.invariant-tables
invariant-tables l = (whole : CodeTable) → AreFilled (reverse l.outer.items) l.here whole → AreFilled (reverse l.fn.passed.items) l.fn.last whole

abbrev pub decreases-tables : goal.decreases-tables
decreases-tables l = length l.outer.items
