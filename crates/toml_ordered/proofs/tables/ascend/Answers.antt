use Rattle.toml_ordered.proofs.Passing.{filled_before}
use Rattle.toml_ordered.proofs.tables.ascend.Goals as goal

pub tables-preserved : goal.tables-preserved
tables-preserved c whole filled = c.tables.invariant whole (filled_before _ _ _ _ _ _ c.in-Some.ensures.items c.filled_with-here.ensures filled)
