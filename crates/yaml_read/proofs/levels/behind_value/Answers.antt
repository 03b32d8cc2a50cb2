use Rattle.yaml_read.proofs.Common.{Err, subst, sym, seen_level, Level, BehindRead}
use Rattle.yaml_read.proofs.levels.behind_value.Goals as goal

pub returns-in-Err : goal.returns-in-Err
returns-in-Err g c =
    subst (λ (l : Level g.row.A.Denot). BehindRead c.args.depth (seen_level l) c.args.text.now (Err c.in-Err.stop)) (sym c.in-PairsAndKey.is) c.in-Err.ensures
