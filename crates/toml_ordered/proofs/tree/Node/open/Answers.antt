use Rattle.toml_ordered.proofs.Passing.{opened}
use Rattle.toml_ordered.proofs.tree.Node.open.Goals as goal

pub returns-in-Some : goal.returns-in-Some
returns-in-Some c =
    let it = c.in-Table in
    opened c.args.way it.origin c.in-Some.after it.table c.args.self it.is c.in-Some.ensures
