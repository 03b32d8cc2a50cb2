use Rattle.toml_ordered.specs.Data.{node_view}
use Rattle.yaml_toml.proofs.Stepping.{step_begun, step_scalar}
use Rattle.yaml_toml.proofs.walk.write_node.Goals as goal

pub write_scalar-requires-clause-scalar : goal.write_scalar-requires-clause-scalar
write_scalar-requires-clause-scalar g c = c.in-None.ensures

pub returns-in-Some : goal.returns-in-Some
returns-in-Some g c =
    let begun = c.in-Some.ensures in
    step_begun _ _ _ _ _ _ _ _ _ begun.1 c.enter.ensures

pub returns-in-None : goal.returns-in-None
returns-in-None g c =
    step_scalar _ _ _ _ _ _ _ c.stop_of.ensures c.write_scalar.ensures
