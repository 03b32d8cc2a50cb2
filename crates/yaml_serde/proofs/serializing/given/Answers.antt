use Rattle.yaml_serde.proofs.Gave.{gives_and}
use Rattle.yaml_serde.proofs.serializing.given.Goals as goal

pub returns-clause-gives : goal.returns-clause-gives
returns-clause-gives g c =
    let outside = g.G.Given.outside in
    let parts = c.into_writer-writer in
    gives_and outside.form outside.start parts.result.0.now c.with_value-document.result.1
    parts.result.2 c.and.result c.and.ensures parts.ensures.gives
