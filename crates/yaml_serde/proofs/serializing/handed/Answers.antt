use Rattle.yaml_serde.proofs.Gave.{sends_and}
use Rattle.yaml_serde.proofs.serializing.handed.Goals as goal

pub returns-clause-sends : goal.returns-clause-sends
returns-clause-sends g c =
    let outside = g.G.Given.outside in
    let parts = c.into_parts-writer in
    sends_and outside.form outside.held (g.W.Write.contents parts.result.1.now) outside.start.emitter parts.result.0.now.emitter c.with_value-document.result.1
    parts.result.2 c.and.result c.and.ensures parts.ensures.sends
