use Rattle.yaml_serde.proofs.Common.{OnOk, Form, Settings, AppendsDocument}
use Rattle.std.proofs.Math.Path.{subst₂}
use Rattle.std.specs.Prelude.{OnErr}
use Rattle.yaml_serde.specs.Documents.{AppendsBeginning}
use Rattle.yaml_serde.proofs.serializing.to_writer.Goals as goal

pub returns-clause-written : goal.returns-clause-written
returns-clause-written g c =
    let before = g.W.Write.contents c.args.sink.now in
    let after = g.W.Write.contents c.to_writer_with.new.sink in
    subst₂ (λ (given : Settings) (form : Form). OnOk c.to_writer_with.result (AppendsDocument given form before after))
    c.default.ensures.emitter c.default.ensures.form c.to_writer_with.ensures.written

pub returns-clause-first : goal.returns-clause-first
returns-clause-first g c =
    let before = g.W.Write.contents c.args.sink.now in
    let after = g.W.Write.contents c.to_writer_with.new.sink in
    subst₂ (λ (given : Settings) (form : Form). OnErr c.to_writer_with.result (AppendsBeginning given form before after))
    c.default.ensures.emitter c.default.ensures.form c.to_writer_with.ensures.first
