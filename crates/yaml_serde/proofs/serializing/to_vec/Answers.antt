use Rattle.yaml_serde.proofs.Common.{IfOk, Form, Settings, IsDocument, form_for_values}
use Rattle.std.proofs.Math.Path.{subst₂}
use Rattle.yaml_serde.proofs.Bytes.{document_ok}
use Rattle.yaml_serde.proofs.serializing.to_vec.Goals as goal

pub returns-clause-document : goal.returns-clause-document
returns-clause-document g c =
    subst₂ (λ (given : Settings) (form : Form). IfOk c.to_vec_with.result (λ bytes. IsDocument given form bytes.items)) c.default.ensures.emitter
    c.default.ensures.form c.to_vec_with.ensures

pub returns-clause-utf8 : goal.returns-clause-utf8
returns-clause-utf8 g c = document_ok form_for_values c.to_vec_with.result (returns-clause-document g c)
