use Rattle.yaml_serde.proofs.Common.{subst, sym, IsDocument, form_for_values, given_for_values}
use Rattle.yaml_serde.proofs.serializing.to_string.Goals as goal

pub returns : goal.returns
returns g c = subst (IsDocument given_for_values form_for_values) (sym c.text_of.ensures) c.in_ok-bytes.ensures.document
