use Rattle.yaml_serde.proofs.Giving.{sent_part, sent_value}
use Rattle.yaml_serde.proofs.Handing.{not_failed}
use Rattle.yaml_serde.proofs.document.Document.into_parts.Goals as goal

pub returns-in-Failed-clause-sends : goal.returns-in-Failed-clause-sends
returns-in-Failed-clause-sends g c = sent_part _ _ c.promised.ensures.promised c.args.self.stands

pub returns-clause-sends : goal.returns-clause-sends
returns-clause-sends g c = sent_value _ _ (not_failed c.args.self.outlet.handing c.in_default.not-Failed) c.promised.ensures.promised c.args.self.stands
