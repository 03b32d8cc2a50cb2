use Rattle.yaml_base.proofs.ReadyLaws.{written_grows}
use Rattle.yaml_base.proofs.laws.ready_events_stay_ready.Goals as goal

pub returns : goal.returns
returns c = written_grows
