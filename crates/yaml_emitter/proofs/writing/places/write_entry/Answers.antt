use Rattle.yaml_emitter.proofs.Common.{flow_break, seen_effective, wrote_then, wrote_failed, wrote_exit}
use Rattle.yaml_emitter.proofs.writing.places.write_entry.Goals as goal

pub returns-in_err-write_indicator : goal.returns-in_err-write_indicator
returns-in_err-write_indicator g c =
    wrote_exit c.from_residual.ensures (wrote_failed (flow_break (seen_effective c.args.settings.now) c.args.place.now.column) c.in_err-write_indicator.ensures)

pub returns : goal.returns
returns g c = wrote_then c.in_ok-write_indicator.ensures c.write_flow_line.ensures
