use Rattle.yaml_emitter.proofs.Common.{render_indicator, wrote_then, wrote_failed, wrote_exit}
use Rattle.yaml_base.specs.Indicators.{flow_key}
use Rattle.yaml_emitter.proofs.writing.places.write_long_key.Goals as goal

pub returns-in_err-write_entry : goal.returns-in_err-write_entry
returns-in_err-write_entry g c = wrote_exit c.from_residual.ensures (wrote_failed (render_indicator flow_key) c.in_err-write_entry.ensures)

pub returns : goal.returns
returns g c = wrote_then c.in_ok-write_entry.ensures c.write_indicator.ensures
