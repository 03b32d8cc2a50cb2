use Rattle.yaml_emitter.proofs.Common.{render_indicator, wrote_then, wrote_failed, wrote_exit}
use Rattle.yaml_base.specs.Indicators.{flow_value}
use Rattle.yaml_emitter.proofs.writing.places.write_long_value.Goals as goal

pub returns-in_err-write_flow_line : goal.returns-in_err-write_flow_line
returns-in_err-write_flow_line g c = wrote_exit c.from_residual.ensures (wrote_failed (render_indicator flow_value) c.in_err-write_flow_line.ensures)

pub returns : goal.returns
returns g c = wrote_then c.in_ok-write_flow_line.ensures c.write_indicator.ensures
