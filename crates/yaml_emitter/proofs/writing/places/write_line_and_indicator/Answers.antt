use Rattle.yaml_emitter.proofs.Common.{render_indicator, seen_indicator, wrote_then, wrote_failed, wrote_exit}
use Rattle.yaml_emitter.proofs.writing.places.write_line_and_indicator.Goals as goal

pub returns-in_err-write_new_line : goal.returns-in_err-write_new_line
returns-in_err-write_new_line g c =
    wrote_exit c.from_residual.ensures (wrote_failed (render_indicator (seen_indicator c.args.atom)) c.in_err-write_new_line.ensures)

pub returns : goal.returns
returns g c = wrote_then c.in_ok-write_new_line.ensures c.write_indicator.ensures
