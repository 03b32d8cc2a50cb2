use Rattle.yaml_pen.proofs.Common.{replicate, render_text, line_feed}
use Rattle.yaml_pen.proofs.StillToWrite.{StillToWrite}
use Rattle.yaml_pen.proofs.pen.Pen.write_line_feeds.Given as goal

abbrev pub invariant-loop-left : goal.invariant-loop-left
invariant-loop-left g l = StillToWrite (render_text (replicate l.left line_feed)) (render_text (replicate l.fn.count line_feed)) l.initial.self l.self

abbrev pub decreases-loop-left : goal.decreases-loop-left
decreases-loop-left g l = l.left
