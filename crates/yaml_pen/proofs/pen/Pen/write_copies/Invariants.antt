use Rattle.yaml_pen.proofs.Common.{replicate, render_text}
use Rattle.yaml_pen.proofs.StillToWrite.{StillToWrite}
use Rattle.yaml_pen.proofs.pen.Pen.write_copies.Given as goal

abbrev pub invariant-loop-left : goal.invariant-loop-left
invariant-loop-left g l =
    StillToWrite (render_text (replicate l.left l.fn.character)) (render_text (replicate l.fn.count l.fn.character)) l.initial.self l.self

abbrev pub decreases-loop-left : goal.decreases-loop-left
decreases-loop-left g l = l.left
