use Rattle.yaml_pen.proofs.Common.{Ok, replicate, line_feed, render_text, Wrote}
use Rattle.yaml_pen.proofs.pen.Pen.write_each_line_feed.Given as goal

abbrev pub invariant-loop-written : goal.invariant-loop-written
invariant-loop-written g l = Wrote (render_text (replicate l.written line_feed)) l.initial.self l.self (Ok tt)
