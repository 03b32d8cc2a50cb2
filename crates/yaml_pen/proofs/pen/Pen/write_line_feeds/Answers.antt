use Rattle.yaml_pen.proofs.Common.{◌-◌, replicate, arith, line_feed, render_text}
use Rattle.yaml_pen.proofs.{Composing.wrote_exit, Spaces.copies_split}
use Rattle.yaml_pen.proofs.StillToWrite.{still_rest, still_failed, still_part}
use Rattle.yaml_pen.proofs.pen.Pen.write_line_feeds.Goals as goal

pub loop-left-preserved : goal.loop-left-preserved
loop-left-preserved g c =
    still_rest (still_part (replicate 64 line_feed) (replicate (c.loop-left.left - 64) line_feed)
    (copies_split c.loop-left.left 64 line_feed (omega arith)) c.loop-left.invariant) c.in_ok-write_few_line_feeds.ensures.written

pub returns-in_err-write_few_line_feeds : goal.returns-in_err-write_few_line_feeds
returns-in_err-write_few_line_feeds g c = record {
  written =
      wrote_exit c.from_residual-in_err-write_few_line_feeds.ensures
      (still_failed (render_text (replicate (c.loop-left.left - 64) line_feed))
      (still_part (replicate 64 line_feed) (replicate (c.loop-left.left - 64) line_feed)
      (copies_split c.loop-left.left 64 line_feed (omega arith)) c.loop-left.invariant)
      c.in_err-write_few_line_feeds.ensures.written);
}

pub returns : goal.returns
returns g c = record { written = c.loop-left.invariant.writes _ _ c.write_few_line_feeds-2.ensures.written }
