use Rattle.yaml_pen.proofs.Common.{ℕ, ◌-◌, replicate, List, ap, subst, ◌∙◌, take-replicate, arith, list_any, is_break, render_text, Wrote}
use Rattle.yaml_pen.proofs.{Composing.wrote_exit, Spaces.copies_split, Spaces.copies_ascii, Spaces.copies_unbroken}
use Rattle.std.proofs.lemmas.Str.{IsAscii-take}
use Rattle.yaml_pen.proofs.StillToWrite.{still_rest, still_failed, still_part}
use Rattle.yaml_pen.proofs.pen.Pen.write_copies.Goals as goal

pub write_ascii-requires-clause-ascii : goal.write_ascii-requires-clause-ascii
write_ascii-requires-clause-ascii g c = copies_ascii 64 c.args.character c.requires.ascii

pub write_ascii-requires-2-clause-ascii : goal.write_ascii-requires-2-clause-ascii
write_ascii-requires-2-clause-ascii g c = IsAscii-take (replicate 64 c.args.character) c.loop-left.left (copies_ascii 64 c.args.character c.requires.ascii)

pub write_ascii-requires-2-clause-no_break : goal.write_ascii-requires-2-clause-no_break
write_ascii-requires-2-clause-no_break g c =
    ap (list_any is_break) (take-replicate c.loop-left.left 64 c.args.character (omega arith))
    ∙ copies_unbroken c.loop-left.left c.args.character c.requires.no_break

pub loop-left-preserved : goal.loop-left-preserved
loop-left-preserved g c =
    still_rest (still_part (replicate 64 c.args.character) (replicate (c.loop-left.left - 64) c.args.character)
    (copies_split c.loop-left.left 64 c.args.character (omega arith)) c.loop-left.invariant) c.in_ok-write_ascii.ensures.written

pub returns-in_err-write_ascii : goal.returns-in_err-write_ascii
returns-in_err-write_ascii g c = record {
  written =
      wrote_exit c.from_residual-in_err-write_ascii.ensures
      (still_failed (render_text (replicate (c.loop-left.left - 64) c.args.character))
      (still_part (replicate 64 c.args.character) (replicate (c.loop-left.left - 64) c.args.character)
      (copies_split c.loop-left.left 64 c.args.character (omega arith)) c.loop-left.invariant)
      c.in_err-write_ascii.ensures.written);
}

pub returns : goal.returns
returns g c = record {
  written = c.loop-left.invariant.writes _ _ (subst (λ (l : List ℕ). Wrote (render_text l) c.loop-left.self c.write_ascii-2.new.self c.write_ascii-2.result)
      (take-replicate c.loop-left.left 64 c.args.character (omega arith)) c.write_ascii-2.ensures.written);
}
