use Rattle.yaml_pen.proofs.Common.{ℕ, ◌+◌, ◌-◌, Ok, replicate, List, [], ◌++◌, ◌∷◌, ◌≡◌, ap, subst, sym, ◌∙◌, arith, line_feed, render_text, Wrote}
use Rattle.std.proofs.lemmas.List.{replicate-append-replicate, replicate_more}
use Rattle.yaml_pen.proofs.Composing.{wrote_text_then, wrote_exit, wrote_cut}
use Rattle.yaml_pen.proofs.pen.Pen.write_each_line_feed.Goals as goal

pub returns-in_err-put_break : goal.returns-in_err-put_break
returns-in_err-put_break g c = record {
  written =
      let written = c.loop-written.written in
      let more : replicate c.args.count line_feed ≡ (replicate written line_feed ++ line_feed ∷ []) ++ replicate (c.args.count - (written + 1)) line_feed =
      sym (ap (λ l. l ++ replicate (c.args.count - (written + 1)) line_feed) (replicate_more written line_feed)
      ∙ replicate-append-replicate (written + 1) (c.args.count - (written + 1)) line_feed
      ∙ ap (λ n. replicate n line_feed) (omega arith)) in
      wrote_exit c.from_residual-in_err-put_break.ensures
      (wrote_cut (render_text (replicate c.args.count line_feed)) (replicate (c.args.count - (written + 1)) line_feed) more
      (wrote_text_then c.loop-written.invariant c.in_err-put_break.ensures.written));
}

pub loop-written-preserved : goal.loop-written-preserved
loop-written-preserved g c =
    subst (λ (l : List ℕ). Wrote (render_text l) c.args.self.now c.put_break.new.self (Ok tt)) (replicate_more c.loop-written.written line_feed)
    (wrote_text_then c.loop-written.invariant c.in_ok-put_break.ensures.written)
