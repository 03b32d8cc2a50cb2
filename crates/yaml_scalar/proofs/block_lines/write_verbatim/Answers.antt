use Rattle.yaml_scalar.proofs.Common.{length, eqb-true, chars-nil, nil_from_length, ap, ◌∙◌, ◌≡◌, refl, sym, subst, Wrote, Text, chars, render_text, stays_at, limit_of}
use Rattle.yaml_scalar.proofs.{Repeated.all_line_feeds, WholeRuns.all_unbroken, blocks.BlockStays.stays_unbroken}
use Rattle.yaml_scalar.specs.declared.block_lines.Place.TheVariants.{Folding, Fixed}
use Rattle.yaml_scalar.proofs.block_lines.write_verbatim.Goals as goal

pub returns-then-is_empty : goal.returns-then-is_empty
returns-then-is_empty g c =
    let none : length c.args.run.now ≡ 0 = eqb-true _ 0 (sym c.is_empty.ensures ∙ c.if-is_empty.true) in
    subst (λ (t : Text). Wrote (render_text t) c.args.pen.now c.args.pen.now c.write_nothing.result)
    (sym (ap chars (nil_from_length c.args.run.now none) ∙ chars-nil)) c.write_nothing.ensures

pub returns-in-LineStart : goal.returns-in-LineStart
returns-in-LineStart g c =
    subst (λ (t : Text). Wrote (render_text t) c.args.pen.now c.write_line_feeds.new.self c.write_line_feeds.result)
    (sym (all_line_feeds c.args.run.now c.utf8.run (rw c.in-LineStart.is at c.requires.stays))) c.write_line_feeds.ensures.written

pub write_run-requires-clause-no_break : goal.write_run-requires-clause-no_break
write_run-requires-clause-no_break g c =
    all_unbroken (stays_at (limit_of c.args.lines.width) Folding) (λ d h. stays_unbroken (limit_of c.args.lines.width) Folding d refl h)
    (chars c.args.run.now) (rw c.in-Folding.is at c.requires.stays)

pub write_run-requires-in-Fixed-clause-no_break : goal.write_run-requires-in-Fixed-clause-no_break
write_run-requires-in-Fixed-clause-no_break g c =
    all_unbroken (stays_at (limit_of c.args.lines.width) Fixed) (λ d h. stays_unbroken (limit_of c.args.lines.width) Fixed d refl h)
    (chars c.args.run.now) (rw c.in-Fixed.is at c.requires.stays)
