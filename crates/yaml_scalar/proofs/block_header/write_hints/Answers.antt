use Rattle.yaml_scalar.proofs.Common.{[], ◌∷◌, ◌≡◌, ap, subst, sym, ◌∙◌, w32, to_z-of_z, Text, Wrote, ending, ending_hint, render_hint, wrote_then}
use Rattle.yaml_scalar.proofs.Common.{wrote_failed, wrote_exit}
use Rattle.yaml_base.proofs.Common.{chars}
use Rattle.yaml_scalar.proofs.block_header.write_hints.Goals as goal

pub returns-in_err-write_indentation_hint : goal.returns-in_err-write_indentation_hint
returns-in_err-write_indentation_hint g c =
    let first = rw (to_z-of_z w32 c.args.best_indent c.ranges.best_indent) at c.in_err-write_indentation_hint.ensures in
    wrote_exit c.from_residual.ensures (wrote_failed (render_hint (ending_hint (ending (chars c.args.value.now)))) first)

pub returns-in-WithoutBreak : goal.returns-in-WithoutBreak
returns-in-WithoutBreak g c =
    let first = rw (to_z-of_z w32 c.args.best_indent c.ranges.best_indent) at c.in_ok-write_indentation_hint.ensures in
    let hint : 45 ∷ [] ≡ ending_hint (ending (chars c.args.value.now)) =
    ap ending_hint (sym c.in-WithoutBreak.is) ∙ ap ending_hint c.value_ending.ensures in
    wrote_then first
    (subst (λ (t : Text). Wrote (render_hint t) c.write_indentation_hint.new.pen c.write_hint.new.pen c.write_hint.result) hint c.write_hint.ensures)

pub returns-in-MoreBreaks : goal.returns-in-MoreBreaks
returns-in-MoreBreaks g c =
    let first = rw (to_z-of_z w32 c.args.best_indent c.ranges.best_indent) at c.in_ok-write_indentation_hint.ensures in
    let hint : 43 ∷ [] ≡ ending_hint (ending (chars c.args.value.now)) =
    ap ending_hint (sym c.in-MoreBreaks.is) ∙ ap ending_hint c.value_ending.ensures in
    let last = c.write_hint-in-MoreBreaks in
    wrote_then first
    (subst (λ (t : Text). Wrote (render_hint t) c.write_indentation_hint.new.pen last.new.pen last.result) hint last.ensures)
