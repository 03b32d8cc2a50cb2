use Rattle.std.proofs.Common.{rules, List, ℕ, ◌≡◌, ◌++◌, ◌+◌, ◌<◌, length, ap, sym, ◌∙◌, arith}
use Rattle.yaml_program.{specs.Differences.BeginAlike, proofs.LineLemmas.next_alike}
use Rattle.yaml_program.proofs.differences.first_difference.Goals as goal

-- The next lines are the same.
next : (c : goal.Else-not-are_same) → BeginAlike c.args.old.now c.args.new.now (c.loop-old_later.number + 1) c.split_line.result.1.now
    c.split_line-in-loop-old_later.result.1.now × (length c.split_line.result.1.now < length c.loop-old_later.old_rest.now)
next c =
    let old = c.split_line.ensures in
    let new = c.split_line-in-loop-old_later.ensures in
    let same : c.split_line.result.0.now ≡ c.split_line-in-loop-old_later.result.0.now = search rules in
    next_alike c.args.old.now c.args.new.now c.loop-old_later.old_rest.now c.loop-old_later.new_rest.now _ _ c.loop-old_later.number c.requires
    c.loop-old_later.invariant.0 (old.whole ∙ ap (λ (l : List ℕ). l ++ c.split_line.result.1.now) old.line)
    (new.whole ∙ ap (λ (l : List ℕ). l ++ c.split_line-in-loop-old_later.result.1.now) new.line) (sym old.line ∙ same ∙ new.line)

pub loop-old_later-smaller : goal.loop-old_later-smaller
loop-old_later-smaller c = (next c).1

pub loop-old_later-preserved : goal.loop-old_later-preserved
loop-old_later-preserved c = ((next c).0, omega (arith, (next c).1, c.loop-old_later.invariant.1))
