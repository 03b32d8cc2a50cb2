use Rattle.yaml_scalar.proofs.Common.{ℕ, chars, List, subst, sym, arith, AreBatched}
use Rattle.yaml_scalar.proofs.BatchTexts.{batched_none, batched_more}
use Rattle.yaml_scalar.proofs.batched.fill_batch.Goals as goal

pub loop-c-init : goal.loop-c-init
loop-c-init c =
    record {
      is_text = c.utf8.text;
      batched = batched_none c.args.unicode c.args.before (chars c.args.text.now) c.args.bytes.now.items c.requires;
      shorter = omega arith;
    }

pub loop-c-preserved : goal.loop-c-preserved
loop-c-preserved c =
    let so_far = c.loop-c.invariant in
    let next = c.in-Some.ensures in
    record {
      is_text = next.is_text;
      batched =
          subst (λ (b : List ℕ). AreBatched c.args.unicode c.args.before (chars c.args.text.now) b c.in-Some.c (chars c.in-Some.after.now))
          (sym c.append_character.ensures)
          (batched_more c.in-Some.c (chars c.in-Some.after.now) so_far.batched next.characters next.batched);
      shorter = omega (arith, so_far.shorter, next.shorter);
    }

pub loop-c-smaller : goal.loop-c-smaller
loop-c-smaller c = c.in-Some.ensures.shorter

pub returns-clause-batched : goal.returns-clause-batched
returns-clause-batched c = c.loop-c.invariant.batched

pub returns-clause-shorter : goal.returns-clause-shorter
returns-clause-shorter c = c.loop-c.invariant.shorter
