use Rattle.yaml_scalar.proofs.Common.{ℕ, chars, IsUtf8, None, Some, List, ap, subst, sym, IsUtf8-past_char, double_inside, wrote_exit, natural}
use Rattle.yaml_scalar.proofs.Common.{double_character, limit_where}
use Rattle.yaml_scalar.proofs.{BatchTexts.batched_left, BatchTexts.batched_failed, InsideSteps.stays_unbroken, InsideSteps.inside_after}
use Rattle.yaml_pen.proofs.StillToWrite.{still_all, still_rest, still_failed, still_same, end_still}
use Rattle.yaml_scalar.proofs.{InsideSteps.inside_alone, WholeRuns.run_unbroken}
use Rattle.yaml_scalar.proofs.RunsWritten.{character_still, run_more, run_failed}
use Rattle.yaml_scalar.proofs.Shorter.{shorter_left, shorter_after_run}
use Rattle.yaml_scalar.proofs.double_quoted.write_inside.Goals as goal

pub split_at-requires : goal.split_at-requires
split_at-requires g c = c.leading_verbatim_run-run.ensures.boundary

pub write_run-requires-clause-no_break : goal.write_run-requires-clause-no_break
write_run-requires-clause-no_break g c =
    run_unbroken _ (stays_unbroken c.args.quoting.unicode (limit_where c.args.quoting.allow_breaks c.args.quoting.width)) c.leading_verbatim_run-run.ensures
    c.split_at.ensures.front

pub loop-c-preserved : goal.loop-c-preserved
loop-c-preserved g c =
    let so_far = c.loop-c.invariant in
    let quoting = c.args.quoting in
    let limit = limit_where quoting.allow_breaks quoting.width in
    let indent = natural quoting.indent in
    let rest : List ℕ = c.as_str-rest.result.now in
    let is_text = subst IsUtf8 (sym c.as_str-rest.ensures) (IsUtf8-past_char _ _ c.in-Some.c so_far.is_text c.in-Some.ensures.steps.0) in
    let first = character_still (double_inside quoting.unicode limit indent c.loop-c.before) c.in-Some.c _ _ rest so_far.is_text c.in-Some.ensures.steps.0
    c.as_str-rest.ensures so_far.still in
    let after = run_more (inside_after quoting.unicode limit indent) (inside_alone quoting.unicode limit indent c.write_next.new.pen.cursor)
    is_text c.leading_verbatim_run-run.ensures c.split_at.ensures.front c.split_at.ensures.back (still_rest first c.in_ok-write_next.ensures)
    c.in_ok-write_run.ensures.written in
    record {
      is_text = subst IsUtf8 (sym c.chars-chars-in-Some.ensures.rest) c.in_ok-last.ensures.is_text;
      still = still_same (double_inside quoting.unicode limit indent (Some c.in_ok-last.last)) (ap chars (sym c.chars-chars-in-Some.ensures.rest))
          (batched_left quoting.unicode limit indent c.in_ok-last.ensures.written after);
    }

pub returns-in_err-last : goal.returns-in_err-last
returns-in_err-last g c =
    let so_far = c.loop-c.invariant in
    let quoting = c.args.quoting in
    let limit = limit_where quoting.allow_breaks quoting.width in
    let indent = natural quoting.indent in
    let rest : List ℕ = c.as_str-rest.result.now in
    let is_text = subst IsUtf8 (sym c.as_str-rest.ensures) (IsUtf8-past_char _ _ c.in-Some.c so_far.is_text c.in-Some.ensures.steps.0) in
    let first = character_still (double_inside quoting.unicode limit indent c.loop-c.before) c.in-Some.c _ _ rest so_far.is_text c.in-Some.ensures.steps.0
    c.as_str-rest.ensures so_far.still in
    let after = run_more (inside_after quoting.unicode limit indent) (inside_alone quoting.unicode limit indent c.write_next.new.pen.cursor)
    is_text c.leading_verbatim_run-run.ensures c.split_at.ensures.front c.split_at.ensures.back (still_rest first c.in_ok-write_next.ensures)
    c.in_ok-write_run.ensures.written in
    wrote_exit c.from_residual-in_err-last.ensures
    (batched_failed quoting.unicode limit indent c.in_err-last.ensures.written after)

pub returns-in_err-write_next : goal.returns-in_err-write_next
returns-in_err-write_next g c =
    let so_far = c.loop-c.invariant in
    let quoting = c.args.quoting in
    let limit = limit_where quoting.allow_breaks quoting.width in
    let indent = natural quoting.indent in
    let rest : List ℕ = c.as_str-rest.result.now in
    let first = character_still (double_inside quoting.unicode limit indent c.loop-c.before) c.in-Some.c _ _ rest so_far.is_text c.in-Some.ensures.steps.0
    c.as_str-rest.ensures so_far.still in
    wrote_exit c.from_residual.ensures
    (still_failed {first = double_character quoting.unicode limit indent c.loop-c.before c.in-Some.c (chars rest)}
    {whole = double_inside quoting.unicode limit indent None (chars c.args.value.now)}
    (double_inside quoting.unicode limit indent (Some c.in-Some.c) (chars rest)) first c.in_err-write_next.ensures)

pub returns-in_err-write_run : goal.returns-in_err-write_run
returns-in_err-write_run g c =
    let so_far = c.loop-c.invariant in
    let quoting = c.args.quoting in
    let limit = limit_where quoting.allow_breaks quoting.width in
    let indent = natural quoting.indent in
    let rest : List ℕ = c.as_str-rest.result.now in
    let is_text = subst IsUtf8 (sym c.as_str-rest.ensures) (IsUtf8-past_char _ _ c.in-Some.c so_far.is_text c.in-Some.ensures.steps.0) in
    let first = character_still (double_inside quoting.unicode limit indent c.loop-c.before) c.in-Some.c _ _ rest so_far.is_text c.in-Some.ensures.steps.0
    c.as_str-rest.ensures so_far.still in
    wrote_exit c.from_residual-in_err-write_run.ensures
    (run_failed (inside_after quoting.unicode limit indent) c.split_at.result.1.now (inside_alone quoting.unicode limit indent c.write_next.new.pen.cursor)
    is_text c.leading_verbatim_run-run.ensures c.split_at.ensures.front c.split_at.ensures.back
    (still_rest first c.in_ok-write_next.ensures) c.in_err-write_run.ensures.written)

pub returns : goal.returns
returns g c =
    let quoting = c.args.quoting in
    (end_still (double_inside quoting.unicode (limit_where quoting.allow_breaks quoting.width) (natural quoting.indent) c.loop-c.before) _
    c.in_default.ensures.steps.0.0 c.loop-c.invariant.still).writes _ _ c.write_nothing.ensures

pub loop-c-smaller : goal.loop-c-smaller
loop-c-smaller g c =
    let rest = c.as_str-rest.result.now in
    let few = shorter_after_run c.leading_verbatim_run-run.result.length rest _ _ c.split_at.ensures.back c.in_ok-last.ensures.shorter in
    shorter_left _ _ rest _ _ c.in-Some.c c.in-Some.ensures.steps.0 c.as_str-rest.ensures few c.chars-chars-in-Some.ensures.rest

pub loop-c-init : goal.loop-c-init
loop-c-init g c =
    let quoting = c.args.quoting in
    let same = sym c.chars-chars.ensures.rest in
    record {
      is_text = subst IsUtf8 same c.utf8.value;
      still = still_same (double_inside quoting.unicode (limit_where quoting.allow_breaks quoting.width) (natural quoting.indent) None) (ap chars same)
          (still_all c.requires.ready);
    }

pub write_next-requires-clause-ready : goal.write_next-requires-clause-ready
write_next-requires-clause-ready g c = c.loop-c.invariant.still.ready

pub write_next-requires-clause-not_negative : goal.write_next-requires-clause-not_negative
write_next-requires-clause-not_negative g c = c.requires.not_negative

pub write_run-requires-clause-ready : goal.write_run-requires-clause-ready
write_run-requires-clause-ready g c = c.in_ok-write_next.ensures.ready

pub write_next_escapes-requires : goal.write_next_escapes-requires
write_next_escapes-requires g c = c.in_ok-write_run.ensures.written.ready

pub write_nothing-requires : goal.write_nothing-requires
write_nothing-requires g c = c.loop-c.invariant.still.ready
