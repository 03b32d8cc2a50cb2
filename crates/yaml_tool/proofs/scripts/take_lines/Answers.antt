use Rattle.yaml_tool.proofs.Common.{ℕ, List, ◌++◌, subst, sym, ◌∙◌, arith, seen_progress, IsFaultOf, script_after_lines}
use Rattle.yaml_tool.proofs.ScriptLemmas.{shorter, fault_first, good_first, exit_with}
use Rattle.yaml_tool.proofs.SearchLemmas.{line_ends, one_line}
use Rattle.yaml_tool.proofs.scripts.take_lines.Goals as goal

pub returns-in_err-add_line-clause-fault : goal.returns-in_err-add_line-clause-fault
returns-in_err-add_line-clause-fault g c =
    let before = seen_progress c.args.progress.now in
    let bytes = c.args.bytes.now in
    let rest = c.loop-end.rest.now in
    exit_with (λ error. (more : List ℕ) → IsFaultOf error (script_after_lines c.args.number before (bytes ++ more))) c.in_err-add_line.field-0.0
    c.from_residual.result c.from_residual.ensures
    (λ more. subst (IsFaultOf c.in_err-add_line.field-0.0) (sym (c.loop-end.invariant.0 more))
    (fault_first c.in_err-add_line.field-0.0 c.loop-end.number (seen_progress c.loop-end.progress) rest _ _ more
    (line_ends rest c.in-Some.end c.in-Some.ensures) c.in_err-add_line.ensures.fault))

pub loop-end-preserved : goal.loop-end-preserved
loop-end-preserved g c =
    let rest = c.loop-end.rest.now in
    let cut = line_ends rest c.in-Some.end c.in-Some.ensures in (
      λ more.
          c.loop-end.invariant.0 more
          ∙ good_first c.loop-end.number (seen_progress c.loop-end.progress)
          (seen_progress c.add_line.new.self) rest _ _ more cut c.in_ok-add_line.ensures.taken,
      omega (arith, shorter rest _ _ cut, c.loop-end.invariant.1),
    )

pub returns-clause-taken : goal.returns-clause-taken
returns-clause-taken g c = record {
  free = one_line c.loop-end.rest.now c.in_default.ensures;
  counted = c.loop-end.invariant.1;
  same = c.loop-end.invariant.0;
}
