use Rattle.yaml_caller.proofs.Common.{ℕ, false, true, List, ◌≡◌, subst, sym, ◌∙◌, seen_text, agrees, stream_trees, pair_events}
use Rattle.yaml_caller.{proofs.OnlyMemory.passed_on, specs.Pair.FailsPair}
use Rattle.std.proofs.lemmas.Result.{IfOk-from_err}
use Rattle.yaml_caller.proofs.pairs.write_pair.Goals as goal

pub returns-in_err-emit_pair-clause-reads : goal.returns-in_err-emit_pair-clause-reads
returns-in_err-emit_pair-clause-reads g c = IfOk-from_err c.from_residual.result _ c.from_residual.ensures.0

pub returns-clause-reads : goal.returns-clause-reads
returns-clause-reads g c =
    let events = pair_events (seen_text c.args.key) (seen_text c.args.value) in
    subst (λ (bytes : List ℕ). agrees false events (stream_trees false bytes) ≡ true)
    (sym (c.yaml_emitter_take_output.ensures.untaken (c.emit_pair.ensures.taken ∙ c.in-Ok.ensures.untaken))) c.in_ok-emit_pair.ensures.reads

pub returns-in_err-emit_pair-clause-failed : goal.returns-in_err-emit_pair-clause-failed
returns-in_err-emit_pair-clause-failed g c =
    passed_on (FailsPair (seen_text c.args.key) (seen_text c.args.value)) c.in_err-emit_pair.field-0.0 c.from_residual.result
    c.in_err-emit_pair.ensures.failed c.from_residual.ensures
