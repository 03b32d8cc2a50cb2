use Rattle.std.specs.Prelude.{Result, [], OnOk}
use Rattle.yaml_c.proofs.Common.{◌≡◌, rules, ◌∙◌, ap, subst, w32, of_z, to_z}
use Rattle.std.proofs.Common.{false}
use Rattle.yaml_c.proofs.KeptLemmas.{while_open}
use Rattle.yaml_c.specs.Kept.{Flushes}
use Rattle.yaml_base.specs.declared.errors.yaml_error_t.{yaml_error_t}
use Rattle.yaml_pen.specs.Page.{result_of_error}
use Rattle.yaml_emitter.specs.Emits.{Emits, IsFlushed}
use Rattle.yaml_c.proofs.emitters.flush.Goals as goal

pub returns-clause-flushed : goal.returns-clause-flushed
returns-clause-flushed g c =
    let before = c.args.emitter.now in
    let after = c.yaml_emitter_flush.new.emitter in
    let flush = c.yaml_emitter_flush.ensures in
    let answered = flush.emits.answered in
    let fits : to_z w32 (of_z w32 c.tell.result) ≡ c.tell.result = search rules in
    let returned = c.tell.ensures after.error answered in
    let status = to_z w32 (of_z w32 c.tell.result) in
    let report = c.tell.new.report in
    let unclosed : before.closed ≡ false = search rules in
    while_open status report (Flushes status report) before after unclosed
    (record {
      tells = (fits ∙ returned.0, returned.1);
      emits = subst (λ (r : Result (Unit {0}) yaml_error_t). Emits before [] r after) answered flush.emits;
      flushed = λ none. subst (λ (r : Result (Unit {0}) yaml_error_t). OnOk r (IsFlushed after)) (answered ∙ ap result_of_error none) flush.whole;
      unflushed = λ memory. flush.unflushed (answered ∙ ap result_of_error memory);
      idle = flush.idle;
      kept = flush.kept;
    })
