use Rattle.yaml_value.specs.SeenValues.{seen_value}
use Rattle.yaml_caller.proofs.Opened.{no_error, only_memory}
use Rattle.std.proofs.lemmas.Result.{IfOk-from_err}
use Rattle.yaml_caller.proofs.store.sealed_and_opened.Goals as goal

pub returns-in_err-entry-clause-same : goal.returns-in_err-entry-clause-same
returns-in_err-entry-clause-same g c = IfOk-from_err c.from_residual.result _ c.from_residual.ensures.0

pub returns-in_err-entry-clause-opened : goal.returns-in_err-entry-clause-opened
returns-in_err-entry-clause-opened g c = IfOk-from_err c.from_residual.result _ c.from_residual.ensures.0

pub returns-clause-opened : goal.returns-clause-opened
returns-clause-opened g c =
    let entry = c.in_ok-entry.entry in
    let sealed = c.in_ok-entry.ensures.sealed in
    only_memory c.args.keys (seen_value c.args.value.now) entry.bytes.items entry.digest c.open.result sealed c.in_ok-entry.ensures.keys
    (c.written_values_are_read.ensures.readable c.args.value.now entry.bytes.items sealed.written
    (λ deep. no_error entry (c.in_ok-entry.ensures.too_deep.1 deep))) c.open.ensures.complete
