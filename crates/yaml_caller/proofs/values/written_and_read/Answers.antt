use Rattle.std.proofs.Common.{subst}
use Rattle.std.proofs.lemmas.Result.{IfOk-from_err}
use Rattle.yaml_value.specs.SeenValues.{seen_value}
use Rattle.yaml_read.specs.ReadBack.{IsAnswerTo}
use Rattle.yaml_caller.proofs.Opened.{no_error}
use Rattle.yaml_caller.proofs.values.written_and_read.Goals as goal

pub returns-in_err-bytes-clause-same : goal.returns-in_err-bytes-clause-same
returns-in_err-bytes-clause-same g c = IfOk-from_err c.from_residual.result _ c.from_residual.ensures.0

pub returns-in_err-bytes-clause-read : goal.returns-in_err-bytes-clause-read
returns-in_err-bytes-clause-read g c = IfOk-from_err c.from_residual.result _ c.from_residual.ensures.0

pub returns-clause-same : goal.returns-clause-same
returns-clause-same g c =
    let law = c.written_values_are_read.ensures in
    let read = c.read_canonical in
    let bytes = c.in_ok-bytes.bytes in
    let value = c.args.value.now in
    let written = c.in_ok-bytes.ensures.written in
    let readable = law.readable value bytes.items written (λ deep. no_error bytes (c.in_ok-bytes.ensures.too_deep.1 deep)) in
    let answers : IsAnswerTo c.as_slice.result.now read.result = record { read = read.ensures.read; complete = read.ensures.complete } in
    (law.read (seen_value value) bytes read.result readable written
    (subst (λ items. IsAnswerTo items read.result) c.as_slice.ensures.value answers)).0

pub returns-clause-read : goal.returns-clause-read
returns-clause-read g c =
    let law = c.written_values_are_read.ensures in
    let read = c.read_canonical in
    let bytes = c.in_ok-bytes.bytes in
    let value = c.args.value.now in
    let written = c.in_ok-bytes.ensures.written in
    let readable = law.readable value bytes.items written (λ deep. no_error bytes (c.in_ok-bytes.ensures.too_deep.1 deep)) in
    let answers : IsAnswerTo c.as_slice.result.now read.result = record { read = read.ensures.read; complete = read.ensures.complete } in
    (law.read (seen_value value) bytes read.result readable written
    (subst (λ items. IsAnswerTo items read.result) c.as_slice.ensures.value answers)).1
