use Rattle.yaml_writer.proofs.Common.{IfErr, Err, Bool, [], ◌++◌, ◌∷◌, ap, subst, sym, ◌∙◌, Event, List, Settings, stream_end}
use Rattle.yaml_writer.proofs.Common.{some_from_result, none_from_result, output_left, IsUnfinishedBy, Promised, StandsAfter, is_implicit}
use Rattle.yaml_writer.proofs.Common.{FinishesBy}
use Rattle.std.proofs.lemmas.Result.{err_from_is_err_and}
use Rattle.yaml_emitter.proofs.Giving.{emits_then}
use Rattle.yaml_writer.proofs.Finishing.{error_kept, some_waits, none_waits, of_given, waiting_unaccepted, failed_unfinished, rest_finished}
use Rattle.yaml_writer.proofs.WaitingStarts.{no_earlier, third_ok, third_fails, third_unfinished, third_err}
use Rattle.yaml_writer.proofs.giving.end_stream.Goals as goal

pub returns-in_err-ended-clause-unfinished : goal.returns-in_err-ended-clause-unfinished
returns-in_err-ended-clause-unfinished g c =
    let implicit = c.is_implicit-implicit.result in
    let before = c.args.emitter.now in
    let between = c.yaml_emitter_emit.new.emitter in
    let after = c.yaml_emitter_emit-ended.new.emitter in
    let error = c.in_err-ended.field-0.0 in
    let returned = err_from_is_err_and c.from_residual.result c.from_residual.ensures.1 in
    let gave = emits_then c.yaml_emitter_emit.ensures.emits c.yaml_emitter_emit-ended.ensures.emits in
    subst (λ answer. IfErr answer (λ error. IsUnfinishedBy (is_implicit c.args.end) before error)) (sym (returned.1 ∙ ap (λ e. Err e) returned.2))
    (subst (λ (end : Bool). IsUnfinishedBy end before error) c.is_implicit-implicit.ensures
    (failed_unfinished implicit before after error
    (λ error is.
    error_kept between after _ error c.yaml_emitter_emit-ended.ensures.kept (error_kept before between _ error c.yaml_emitter_emit.ensures.kept is))
    (of_given (λ (given : Settings) (all : List Event). StandsAfter given all after) gave c.promised.ensures.stands)
    (of_given (λ (given : Settings) (all : List Event). Promised given all after) gave c.promised.ensures.promised)
    (some_from_result after.error error c.in_err-ended.ensures.emits.answered)))

pub returns-then-held-gt0-clause-unfinished : goal.returns-then-held-gt0-clause-unfinished
returns-then-held-gt0-clause-unfinished g c =
    let implicit = c.is_implicit-implicit.result in
    let before = c.args.emitter.now in
    let between = c.yaml_emitter_emit.new.emitter in
    let closed = c.yaml_emitter_emit-ended.new.emitter in
    let after = c.yaml_emitter_emit-answer.new.emitter in
    let none = none_from_result closed.error c.in_ok-ended.ensures.emits.answered in
    let some = some_waits c.held.result closed.held c.if-held-gt0.true c.held.ensures in
    let gave = emits_then c.yaml_emitter_emit.ensures.emits c.yaml_emitter_emit-ended.ensures.emits in
    let more = c.yaml_emitter_emit-answer.ensures.emits in
    let promises = c.promised-then-held-gt0.ensures in
    let unaccepted = waiting_unaccepted implicit before.given before.events closed
    (of_given (λ (given : Settings) (all : List Event). Promised given all closed) gave c.promised.ensures.promised) none some in
    subst (λ (end : Bool). IfErr c.yaml_emitter_emit-answer.result (λ error. IsUnfinishedBy end before error)) c.is_implicit-implicit.ensures
    (third_err implicit before after c.yaml_emitter_emit-answer.result more.answered
    (λ error is.
    third_unfinished implicit before after error
    (no_earlier before closed
    (λ earlier was.
    error_kept between closed _ earlier c.yaml_emitter_emit-ended.ensures.kept (error_kept before between _ earlier c.yaml_emitter_emit.ensures.kept was))
    none)
    unaccepted
    (of_given (λ (given : Settings) (all : List Event). StandsAfter given (all ++ stream_end ∷ []) after) gave
    (of_given (λ (given : Settings) (all : List Event). StandsAfter given all after) more promises.stands))
    (of_given (λ (given : Settings) (all : List Event). Promised given (all ++ stream_end ∷ []) after) gave
    (of_given (λ (given : Settings) (all : List Event). Promised given all after) more promises.promised))
    is))

pub returns-then-held-gt0-clause-finishes : goal.returns-then-held-gt0-clause-finishes
returns-then-held-gt0-clause-finishes g c =
    let implicit = c.is_implicit-implicit.result in
    let before = c.args.emitter.now in
    let closed = c.yaml_emitter_emit-ended.new.emitter in
    let after = c.yaml_emitter_emit-answer.new.emitter in
    let none = none_from_result closed.error c.in_ok-ended.ensures.emits.answered in
    let some = some_waits c.held.result closed.held c.if-held-gt0.true c.held.ensures in
    let gave = emits_then c.yaml_emitter_emit.ensures.emits c.yaml_emitter_emit-ended.ensures.emits in
    let more = c.yaml_emitter_emit-answer.ensures.emits in
    let unaccepted = waiting_unaccepted implicit before.given before.events closed
    (of_given (λ (given : Settings) (all : List Event). Promised given all closed) gave c.promised.ensures.promised) none some in
    third_ok after c.yaml_emitter_emit-answer.result more.answered
    (λ unfailed.
    absurd
    (third_fails implicit before.given before.events after unaccepted
    (of_given (λ (given : Settings) (all : List Event). Promised given (all ++ stream_end ∷ []) after) gave
    (of_given (λ (given : Settings) (all : List Event). Promised given all after) more c.promised-then-held-gt0.ensures.promised))
    unfailed))

pub returns-clause-finishes : goal.returns-clause-finishes
returns-clause-finishes g c =
    let implicit = c.is_implicit-implicit.result in
    let before = c.args.emitter.now in
    let after = c.yaml_emitter_emit-ended.new.emitter in
    let gave = emits_then c.yaml_emitter_emit.ensures.emits c.yaml_emitter_emit-ended.ensures.emits in
    subst (λ (end : Bool). FinishesBy end before (output_left after.page)) c.is_implicit-implicit.ensures
    (rest_finished implicit before after gave.taken
    (of_given (λ (given : Settings) (all : List Event). Promised given all after) gave c.promised.ensures.promised)
    (none_from_result after.error c.in_ok-ended.ensures.emits.answered)
    (none_waits c.held.result after.held c.if-held-gt0.false c.held.ensures))
