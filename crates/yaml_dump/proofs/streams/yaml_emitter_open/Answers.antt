use Rattle.yaml_dump.proofs.Common.{false, true, Ok, [], ◌∷◌, refl, subst, sym, ◌∙◌, State, none_from_result}
use Rattle.yaml_base.proofs.Common.{None, stream_start}
use Rattle.yaml_dump.proofs.Emissions.{error_kept}
use Rattle.yaml_emitter.{proofs.Giving.emits_flagged, proofs.Giving.emits_under, specs.Emits.Emits}
use Rattle.yaml_dump.proofs.streams.yaml_emitter_open.Goals as goal

pub returns-in-Err-clause-emits : goal.returns-in-Err-clause-emits
returns-in-Err-clause-emits g c =
    let emits = c.in-Err.ensures.emits in
    emits_flagged emits false c.args.emitter.now.closed (emits.set.opened ∙ c.requires.not_opened) emits.set.closed

pub returns-clause-emits : goal.returns-clause-emits
returns-clause-emits g c =
    let before = c.args.emitter.now in
    let emits = c.in_default.ensures.emits in
    subst (λ (s : State). Emits (record before { opened = true }) (stream_start None ∷ []) (Ok tt) s) (sym c.mark_opened.ensures.set)
    (emits_flagged (emits_under true c.yaml_emitter_emit.new.emitter.closed emits) true before.closed refl emits.set.closed)

pub returns-clause-kept : goal.returns-clause-kept
returns-clause-kept g c =
    error_kept c.args.emitter.now c.yaml_emitter_emit.new.emitter _ c.yaml_emitter_emit.ensures.kept
    (none_from_result c.yaml_emitter_emit.new.emitter.error c.in_default.ensures.emits.answered)

pub returns-in-Err-clause-output : goal.returns-in-Err-clause-output
returns-in-Err-clause-output g c = c.yaml_emitter_emit.ensures.emits.set.has_output ∙ c.requires.output

pub returns-clause-output : goal.returns-clause-output
returns-clause-output g c = (returns-clause-emits g c).set.has_output ∙ c.requires.output
