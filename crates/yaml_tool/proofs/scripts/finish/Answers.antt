use Rattle.yaml_tool.proofs.Common.{[], map, ap, subst, sym, ◌∙◌, seen_numbered, seen_progress, IsFaultOf, script_after_lines, seen_setting}
use Rattle.yaml_tool.proofs.ScriptLemmas.{fault_last, good_last, left_alone, fault_alone, exit_with}
use Rattle.yaml_base.specs.scripts.Script as notation
use Rattle.yaml_tool.proofs.scripts.finish.Goals as goal

pub returns-in_err-number-clause-fault : goal.returns-in_err-number-clause-fault
returns-in_err-number-clause-fault g c =
    let before = seen_progress c.args.progress in
    exit_with (λ error. IsFaultOf error (script_after_lines c.args.number before c.args.bytes.now)) c.in_err-number.field-0.0 c.from_residual.result
    c.from_residual.ensures
    (fault_alone c.in_err-number.field-0.0 c.args.number before c.args.bytes.now (c.in_err-number.ensures.fault []))

pub returns-in_err-add_line-clause-fault : goal.returns-in_err-add_line-clause-fault
returns-in_err-add_line-clause-fault g c =
    let before = seen_progress c.args.progress in
    let now = seen_progress c.take_lines.new.progress in
    let error = c.in_err-add_line.field-0.0 in
    let taken = c.in_ok-number.ensures.taken in
    exit_with (λ error. IsFaultOf error (script_after_lines c.args.number before c.args.bytes.now)) error c.from_residual-in_err-add_line.result
    c.from_residual-in_err-add_line.ensures
    (subst (IsFaultOf error) (sym (left_alone c.args.number before c.args.bytes.now c.in_ok-number.number now c.in_ok-number.last.now taken))
    (fault_last error c.in_ok-number.number now c.in_ok-number.last.now taken.free c.in_err-add_line.ensures.fault))

pub returns-clause-understood : goal.returns-clause-understood
returns-clause-understood g c =
    let now = seen_progress c.take_lines.new.progress in
    let after = c.add_line.new.self in
    let taken = c.in_ok-number.ensures.taken in
    left_alone c.args.number (seen_progress c.args.progress) c.args.bytes.now c.in_ok-number.number now c.in_ok-number.last.now taken
    ∙ good_last c.in_ok-number.number now (seen_progress after) c.in_ok-number.last.now taken.free c.in_ok-add_line.ensures.taken
    ∙ ap (λ settings. notation.understood settings (map seen_numbered after.events.items))
    (ap (λ set. notation.settings_of notation.unset (map seen_setting set)) (sym c.as_slice.ensures.value) ∙ sym c.settings_of.ensures)
