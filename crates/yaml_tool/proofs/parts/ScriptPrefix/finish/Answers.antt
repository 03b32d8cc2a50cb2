use Rattle.yaml_tool.proofs.Common.{map, ◌≡◌, append-nil, subst, sym, ◌∙◌, IfErr, seen_numbered, seen_progress, IsFaultOf, script_after_lines, seen_settings}
use Rattle.std.specs.Result.{IfOk}
use Rattle.yaml_base.specs.scripts.Script as notation
use Rattle.yaml_tool.proofs.parts.ScriptPrefix.finish.Goals as goal

pub returns-clause-understood : goal.returns-clause-understood
returns-clause-understood g c =
    let prefix = c.args.self in
    subst (λ bytes. IfOk c.finish.result
    (λ script. script_after_lines prefix.number (seen_progress prefix.progress) bytes
    ≡ notation.understood (seen_settings script.settings) (map seen_numbered script.events.items)))
    (c.as_slice.ensures.value ∙ sym (append-nil prefix.line.items)) c.finish.ensures.understood

pub returns-clause-fault : goal.returns-clause-fault
returns-clause-fault g c =
    let prefix = c.args.self in
    subst (λ bytes. IfErr c.finish.result (λ error. IsFaultOf error (script_after_lines prefix.number (seen_progress prefix.progress) bytes)))
    (c.as_slice.ensures.value ∙ sym (append-nil prefix.line.items)) c.finish.ensures.fault
