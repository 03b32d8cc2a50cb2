use Rattle.yaml_tool.proofs.Common.{map, ◌≡◌, subst, IfErr, seen_numbered, IsFaultOf, script_after_lines, seen_settings}
use Rattle.std.specs.Result.{IfOk}
use Rattle.yaml_base.specs.scripts.Script as notation
use Rattle.yaml_tool.proofs.scripts.read_script.Goals as goal

pub returns-clause-understood : goal.returns-clause-understood
returns-clause-understood g c =
    subst (λ before. IfOk c.finish.result
    (λ script. script_after_lines 1 before c.args.bytes.now
    ≡ notation.understood (seen_settings script.settings) (map seen_numbered script.events.items)))
    c.new.ensures c.finish.ensures.understood

pub returns-clause-fault : goal.returns-clause-fault
returns-clause-fault g c =
    subst (λ before. IfErr c.finish.result (λ error. IsFaultOf error (script_after_lines 1 before c.args.bytes.now))) c.new.ensures c.finish.ensures.fault
