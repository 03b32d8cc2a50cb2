use Rattle.yaml_toml.proofs.Common.{common_steps, collection_due, arith}
use Rattle.yaml_toml.proofs.Stepping.{step_enter, step_memory}
use Rattle.yaml_toml.proofs.walk.enter.Goals as goal

pub returns-in-Err : goal.returns-in-Err
returns-in-Err g c =
    let a = c.args in
    step_memory a.settings.now a.writer.now (collection_due a.rest) a.opened.now.items c.keep.new.opened.items c.in-Err.stop c.in-Err.ensures.failed

pub returns : goal.returns
returns g c =
    let a = c.args in
    step_enter a.settings.now a.writer.now c.begin.new.writer a.opened.now.items c.keep.new.opened.items a.rest c.kind.result c.begin.result
    c.stop_of.result c.in_default.ensures.kept (grind (arith, common_steps)) c.kind.ensures c.stop_of.ensures c.begin.ensures.kept c.begin.ensures.begins
