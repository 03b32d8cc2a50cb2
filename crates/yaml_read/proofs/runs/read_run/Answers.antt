use Rattle.yaml_read.proofs.{Common.map, Common.Err, Common.refl, Common.seen_event, EventRuns.end_answer, EventRuns.end_lacking, EventRuns.run_ends}
use Rattle.yaml_read.proofs.runs.read_run.Goals as goal

pub returns-in-Ok-end_text : goal.returns-in-Ok-end_text
returns-in-Ok-end_text g c =
    let end = c.in-Ok-read_root.end in
    let found = c.read_root.new.events.items in
    let new = c.push-in-Ok-end_text.new.list.items in
    run_ends c.args.text.now (map seen_event found) (map seen_event new) end c.push-in-Ok-end_text.result c.in-Ok-read_root.ensures
    (end_answer seen_event end.now found new _ c.push-in-Ok-end_text.result refl c.in-Ok-end_text.ensures c.push-in-Ok-end_text.ensures)

pub returns-in-Err-end_text : goal.returns-in-Err-end_text
returns-in-Err-end_text g c =
    let end = c.in-Ok-read_root.end in
    let found = map seen_event c.read_root.new.events.items in
    run_ends {T = Unit {0}} c.args.text.now found found end (Err c.in-Err-end_text.stop) c.in-Ok-read_root.ensures
    (end_lacking end.now c.in-Err-end_text.stop c.in-Err-end_text.ensures)
