use Rattle.yaml_read.proofs.Common.{◌<◌, length, map, rules, subst, seen_event, seen_awaits, bytes_behind, open_now}
use Rattle.yaml_read.proofs.EventRuns.{RunDue, RunRead, event_shorter, fails_at_event, root_ended, run_begins, run_goes}
use Rattle.yaml_read.specs.declared.steps.Progress.{Progress}
use Rattle.yaml_read.proofs.runs.read_root.Goals as goal

pub steps-init : goal.steps-init
steps-init g c =
    let begins = run_begins c.args.text.now _ _ c.requires.begun c.requires.none_open in
    (search rules, begins.0, begins.1)

pub steps-preserved : goal.steps-preserved
steps-preserved g c =
    let now = seen_awaits c.read_event.new.awaits.items in
    let new = map seen_event c.read_event.new.events.items in
    let goes = run_goes c.args.text.now (map seen_event c.steps.events.items) new (seen_awaits c.steps.awaits.items) c.steps.rest.now
    (bytes_behind c.in-Ok.progress) (open_now now c.in-Ok.progress) c.steps.invariant.1 c.steps.invariant.2 c.in-Ok.ensures.reads in (
      search rules,
      subst (λ (p : Progress). RunRead c.args.text.now new (open_now now p) (bytes_behind p)) c.in-Continues.is goes.0,
      subst (λ (p : Progress). RunDue c.args.text.now new (open_now now p) (bytes_behind p)) c.in-Continues.is goes.1,
    )

pub steps-smaller : goal.steps-smaller
steps-smaller g c =
    subst (λ (p : Progress). length (bytes_behind p) < length c.steps.rest.now) c.in-Continues.is (event_shorter _ _ _ _ _ c.in-Ok.ensures.reads.read)

pub returns-in-RootEnds : goal.returns-in-RootEnds
returns-in-RootEnds g c =
    let now = seen_awaits c.read_event.new.awaits.items in
    let new = map seen_event c.read_event.new.events.items in
    let goes = run_goes _ _ _ _ _ _ _ c.steps.invariant.1 c.steps.invariant.2 c.in-Ok.ensures.reads in
    root_ended c.args.text.now new c.in-RootEnds.end.now
    (subst (λ (p : Progress). RunRead c.args.text.now new (open_now now p) (bytes_behind p) × RunDue c.args.text.now new (open_now now p) (bytes_behind p))
    c.in-RootEnds.is goes)

pub returns-in-Err : goal.returns-in-Err
returns-in-Err g c = fails_at_event _ _ _ _ _ c.steps.invariant.1 c.steps.invariant.2 c.in-Err.ensures.reads c.in-Err.ensures.placed
