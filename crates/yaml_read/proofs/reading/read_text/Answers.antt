use Rattle.yaml_read.proofs.Common.{List, subst, sym, rules, seen_value, seen_levels, Level, NextMoved, Next}
use Rattle.yaml_read.proofs.UniqueTexts.{TextAt, follow_stops, follows, stepped_at, text_begins, text_on, whole_allows}
use Rattle.yaml_read.{specs.Opened.NextRead, proofs.Opening.text_read, proofs.Placing.marker_stops, proofs.Placing.text_stops}
use Rattle.yaml_read.proofs.reading.read_text.Goals as goal

pub nodes-init : goal.nodes-init
nodes-init g c = (
  search rules,
  subst
      (λ (levels : List (Level g.row.A.Denot)). TextAt c.args.keys c.args.text.now (seen_levels levels) c.in-Ok.rest.now c.new-held.result.items)
      (sym c.new-levels.ensures.items) (text_begins _ _ _ _ c.in-Ok.ensures.cut c.new-held.ensures.items),
)

pub returns-in-Err : goal.returns-in-Err
returns-in-Err g c = record { sound = tt; stops = marker_stops c.args.keys c.args.text.now c.in-Err.stop c.in-Err.ensures.cut c.in-Err.ensures.placed }

pub returns-in-Err-step : goal.returns-in-Err-step
returns-in-Err-step g c =
    let so_far = c.nodes.invariant.1 in
    record {
      sound = tt;
      stops =
          text_stops c.args.keys c.args.text.now so_far.whole c.in-Err-step.stop so_far.text_is
          (c.in-Err-step.ensures.stops c.args.keys so_far.whole so_far.opened so_far.allow);
    }

pub returns-in-Done : goal.returns-in-Done
returns-in-Done g c =
    let so_far = c.nodes.invariant.1 in
    let before = seen_levels c.nodes.levels.items in
    let after = seen_levels c.step.new.levels.items in
    let read = subst (λ (next : Next g.row.A.Denot). NextRead so_far.whole after next) c.in-Done.is (c.in-Ok-step.ensures.read so_far.whole so_far.opened) in
    let moved = subst (λ (next : Next g.row.A.Denot). NextMoved before after next) c.in-Done.is c.in-Ok-step.ensures.moved in
    record {
      sound = (
        text_read (seen_value c.in-Done.value) c.args.text.now so_far.whole so_far.text_is read.0,
        read.1,
        whole_allows c.args.keys before (seen_value c.in-Done.value) so_far.allow moved,
      );
      stops = tt;
    }

pub follow_by-requires : goal.follow_by-requires
follow_by-requires g c =
    let before = seen_levels c.nodes.levels.items in
    follows c.args.keys c.args.text.now before (seen_levels c.as_slice.result.now) c.nodes.rest.now c.in-Node.next c.nodes.held.items c.nodes.invariant.1
    (stepped_at _ _ _ _ _ _ c.as_slice.ensures.value c.in-Node.is c.in-Ok-step.ensures)

pub returns-in-Err-follow_by : goal.returns-in-Err-follow_by
returns-in-Err-follow_by g c =
    let before = seen_levels c.nodes.levels.items in
    let after = seen_levels c.as_slice.result.now in
    let stepped = stepped_at _ _ _ _ _ _ c.as_slice.ensures.value c.in-Node.is c.in-Ok-step.ensures in
    follow_stops _ _ _ _ _ c.in-Node.next _ c.follow_by.new.keys.items c.nodes.invariant.1 stepped _ (c.in-Err-follow_by.ensures
    (follows c.args.keys c.args.text.now before after c.nodes.rest.now c.in-Node.next c.nodes.held.items c.nodes.invariant.1 stepped))

pub nodes-preserved : goal.nodes-preserved
nodes-preserved g c =
    let before = seen_levels c.nodes.levels.items in
    let after = seen_levels c.as_slice.result.now in
    let stepped = stepped_at before c.nodes.rest.now c.in-Ok-step.next c.in-Node.next c.step.new.levels.items c.as_slice.result.now
    c.as_slice.ensures.value c.in-Node.is c.in-Ok-step.ensures in (
      search rules,
      subst
          (λ (levels : List (Level g.row.A.Denot)).
          TextAt c.args.keys c.args.text.now (seen_levels levels) c.in-Node.next.now c.follow_by.new.keys.items) c.as_slice.ensures.value
          (text_on c.args.keys c.args.text.now before after c.nodes.rest.now c.in-Node.next c.nodes.held.items c.nodes.invariant.1 stepped
          c.follow_by.new.keys.items (c.in-Ok-follow_by.ensures
          (follows c.args.keys c.args.text.now before after c.nodes.rest.now c.in-Node.next c.nodes.held.items c.nodes.invariant.1 stepped))),
    )
