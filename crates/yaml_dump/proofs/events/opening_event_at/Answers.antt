use Rattle.yaml_dump.proofs.Common.{◌-◌, slice_index_or as get_or, Option, [], ◌∷◌, map, arith, enters, ap, ◌∙◌, Event, Text, anchor_of_place}
use Rattle.std.proofs.lemmas.Grind.{common_steps}
use Rattle.yaml_base.proofs.Common.{opening_event_of}
use Rattle.yaml_base.specs.{Seen.seen_text, graphs.SeenNodes.seen_held, graphs.SeenNodes.seen_node}
use Rattle.yaml_dump.proofs.HoldLemmas.{reads_itself, opens_as_held, held_after_entry, still_held}
use Rattle.yaml_dump.proofs.events.opening_event_at.Goals as goal

pub returns-clause-event : goal.returns-clause-event
returns-clause-event g c graph before holds none =
    let nodes = c.args.nodes.now in
    let node = get_or nodes (c.args.number - 1) c.index-nodes-number.result in
    ap (λ (event : Event). event ∷ [])
    (c.opening_event.ensures.event
    ∙ ap (λ (anchor : Option Text). opening_event_of anchor (seen_text node.tag) (seen_held node.contents)) c.in-Ok.ensures)
    ∙ opens_as_held graph before nodes c.args.number node (anchor_of_place c.args.place) c.requires
    (reads_itself nodes (c.args.number - 1) c.index-nodes-number.result c.index-nodes-number.is) holds none

pub returns-clause-held : goal.returns-clause-held
returns-clause-held g c graph before holds =
    let nodes = c.args.nodes.now in
    held_after_entry graph before nodes c.args.number (get_or nodes (c.args.number - 1) c.index-nodes-number.result) c.opening_event.new.node c.requires
    (reads_itself nodes (c.args.number - 1) c.index-nodes-number.result c.index-nodes-number.is) c.opening_event.ensures.ends holds

pub overflow_sub-node : goal.overflow_sub-node
overflow_sub-node g c = c.requires.first

pub bounds-nodes-number : goal.bounds-nodes-number
bounds-nodes-number g c = omega (arith, c.requires.first, c.requires.last)

pub returns-in_default-clause-held : goal.returns-in_default-clause-held
returns-in_default-clause-held g c graph before holds = still_held graph before (enters c.args.number) (map seen_node c.args.nodes.now) holds

pub offset_bounds-nodes-number : goal.offset_bounds-nodes-number
offset_bounds-nodes-number g c = grind (arith, common_steps)
