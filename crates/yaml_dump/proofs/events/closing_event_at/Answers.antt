use Rattle.yaml_dump.proofs.Common.{◌-◌, slice_index_or as get_or, ◌∙◌}
use Rattle.yaml_dump.proofs.HoldLemmas.{reads_itself, ends_as_held}
use Rattle.yaml_dump.proofs.events.closing_event_at.Goals as goal

pub returns : goal.returns
returns g c graph before holds =
    let nodes = c.args.nodes.now in
    c.closing_event.ensures
    ∙ ends_as_held graph before nodes c.args.number (get_or nodes (c.args.number - 1) c.index-nodes-number.result) c.requires
    (reads_itself nodes (c.args.number - 1) c.index-nodes-number.result c.index-nodes-number.is) holds
