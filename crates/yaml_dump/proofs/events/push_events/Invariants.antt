use Rattle.yaml_dump.proofs.Common.{take, map, [], ◌++◌, ◌≡◌, flat_map, Graph, graph_steps, step_events, seen_events, seen_step}
use Rattle.yaml_base.specs.graphs.SeenNodes.{seen_node}
use Rattle.yaml_dump.specs.Events.{HoldsTexts}
use Rattle.yaml_dump.proofs.events.push_events.Given as goal

abbrev pub invariant-loop-step : goal.invariant-loop-step
invariant-loop-step g l =
    (graph : Graph) → map seen_step l.walk ≡ graph_steps graph → HoldsTexts graph [] (map seen_node l.initial.nodes)
    → (seen_events l.events.items
    ≡ seen_events l.initial.events.items ++ flat_map (step_events graph (map seen_step l.walk)) (map seen_step (take l.step-index l.walk)))
    × HoldsTexts graph (map seen_step (take l.step-index l.walk)) (map seen_node l.nodes)
