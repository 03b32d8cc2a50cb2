-- A graph whose nodes are numbered in the order in which its walk enters them; those that aren't reached are left out.
use Rattle.std.specs.Prelude.{ℕ, suc, ◌==◌, Option, None, Some, List, [], map, filter_map, unwrap_or}
use Rattle.std.specs.List.{position_or_len}
use Rattle.yaml_base.specs.Event.{any_style}
use Rattle.yaml_base.specs.graphs.Meetings.{Held, scalar_held, sequence_held, mapping_held, GraphNode, Graph, node_numbered, Step, enters, graph_steps}

-- the node that a step enters
abbrev pub node_entered : Step → Option ℕ
node_entered (enters number) = Some number
node_entered _ = None

-- the nodes in the order in which steps enter them
abbrev pub entered_nodes : List Step → List ℕ
entered_nodes walk = filter_map node_entered walk

-- a node's place in an order, from 1 on
abbrev pub number_in_order : List ℕ → ℕ → ℕ
number_in_order order number = suc (position_or_len (λ other. other == number) order)

-- a node's contents, with its children renumbered
abbrev pub renumber_children : (ℕ → ℕ) → Held → Held
renumber_children place (scalar_held value style) = scalar_held value style
renumber_children place (sequence_held items style) = sequence_held (map place items) style
renumber_children place (mapping_held pairs style) = mapping_held (map (λ pair. record { key = place pair.key; value = place pair.value }) pairs) style

-- a node with its children renumbered
abbrev pub node_by : (ℕ → ℕ) → GraphNode → GraphNode
node_by place node = record { tag = node.tag; held = renumber_children place node.held }

-- the node of a number; an empty one if there is none
abbrev pub numbered_node : Graph → ℕ → GraphNode
numbered_node graph number = unwrap_or (node_numbered graph number) (record { tag = []; held = scalar_held [] any_style })

-- the nodes of these numbers, in this order, with their children renumbered by `order`
abbrev pub nodes_in : Graph → List ℕ → List ℕ → List GraphNode
nodes_in graph order numbers = map (λ number. node_by (number_in_order order) (numbered_node graph number)) numbers

-- the graph with its nodes in the order in which the walk enters them
abbrev pub in_order : Graph → Graph
in_order graph =
    let order = entered_nodes (graph_steps graph) in
    record { start = graph.start; nodes = nodes_in graph order order; end_implicit = graph.end_implicit }
