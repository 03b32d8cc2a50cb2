-- A graph without styles has the events of the graph without theirs.
use Rattle.yaml_base.proofs.Common.{arith, ℕ, [], ◌∷◌, ◌++◌, ◌==◌, ◌&&◌, ◌≡◌, ◌∙◌, if◌then◌else◌, Bool, true, false, Option, List, refl, ap, sym, map}
use Rattle.yaml_base.proofs.Common.{flat_map, length, list_all, nat_le, option_map, map-append, length-map, Text, Event, document_start, document_end, Held}
use Rattle.yaml_base.proofs.Common.{GraphNode, Graph, node_numbered, numbers_held, numbers_in, children, Step, enters, leaves, meets_again, anchor_of}
use Rattle.yaml_base.proofs.Common.{opening_event_of, opening_events, closing_event_of, closing_events, step_events, document_event_list, IsWholeGraph}
use Rattle.yaml_base.{proofs.Unstyled.unstyled, specs.graphs.Meetings.graph_steps}
use Rattle.std.proofs.lemmas.Option.{slice_get-map}
use Rattle.yaml_read.{specs.DocumentTexts.unstyled_graph, specs.DocumentTexts.unstyled_held, specs.DocumentTexts.unstyled_node, proofs.ChildWalks.walks_same}
use Rattle.yaml_read.{proofs.NodeEvents.root_events}

-- ---- nodes and their children

pub node_unstyled : (graph : Graph) (number : ℕ) → node_numbered (unstyled_graph graph) number ≡ option_map unstyled_node (node_numbered graph number)
node_unstyled graph number = grind (arith, slice_get-map, unstyled_node)

held_numbers : (held : Held) → numbers_held (unstyled_held held) ≡ numbers_held held
held_numbers held = grind arith

found_numbers : (found : Option GraphNode) → numbers_in (option_map unstyled_node found) ≡ numbers_in found
found_numbers found = grind (arith, held_numbers)

pub children_unstyled : (graph : Graph) (number : ℕ) → children (unstyled_graph graph) number ≡ children graph number
children_unstyled graph number = ap numbers_in (node_unstyled graph number) ∙ found_numbers (node_numbered graph number)

-- ---- events

steps_unstyled : (graph : Graph) → graph_steps (unstyled_graph graph) ≡ graph_steps graph
steps_unstyled graph = walks_same (unstyled_graph graph) graph (length-map graph.nodes unstyled_node) (children_unstyled graph)

held_opens : (anchor : Option Text) (tag : Text) (held : Held)
    → opening_event_of anchor tag (unstyled_held held) ∷ [] ≡ map unstyled (opening_event_of anchor tag held ∷ [])
held_opens anchor tag held = grind arith

opening_unstyled : (anchor : Option Text) (found : Option GraphNode)
    → opening_events anchor (option_map unstyled_node found) ≡ map unstyled (opening_events anchor found)
opening_unstyled anchor found = grind (arith, held_opens)

held_closes : (held : Held) → closing_event_of (unstyled_held held) ≡ map unstyled (closing_event_of held)
held_closes held = grind arith

closing_unstyled : (found : Option GraphNode) → closing_events (option_map unstyled_node found) ≡ map unstyled (closing_events found)
closing_unstyled found = grind (arith, held_closes)

step_unstyled : (graph : Graph) (walk : List Step) (step : Step)
    → step_events (unstyled_graph graph) walk step ≡ map unstyled (step_events graph walk step)
step_unstyled graph walk (enters number) =
    ap (opening_events (anchor_of walk number)) (node_unstyled graph number) ∙ opening_unstyled (anchor_of walk number) (node_numbered graph number)
step_unstyled graph walk (leaves number) = ap closing_events (node_unstyled graph number) ∙ closing_unstyled (node_numbered graph number)
step_unstyled graph walk (meets_again number) = refl

events_unstyled : (graph : Graph) (walk part : List Step)
    → flat_map (step_events (unstyled_graph graph) walk) part ≡ map unstyled (flat_map (step_events graph walk) part)
events_unstyled graph walk [] = refl
events_unstyled graph walk (step ∷ part) =
    ap (λ (events : List Event). events ++ flat_map (step_events (unstyled_graph graph) walk) part) (step_unstyled graph walk step)
    ∙ ap (λ (events : List Event). map unstyled (step_events graph walk step) ++ events) (events_unstyled graph walk part)
    ∙ sym (map-append unstyled (step_events graph walk step) (flat_map (step_events graph walk) part))

root_unstyled : (graph : Graph) → root_events (unstyled_graph graph) ≡ map unstyled (root_events graph)
root_unstyled graph =
    ap (λ (walk : List Step). flat_map (step_events (unstyled_graph graph) walk) walk) (steps_unstyled graph)
    ∙ events_unstyled graph (graph_steps graph) (graph_steps graph)

-- the document's events
pub document_unstyled : (graph : Graph) → document_event_list (unstyled_graph graph) ≡ map unstyled (document_event_list graph)
document_unstyled graph =
    ap (λ (count : ℕ). if count == 0 then [] else listed (root_events (unstyled_graph graph))) (length-map graph.nodes unstyled_node)
    ∙ by (length graph.nodes == 0)
  where
    listed : List Event → List Event
    listed inside = unstyled (document_start graph.start) ∷ (inside ++ document_end graph.end_implicit ∷ [])

    by : (none : Bool)
        → (if none then [] else listed (root_events (unstyled_graph graph)))
        ≡ map unstyled (if none then [] else document_start graph.start ∷ (root_events graph ++ document_end graph.end_implicit ∷ []))
    by true = refl
    by false =
        ap listed (root_unstyled graph) ∙ ap (λ (events : List Event). unstyled (document_start graph.start) ∷ events)
        (sym (map-append unstyled (root_events graph) (document_end graph.end_implicit ∷ [])))

-- ---- whole graphs

abbrev names_nodes : ℕ → GraphNode → Bool
names_nodes count node = list_all (λ number. nat_le 1 number && nat_le number count) (numbers_held node.held)

nodes_named : (count : ℕ) (nodes : List GraphNode) → list_all (names_nodes count) (map unstyled_node nodes) ≡ list_all (names_nodes count) nodes
nodes_named count [] = refl
nodes_named count (node ∷ nodes) =
    ap (λ (numbers : List ℕ). list_all (λ number. nat_le 1 number && nat_le number count) numbers
    && list_all (names_nodes count) (map unstyled_node nodes)) (held_numbers node.held)
    ∙ ap (λ (rest : Bool). names_nodes count node && rest) (nodes_named count nodes)

-- a graph stays whole without its styles
pub whole_unstyled : (graph : Graph) → IsWholeGraph graph → IsWholeGraph (unstyled_graph graph)
whole_unstyled graph is =
    record {
      whole =
          ap (λ (count : ℕ). list_all (names_nodes count) (map unstyled_node graph.nodes)) (length-map graph.nodes unstyled_node)
          ∙ nodes_named (length graph.nodes) graph.nodes ∙ is.whole;
      has_nodes = ap (λ (count : ℕ). count == 0) (length-map graph.nodes unstyled_node) ∙ is.has_nodes;
    }
