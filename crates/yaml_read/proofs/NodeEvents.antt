-- The events of a dump's node, without their styles, are such as are read.
use Rattle.yaml_base.proofs.Common.{ℕ, numbers_in, All, true, false, Option, None, Some, List, [], ◌∷◌, ◌++◌, refl, ◌≡◌, ap, subst, ◌∙◌, map, arith}
use Rattle.yaml_base.proofs.Common.{flat_map, list_all, Contains, option_and_then, option_or, unwrap_or, is_alpha, Text, Event, alias, document_start}
use Rattle.yaml_base.proofs.Common.{document_end, sequence_end, mapping_end, Held, scalar_held, sequence_held, mapping_held, GraphNode, Graph, node_numbered}
use Rattle.yaml_base.proofs.Common.{Step, enters, leaves, meets_again, anchor_of, opening_event_of, opening_events, closing_event_of, closing_events}
use Rattle.yaml_base.proofs.Common.{step_events, document_event_list, IsWholeGraph, name_fault, anchor_fault, tag_fault, All-tail}
use Rattle.yaml_base.specs.declared.errors.yaml_error_t.TheVariants.{AliasAlphabet, AliasEmpty, AnchorAlphabet, AnchorEmpty, TagEmpty}
use Rattle.yaml_base.{proofs.Twins.contained_in, proofs.Unstyled.unstyled, specs.declared.errors.yaml_error_t.yaml_error_t}
use Rattle.yaml_base.{specs.graphs.Meetings.graph_steps, proofs.GraphRefusals.IsWritable as HasNoFault, proofs.GraphRefusals.document_writable}
use Rattle.std.proofs.lemmas.List.Elements.{All-append, All-cons, All-contains_itself, All-map, All-nil, All-pop, All-weaker}
use Rattle.yaml_read.specs.EventTexts.{IsAnchor, IsInNode, begins_node, ends_mapping, ends_sequence, is_alias, is_mapping, is_scalar, is_sequence}
use Rattle.yaml_read.{proofs.ChildWalks.walks_same, specs.DocumentTexts.IsWritable, specs.RunPlaces.bare_start}

-- ---- the events of a walk

-- an event that a step of a walk gives
data IsOfWalk : Event → Type 0 where
  opens_node : (anchor : Option Text) (tag : Text) (held : Held) → IsOfWalk (opening_event_of anchor tag held)
  names_node : (name : Text) → IsOfWalk (alias name)
  ends_items : IsOfWalk sequence_end
  ends_pairs : IsOfWalk mapping_end

one_of_walk : (event : Event) → IsOfWalk event → All IsOfWalk (event ∷ [])
one_of_walk event is = All-cons IsOfWalk event [] is (All-nil IsOfWalk)

openings_of_walk : (anchor : Option Text) (found : Option GraphNode) → All IsOfWalk (opening_events anchor found)
openings_of_walk anchor None = All-nil IsOfWalk
openings_of_walk anchor (Some node) = one_of_walk (opening_event_of anchor node.tag node.held) (opens_node anchor node.tag node.held)

held_of_walk : (held : Held) → All IsOfWalk (closing_event_of held)
held_of_walk (scalar_held value style) = All-nil IsOfWalk
held_of_walk (sequence_held items style) = one_of_walk sequence_end ends_items
held_of_walk (mapping_held pairs style) = one_of_walk mapping_end ends_pairs

closings_of_walk : (found : Option GraphNode) → All IsOfWalk (closing_events found)
closings_of_walk None = All-nil IsOfWalk
closings_of_walk (Some node) = held_of_walk node.held

step_of_walk : (graph : Graph) (walk : List Step) (step : Step) → All IsOfWalk (step_events graph walk step)
step_of_walk graph walk (enters number) = openings_of_walk (anchor_of walk number) (node_numbered graph number)
step_of_walk graph walk (leaves number) = closings_of_walk (node_numbered graph number)
step_of_walk graph walk (meets_again number) = one_of_walk _ (names_node (unwrap_or (anchor_of walk number) []))

steps_of_walk : (graph : Graph) (walk part : List Step) → All IsOfWalk (flat_map (step_events graph walk) part)
steps_of_walk graph walk [] = All-nil IsOfWalk
steps_of_walk graph walk (step ∷ part) =
    All-append IsOfWalk (step_events graph walk step) (flat_map (step_events graph walk) part) (step_of_walk graph walk step) (steps_of_walk graph walk part)

-- ---- names

no_name_fault : (if_empty if_other : yaml_error_t) (name : Text) → (if_empty ≡ TagEmpty → ⊥) → (if_other ≡ TagEmpty → ⊥)
    → ((error : yaml_error_t) → name_fault if_empty if_other name ≡ Some error → error ≡ TagEmpty) → name_fault if_empty if_other name ≡ None
no_name_fault if_empty if_other name h1 h2 error = grind (arith, list_all, is_alpha, yaml_error_t, true, false)

-- an anchor before a tag
anchor_stands : (anchor : Option Text) (tag : Text)
    → ((error : yaml_error_t) → option_or (option_and_then anchor_fault anchor) (tag_fault tag) ≡ Some error → error ≡ TagEmpty) → IsAnchor anchor
anchor_stands None tag only = tt
anchor_stands (Some name) tag only =
    no_name_fault AnchorEmpty AnchorAlphabet name (λ is. cc) (λ is. cc)
    (λ error is. only error (ap (λ (fault : Option yaml_error_t). option_or fault (tag_fault tag)) is))

-- ---- events that are read

opening_in_node : (anchor : Option Text) (tag : Text) (held : Held) → IsAnchor anchor → IsWritable (opening_event_of anchor tag held)
    → IsInNode (unstyled (opening_event_of anchor tag held))
opening_in_node anchor tag (scalar_held value style) anchored writable =
    begins_node (unstyled (opening_event_of anchor tag (scalar_held value style)))
    (is_scalar anchor tag value (record { anchor_sound = anchored; tag_sound = writable.0.0; tag_scalars = writable.0.1; value_scalars = writable.1 }))
opening_in_node anchor tag (sequence_held items style) anchored writable =
    begins_node (unstyled (opening_event_of anchor tag (sequence_held items style)))
    (is_sequence anchor tag (record { anchor_sound = anchored; tag_sound = writable.0; tag_scalars = writable.1; value_scalars = refl }))
opening_in_node anchor tag (mapping_held pairs style) anchored writable =
    begins_node (unstyled (opening_event_of anchor tag (mapping_held pairs style)))
    (is_mapping anchor tag (record { anchor_sound = anchored; tag_sound = writable.0; tag_scalars = writable.1; value_scalars = refl }))

held_anchor : (anchor : Option Text) (tag : Text) (held : Held) → HasNoFault (opening_event_of anchor tag held) → IsAnchor anchor
held_anchor anchor tag (scalar_held value style) sound = anchor_stands anchor tag sound.named
held_anchor anchor tag _ sound = anchor_stands anchor tag sound.named

in_node : (event : Event) → IsOfWalk event → HasNoFault event → IsWritable event → IsInNode (unstyled event)
in_node _ (opens_node anchor tag held) sound writable = opening_in_node anchor tag held (held_anchor anchor tag held sound) writable
in_node _ (names_node name) sound writable =
    begins_node (alias name) (is_alias name (no_name_fault AliasEmpty AliasAlphabet name (λ is. cc) (λ is. cc) sound.named))
in_node _ ends_items sound writable = ends_sequence
in_node _ ends_pairs sound writable = ends_mapping

-- ---- documents

-- the events of a graph's root
abbrev pub root_events : Graph → List Event
root_events graph = flat_map (step_events graph (graph_steps graph)) (graph_steps graph)

-- a whole graph's events are those of its root, between those of the document
pub root_between : (graph : Graph) → IsWholeGraph graph
    → document_event_list graph ≡ document_start graph.start ∷ (root_events graph ++ document_end graph.end_implicit ∷ [])
root_between graph is = grind (arith, document_start, root_events, document_end)

-- a fact about each event of a document is one about those of its root
inside_all : (P : Event → Type 0) (graph : Graph) → IsWholeGraph graph → All P (document_event_list graph) → All P (root_events graph)
inside_all P graph is all =
    let between = subst (λ (events : List Event). All P events) (root_between graph is) all in
    (All-pop P (root_events graph ++ document_end graph.end_implicit ∷ []) (root_events graph) (Some (document_end graph.end_implicit)) refl
    (All-tail P (document_start graph.start) (root_events graph ++ document_end graph.end_implicit ∷ []) between)).0

-- ---- a graph in a bare document

abbrev bare_graph : Graph → Graph
bare_graph graph = record { start = bare_start; nodes = graph.nodes; end_implicit = graph.end_implicit }

node_bare : (graph : Graph) (number : ℕ) → node_numbered (bare_graph graph) number ≡ node_numbered graph number
node_bare graph number = grind arith

step_bare : (graph : Graph) (walk : List Step) (step : Step) → step_events (bare_graph graph) walk step ≡ step_events graph walk step
step_bare graph walk (enters number) = ap (opening_events (anchor_of walk number)) (node_bare graph number)
step_bare graph walk (leaves number) = ap closing_events (node_bare graph number)
step_bare graph walk (meets_again number) = refl

events_bare : (graph : Graph) (walk part : List Step) → flat_map (step_events (bare_graph graph) walk) part ≡ flat_map (step_events graph walk) part
events_bare graph walk [] = refl
events_bare graph walk (step ∷ part) = grind (arith, flat_map, step_events, step_bare, events_bare graph walk part)

root_bare : (graph : Graph) → root_events (bare_graph graph) ≡ root_events graph
root_bare graph =
    ap (λ (walk : List Step). flat_map (step_events (bare_graph graph) walk) walk)
    (walks_same (bare_graph graph) graph refl (λ number. ap numbers_in (node_bare graph number))) ∙ events_bare graph (graph_steps graph) (graph_steps graph)

-- no event of a root has a fault of its own but an empty tag
root_sound : (graph : Graph) → IsWholeGraph graph → All HasNoFault (root_events graph)
root_sound graph is =
    let bare = bare_graph graph in
    let events = document_event_list bare in
    let whole : IsWholeGraph bare = record { whole = is.whole; has_nodes = is.has_nodes } in
    subst (λ (inside : List Event). All HasNoFault inside) (root_bare graph) (inside_all HasNoFault bare whole
    (All-weaker (Contains events) HasNoFault (λ event within. document_writable bare refl refl event (contained_in event events within)) events
    (All-contains_itself events)))

-- ---- the events of a root, without their styles

pub root_in_node : (graph : Graph) → IsWholeGraph graph → All IsWritable (document_event_list graph) → All IsInNode (map unstyled (root_events graph))
root_in_node graph is writable =
    let of_walk = steps_of_walk graph (graph_steps graph) (graph_steps graph) in
    let sound = root_sound graph is in
    let written = inside_all IsWritable graph is writable in
    All-map IsInNode unstyled (root_events graph)
    (λ place other within. in_node _ (of_walk place other within) (sound place other within) (written place other within))
