-- The document that a list of events composes.
use Rattle.yaml_dump.proofs.Common.{nat_tests}
use Rattle.yaml_base.proofs.Common.{ℕ, ℤ, pos, negsuc, ◌+◌, ◌-◌, ◌≤◌, ◌&&◌, nat_le, option_map, Option, None, Some, length, Bool, cond, true, not}
use Rattle.yaml_base.proofs.Common.{slice_index_or as get_or, List, [], map, ◌++◌, ◌∷◌, refl, ◌≡◌, and_parts, ap, sym, ◌∙◌, arith, length-append, length-map}
use Rattle.yaml_base.proofs.Common.{flat_map, list_all, Event, DocumentStart, document_start, document_end, Graph, GraphNode, numbers_held, fold}
use Rattle.yaml_base.proofs.Common.{is_whole, IsWholeGraph, document_event_list, step_events, numbers_of_pairs, all_numbers, first_outside, option_or}
use Rattle.std.proofs.{Math.ListN.get_or-map, lemmas.List.Folds.find-append, Math.Seq.get_or-append_seam, lemmas.Result.IfOk-weaker}
use Rattle.std.specs.Prelude.{IfOk, Result}
use Rattle.yaml_base.specs.Seen.{seen_event}
use Rattle.yaml_base.specs.{Settings.largest_usize, declared.events.yaml_event_t.yaml_event_t, declared.nodes.yaml_node_data_t.yaml_node_data_t}
use Rattle.yaml_base.specs.{declared.nodes.yaml_node_pair_t.yaml_node_pair_t, declared.nodes.yaml_node_t.yaml_node_t, graphs.Meetings.graph_steps}
use Rattle.yaml_base.specs.{declared.documents.yaml_document_t.yaml_document_t}
use Rattle.yaml_base.specs.{graphs.Documents.graph_of}
use Rattle.yaml_base.specs.graphs.SeenNodes.{seen_number, seen_pair, seen_held, seen_node, names_node, numbers_of}
use Rattle.yaml_dump.specs.{Composing.seen_heading, declared.composing.Heading.Heading, InOrder.in_order}
use Rattle.yaml_dump.specs.Composition.{composed, nothing_composed}
use Rattle.yaml_dump.proofs.{InOrderLemmas.walk_of, CompositionRuns.document_composes}
use Rattle.yaml_dump.proofs.InOrderEvents.{in_order_document, in_order_events}

-- ---- the numbers of a whole graph name its nodes

none_outside : (count : ℕ) (numbers : List ℤ) → list_all (λ number. nat_le 1 number && nat_le number count) (map seen_number numbers) ≡ true
    → first_outside count numbers ≡ None
none_outside count [] all = refl
none_outside count (negsuc n ∷ rest) all = cc
none_outside count (pos n ∷ rest) all =
    grind (arith, nat_tests, and_parts, nat_le, list_all, map, seen_number, cond, not, first_outside, none_outside count rest, pos n)

pairs_seen : (pairs : List yaml_node_pair_t)
    → flat_map (λ pair. pair.key ∷ pair.value ∷ []) (map seen_pair pairs) ≡ map seen_number (numbers_of_pairs pairs)
pairs_seen [] = refl
pairs_seen (pair ∷ pairs) = ap (λ (rest : List ℕ). seen_number pair.key ∷ seen_number pair.value ∷ rest) (pairs_seen pairs)

contents_seen : {A : Type 0} (contents : yaml_node_data_t A) → numbers_held (seen_held contents) ≡ map seen_number (numbers_of contents)
contents_seen contents = grind (arith, pairs_seen)

nodes_name : {A : Type 0} (count : ℕ) (nodes : List (yaml_node_t A))
    → list_all (λ node. list_all (λ number. nat_le 1 number && nat_le number count) (numbers_held node.held)) (map seen_node nodes) ≡ true
    → first_outside count (all_numbers nodes) ≡ None
nodes_name count [] all = refl
nodes_name count (node ∷ nodes) all =
    let within = λ (numbers : List ℕ). list_all (λ number. nat_le 1 number && nat_le number count) numbers in
    let both = and_parts (within (numbers_held (seen_held node.contents)))
    (list_all (λ (other : GraphNode). within (numbers_held other.held)) (map seen_node nodes)) all in
    find-append (λ number. not (names_node count number)) (numbers_of node.contents) (all_numbers nodes)
    ∙ ap (λ (found : Option ℤ). option_or found (first_outside count (all_numbers nodes)))
    (none_outside count (numbers_of node.contents) (sym (ap within (contents_seen node.contents)) ∙ both.0))
    ∙ nodes_name count nodes both.1

pub whole_names : {A : Type 0} (graph : Graph) (nodes : List (yaml_node_t A)) → is_whole graph ≡ true → map seen_node nodes ≡ graph.nodes
    → first_outside (length nodes) (all_numbers nodes) ≡ None
whole_names graph nodes whole is =
    nodes_name (length nodes) nodes
    (ap (λ (list : List GraphNode). list_all (λ node. list_all (λ number. nat_le 1 number && nat_le number (length nodes)) (numbers_held node.held)) list) is
    ∙ ap (λ (count : ℕ). list_all (λ node. list_all (λ number. nat_le 1 number && nat_le number count) (numbers_held node.held)) graph.nodes)
    (sym (length-map nodes seen_node) ∙ ap length is)
    ∙ whole)

-- ---- the first event and the last

-- those of a document with nodes
abbrev inside : Graph → List Event
inside graph = flat_map (step_events graph (graph_steps graph)) (graph_steps graph)

document_is : (graph : Graph) → IsWholeGraph graph
    → document_event_list graph ≡ document_start graph.start ∷ (inside graph ++ document_end graph.end_implicit ∷ [])
document_is graph is = grind (arith, nat_tests)

pub some_events : {A : Type 0} (graph : Graph) (events : List (yaml_event_t A)) → IsWholeGraph graph → document_event_list graph ≡ map seen_event events
    → length events ≡ 0 → ⊥
some_events graph events is same none = grind (arith, nat_tests, length-map, seen_event, length, document_is)

pub first_is : {A : Type 0} (graph : Graph) (events : List (yaml_event_t A)) (event : yaml_event_t A) → IsWholeGraph graph
    → document_event_list graph ≡ map seen_event events → event ≡ get_or events 0 event → seen_event event ≡ document_start graph.start
first_is graph events event is same at =
    ap seen_event at
    ∙ sym (get_or-map seen_event events 0 event)
    ∙ ap (λ (list : List Event). get_or list 0 (seen_event event)) (sym same ∙ document_is graph is)

pub last_is : {A : Type 0} (graph : Graph) (events : List (yaml_event_t A)) (place : ℕ) (event : yaml_event_t A) → IsWholeGraph graph
    → document_event_list graph ≡ map seen_event events → place + 1 ≡ length events → event ≡ get_or events place event
    → seen_event event ≡ document_end graph.end_implicit
last_is graph events place event is same counted at =
    let all : map seen_event events ≡ document_start graph.start ∷ (inside graph ++ document_end graph.end_implicit ∷ []) = sym same ∙ document_is graph is in
    let count : place ≡ length (document_start graph.start ∷ inside graph) =
    omega (
      arith,
      counted,
      sym (length-map events seen_event) ∙ ap length all,
      length-append (inside graph) (document_end graph.end_implicit ∷ []),
    ) in
    ap seen_event at
    ∙ sym (get_or-map seen_event events place event)
    ∙ ap (λ (list : List Event). get_or list place (seen_event event)) all
    ∙ ap (λ (n : ℕ). get_or (document_start graph.start ∷ (inside graph ++ document_end graph.end_implicit ∷ [])) n (seen_event event)) count
    ∙ get_or-append_seam (document_start graph.start ∷ inside graph) (document_end graph.end_implicit) [] (seen_event event)

-- ---- the whole

-- the nodes that the events compose
pub nodes_are : {A : Type 0} (graph : Graph) (events : List (yaml_event_t A)) (nodes : List (yaml_node_t A)) → IsWholeGraph graph
    → document_event_list graph ≡ map seen_event events → length events ≤ largest_usize
    → map seen_node nodes ≡ (fold composed (nothing_composed (length events)) (map seen_event events)).nodes → map seen_node nodes ≡ (in_order graph).nodes
nodes_are graph events nodes is same fits composes =
    grind (arith, nat_tests, fold, composed, nothing_composed, length, document_composes, length-map, seen_event)

pub whole_in_order : (graph : Graph) → IsWholeGraph graph → is_whole (in_order graph) ≡ true
whole_in_order graph is = (in_order_document graph (walk_of graph is)).whole

-- the nodes of a whole graph hold no other number
pub none_other : {A : Type 0} (graph : Graph) (nodes : List (yaml_node_t A)) (number : ℤ) → is_whole graph ≡ true → map seen_node nodes ≡ graph.nodes
    → first_outside (length nodes) (all_numbers nodes) ≡ Some number → ⊥
none_other graph nodes number whole is outside = let no : None ≡ Some number = sym (whole_names graph nodes whole is) ∙ outside in cc

heading_is : {A : Type 0} (found : Option (Heading A)) (heading : Heading A) (start : DocumentStart) → option_map seen_heading found ≡ Some start
    → found ≡ Some heading → seen_heading heading ≡ start
heading_is found heading start is at = grind (arith, nat_tests, seen_heading, option_map)

end_is : (found : Option Bool) (end last : Bool) → found ≡ Some last → found ≡ Some end → end ≡ last
end_is found end last is at = grind (arith, nat_tests)

none_first : (count : ℕ) → (count ≡ 0 → ⊥) → count - 1 + 1 ≡ count
none_first count some = grind (arith, nat_tests)

-- the place of the last event
pub last_place : {A : Type 0} (graph : Graph) (events : List (yaml_event_t A)) → IsWholeGraph graph → document_event_list graph ≡ map seen_event events
    → length events - 1 + 1 ≡ length events
last_place graph events is same = none_first (length events) (some_events graph events is same)

-- without a heading there is no start, and without an end no end
pub no_heading : {A : Type 0} (found : Option (Heading A)) (start : DocumentStart) → option_map seen_heading found ≡ Some start → found ≡ None → ⊥
no_heading found start is none = let no : None ≡ Some start = sym (ap (option_map seen_heading) none) ∙ is in cc

pub no_end : (found : Option Bool) (end : Bool) → found ≡ Some end → found ≡ None → ⊥
no_end found end is none = let no : None ≡ Some end = sym none ∙ is in cc

-- the document that is made of the events' parts is that of any graph with these events, in the order of its walk
pub composed_so : {A E : Type 0} (events : List (yaml_event_t A)) (first last : yaml_event_t A) (found : Option (Heading A)) (heading : Heading A)
    (ended : Option Bool) (end : Bool) (nodes : List (yaml_node_t A)) (answer : Result (Option (yaml_document_t A)) E) → length events ≤ largest_usize
    → first ≡ get_or events 0 first → last ≡ get_or events (length events - 1) last
    → ((start : DocumentStart) → seen_event first ≡ document_start start → option_map seen_heading found ≡ Some start) → found ≡ Some heading
    → ((implicit : Bool) → seen_event last ≡ document_end implicit → ended ≡ Some implicit) → ended ≡ Some end
    → map seen_node nodes ≡ (fold composed (nothing_composed (length events)) (map seen_event events)).nodes
    → IfOk answer (λ made. (graph : Graph) → is_whole graph ≡ true → seen_heading heading ≡ graph.start → map seen_node nodes ≡ graph.nodes
    → end ≡ graph.end_implicit → option_map graph_of made ≡ Some graph)
    → IfOk answer (λ made. (graph : Graph) → IsWholeGraph graph → document_event_list graph ≡ map seen_event events
    → option_map graph_of made ≡ Some (in_order graph))
composed_so events first last found heading ended end nodes answer fits at also starts has_heading ends has_end composes made =
    IfOk-weaker answer _ _
    (λ document is graph document_is same. is (in_order graph) (whole_in_order graph document_is)
    (heading_is found heading graph.start (starts graph.start (first_is graph events first document_is same at)) has_heading)
    (nodes_are graph events nodes document_is same fits composes)
    (end_is ended end graph.end_implicit
    (ends graph.end_implicit (last_is graph events (length events - 1) last document_is same (last_place graph events document_is same) also)) has_end)) made

-- a document that was found has the graph that is known of it
pub graph_found : {A : Type 0} (found : Option (yaml_document_t A)) (document : yaml_document_t A) (graph : Graph) → option_map graph_of found ≡ Some graph
    → found ≡ Some document → graph_of document ≡ graph
graph_found found document graph is at = grind (arith, nat_tests, graph_of, option_map)

-- and has its events
pub events_found : {A : Type 0} (found : Option (yaml_document_t A)) (document : yaml_document_t A) (graph : Graph) (events dumped : List Event)
    → IsWholeGraph graph → document_event_list graph ≡ events → option_map graph_of found ≡ Some (in_order graph) → found ≡ Some document
    → dumped ≡ document_event_list (graph_of document) → dumped ≡ events
events_found found document graph events dumped is same known at dumps =
    dumps ∙ ap document_event_list (graph_found found document (in_order graph) known at) ∙ in_order_events graph is ∙ same
