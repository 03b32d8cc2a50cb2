-- Isomorphic graphs are dumped as events that differ in styles alone, so in canonical mode as the same bytes.
use Rattle.yaml_base.proofs.Common.{All, unwrap_or, option_map, bytes_eq, Option, None, Some, false, true, List, [], map, ◌++◌, ◌∷◌, refl, ◌≡◌, inl, inr, ap}
use Rattle.yaml_base.proofs.Common.{sym, ◌∙◌, arith, map-append, All-head, All-tail, Text, any_style, any_layout, Event, stream_start, stream_end, alias}
use Rattle.yaml_base.proofs.Common.{scalar, sequence_start, sequence_end, mapping_start, mapping_end, encoding_asked, output_of, Encoding, Settings, IsDumpOf}
use Rattle.yaml_base.proofs.Common.{label_at, Isomorphic, Held, GraphNode, Graph, Step, enters, leaves, meets_again, anchor_of, string_tag, sequence_tag}
use Rattle.yaml_base.proofs.Common.{mapping_tag, opening_event_of, opening_events, closing_event_of, closing_events, step_events, document_event_list}
use Rattle.yaml_base.{proofs.ContentsUnfold.dumped_stream, proofs.Unstyled.unstyled, proofs.Unstyled.outputs_same, specs.graphs.Meetings.graph_steps}
use Rattle.yaml_base.{specs.graphs.Unfolding.StyledKind, proofs.DocumentsUnfold.some_nodes}
use Rattle.yaml_base.proofs.Common.{scalar_kind, sequence_kind, mapping_kind, Label, label_of, IsReached, IsWholeGraph, nat_tests}
use Rattle.yaml_base.specs.graphs.Isomorphic.{IsWrittenAlike, AreWrittenAlike}
use Rattle.yaml_base.proofs.SameWalks.{node_of_step, AllReached, renumbered, same_walks, anchors_alike}
use Rattle.std.specs.Prelude.{flat_map}

-- ---- a node's events, by its label

abbrev scan_first_byte : Option Text → Text → StyledKind → Event
scan_first_byte anchor tag (scalar_kind value style) =
    let implicit = bytes_eq tag string_tag in
    scalar (record { anchor = anchor; tag = Some tag; value = value; plain_implicit = implicit; quoted_implicit = implicit; style = any_style })
scan_first_byte anchor tag (sequence_kind style) =
    sequence_start (record { anchor = anchor; tag = Some tag; implicit = bytes_eq tag sequence_tag; style = any_layout })
scan_first_byte anchor tag (mapping_kind style) =
    mapping_start (record { anchor = anchor; tag = Some tag; implicit = bytes_eq tag mapping_tag; style = any_layout })

abbrev prefix_by : Option Text → Option Label → List Event
prefix_by anchor None = []
prefix_by anchor (Some label) = scan_first_byte anchor (unwrap_or label.tag []) label.kind ∷ []

held_begins : (anchor : Option Text) (tag : Text) (held : Held)
    → map unstyled (opening_event_of anchor tag held ∷ []) ≡ prefix_by anchor (Some (label_of false (record { tag = tag; held = held })))
held_begins anchor tag held = grind (arith, nat_tests)

begins_by : (anchor : Option Text) (found : Option GraphNode)
    → map unstyled (opening_events anchor found) ≡ prefix_by anchor (option_map (label_of false) found)
begins_by anchor None = refl
begins_by anchor (Some node) = held_begins anchor node.tag node.held

abbrev ended_by : StyledKind → List Event
ended_by (scalar_kind value style) = []
ended_by (sequence_kind style) = sequence_end ∷ []
ended_by (mapping_kind style) = mapping_end ∷ []

abbrev ending_by : Option Label → List Event
ending_by None = []
ending_by (Some label) = ended_by label.kind

held_ends : (tag : Text) (held : Held) → map unstyled (closing_event_of held) ≡ ending_by (Some (label_of false (record { tag = tag; held = held })))
held_ends tag held = grind (arith, nat_tests)

ends_by : (found : Option GraphNode) → map unstyled (closing_events found) ≡ ending_by (option_map (label_of false) found)
ends_by None = refl
ends_by (Some node) = held_ends node.tag node.held

-- ---- the events of a walk

step_alike : (first second : Graph) (iso : Isomorphic first second) (walk : List Step) (step : Step) → AllReached first walk
    → IsReached first (node_of_step step)
    → map unstyled (step_events second (map (renumbered iso.partner) walk) (renumbered iso.partner step))
    ≡ map unstyled (step_events first walk step)
step_alike first second iso walk (enters number) all reached =
    begins_by _ _
    ∙ ap (λ (anchor : Option Text). prefix_by anchor (label_at second (iso.partner number))) (anchors_alike first _ iso walk _ all reached)
    ∙ ap (prefix_by (anchor_of walk number)) (iso.labels number reached) ∙ sym (begins_by _ _)
step_alike first second iso walk (leaves number) all reached = grind (arith, ends_by)
step_alike first second iso walk (meets_again number) all reached =
    ap (λ (anchor : Option Text). alias (unwrap_or anchor []) ∷ []) (anchors_alike first _ iso walk _ all reached)

steps_alike : (first second : Graph) (iso : Isomorphic first second) (walk part : List Step) → AllReached first walk → AllReached first part
    → map unstyled (flat_map (step_events second (map (renumbered iso.partner) walk)) (map (renumbered iso.partner) part))
    ≡ map unstyled (flat_map (step_events first walk) part)
steps_alike first second iso walk [] all reached = refl
steps_alike first second iso walk (step ∷ part) all reached =
    let other = map (renumbered iso.partner) walk in
    map-append unstyled (step_events second other (renumbered iso.partner step)) (flat_map (step_events second other) (map (renumbered iso.partner) part))
    ∙ ap (λ (events : List Event). events ++ map unstyled (flat_map (step_events second other) (map (renumbered iso.partner) part)))
    (step_alike first _ iso walk step all (reached step (inl refl))) ∙ ap (λ (events : List Event). map unstyled (step_events first walk step) ++ events)
    (steps_alike first second iso walk part all (λ one within. reached one (inr within)))
    ∙ sym (map-append unstyled (step_events first walk step) (flat_map (step_events first walk) part))

-- ---- documents

abbrev events_within : Graph → List Event
events_within graph = flat_map (step_events graph (graph_steps graph)) (graph_steps graph)

within_alike : (first second : Graph) → IsWholeGraph first → IsWholeGraph second → Isomorphic first second
    → map unstyled (events_within second) ≡ map unstyled (events_within first)
within_alike first second is also iso =
    let walks = same_walks first second iso is.whole also.whole (some_nodes _ is.has_nodes) (some_nodes _ also.has_nodes) in
    ap (λ (walk : List Step). map unstyled (flat_map (step_events second walk) walk)) walks.same
    ∙ steps_alike first second iso _ _ walks.reached walks.reached

document_alike : (first second : Graph) → IsWholeGraph first → IsWholeGraph second → IsWrittenAlike first second
    → map unstyled (document_event_list first) ≡ map unstyled (document_event_list second)
document_alike first second is also alike = grind (arith, map-append, within_alike)

documents_alike : (firsts seconds : List Graph) → All IsWholeGraph firsts → All IsWholeGraph seconds → AreWrittenAlike firsts seconds
    → map unstyled (flat_map document_event_list firsts) ≡ map unstyled (flat_map document_event_list seconds)
documents_alike [] [] are also alike = refl
documents_alike (first ∷ firsts) (second ∷ seconds) are also alike =
    map-append unstyled (document_event_list first) (flat_map document_event_list firsts)
    ∙ ap (λ (events : List Event). events ++ map unstyled (flat_map document_event_list firsts))
    (document_alike first second (All-head IsWholeGraph first firsts are) (All-head IsWholeGraph second seconds also) alike.0)
    ∙ ap (λ (events : List Event). map unstyled (document_event_list second) ++ events)
    (documents_alike firsts seconds (All-tail IsWholeGraph first firsts are) (All-tail IsWholeGraph second seconds also) alike.1)
    ∙ sym (map-append unstyled (document_event_list second) (flat_map document_event_list seconds))
documents_alike _ _ are also alike = absurd alike

-- ---- streams

stream_is : (graphs : List Graph) (events : List Event) (dumped : IsDumpOf graphs events)
    → map unstyled events ≡ stream_start dumped.encoding ∷ (map unstyled (flat_map document_event_list graphs) ++ stream_end ∷ [])
stream_is graphs events dumped = grind (arith, map-append)

-- streams of documents that canonical mode writes alike
pub same_canonical_output : (given : Settings) (firsts seconds : List Graph) (first second : List Event) → given.canonical ≡ true
    → IsDumpOf firsts first → IsDumpOf seconds second → encoding_asked first ≡ encoding_asked second → AreWrittenAlike firsts seconds
    → output_of given first ≡ output_of given second
same_canonical_output given firsts seconds first second canonical dumped also asked alike =
    let one = dumped_stream firsts first dumped in
    let two = dumped_stream seconds second also in
    let encoding : dumped.encoding ≡ also.encoding = ap encoding_asked dumped.parts ∙ asked ∙ sym (ap encoding_asked also.parts) in
    outputs_same given canonical first second one.stream two.stream one.is two.is
    (stream_is firsts first dumped
    ∙ ap (λ (e : Option Encoding). stream_start e ∷ (map unstyled (flat_map document_event_list firsts) ++ stream_end ∷ [])) encoding
    ∙ ap (λ (events : List Event). stream_start also.encoding ∷ (events ++ stream_end ∷ []))
    (documents_alike firsts seconds dumped.documents also.documents alike)
    ∙ sym (stream_is seconds second also))
