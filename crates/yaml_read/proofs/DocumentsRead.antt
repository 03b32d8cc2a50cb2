-- From the events of a node's text to the document of these bytes, and to why there is none.
use Rattle.yaml_read.proofs.Common.{ℕ, ◌==◌, Bool, true, false, None, List, [], ◌∷◌, ◌++◌, refl, ◌≡◌, ap, subst, sym, ◌∙◌, ◌⊎◌, inl, inr, All, codes, flat_map}
use Rattle.yaml_read.proofs.Common.{length, encode_utf8_all, line_feed, Text, if◌then◌else◌, Graph, document_event_list, graph_steps, step_events, Event}
use Rattle.yaml_read.proofs.Common.{document_end, graph_of, Isomorphic, IsWholeGraph, document_start, IfErr, IfOk, Result, Ok, Err, IsUtf8, AreRunBytes}
use Rattle.yaml_read.proofs.Common.{DocumentStops, IsDocumentPlaced, AreDumpedBytes, unstyled_graph, Tells, IsHere, RunStops, in_document, IsMemory, past_word}
use Rattle.yaml_read.proofs.Common.{HasRunText, IsInNode, ReadError, Stop}
use Rattle.yaml_base.specs.declared.documents.yaml_document_t.{yaml_document_t}
use Rattle.yaml_read.specs.DocumentPlaces.{AreEventsOf, ComposesNode}
use Rattle.yaml_read.proofs.{DumpedRuns.dumped_bytes_run, DumpedRuns.run_is_dumped, OneGraph.same_events, OneGraph.styled_isomorphic, RunScalars.run_utf8}
use Rattle.yaml_dump.specs.InOrder.{in_order}
use Rattle.yaml_read.specs.declared.errors.ReadError.TheVariants as told
use Rattle.yaml_read.specs.declared.errors.Stop.TheVariants as stop

-- ---- events

-- the facts that the events after a document's first line tell
pub events_sound : (text behind : List ℕ) (found : List Event) → text ≡ codes "---\n" ++ behind
    → (events : List Event) × (node : Text) × (found ≡ in_document events) × HasRunText [] events node × All IsInNode events
    × (behind ≡ encode_utf8_all (node ++ line_feed ∷ [])) → AreEventsOf text found
events_sound text behind found is (events, node, whole, run, in_node, parts) =
    record { events = events; whole = whole; run = record { node = node; run = run; in_node = in_node; parts = is ∙ ap (λ t. codes "---\n" ++ t) parts } }

pub events_stop : (text behind : List ℕ) (error : Stop) → text ≡ codes "---\n" ++ behind → RunStops behind error → DocumentStops text error
events_stop text behind (stop.Refused left) is stops = inr (behind, is, stops)
events_stop text behind (stop.TooDeep left) is stops = stops
events_stop text behind stop.Memory is stops = tt

-- a document's first line is missing
pub first_line_stops : (text : List ℕ) (error : Stop) → past_word (codes "---\n") text ≡ None → IsHere text error → DocumentStops text error
first_line_stops text error none place = subst (DocumentStops text) (sym place) (inl (none, refl))

-- ---- documents

-- a graph that has events has nodes
pub has_nodes : (graph : Graph) (events : List Event) → document_event_list graph ≡ in_document events → (length graph.nodes == 0) ≡ false
has_nodes graph events is =
    by (length graph.nodes == 0)
    (document_start graph.start ∷ (flat_map (step_events graph (graph_steps graph)) (graph_steps graph) ++ document_end graph.end_implicit ∷ [])) is
  where
    by : (b : Bool) (some : List Event) → (if b then [] else some) ≡ in_document events → b ≡ false
    by true some same = cc
    by false some same = refl

-- the bytes of a dump are those of events
pub dumped_run : (graph : Graph) (bytes : List ℕ) → AreDumpedBytes graph bytes → (events : List Event) × AreRunBytes bytes events
dumped_run graph bytes dumped =
    let run = dumped_bytes_run graph bytes dumped in
    (run.events, record { node = run.node; run = run.run; in_node = run.in_node; parts = run.is })

-- and they are UTF-8
pub dumped_utf8 : (graph : Graph) (bytes : List ℕ) → AreDumpedBytes graph bytes → IsUtf8 bytes
dumped_utf8 graph bytes dumped = let run = dumped_run graph bytes dumped in run_utf8 bytes run.0 run.1

-- memory gave out, or no graph's dump has these bytes
abbrev pub NoneIsDumped : List ℕ → ReadError → Type 0
NoneIsDumped bytes error = (error ≡ told.Memory) ⊎ ((graph : Graph) → AreDumpedBytes graph bytes → ⊥)

-- the clauses of `read_document`
pub record DocumentAnswers {A : Type 0} (bytes : List ℕ) (answer : Result (yaml_document_t A) ReadError) : Type 0 where
  pub read : IfOk answer (λ document. AreDumpedBytes (graph_of document) bytes)
  pub exact : IfOk answer (λ document. (graph : Graph) → AreDumpedBytes graph bytes → graph_of document ≡ in_order (unstyled_graph graph))
  pub one : IfOk answer (λ document. (graph : Graph) → AreDumpedBytes graph bytes → Isomorphic graph (graph_of document))
  pub complete : IfErr answer (NoneIsDumped bytes)
  pub placed : IfErr answer (IsDocumentPlaced bytes)

-- the answer for the bytes of events
module _ (bytes : List ℕ) (all events : List Event) (run : AreRunBytes bytes events) (whole : all ≡ in_document events)
    (reads : (other : List Event) → AreRunBytes bytes other → all ≡ in_document other) where
  -- each graph whose dump has these bytes has these events
  dumped_list : (graph : Graph) → AreDumpedBytes graph bytes
      → IsWholeGraph (unstyled_graph graph) × (document_event_list (unstyled_graph graph) ≡ in_document events)
  dumped_list graph dumped =
      let run = dumped_bytes_run graph bytes dumped in
      let is = reads run.events (record { node = run.node; run = run.run; in_node = run.in_node; parts = run.is }) in
      (run.whole, run.is_list ∙ sym is ∙ whole)

  pub composed_answers : {A : Type 0} (answer : Result (yaml_document_t A) ReadError) → ComposesNode events answer → DocumentAnswers bytes answer
  composed_answers (Ok document) composes =
      record {
        read = run_is_dumped _ _ _ _ composes.0 composes.1 run.run run.in_node run.parts;
        exact = λ graph dumped. let list = dumped_list graph dumped in composes.2 (unstyled_graph graph) list.0 list.1;
        one = λ graph dumped.
            let list = dumped_list graph dumped in
            styled_isomorphic graph _ (same_events _ _ list.0 composes.0 (list.1 ∙ sym composes.1));
        complete = tt;
        placed = tt;
      }
  composed_answers (Err told.NotNumbered) composes =
      record {
        read = tt;
        exact = tt;
        one = tt;
        complete = inr (λ graph dumped. let list = dumped_list graph dumped in composes (unstyled_graph graph) list.0 list.1);
        placed = record { events = events; run = run; none = composes };
      }
  composed_answers (Err told.Memory) composes = record { read = tt; exact = tt; one = tt; complete = inl refl; placed = tt }
  composed_answers _ composes = absurd composes

-- ---- errors

-- a text that is no document's
pub document_stopped : (bytes text : List ℕ) (why : Stop) (error : ReadError) → text ≡ bytes
    → Tells bytes why error
    → ((events : List Event) → AreRunBytes text events → IsMemory why) → NoneIsDumped bytes error
document_stopped bytes text stop.Memory error same tells reads = inl tells
document_stopped bytes text _ error same tells reads =
    inr (λ graph dumped.
    let run = dumped_run graph bytes dumped in
    reads run.0 (subst (λ (b : List ℕ). AreRunBytes b run.0) (sym same) run.1))

-- the error's position
pub document_placed : (bytes : List ℕ) (reason : Stop) (error : ReadError) → IsUtf8 bytes → Tells bytes reason error → DocumentStops bytes reason
    → IsDocumentPlaced bytes error
document_placed bytes (stop.Refused left) error utf8 tells stops =
    subst (IsDocumentPlaced bytes) (sym tells.2) (inr (record { utf8 = utf8; left = left; position_is = tells.1; holds = stops }))
document_placed bytes (stop.TooDeep left) error utf8 tells stops = absurd stops
document_placed bytes stop.Memory error utf8 tells stops = subst (IsDocumentPlaced bytes) (sym tells) tt
