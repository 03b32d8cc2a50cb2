-- The canonical bytes of a graph's dump are the text of a run of events, and such a run is a dump's.
use Rattle.yaml_read.proofs.Common.{ℕ, All, Bool, true, None, Some, List, [], ◌∷◌, ◌++◌, refl, ◌≡◌, ap, subst, sym, ◌∙◌, arith, map, map-append, codes, Text}
use Rattle.yaml_read.proofs.Common.{line_feed, encode, utf8, encode_utf8_all, Event, document_start, document_end, Graph, document_event_list}
use Rattle.yaml_read.proofs.Common.{IsWholeGraph, dumped_text, node_text, text_bytes-utf8, document_unfolds, unstyled, All-append, All-cons, All-nil}
use Rattle.yaml_read.proofs.Common.{All-weaker, BeginsNode, HasRunText, IsInNode, begins_node, is_alias, is_mapping, is_scalar, is_sequence, AreDumpedBytes}
use Rattle.yaml_read.proofs.Common.{IsWritable, unstyled_graph, bare_start, in_document}
use Rattle.yaml_base.{proofs.Common.DocumentStart, specs.graphs.DumpedText.HaveText, proofs.DumpedOutputs.one_text}
use Rattle.std.proofs.lemmas.List.{same_from_push}
use Rattle.yaml_read.proofs.{Encoded.word_encoded, NodeEvents.root_between, NodeEvents.root_events, NodeEvents.root_in_node, RunTexts.one_run_text}
use Rattle.yaml_read.proofs.{RunTexts.run_unstyled, TreeRuns.tree_runs, UnstyledGraphs.document_unstyled, UnstyledGraphs.whole_unstyled}

-- ---- documents by their parts

-- a document's events tell its start, its root's events and its end
pub record SameParts (start other : DocumentStart) (events others : List Event) (end also : Bool) : Type 0 where
  pub starts : start ≡ other
  pub inside : events ≡ others
  pub ends : end ≡ also

pub same_parts : (start other : DocumentStart) (events others : List Event) (end also : Bool)
    → document_start start ∷ (events ++ document_end end ∷ []) ≡ document_start other ∷ (others ++ document_end also ∷ [])
    → SameParts start other events others end also
same_parts start other events others end also same =
    let first : start ≡ other = cc in
    let rest : events ++ document_end end ∷ [] ≡ others ++ document_end also ∷ [] = cc in
    let parts = same_from_push events others (document_end end) (document_end also) rest in
    let ending : end ≡ also = cc in
    record { starts = first; inside = parts.0; ends = ending }

-- a document's start that is bare is implicit without its style
start_bare : (start : DocumentStart) → start.version ≡ None → start.directives ≡ [] → unstyled (document_start start) ≡ document_start bare_start
start_bare start version directives = grind (arith)

-- ---- bytes

-- a document's text in bytes
text_encoded : (node : Text) → encode (Some utf8) (codes "---\n" ++ (node ++ line_feed ∷ [])) ≡ codes "---\n" ++ encode_utf8_all (node ++ line_feed ∷ [])
text_encoded node = text_bytes-utf8 (codes "---\n" ++ (node ++ line_feed ∷ [])) ∙ word_encoded (codes "---\n") (node ++ line_feed ∷ []) refl

-- ---- from a dump to a run

-- the events without styles whose text the bytes of a dump are, and a graph that has them
pub record DumpedRun (graph : Graph) (bytes : List ℕ) : Type 0 where
  pub events : List Event
  pub node : Text
  pub run : HasRunText [] events node
  pub in_node : All IsInNode events
  pub is : bytes ≡ codes "---\n" ++ encode_utf8_all (node ++ line_feed ∷ [])
  pub whole : IsWholeGraph (unstyled_graph graph)
  pub is_list : document_event_list (unstyled_graph graph) ≡ in_document events

pub dumped_bytes_run : (graph : Graph) (bytes : List ℕ) → AreDumpedBytes graph bytes → DumpedRun graph bytes
dumped_bytes_run graph bytes dumped =
    let unfolded = document_unfolds graph dumped.whole in
    let root = unfolded.document.root in
    let has : HaveText (document_event_list graph) (dumped_text root) =
    record { document = unfolded.document; is_document = unfolded.is_document; is_text = refl } in
    let text : dumped.text ≡ dumped_text root = one_text (document_event_list graph) dumped.text (dumped_text root) dumped.is_dumped.events has in
    let parts = same_parts _ _ _ _ _ _ (unfolded.is_document ∙ root_between _ dumped.whole) in
    let without = map unstyled (root_events graph) in
    let start = start_bare graph.start dumped.bare.version dumped.bare.directives in
    record {
      events = without;
      node = node_text 0 root;
      run = subst (λ (events : List Event). HasRunText [] (map unstyled events) (node_text 0 root)) parts.inside
          (run_unstyled _ _ _ (tree_runs root));
      in_node = root_in_node _ dumped.whole dumped.writable;
      is = sym dumped.is_encoded ∙ ap (λ (t : Text). encode (Some utf8) t) text ∙ text_encoded (node_text 0 root);
      whole = whole_unstyled _ dumped.whole;
      is_list =
          document_unstyled graph ∙ ap (λ (events : List Event). map unstyled events) (root_between _ dumped.whole)
          ∙ ap (λ (events : List Event). unstyled (document_start graph.start) ∷ events)
          (map-append unstyled (root_events graph) (document_end graph.end_implicit ∷ []))
          ∙ ap (λ (event : Event). event ∷ (without ++ document_end graph.end_implicit ∷ [])) start
          ∙ ap (λ (end : Bool). document_start bare_start ∷ (without ++ document_end end ∷ [])) dumped.bare.implicit;
    }

-- ---- from a run to a dump

beginning_writable : (event : Event) → BeginsNode event → IsWritable event
beginning_writable _ (is_alias name sound) = tt
beginning_writable _ (is_scalar anchor tag value parts) = ((parts.tag_sound, parts.tag_scalars), parts.value_scalars)
beginning_writable _ (is_sequence anchor tag parts) = (parts.tag_sound, parts.tag_scalars)
beginning_writable _ (is_mapping anchor tag parts) = (parts.tag_sound, parts.tag_scalars)

event_writable : (event : Event) → IsInNode event → IsWritable event
event_writable _ (begins_node event begins) = beginning_writable event begins
event_writable _ _ = tt

all_writable : (events : List Event) → All IsInNode events → All IsWritable (in_document events)
all_writable events all =
    All-cons IsWritable (document_start bare_start) (events ++ document_end true ∷ []) tt
    (All-append IsWritable events (document_end true ∷ []) (All-weaker IsInNode IsWritable event_writable events all)
    (All-cons IsWritable (document_end true) [] tt (All-nil IsWritable)))

pub run_is_dumped : (graph : Graph) (events : List Event) (node : Text) (bytes : List ℕ) → IsWholeGraph graph
    → document_event_list graph ≡ in_document events → HasRunText [] events node → All IsInNode events
    → bytes ≡ codes "---\n" ++ encode_utf8_all (node ++ line_feed ∷ []) → AreDumpedBytes graph bytes
run_is_dumped graph events node bytes whole is_list run in_node is =
    let unfolded = document_unfolds graph whole in
    let root = unfolded.document.root in
    let parts = same_parts _ _ _ _ _ _ (unfolded.is_document ∙ is_list) in
    let start : graph.start ≡ bare_start = sym unfolded.start ∙ parts.starts in
    let of_tree : HasRunText [] events (node_text 0 root) =
    subst (λ (list : List Event). HasRunText [] list (node_text 0 root)) parts.inside (tree_runs root) in
    let text : node ≡ node_text 0 root = one_run_text _ _ _ _ run of_tree in
    record {
      whole = whole;
      bare = record {
        version = ap (λ (s : DocumentStart). s.version) start;
        directives = ap (λ (s : DocumentStart). s.directives) start;
        implicit = sym unfolded.end_implicit ∙ parts.ends;
      };
      writable = subst (λ (list : List Event). All IsWritable list) (sym is_list) (all_writable _ in_node);
      text = dumped_text root;
      is_dumped = record { events = record { document = unfolded.document; is_document = unfolded.is_document; is_text = refl }; unfolds = unfolded.unfolds };
      is_encoded = text_encoded (node_text 0 root) ∙ ap (λ (t : Text). codes "---\n" ++ encode_utf8_all (t ++ line_feed ∷ [])) (sym text) ∙ sym is;
    }
