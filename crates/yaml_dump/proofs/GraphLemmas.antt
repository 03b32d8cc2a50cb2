-- A document's events unfold its graph, and so do their bytes as they are read.
use Rattle.yaml_dump.proofs.Common.{arith, nat_tests}
use Rattle.yaml_dump.proofs.Common.{ℕ, ◌==◌, Option, None, Some, Result, Vec, drop, length, false, true, List, [], map}
use Rattle.yaml_dump.proofs.Common.{refl, ◌≡◌, ◌∙◌, false≢true, dumped_stream, document_unfolds, Event, seen_event, length-map}
use Rattle.yaml_dump.proofs.Common.{is_numbered, seen_step, seen_events, Settings, IsDumpOf, Graph, graph_steps, document_event_list, DocumentTree, State}
use Rattle.yaml_base.proofs.Common.{written, IsWholeGraph, agrees, stream_trees, documents_events, Stream, stream_events, IsAccepted}
use Rattle.std.{proofs.Math.Seq.drop-length, specs.Prelude.IfOk}
use Rattle.yaml_base.{proofs.QueueLaws.stream_written, specs.declared.events.yaml_event_t.yaml_event_t}
use Rattle.yaml_base.specs.graphs.Unfolding.{EventsUnfold}
use Rattle.yaml_dump.proofs.GraphTreeLemmas.{dumped_trees_unfold}
use Rattle.yaml_base.specs.{declared.nodes.yaml_node_t.yaml_node_t, graphs.SeenNodes.seen_node}
use Rattle.yaml_dump.specs.{Outlines.IsOutline, declared.outlines.Outline.Outline}
use Rattle.yaml_dump.specs.{Dumps.ReadsGraphs, Events.HoldsTexts, Events.walk_events, GraphTrees.GraphsReadBack, GraphTrees.ReadsTrees}
use Rattle.yaml_emitter.{proofs.EndedStreams.ends_last, specs.Emits.IsPromised, specs.Promises.IsWritten}
use Rattle.yaml_emitter.specs.Promises.{ends_stream}

-- the events of a walk over nodes that hold all parts that it needs are the document's
pub dumped_events : {A E : Type 0} (graph : Graph) (outline : Outline A) (nodes : List (yaml_node_t A)) (answer : Result (Vec (yaml_event_t A) A) E)
    → (length graph.nodes == 0) ≡ false → IsOutline graph outline → HoldsTexts graph [] (map seen_node nodes)
    → IfOk answer (λ events. (other : Graph) → IsOutline other outline → HoldsTexts other [] (map seen_node nodes)
    → seen_events events.items ≡ walk_events other (graph_steps other))
    → IfOk answer (λ events. map seen_event events.items ≡ document_event_list graph)
dumped_events graph outline nodes answer some is holds walked = grind (arith, nat_tests, walk_events, graph_steps)

-- an outline's steps are about the nodes of its graph
pub outline_numbered : {A : Type 0} (graph : Graph) (outline : Outline A) (nodes : List (yaml_node_t A)) → IsOutline graph outline
    → length (map seen_node nodes) ≡ length graph.nodes → is_numbered (length nodes) (map seen_step outline.walk.items) ≡ true
outline_numbered graph outline nodes is same = grind (arith, nat_tests, is_numbered, map, seen_step, length-map, seen_node)

-- a document's events unfold its graph
pub events_unfold : {A E : Type 0} (graph : Graph) (answer : Result (Vec (yaml_event_t A) A) E) → IsWholeGraph graph
    → IfOk answer (λ events. map seen_event events.items ≡ document_event_list graph)
    → IfOk answer (λ events. EventsUnfold graph (map seen_event events.items))
events_unfold graph answer is x = grind (arith, nat_tests, document_unfolds)

-- the documents read of dumped graphs
read_back : (given : Settings) (graphs : List Graph) (events : List Event) (bytes : List ℕ) (read : Option (List DocumentTree))
    → IsDumpOf graphs events → stream_trees given.breaks12 bytes ≡ read → agrees given.canonical events read ≡ true
    → GraphsReadBack given.breaks12 graphs bytes
read_back given graphs events bytes None dumped is agree = absurd (false≢true agree)
read_back given graphs events bytes (Some documents) dumped is agree =
    record { documents = documents; read = is; unfolds = dumped_trees_unfold given.canonical graphs events documents dumped agree }

-- ---- an emitter without an error

module _ (state : State) (promised : IsPromised state) (none : state.error ≡ None) where
  -- the events of a stream are accepted
  pub stream_accepted : (stream : Stream) → stream_events stream ≡ state.events → IsAccepted state.given.canonical state.events
  stream_accepted stream is = grind (arith, nat_tests, written, length, stream_written, drop, drop-length, ends_stream, ends_last, documents_events)

  -- so dumped graphs are written whole
  pub dumped_whole : (graphs : List Graph) → IsDumpOf graphs state.events → IsWritten state.given state.events state
  dumped_whole graphs dumped =
      let read = dumped_stream graphs state.events dumped in promised.whole none (stream_accepted read.stream read.is)

  -- and read back: in canonical mode by the canonical reader, in every mode by the reader of whole streams
  pub graphs_read : ReadsGraphs state
  graphs_read graphs canonical dumped =
      let read = dumped_stream graphs state.events dumped in
      record { contents = read.contents; read = (dumped_whole graphs dumped).reads canonical ∙ read.content; unfolds = read.unfolds }

  pub trees_read : ReadsTrees state
  trees_read graphs alike dumped =
      read_back state.given graphs state.events state.page.output (stream_trees state.given.breaks12 state.page.output) dumped refl
      ((dumped_whole graphs dumped).reads_back alike)
