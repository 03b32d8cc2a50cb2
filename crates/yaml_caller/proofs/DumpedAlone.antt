-- The result of a dump and the stream's end on an unopened emitter.
use Rattle.yaml_caller.proofs.Common.{if◌then◌else◌, ◌==◌, OnOk, None, Result, Err, Ok, length, Bool, false, ◌||◌, List, [], ◌++◌, ◌∷◌, ◌≡◌, append-nil, inl}
use Rattle.yaml_caller.proofs.Common.{append_assoc, inr, refl, ap, subst, sym, ◌∙◌, All-nil, All-cons, Event, stream_start, stream_end, IsDumpOf, IsWholeGraph}
use Rattle.yaml_caller.proofs.Common.{Settings, Graph, GraphsRead, document_event_list, graph_events, opening_unless, closing_unless, Dumps, State}
use Rattle.yaml_base.specs.declared.errors.yaml_error_t.{yaml_error_t}
use Rattle.yaml_base.specs.{Output.output_of, StreamLaw.reads_alike}
use Rattle.yaml_dump.proofs.{Emissions.closing_emits, Emissions.emits_promised, Emissions.fails_error, GraphLemmas.dumped_whole}
use Rattle.yaml_dump.specs.{Dumps.Closes, Dumps.ReadsGraphs, Dumps.dumped_events, GraphTrees.GraphsReadBack, GraphTrees.ReadsTrees}
use Rattle.yaml_emitter.specs.Emits.{IsPromised}
use Rattle.yaml_caller.specs.Alone.{DumpsAlone, IsUnopened}
use Rattle.yaml_pen.proofs.Writing.{none_from_result, some_from_result}

-- the events are those of one dumped document
pub one_dumped : (graph : Graph) → IsWholeGraph graph → IsDumpOf (graph ∷ []) (graph_events graph)
one_dumped graph is =
    record {
      encoding = None;
      documents = All-cons IsWholeGraph graph [] is (All-nil IsWholeGraph);
      parts = ap (λ events. stream_start None ∷ (events ++ stream_end ∷ [])) (append-nil (document_event_list graph));
    }

-- the events that are emitted before the stream's end
abbrev before_end : Graph → List Event
before_end graph = stream_start None ∷ document_event_list graph

dumped_is : (graph : Graph) (before : State) → before.opened ≡ false → (length graph.nodes == 0) ≡ false
    → dumped_events before graph ≡ before_end graph
dumped_is graph before unopened some =
    ap (λ (b : Bool). opening_unless b ++ (if length graph.nodes == 0 then closing_unless before.closed else document_event_list graph)) unopened
    ∙ ap (λ (b : Bool). stream_start None ∷ (if b then closing_unless before.closed else document_event_list graph)) some

-- a dump that returns an error
pub alone_failed : (graph : Graph) (before after : State) (error : yaml_error_t) → IsUnopened before → before.events ≡ []
    → (length graph.nodes == 0) ≡ false → IsPromised after → Dumps graph before (Err error) after → DumpsAlone before.given graph (Err error) after
alone_failed graph before after error unopened none some promised (inl failed) = inl failed.0
alone_failed graph before after error unopened none some promised (inr dump) =
    let fails = dump.fails in
    inr
    (record {
      all = fails.earlier ++ fails.event ∷ [];
      rest = fails.later ++ stream_end ∷ [];
      parts =
          append_assoc fails.earlier (fails.event ∷ []) (fails.later ++ stream_end ∷ [])
          ∙ sym (append_assoc fails.earlier (fails.event ∷ fails.later) (stream_end ∷ []))
          ∙ ap (λ (events : List Event). events ++ stream_end ∷ []) (fails.parts ∙ dumped_is graph before unopened.unopened some);
      promised = emits_promised fails.emits promised before.given [] refl none;
      is = fails_error fails;
    })

-- one that returns Ok leaves the stream open
pub still_open : (graph : Graph) (before after : State) (done : Unit {0}) → IsUnopened before → (length graph.nodes == 0) ≡ false
    → Dumps graph before (Ok done) after → after.closed ≡ false
still_open graph before after done unopened some dumps =
    dumps.emits.set.closed ∙ ap (λ (b : Bool). b || length graph.nodes == 0) unopened.unclosed ∙ some

-- all its events are given
pub events_dumped : (graph : Graph) (before after : State) (done : Unit {0}) → IsUnopened before → before.events ≡ []
    → (length graph.nodes == 0) ≡ false → Dumps graph before (Ok done) after → after.events ≡ before_end graph
events_dumped graph before after done unopened none some dumps =
    dumps.emits.set.events ∙ ap (λ (events : List Event). events ++ dumped_events before graph) none ∙ dumped_is graph before unopened.unopened some

-- which is closed then
pub alone_closed : (given : Settings) (graph : Graph) (before after : State) (answer : Result (Unit {0}) yaml_error_t) → IsWholeGraph graph
    → before.given ≡ given → before.events ≡ before_end graph → before.closed ≡ false → IsPromised after → Closes before answer after
    → OnOk answer (ReadsGraphs after) → OnOk answer (ReadsTrees after) → DumpsAlone given graph answer after
alone_closed given graph before after (Ok done) whole settings was unclosed promised closes reads trees =
    let emits = closing_emits before after (Ok done) unclosed closes in
    let set = emits.set.given ∙ settings in
    let is = emits.set.events ∙ ap (λ (events : List Event). events ++ stream_end ∷ []) was in
    let dumped = subst (IsDumpOf (graph ∷ [])) (sym is) (one_dumped graph whole) in
    record {
      output_is =
          (dumped_whole after promised (none_from_result after.error emits.answered) (graph ∷ []) dumped).output
          ∙ ap (λ (given : Settings). output_of given after.events) set ∙ ap (output_of given) is;
      reads = λ canonical.
          subst (λ (given : Settings). GraphsRead given.breaks12 (graph ∷ []) after.page.output) set
          (reads (graph ∷ []) (ap (λ (given : Settings). given.canonical) set ∙ canonical) dumped);
      trees = λ alike.
          subst (λ (given : Settings). GraphsReadBack given.breaks12 (graph ∷ []) after.page.output) set
          (trees (graph ∷ [])
          (ap (λ (given : Settings). reads_alike given.portable given.canonical after.events) set
          ∙ ap (reads_alike given.portable given.canonical) is ∙ alike) dumped);
    }
alone_closed given graph before after (Err error) whole settings was unclosed promised closes reads trees =
    let emits = closing_emits before after (Err error) unclosed closes in
    inr
    (record {
      all = graph_events graph;
      rest = [];
      parts = append-nil (graph_events graph);
      promised = emits_promised emits promised given (before_end graph) settings was;
      is = some_from_result after.error error emits.answered;
    })
