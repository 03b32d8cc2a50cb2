use Rattle.yaml_caller.proofs.Common.{◌<◌, ◌==◌, length, ap, subst, ◌∙◌, arith, Settings, State, graph_of, Graph}
use Rattle.yaml_caller.specs.Alone.{DumpsAlone}
use Rattle.yaml_base.specs.Settings.{largest_usize}
use Rattle.yaml_caller.proofs.GraphsCompared.{dump_writes, dump_refused}
use Rattle.yaml_caller.proofs.graphs.graph_bytes.Goals as goal

pub dump_alone-answer-requires-clause-unopened : goal.dump_alone-answer-requires-clause-unopened
dump_alone-answer-requires-clause-unopened g c =
    let made = c.in-Ok.ensures.made in
    record {
      output = ap (λ (state : State). state.has_output) made;
      no_error = ap (λ (state : State). state.error) made;
      unopened = ap (λ (state : State). state.opened) made;
      unclosed = ap (λ (state : State). state.closed) made;
    }

pub dump_alone-answer-requires-clause-nonempty : goal.dump_alone-answer-requires-clause-nonempty
dump_alone-answer-requires-clause-nonempty g c = ap (λ (graph : Graph). length graph.nodes == 0) c.bare.ensures ∙ c.requires.nonempty

pub returns-in-Ok-answer-clause-written : goal.returns-in-Ok-answer-clause-written
returns-in-Ok-answer-clause-written g c =
    let made = c.in-Ok.ensures.made in
    let emitter = c.dump_alone-answer.new.emitter in
    let graph = graph_of c.bare.result in
    let answer = c.dump_alone-answer.result in
    let whole = c.yaml_emitter_take_output-output.ensures.untaken (c.dump_alone-answer.ensures.taken ∙ ap (λ (state : State). state.page.taken) made) in
    dump_writes (graph_of c.args.document) graph c.yaml_emitter_take_output-output.result.items emitter answer _ c.bare.ensures c.in-Ok-answer.is whole
    (subst (λ (given : Settings). DumpsAlone given graph answer emitter) (ap (λ (state : State). state.given) made ∙ c.canonical_settings.ensures)
    (c.dump_alone-answer.ensures.dumps (ap (λ (state : State). state.events) made)))

pub returns-clause-failed : goal.returns-clause-failed
returns-clause-failed g c =
    let made = c.in-Ok.ensures.made in
    let emitter = c.dump_alone-answer.new.emitter in
    let graph = graph_of c.bare.result in
    let answer = c.dump_alone-answer.result in
    let whole = c.yaml_emitter_take_output-output.ensures.untaken (c.dump_alone-answer.ensures.taken ∙ ap (λ (state : State). state.page.taken) made) in
    let bytes = c.yaml_emitter_take_output-output.result in
    let few : length bytes.items < largest_usize = omega (arith, bytes.ok.0, bytes.ok.1, bytes.small) in
    dump_refused (graph_of c.args.document) graph _ bytes.items emitter answer c.bare.ensures c.in-Err.is whole few
    (subst (λ (given : Settings). DumpsAlone given graph answer emitter) (ap (λ (state : State). state.given) made ∙ c.canonical_settings.ensures)
    (c.dump_alone-answer.ensures.dumps (ap (λ (state : State). state.events) made)))
