use Rattle.yaml_caller.proofs.Common.{◌==◌, length, ◌∙◌, graph_of, document_event_list, Err}
use Rattle.yaml_dump.proofs.Emissions.{closing_emits, keeps_dumping}
use Rattle.yaml_caller.proofs.DumpedAlone.{alone_closed, alone_failed, events_dumped, still_open}
use Rattle.yaml_caller.proofs.alone.dump_alone.Goals as goal

pub yaml_emitter_close-answer-requires : goal.yaml_emitter_close-answer-requires
yaml_emitter_close-answer-requires g c = record { opened = c.in_default.ensures.opened }

pub returns : goal.returns
returns g c =
    let before = c.args.emitter.now in
    let between = c.yaml_emitter_dump.new.emitter in
    let close = c.yaml_emitter_close-answer in
    let graph = graph_of c.args.document in
    let some = c.requires.nonempty in
    let unopened = c.requires.unopened in
    let dumps = c.in_default.ensures.dumps unopened.no_error in
    let open_still = still_open graph before between _ unopened some dumps in
    record {
      taken = (closing_emits between close.new.emitter close.result open_still close.ensures.closes).set.taken ∙ dumps.emits.set.taken;
      dumps =
          λ none.
          alone_closed before.given graph between close.new.emitter close.result (record { whole = c.numbers_name_nodes.ensures; has_nodes = some })
          dumps.emits.set.given (events_dumped graph before between _ unopened none some dumps) open_still c.promised-2.ensures.promised
          close.ensures.closes (close.ensures.graphs open_still) (close.ensures.trees open_still);
    }

pub returns-in-Err : goal.returns-in-Err
returns-in-Err g c =
    let before = c.args.emitter.now in
    let after = c.yaml_emitter_dump.new.emitter in
    let graph = graph_of c.args.document in
    let error = c.in-Err.error in
    let dumps = c.in-Err.ensures.dumps c.requires.unopened.no_error in
    record {
      taken = (keeps_dumping (length graph.nodes == 0) (document_event_list graph) before after (Err error) dumps).set.taken;
      dumps = λ none. alone_failed graph before after error c.requires.unopened none c.requires.nonempty c.promised.ensures.promised dumps;
    }
