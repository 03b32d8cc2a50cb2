use Rattle.yaml_serde.proofs.Common.{form_of, seen_settings, subst, sym, Finishes}
use Rattle.yaml_serde.proofs.Gave.{begins_nothing, begun_by, fails_with, new_begins, written_by}
use Rattle.yaml_serde.proofs.serializing.to_writer_with.Goals as goal

pub returns-in_err-writer-clause-first : goal.returns-in_err-writer-clause-first
returns-in_err-writer-clause-first g c =
    let values = c.args.settings.values in
    fails_with c.from_residual.result (begins_nothing (seen_settings values.emitter) (form_of values) (g.W.Write.contents c.args.sink.now))

pub returns-in_err-write_and_send-clause-first : goal.returns-in_err-write_and_send-clause-first
returns-in_err-write_and_send-clause-first g c =
    fails_with c.from_residual-in_err-write_and_send.result
    (new_begins (form_of c.args.settings.values) (g.W.Write.contents c.args.sink.now)
    (g.W.Write.contents c.write_and_send.new.sink) c.in_ok-writer.ensures.made c.in_err-write_and_send.ensures)

pub returns-in_err-rest-clause-first : goal.returns-in_err-rest-clause-first
returns-in_err-rest-clause-first g c =
    fails_with c.from_residual-in_err-rest.result
    (new_begins (form_of c.args.settings.values) (g.W.Write.contents c.args.sink.now)
    (g.W.Write.contents c.write_and_send.new.sink) c.in_ok-writer.ensures.made c.in_ok-write_and_send.ensures.first)

pub returns-clause-written : goal.returns-clause-written
returns-clause-written g c =
    let held = g.W.Write.contents in
    let sent = c.write_and_send in
    let emitter = sent.new.writer.emitter in
    written_by c.in_ok-writer.ensures.made emitter c.as_slice.result.now
    (subst (Finishes emitter) (sym c.as_slice.ensures.value) c.in_ok-rest.ensures.finishes) (held c.args.sink.now) (held sent.new.sink)
    (held c.finish_sink.new.sink) c.in_ok-write_and_send.ensures.whole c.finish_sink.result c.finish_sink.ensures.written

pub returns-clause-first : goal.returns-clause-first
returns-clause-first g c =
    let held = g.W.Write.contents in
    let sent = c.write_and_send in
    let emitter = sent.new.writer.emitter in
    begun_by c.in_ok-writer.ensures.made emitter c.as_slice.result.now
    (subst (Finishes emitter) (sym c.as_slice.ensures.value) c.in_ok-rest.ensures.finishes) (held c.args.sink.now) (held sent.new.sink)
    (held c.finish_sink.new.sink) c.in_ok-write_and_send.ensures.whole c.finish_sink.result c.finish_sink.ensures.first
