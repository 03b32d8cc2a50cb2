use Rattle.std.proofs.lemmas.Result.{on_ok_weaker}
use Rattle.yaml_program.proofs.{FilesInTurn.named_sent, FilesInTurn.stream_sent, Refusals.other_refused, Refusals.refusal_weaker}
use Rattle.yaml_program.proofs.streams.send_documents.Goals as goal

pub returns-in-Ok-clause-sent : goal.returns-in-Ok-clause-sent
returns-in-Ok-clause-sent g c =
    stream_sent (g.F.SendsFile.sent c.args.format.now) (g.S.Sources.bytes_of c.args.sources.now) c.args.names.now c.args.writer.now
    c.send_file.new.writer (g.W.Write.contents c.args.sink.now) (g.W.Write.contents c.send_file.new.sink) c.in_default.ensures.cases c.in-Ok.ensures.sent

pub returns-clause-sent : goal.returns-clause-sent
returns-clause-sent g c =
    on_ok_weaker c.send_others.result
    (named_sent (g.F.SendsFile.sent c.args.format.now) (g.S.Sources.bytes_of c.args.sources.now) c.args.names.now c.in-Some.first.now
    c.in-Some.others.now c.args.writer.now c.send_file-2.new.writer c.send_others.new.writer (g.W.Write.contents c.args.sink.now)
    (g.W.Write.contents c.send_file-2.new.sink) (g.W.Write.contents c.send_others.new.sink) c.in-Some.ensures.cases.0 c.in_default-send_file.ensures.sent)
    c.send_others.ensures.sent

pub returns-clause-refused : goal.returns-clause-refused
returns-clause-refused g c =
    refusal_weaker c.send_others.result
    (other_refused (g.F.SendsFile.sent c.args.format.now) (g.F.SendsFile.refused c.args.format.now) (g.S.Sources.bytes_of c.args.sources.now)
    c.args.names.now c.in-Some.first.now c.in-Some.others.now c.in-Some.ensures.cases.0 c.args.writer.now c.send_file-2.new.writer c.send_others.new.writer
    (g.W.Write.contents c.args.sink.now) (g.W.Write.contents c.send_file-2.new.sink) (g.W.Write.contents c.send_others.new.sink)
    c.in_default-send_file.ensures.sent) c.send_others.ensures.refused
