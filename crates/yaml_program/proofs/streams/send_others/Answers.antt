use Rattle.std.proofs.Common.{arith, inr, refl}
use Rattle.yaml_program.proofs.{FilesInTurn.behind_none, FilesInTurn.next_behind, Refusals.behind_refused, Refusals.behind_unbegun}
use Rattle.yaml_program.proofs.streams.send_others.Goals as goal

pub loop-name-init : goal.loop-name-init
loop-name-init g c = (
  omega arith,
  refl,
  c.requires,
  behind_none (g.F.SendsFile.sent c.args.format.now) (g.S.Sources.bytes_of c.args.sources.now) c.args.writer.now (g.W.Write.contents c.args.sink.now),
)

pub loop-name-preserved : goal.loop-name-preserved
loop-name-preserved g c =
    let l = c.loop-name in (
      omega arith,
      refl,
      c.in_default-send_file.ensures.free,
      next_behind (g.F.SendsFile.sent c.args.format.now) (g.S.Sources.bytes_of c.args.sources.now) c.args.names.now l.name-index _ c.args.writer.now
          l.writer c.begin_next.new.writer c.send_file.new.writer (g.W.Write.contents c.args.sink.now) (g.W.Write.contents l.sink)
          (g.W.Write.contents c.begin_next.new.sink) (g.W.Write.contents c.send_file.new.sink) c.loop-name-test.true l.invariant.3
          c.in_default.ensures.begun c.in_default-send_file.ensures.sent,
    )

pub returns-in-Err-clause-refused : goal.returns-in-Err-clause-refused
returns-in-Err-clause-refused g c status =
    let l = c.loop-name in
    behind_unbegun (g.F.SendsFile.sent c.args.format.now) (g.F.SendsFile.refused c.args.format.now) (g.S.Sources.bytes_of c.args.sources.now)
    c.args.names.now l.name-index c.args.writer.now l.writer c.begin_next.new.writer (g.W.Write.contents c.args.sink.now)
    (g.W.Write.contents l.sink) (g.W.Write.contents c.begin_next.new.sink) c.loop-name-test.true l.invariant.3 (c.in-Err.ensures.refused status)

pub returns-in-Err-send_file-clause-refused : goal.returns-in-Err-send_file-clause-refused
returns-in-Err-send_file-clause-refused g c status =
    let l = c.loop-name in
    behind_refused (g.F.SendsFile.sent c.args.format.now) (g.F.SendsFile.refused c.args.format.now) (g.S.Sources.bytes_of c.args.sources.now)
    c.args.names.now l.name-index _ c.args.writer.now l.writer c.send_file.new.writer (g.W.Write.contents c.args.sink.now)
    (g.W.Write.contents l.sink) (g.W.Write.contents c.send_file.new.sink) c.loop-name-test.true l.invariant.3
    (λ file known. inr (
      c.begin_next.new.writer,
      g.W.Write.contents c.begin_next.new.sink,
      c.in_default.ensures.begun,
      c.in-Err-send_file.ensures.refused status file known,
    ))
