use Rattle.yaml_program.proofs.Telling.{one_failed}
use Rattle.yaml_program.proofs.messages.write_texts.Goals as goal

pub returns-in-Err-clause-first : goal.returns-in-Err-clause-first
returns-in-Err-clause-first g c =
    let l = c.loop-text in
    one_failed c.args.texts.now l.text-index _ (g.W.Write.contents c.args.sink.now) (g.W.Write.contents l.sink) (g.W.Write.contents c.write_to_sink.new.sink)
    c.loop-text-test.true l.invariant.2 c.as_bytes.result.now c.as_bytes.ensures.value c.in-Err.ensures.first
