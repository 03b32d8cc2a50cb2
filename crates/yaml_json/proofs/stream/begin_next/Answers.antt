use Rattle.yaml_json.proofs.Common.{None, WriterState, between, refl, subst, sym, Grew, bare_awaits_none}
use Rattle.yaml_writer.{specs.WasGiven.NextUnsent, proofs.GivenAndTaken.begun_taken, proofs.GivenAndTaken.begun_unsent, proofs.GivenAndTaken.begun_not}
use Rattle.yaml_json.proofs.Growing.{grew_then, grew_passed, grew_failing, grew_sent}
use Rattle.yaml_pen.specs.Page.{output_left}
use Rattle.yaml_json.proofs.stream.begin_next.Goals as goal

pub returns-in-Err-send : goal.returns-in-Err-send
returns-in-Err-send g c =
    let before = c.args.writer.now in
    let middle = c.next_document.new.self in
    let passed = c.in_default.ensures.passed (bare_awaits_none before c.requires) in
    let left = c.in-Err-send.ensures.left in
    record {
      failed = subst (λ (w : WriterState). NextUnsent before (g.W.Write.contents c.args.sink.now) w (g.W.Write.contents c.send.new.sink)) (sym left)
          (begun_unsent before middle (g.W.Write.contents c.args.sink.now) (g.W.Write.contents c.send.new.sink) c.requires passed c.in-Err-send.ensures.first);
      grew = subst (λ (w : WriterState). Grew before None w) (sym left) (grew_passed before middle between passed);
    }
