use Rattle.yaml_serde.proofs.Common.{◌<◌, length, arith}
use Rattle.yaml_serde.proofs.Giving.{stands_ended}
use Rattle.yaml_serde.proofs.document.DocumentTarget.end.Goals as goal

pub invariant_of-self-2 : goal.invariant_of-self-2
invariant_of-self-2 g c =
    let self = c.args.self.now in
    let answer = c.end-ended in
    let inner : self.base < length self.writer.now.levels = omega arith in
    record {
      stands = stands_ended _ _ answer.result inner answer.ensures.awaited answer.ensures.ended self.stands;
      lent = self.lent;
      form = self.form;
    }
