use Rattle.yaml_serde.proofs.Common.{chars}
use Rattle.yaml_serde.proofs.Giving.{stands_tagged}
use Rattle.yaml_serde.proofs.document.DocumentTarget.tagged.Goals as goal

pub invariant_of-self : goal.invariant_of-self
invariant_of-self g c =
    let self = c.args.self.now in
    let answer = c.tagged in
    record {
      stands = stands_tagged _ _ answer.result (chars c.args.tag.now) answer.ensures.tagged answer.ensures.memory self.stands;
      lent = self.lent;
      form = self.form;
    }
