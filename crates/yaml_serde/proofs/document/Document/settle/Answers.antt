use Rattle.yaml_serde.proofs.Giving.{stands_handed}
use Rattle.yaml_serde.proofs.document.Document.settle.Goals as goal

pub invariant_of-self : goal.invariant_of-self
invariant_of-self g c =
    let self = c.args.self.now in
    record {
      stands = stands_handed _ _ c.hand_on.result c.hand_on.ensures.hands c.hand_on.ensures.same self.stands;
      lent = self.lent;
      form = self.form;
    }
