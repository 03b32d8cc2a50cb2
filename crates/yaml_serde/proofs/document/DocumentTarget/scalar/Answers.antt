use Rattle.yaml_serde.proofs.Giving.{stands_given}
use Rattle.yaml_serde.proofs.document.DocumentTarget.scalar.Goals as goal

pub invariant_of-self : goal.invariant_of-self
invariant_of-self g c =
    let self = c.args.self.now in
    let answer = c.give_scalar-given in
    record { stands = stands_given _ _ answer.result answer.ensures.1 answer.ensures.2 self.stands; lent = self.lent; form = self.form }
