use Rattle.std.proofs.Common.{inr, refl}
use Rattle.toml_ordered.proofs.fault.Fault.named.Goals as goal

pub returns-in-Ok : goal.returns-in-Ok
returns-in-Ok c = rw c.in-DefinedAgain.is (inr (c.in-Ok.name, refl))
