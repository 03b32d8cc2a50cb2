use Rattle.std.proofs.Common.{inr, refl}
use Rattle.toml_ordered.proofs.fault.Fault.in_braces.Goals as goal

pub returns-in-DefinedAgain : goal.returns-in-DefinedAgain
returns-in-DefinedAgain c = rw c.in-DefinedAgain.is (inr (c.in-DefinedAgain.name, refl))
