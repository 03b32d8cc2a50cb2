use Rattle.std.proofs.Common.{subst, List, ℕ}
use Rattle.yaml_read.specs.RepeatedKeys.{IsPlacedBy}
use Rattle.yaml_caller.proofs.Opened.{not_opened}
use Rattle.yaml_caller.proofs.store.open.Goals as goal

pub returns-in-Err-clause-complete : goal.returns-in-Err-clause-complete
returns-in-Err-clause-complete g c =
    not_opened c.args.keys c.args.entry.now.bytes c.args.entry.now.digest c.as_slice-2.result.now c.in-Err.error c.as_slice-2.ensures.value
    c.in-Err.ensures.complete

pub returns-in-Err-clause-placed : goal.returns-in-Err-clause-placed
returns-in-Err-clause-placed g c =
    subst (λ (bytes : List ℕ). IsPlacedBy c.args.keys bytes c.in-Err.error) c.as_slice-2.ensures.value c.in-Err.ensures.placed
