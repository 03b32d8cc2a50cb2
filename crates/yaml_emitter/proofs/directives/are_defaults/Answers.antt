use Rattle.yaml_emitter.proofs.Common.{sym, ◌∙◌, arith}
use Rattle.yaml_emitter.proofs.pieces.Defaults.{two_defaults}
use Rattle.yaml_emitter.proofs.directives.are_defaults.Goals as goal

pub returns-then-gives : goal.returns-then-gives
returns-then-gives g c = λ is.
    two_defaults c.args.directives.now
    (omega (arith, c.len.ensures, c.if-len-ne2.false))
    (sym c.get.ensures ∙ c.gives.ensures c.if-gives.true)
    (sym c.get-then-gives.ensures ∙ c.gives-then-gives.ensures is)
