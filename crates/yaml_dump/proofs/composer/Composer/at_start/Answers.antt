use Rattle.yaml_dump.proofs.ComposerLemmas.{starts}
use Rattle.std.proofs.lemmas.Result.{IfOk-from_err}
use Rattle.yaml_dump.proofs.composer.Composer.at_start.Goals as goal

pub returns-in_err-vec : goal.returns-in_err-vec
returns-in_err-vec g c = IfOk-from_err c.from_residual.result _ c.from_residual.ensures.0

pub returns : goal.returns
returns g c = starts c.args.count c.new.result.items c.new-2.result.items c.in_ok-vec.field-0.items c.new.ensures.items c.new-2.ensures.items
    (c.in_ok-vec.ensures.items_if_clones_equal (λ y same. same))
