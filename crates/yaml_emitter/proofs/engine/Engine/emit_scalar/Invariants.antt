use Rattle.yaml_base.specs.Event.{scalar}
use Rattle.yaml_emitter.specs.BorrowedTexts.{seen_scalar}
use Rattle.yaml_emitter.proofs.engine.Engine.emit_scalar.Given as goal

abbrev pub ghost-with : goal.ghost-with
ghost-with g a = scalar (seen_scalar a._given.now)
