use Rattle.yaml_base.specs.Seen.{seen_event}
use Rattle.yaml_emitter.proofs.engine.Engine.emit.Given as goal

abbrev pub ghost-with : goal.ghost-with
ghost-with g a = seen_event a._given.now
