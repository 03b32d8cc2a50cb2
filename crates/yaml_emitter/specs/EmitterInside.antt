-- The field of an emitter, and its view in contracts.
use Rattle.yaml_emitter.specs.Emits.{Keeps}
use Rattle.yaml_emitter.specs.State.{State}
use Rattle.yaml_emitter.specs.declared.emitter.yaml_emitter_t.TheInside.{Inside}

abbrev pub engine_of : {A : Type 0} → Inside A → State
engine_of e = e.engine

abbrev pub IsEmitter : {A : Type 0} → Inside A → Type 0
IsEmitter e = Keeps e.engine
