use Rattle.yaml_emitter.proofs.Common.{ap, ◌∙◌, State}
use Rattle.yaml_emitter.specs.EmitterInside.{engine_of}
use Rattle.yaml_emitter.proofs.emitter.yaml_emitter_t.mark_opened.Goals as goal

pub invariant_of-self-inside : goal.invariant_of-self-inside
invariant_of-self-inside g c =
    record {
      untouched = c.self-inside.invariant.untouched;
      begun = c.self-inside.invariant.begun;
      opened = λ opened. ap (λ (s : State). s.has_output) (ap engine_of c.self-inside.view_is ∙ c.self.view_is) ∙ c.requires;
      room = c.self-inside.invariant.room;
      waits = c.self-inside.invariant.waits;
    }
