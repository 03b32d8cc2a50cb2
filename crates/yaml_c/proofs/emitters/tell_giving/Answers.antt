use Rattle.std.specs.Prelude.{Result}
use Rattle.yaml_c.proofs.Common.{◌≡◌, rules, subst, ◌∙◌, w32, of_z, to_z}
use Rattle.yaml_base.specs.declared.errors.yaml_error_t.{yaml_error_t}
use Rattle.yaml_emitter.specs.Emits.{TakesEvent}
use Rattle.yaml_c.proofs.GivingLemmas.{took}
use Rattle.yaml_c.specs.Kept.{gives}
use Rattle.yaml_c.proofs.emitters.tell_giving.Goals as goal

pub returns-in-Emitted : goal.returns-in-Emitted
returns-in-Emitted c read before after gave =
    let fits : to_z w32 (of_z w32 c.tell.result) ≡ c.tell.result = search rules in
    let event = took c.args.giving c.in-Emitted.answer gave c.in-Emitted.is in
    let answered = event.2.emits.answered in
    let returned = c.tell.ensures after.error answered in
    gives event.0 event.1 (subst (λ (r : Result (Unit {0}) yaml_error_t). TakesEvent before event.0 r after) answered event.2)
    (fits ∙ returned.0, returned.1)
