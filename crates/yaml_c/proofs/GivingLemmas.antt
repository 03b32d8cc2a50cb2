-- Records that were given to an emitter.
use Rattle.yaml_c.proofs.Common.{Option, None, Some, ◌≡◌, subst, State}
use Rattle.yaml_base.specs.Event.{Event}
use Rattle.std.specs.Prelude.{Result}
use Rattle.yaml_base.specs.declared.errors.yaml_error_t.{yaml_error_t}
use Rattle.yaml_emitter.specs.Emits.{TakesEvent}
use Rattle.yaml_c.specs.Giving.{GaveRecord}
use Rattle.yaml_c.specs.declared.giving.Giving.{Giving}
use Rattle.yaml_c.specs.declared.giving.Giving.TheVariants.{Emitted, NoMemory, Unreadable}

-- what the emitter took
pub took : {read : Option Event} {before after : State} (giving : Giving) (answer : Result (Unit {0}) yaml_error_t)
    → GaveRecord read giving before after → giving ≡ Emitted answer → (event : Event) × (read ≡ Some event) × TakesEvent before event answer after
took {read} {before} {after} giving answer gave is = subst (λ (g : Giving). GaveRecord read g before after) is gave

-- memory ran out before it took anything
pub took_nothing : (read : Option Event) {before after : State} (giving : Giving) → GaveRecord read giving before after → giving ≡ NoMemory → after ≡ before
took_nothing read {before} {after} giving gave is = (subst (λ (g : Giving). GaveRecord read g before after) is gave).0

-- the record has no reading
pub took_bad : (read : Option Event) {before after : State} (giving : Giving) → GaveRecord read giving before after → giving ≡ Unreadable
    → (read ≡ None) × (after ≡ before)
took_bad read {before} {after} giving gave is = subst (λ (g : Giving). GaveRecord read g before after) is gave
