use Rattle.yaml_dump.proofs.Common.{Ok, Bool, refl, subst, sym, ◌∙◌}
use Rattle.yaml_dump.specs.Dumps.{OpensFrom}
use Rattle.yaml_dump.proofs.dumps.open_if_needed.Goals as goal

pub returns-then-is_opened : goal.returns-then-is_opened
returns-then-is_opened g c =
    subst (λ (opened : Bool). OpensFrom opened c.args.emitter.now (Ok tt) c.args.emitter.now) (sym c.if-is_opened.true ∙ c.is_opened.ensures.value)
    (refl, refl)

pub returns : goal.returns
returns g c =
    subst (λ (opened : Bool). OpensFrom opened c.args.emitter.now c.yaml_emitter_open.result c.yaml_emitter_open.new.emitter)
    (sym c.if-is_opened.false ∙ c.is_opened.ensures.value) c.yaml_emitter_open.ensures.emits
