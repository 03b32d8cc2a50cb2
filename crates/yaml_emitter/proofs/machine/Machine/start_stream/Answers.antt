use Rattle.yaml_emitter.proofs.Common.{refl, ap, subst, sym, Effective, Page, IsReady}
use Rattle.yaml_emitter.proofs.machine.Machine.start_stream.Goals as goal

pub invariant_of-self : goal.invariant_of-self
invariant_of-self g c =
    record {
      handles = c.self.invariant.handles;
      canonical = ap (λ (s : Effective). s.canonical) c.effective-self-inside.ensures.gives;
      page = subst (λ (p : Page). IsReady p) (sym c.begin_page.ensures) (record { begun = c.effective-self-inside.ensures.encoding; bom_written = refl });
    }
