use Rattle.yaml_emitter.proofs.Common.{refl, rules, ap, subst, sym, Effective, at_stream, FitsPage, Page, IsUntouched, new_page}
use Rattle.yaml_base.specs.Settings.{largest_usize}
use Rattle.yaml_emitter.proofs.machine.Machine.new.Goals as goal

untouched_new : IsUntouched (new_page largest_usize)
untouched_new = record { no_bytes = refl; no_error = refl }

pub invariant_of-result : goal.invariant_of-result
invariant_of-result g c =
    record {
      handles = search rules;
      canonical = ap (λ (s : Effective). s.canonical) c.effective.ensures.gives;
      page = subst (λ (p : Page). FitsPage at_stream p) (sym c.in_ok-pen.ensures.made) (untouched_new, refl, refl);
    }
