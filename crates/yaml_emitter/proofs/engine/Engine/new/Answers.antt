use Rattle.yaml_emitter.proofs.Common.{false, true, refl, ◌≡◌, ap, subst, sym, ◌∙◌, seen_events, is_head_ready, MachineState, new_machine, is_at_stream}
use Rattle.yaml_emitter.proofs.{Common.IsUntouched, standing.StandingMore.new_emitter_stands}
use Rattle.yaml_emitter.proofs.engine.Engine.new.Goals as goal

untouched_new : IsUntouched new_machine.page
untouched_new = record { no_bytes = refl; no_error = refl }

pub invariant_of-result : goal.invariant_of-result
invariant_of-result g c =
    record {
      untouched = λ _. subst (λ (m : MachineState). IsUntouched m.page) (sym c.in_ok-machine.ensures.made) untouched_new;
      begun = λ begun. let wrong : true ≡ false = sym (ap (λ (m : MachineState). is_at_stream m.stage) c.in_ok-machine.ensures.made) ∙ begun in cc;
      opened = λ opened. opened;
      room = c.in_ok-queue.ensures.room.1;
      waits = ap (λ q. is_head_ready (seen_events q)) c.in_ok-queue.ensures.empty;
    }

pub returns-clause-stands : goal.returns-clause-stands
returns-clause-stands g c = record { texts = refl; so = new_emitter_stands c.in_ok-machine.ensures.made (ap seen_events c.in_ok-queue.ensures.empty) }
