use Rattle.yaml_emitter.proofs.Common.{◌≤◌, None, Some, List, refl, ◌≡◌, ap, subst, sym, ◌∙◌, Event, seen_events, state_of, is_head_ready, MachineStands}
use Rattle.yaml_emitter.proofs.Common.{[], ◌++◌, append-nil}
use Rattle.yaml_emitter.proofs.Common.{StandsAfter, State, MachineState, none_from_result, some_from_result, encoded, result_of_error, Grows}
use Rattle.yaml_emitter.proofs.Common.{KeepsSet, Page}
use Rattle.yaml_base.specs.declared.errors.yaml_error_t.TheVariants.{Memory}
use Rattle.yaml_emitter.proofs.standing.{EmitterKept.has_output_inside, EmitterKept.kept_emitting, Growing.flushed_unflushed}
use Rattle.yaml_emitter.proofs.standing.{StandingMore.flush_stands, StandingMore.flush_failed}
use Rattle.yaml_emitter.proofs.standing.Promising.{promises_bytes, stands_unfailed, stands_encoded}
use Rattle.yaml_pen.proofs.Composing.{flushed_grows, grows_itself}
use Rattle.yaml_emitter.proofs.engine.Engine.flush.Goals as goal

pub invariant_of-self : goal.invariant_of-self
invariant_of-self g c =
    kept_emitting c.self.inside _ (has_output_inside c.self.inside c.self.view_is c.requires.output) refl c.self.invariant.room
    c.self.invariant.waits

pub invariant_of-self-in-Err : goal.invariant_of-self-in-Err
invariant_of-self-in-Err g c =
    kept_emitting c.self.inside _ (has_output_inside c.self.inside c.self.view_is c.requires.output) refl
    (subst (λ n. 4 ≤ n) (sym c.clear.ensures.capacity) c.self.invariant.room) (ap (λ q. is_head_ready (seen_events q)) c.clear.ensures.items)

pub returns-in-Some-clause-moves : goal.returns-in-Some-clause-moves
returns-in-Some-clause-moves g c =
    record {
      stands = λ given all stands. subst (λ (l : List Event). StandsAfter given l c.args.self.now) (sym (append-nil all)) stands;
      grows = grows_itself c.args.self.now.page;
      set = record {
        events = sym (append-nil c.args.self.now.events);
        given = refl;
        started = refl;
        has_output = refl;
        opened = refl;
        closed = refl;
        taken = refl;
      };
      answered = sym (ap result_of_error (sym (ap (λ (s : State). s.error) c.self.view_is) ∙ sym c.error.ensures ∙ c.in-Some.is));
    }

pub returns-in-Ok-clause-moves : goal.returns-in-Ok-clause-moves
returns-in-Ok-clause-moves g c =
    record {
      stands = λ given all stands.
          let h = subst (λ s. StandsAfter given all s) (sym c.self.view_is) stands in
          subst (λ (l : List Event). StandsAfter given l (state_of (record c.self.inside { machine = c.flush.new.self }))) (sym (append-nil all))
          (record {
            texts = h.texts;
            so =
                flush_stands given all (seen_events c.self.inside.queue.items) c.self.inside.machine c.flush.new.self h.so
                (sym c.error.ensures ∙ c.in_default.is)
                c.flush.ensures.kept c.in-Ok.ensures.flushed;
          });
      grows = subst (λ (s : State). Grows s.page c.flush.new.self.page) c.self.view_is (flushed_grows c.flush.ensures.flushed);
      set =
          subst (λ (s : State). KeepsSet (record s { events = s.events ++ []; started = s.started })
          (state_of (record c.self.inside { machine = c.flush.new.self })))
          c.self.view_is
          (record {
            events = sym (append-nil c.self.inside.history.events);
            given = ap (λ (m : MachineState). m.given) c.flush.ensures.kept;
            started = refl;
            has_output = refl;
            opened = refl;
            closed = refl;
            taken = ap (λ (p : Page). p.taken) c.flush.ensures.flushed.kept;
          });
      answered = c.in-Ok.ensures.flushed.answered ∙ ap result_of_error (sym (ap (λ (m : MachineState). m.error) c.flush.ensures.kept));
    }

pub returns-in-Ok-clause-flushed : goal.returns-in-Ok-clause-flushed
returns-in-Ok-clause-flushed g c given all stands =
    let unfailed = none_from_result c.flush.new.self.page.error c.in-Ok.ensures.flushed.answered in
    let flushed : State = state_of (record c.self.inside { machine = c.flush.new.self }) in
    promises_bytes given all flushed
    (subst (λ (l : List Event). StandsAfter given l flushed) (append-nil all) ((returns-in-Ok-clause-moves g c).stands given all stands)).so
    (ap (λ (m : MachineState). m.error) c.flush.ensures.kept ∙ unfailed)
    (c.in-Ok.ensures.flushed.all unfailed).1

pub returns-in-Ok-clause-empty : goal.returns-in-Ok-clause-empty
returns-in-Ok-clause-empty g c given all stands none bytes =
    let h = subst (λ s. StandsAfter given all s) (sym c.self.view_is) stands in
    let unfailed : (state_of c.self.inside).error ≡ None = sym c.error.ensures ∙ c.in_default.is in
    let bytes_inside = subst (λ (s : State). s.page.output ≡ encoded s.page) (sym c.self.view_is)
    (stands_encoded given all c.args.self.now stands.so none bytes) in
    ap (λ (m : MachineState). state_of (record c.self.inside { machine = m }))
    (c.flush.ensures.empty (stands_unfailed given all (state_of c.self.inside) h.so unfailed) bytes_inside)
    ∙ c.self.view_is

pub returns-in-Err-clause-moves : goal.returns-in-Err-clause-moves
returns-in-Err-clause-moves g c =
    record {
      stands = λ given all stands.
          let h = subst (λ s. StandsAfter given all s) (sym c.self.view_is) stands in
          subst
          (λ (l : List Event). StandsAfter given l (state_of (record c.self.inside { queue = c.clear.new.self; machine = c.flush.new.self })))
          (sym (append-nil all))
          (record {
            texts = h.texts;
            so =
                subst (λ (l : List Event). MachineStands given all c.flush.new.self.error l c.flush.new.self) (sym (ap seen_events c.clear.ensures.items))
                (flush_failed given all (seen_events c.self.inside.queue.items) c.self.inside.machine c.flush.new.self c.in-Err.error h.so
                (sym c.error.ensures ∙ c.in_default.is) c.flush.ensures.kept c.in-Err.ensures.flushed);
          });
      grows = subst (λ (s : State). Grows s.page c.flush.new.self.page) c.self.view_is (flushed_grows c.flush.ensures.flushed);
      set =
          subst (λ (s : State). KeepsSet (record s { events = s.events ++ []; started = s.started })
          (state_of (record c.self.inside { queue = c.clear.new.self; machine = c.flush.new.self })))
          c.self.view_is
          (record {
            events = sym (append-nil c.self.inside.history.events);
            given = ap (λ (m : MachineState). m.given) c.flush.ensures.kept;
            started = refl;
            has_output = refl;
            opened = refl;
            closed = refl;
            taken = ap (λ (p : Page). p.taken) c.flush.ensures.flushed.kept;
          });
      answered = c.in-Err.ensures.flushed.answered ∙ ap result_of_error (sym (ap (λ (m : MachineState). m.error) c.flush.ensures.kept));
    }

pub returns-in-Err-clause-unflushed : goal.returns-in-Err-clause-unflushed
returns-in-Err-clause-unflushed g c memory =
    flushed_unflushed c.flush.ensures.flushed (some_from_result c.flush.new.self.page.error Memory (sym memory ∙ c.in-Err.ensures.flushed.answered))
    ∙ ap (λ (s : State). s.page.output) c.self.view_is

pub returns-in-Err-clause-empty : goal.returns-in-Err-clause-empty
returns-in-Err-clause-empty g c given all stands none bytes =
    let h = subst (λ s. StandsAfter given all s) (sym c.self.view_is) stands in
    let unfailed : (state_of c.self.inside).error ≡ None = sym c.error.ensures ∙ c.in_default.is in
    let page_unfailed = stands_unfailed given all (state_of c.self.inside) h.so unfailed in
    let bytes_inside = subst (λ (s : State). s.page.output ≡ encoded s.page) (sym c.self.view_is)
    (stands_encoded given all c.args.self.now stands.so none bytes) in
    let unchanged = c.flush.ensures.empty page_unfailed bytes_inside in
    let failed = some_from_result c.flush.new.self.page.error c.in-Err.error c.in-Err.ensures.flushed.answered in
    let wrong : Some c.in-Err.error ≡ None = sym failed ∙ ap (λ (m : MachineState). m.page.error) unchanged ∙ page_unfailed in
    cc
