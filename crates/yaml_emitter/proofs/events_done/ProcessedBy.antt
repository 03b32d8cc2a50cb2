-- The effect of an event, by the effects of the calls in its work.
use Rattle.yaml_emitter.proofs.Common.{IsErrAnd, IsErr, Option, None, Some, Result, Err, Ok, Bool, true, ◌⊎◌, refl, ◌≡◌, inl, inr, ap, subst, sym, ◌∙◌}
use Rattle.yaml_emitter.proofs.Common.{err_from_is_err_and, Event, stream_start, flushes, Stage, step, stage_refusal, event_stepped, render_event}
use Rattle.yaml_emitter.proofs.Common.{refusal_now, Keeps, WritesPage, unwritten, partly_written, CutShort, Processed, IsRefusal, MachineState, standing_of}
use Rattle.yaml_emitter.proofs.Common.{piece_at, encoded, some_from_result, Wrote}
use Rattle.yaml_base.specs.declared.errors.{yaml_error_t.yaml_error_t, yaml_error_t.TheVariants.Memory, yaml_error_t.TheVariants.WriteError}

-- a refused event changes nothing
pub processed_refused : (event : Event) (empty : Bool) (state : MachineState) (error : yaml_error_t) → IsRefusal error
    → refusal_now state event ≡ Some error → Processed event empty state state (Err error)
processed_refused event empty state WriteError is refusal = absurd is
processed_refused event empty state Memory is refusal = absurd is
processed_refused event empty state error is refusal = record { kept = refl; refusal = refusal }

-- the event isn't the stream's start
abbrev pub IsInStream : Event → Type 0
IsInStream (stream_start encoding) = ⊥
IsInStream _ = Unit {0}

writes_page : (event : Event) (empty : Bool) (before after : MachineState) → IsInStream event → after.settings ≡ before.settings
    → Wrote (render_event before event empty) before.page after.page (Ok tt) → WritesPage event empty before after
writes_page (stream_start encoding) empty before after is settings wrote = absurd is
writes_page event empty before after is settings wrote = (settings, wrote)

-- an event whose piece is written
pub processed_written : (event : Event) (empty : Bool) (before after : MachineState) → IsInStream event → Keeps before after
    → refusal_now before event ≡ None → after.settings ≡ before.settings
    → after.stage ≡ (event_stepped before event empty).stage
    → after.open_ended ≡ (event_stepped before event empty).rendered.standing.open_ended
    → Wrote (render_event before event empty) before.page after.page (Ok tt)
    → (flushes event ≡ true → after.page.output ≡ encoded after.page)
    → Processed event empty before after (Ok tt)
processed_written event empty before after is kept accepted settings stage open_ended wrote flushed_whole =
    record {
      kept = kept;
      accepted = accepted;
      stage = stage;
      open_ended = open_ended;
      page = writes_page event empty before after is settings wrote;
      flushed_whole = flushed_whole;
    }

some_same : {e f : yaml_error_t} → Some e ≡ Some f → e ≡ f
some_same same = cc

-- an event whose piece is cut short
cut : (error : yaml_error_t) (event : Event) (empty : Bool) (before after : MachineState) → Keeps before after → after.settings ≡ before.settings
    → refusal_now before event ≡ None → Wrote (render_event before event empty) before.page after.page (Err error)
    → after.page.error ≡ Some error → CutShort error event empty before after
cut error event empty before after kept settings accepted wrote failed =
    record {
      kept = kept;
      settings = settings;
      page =
          partly_written
          (record {
            accepted = accepted;
            passed = λ is. some_same (sym failed ∙ is);
            failed = λ is. failed ∙ ap (λ (e : yaml_error_t). Some e) is;
            answer = Err error;
            wrote = wrote;
          });
    }

-- the pen fails by the limit or by memory alone
pen_error : (error : yaml_error_t) → (Some error ≡ None) ⊎ (Some error ≡ Some WriteError) ⊎ (Some error ≡ Some Memory) → (error ≡ WriteError) ⊎ (error ≡ Memory)
pen_error error named = elim named [ inl none ↦ cc | inr other ↦ elim other [ inl full ↦ inl (some_same full) | inr memory ↦ inr (some_same memory) ] ]

failed_as : (event : Event) (empty : Bool) (before after : MachineState) (error named : yaml_error_t) → error ≡ named
    → Processed event empty before after (Err named) → Processed event empty before after (Err error)
failed_as event empty before after error named same processed =
    subst (λ (e : yaml_error_t). let r : Result (Unit {0}) yaml_error_t = Err e in Processed event empty before after r) (sym same) processed

wrote_as_error : (event : Event) (empty : Bool) (before after : MachineState) (error named : yaml_error_t) → error ≡ named
    → Wrote (render_event before event empty) before.page after.page (Err error) → Wrote (render_event before event empty) before.page after.page (Err named)
wrote_as_error event empty before after error named same wrote =
    subst (λ (e : yaml_error_t). let r : Result (Unit {0}) yaml_error_t = Err e in Wrote (render_event before event empty) before.page after.page r) same wrote

pub processed_cut : (event : Event) (empty : Bool) (before after : MachineState) (error : yaml_error_t) → Keeps before after → after.settings ≡ before.settings
    → refusal_now before event ≡ None → Wrote (render_event before event empty) before.page after.page (Err error)
    → Processed event empty before after (Err error)
processed_cut event empty before after error kept settings accepted wrote =
    let failed = some_from_result after.page.error error wrote.answered in
    let named : (Some error ≡ None) ⊎ (Some error ≡ Some WriteError) ⊎ (Some error ≡ Some Memory) =
    subst (λ (o : Option yaml_error_t). (o ≡ None) ⊎ (o ≡ Some WriteError) ⊎ (o ≡ Some Memory)) failed wrote.sound_output.named in
    elim (pen_error error named) [
      | inl full ↦
          failed_as event empty before after error WriteError full
          (cut WriteError event empty before after kept settings accepted (wrote_as_error event empty before after error WriteError full wrote)
          (failed ∙ ap (λ (e : yaml_error_t). Some e) full))
      | inr memory ↦
          failed_as event empty before after error Memory memory
          (cut Memory event empty before after kept settings accepted (wrote_as_error event empty before after error Memory memory wrote)
          (failed ∙ ap (λ (e : yaml_error_t). Some e) memory))
    ]

-- want of memory before anything of the event is written
pub processed_unwritten : (event : Event) (empty : Bool) (before after : MachineState) → Keeps before after → after.settings ≡ before.settings
    → after.page ≡ before.page → Processed event empty before after (Err Memory)
processed_unwritten event empty before after kept settings page = record { kept = kept; settings = settings; page = unwritten refl page }

-- The event is written, with the stage known by an equation.
rendered_at : (before after : MachineState) (event : Event) (empty : Bool) (stage : Stage) (answer : Result (Unit {0}) yaml_error_t) → before.stage ≡ stage
    → Wrote (piece_at (λ standing. (step before.settings stage event empty standing).rendered) before.open_ended) before.page after.page answer
    → Wrote (render_event before event empty) before.page after.page answer
rendered_at before after event empty stage answer is wrote =
    subst (λ st. Wrote (piece_at (λ standing. (step before.settings st event empty standing).rendered) before.open_ended) before.page after.page answer)
    (sym is) wrote

pub processed_refused_at : (event : Event) (empty : Bool) (state : MachineState) (stage : Stage) (error : yaml_error_t) → state.stage ≡ stage → IsRefusal error
    → stage_refusal state.given.canonical stage event ≡ Some error → Processed event empty state state (Err error)
processed_refused_at event empty state stage error at is refusal =
    processed_refused event empty state error is (ap (λ st. stage_refusal state.given.canonical st event) at ∙ refusal)

pub processed_written_at : (event : Event) (empty : Bool) (before after : MachineState) (stage : Stage) → before.stage ≡ stage → IsInStream event
    → Keeps before after
    → stage_refusal before.given.canonical stage event ≡ None → after.settings ≡ before.settings
    → after.stage ≡ (step before.settings stage event empty (standing_of before)).stage
    → after.open_ended ≡ (step before.settings stage event empty (standing_of before)).rendered.standing.open_ended
    → Wrote (piece_at (λ standing. (step before.settings stage event empty standing).rendered) before.open_ended) before.page after.page (Ok tt)
    → (flushes event ≡ true → after.page.output ≡ encoded after.page)
    → Processed event empty before after (Ok tt)
processed_written_at event empty before after stage at is kept accepted settings stage_is open_ended_is wrote flushed_whole =
    let stepped = λ (st : Stage). step before.settings st event empty (standing_of before) in
    processed_written event empty before after is kept
    (ap (λ st. stage_refusal before.given.canonical st event) at ∙ accepted) settings
    (stage_is ∙ sym (ap (λ st. (stepped st).stage) at)) (open_ended_is ∙ sym (ap (λ st. (stepped st).rendered.standing.open_ended) at))
    (rendered_at before after event empty stage (Ok tt) at wrote) flushed_whole

pub processed_cut_at : (event : Event) (empty : Bool) (before after : MachineState) (stage : Stage) (error : yaml_error_t) → before.stage ≡ stage
    → Keeps before after
    → after.settings ≡ before.settings → stage_refusal before.given.canonical stage event ≡ None
    → Wrote (piece_at (λ standing. (step before.settings stage event empty standing).rendered) before.open_ended) before.page after.page (Err error)
    → Processed event empty before after (Err error)
processed_cut_at event empty before after stage error at kept settings accepted wrote =
    processed_cut event empty before after error kept settings
    (ap (λ st. stage_refusal before.given.canonical st event) at ∙ accepted) (rendered_at before after event empty stage (Err error) at wrote)

-- at an exit by `?` the answer is the call's error
pub processed_exit : (event : Event) (empty : Bool) (before after : MachineState) (error : yaml_error_t) (answer : Result (Unit {0}) yaml_error_t)
    → IsErr answer × IsErrAnd answer (λ given. given ≡ error) → Processed event empty before after (Err error) → Processed event empty before after answer
processed_exit event empty before after error answer is processed =
    let p = err_from_is_err_and answer is.1 in
    let same : answer ≡ Err error = p.1 ∙ ap (λ (e : yaml_error_t). let r : Result (Unit {0}) yaml_error_t = Err e in r) p.2 in
    subst (λ (r : Result (Unit {0}) yaml_error_t). Processed event empty before after r) (sym same) processed

-- want of memory after the piece was written
pub processed_after_writing : (event : Event) (empty : Bool) (before after : MachineState) (stage : Stage) → before.stage ≡ stage → Keeps before after
    → after.settings ≡ before.settings → stage_refusal before.given.canonical stage event ≡ None → after.page.error ≡ None
    → Wrote (piece_at (λ standing. (step before.settings stage event empty standing).rendered) before.open_ended) before.page after.page (Ok tt)
    → Processed event empty before after (Err Memory)
processed_after_writing event empty before after stage at kept settings accepted well wrote =
    record {
      kept = kept;
      settings = settings;
      page =
          partly_written
          (record {
            accepted = ap (λ st. stage_refusal before.given.canonical st event) at ∙ accepted;
            passed = λ is. cc;
            failed = λ is. cc;
            answer = Ok tt;
            wrote = rendered_at before after event empty stage (Ok tt) at wrote;
          });
    }

-- an event by another form of it
pub processed_as : (event named : Event) (empty : Bool) (before after : MachineState) (answer : Result (Unit {0}) yaml_error_t) → event ≡ named
    → Processed named empty before after answer → Processed event empty before after answer
processed_as event named empty before after answer is processed = subst (λ (e : Event). Processed e empty before after answer) (sym is) processed
