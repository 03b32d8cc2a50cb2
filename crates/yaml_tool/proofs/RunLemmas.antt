-- The events of a script given to an emitter, one after another.
use Rattle.yaml_tool.proofs.Common.{ℕ, IfSome, Option, None, Some, List, [], map, ◌++◌, ◌∷◌, refl, ◌≡◌, append_assoc, ap, subst, sym, ◌∙◌, map-append, Appends}
use Rattle.yaml_tool.proofs.Common.{seen_event, Event, Settings, Numbered, Script, understood, script_of, IsFault, State}
use Rattle.yaml_tool.proofs.Common.{events_in, RefusesAt, LastLine, Result, Err, append-nil, seen_numbered}
use Rattle.yaml_base.proofs.Common.{inr, arith}
use Rattle.std.specs.Io.KnownBytes.{Keeps}
use Rattle.yaml_base.specs.scripts.Script.{bad_line}
use Rattle.yaml_base.specs.declared.errors.yaml_error_t.{yaml_error_t}
use Rattle.yaml_emitter.{proofs.standing.KeptDocuments.documents_without_error, proofs.standing.KeptDocuments.documents_stay, specs.Promises.HasAllBytes}
use Rattle.yaml_emitter.specs.{Emits.Emits, Emits.IsPromised, State.new_state_with, StaysFlushed.KeepsDocuments}
use Rattle.yaml_pen.proofs.Writing.{none_from_result}
use Rattle.yaml_tool.specs.Runs.{EmitsScript, FailsAfter, IsAfter, RunsTo, AnswersEvents, AnswersScript, WritesNothing, EndsOnLine, FlushesLast}
use Rattle.yaml_tool.specs.declared.{answers.run_answer_t.run_answer_t, scripts.NumberedEvent.NumberedEvent}
use Rattle.yaml_tool.specs.declared.answers.run_answer_t.TheVariants.{BadLine, Done, NoMemory, ReadFailed, Refused, WriteFailed}

-- a fact about an answer for a script's events is one for the bytes that were left
pub tells_all : (left : Option (List ℕ)) (given : Settings) (all : List Numbered) (answer : run_answer_t) (old new : Option (List ℕ))
    → IfSome left (λ bytes. script_of bytes ≡ understood given all) → AnswersEvents given all answer old new
    → IfSome left (λ bytes. AnswersScript (script_of bytes) answer old new)
tells_all None given all answer old new is tells = tt
tells_all (Some bytes) given all answer old new is tells = subst (λ script. AnswersScript script answer old new) (sym is) tells

script_fault : (script : Script) (answer : run_answer_t) (old new : Option (List ℕ)) → IsFault answer script → AnswersScript script answer old new
script_fault script Done old new fault = absurd fault
script_fault script (Refused line error) old new fault = absurd fault
script_fault script (BadLine line) old new fault = subst (λ bad. AnswersScript bad (BadLine line) old new) (sym fault) refl
script_fault (bad_line number) ReadFailed old new fault = tt
script_fault (understood given all) ReadFailed old new fault = tt
script_fault script WriteFailed old new fault = absurd fault
script_fault (bad_line number) NoMemory old new fault = tt
script_fault (understood given all) NoMemory old new fault = tt

-- so is why no script was understood
pub fault_answers : (left : Option (List ℕ)) (answer : run_answer_t) (old new : Option (List ℕ))
    → IfSome left (λ bytes. IsFault answer (script_of bytes)) → IfSome left (λ bytes. AnswersScript (script_of bytes) answer old new)
fault_answers None answer old new fault = tt
fault_answers (Some bytes) answer old new fault = script_fault (script_of bytes) answer old new fault

pub no_memory_answers : (left old new : Option (List ℕ)) → IfSome left (λ bytes. AnswersScript (script_of bytes) NoMemory old new)
no_memory_answers None old new = tt
no_memory_answers (Some bytes) old new = script_fault (script_of bytes) NoMemory old new tt

kept : (bytes : Option (List ℕ)) → Keeps bytes bytes
kept None = tt
kept (Some xs) = refl

-- a writer that isn't used
pub writes_nothing : (answer : run_answer_t) (bytes : Option (List ℕ)) → WritesNothing answer bytes bytes
writes_nothing (BadLine line) bytes = kept bytes
writes_nothing ReadFailed bytes = kept bytes
writes_nothing NoMemory bytes = kept bytes
writes_nothing _ bytes = tt

-- one more event
pub events_more : {A : Type 0} (given : List (NumberedEvent A)) (next : NumberedEvent A)
    → events_in (map seen_numbered given) ++ seen_event next.event ∷ [] ≡ events_in (map seen_numbered (given ++ next ∷ []))
events_more given next = grind (arith, events_in, map-append, seen_numbered, map)

pub parts_more : {A : Type 0} (given : List (NumberedEvent A)) (next : NumberedEvent A) (rest left all : List (NumberedEvent A)) → given ++ left ≡ all
    → left ≡ next ∷ rest → (given ++ next ∷ []) ++ rest ≡ all
parts_more given next rest left all parts is = append_assoc given (next ∷ []) rest ∙ ap (λ left. given ++ left) (sym is) ∙ parts

pub ends_more : {A : Type 0} (given : List (NumberedEvent A)) (next : NumberedEvent A) → EndsOnLine (map seen_numbered (given ++ next ∷ [])) next.line
ends_more given next =
    record { before = map seen_numbered given; event = seen_event next.event; parts = sym (map-append seen_numbered given (next ∷ [])) }

-- an emitter that had no event before these
pub is_after : {first now : State} {all : List Numbered} {answer : Result (Unit {0}) yaml_error_t} → first.events ≡ []
    → Emits first (events_in all) answer now → IsPromised now → IsAfter first.given all now
is_after {first} {now} {all} none emits promised =
    record { set = emits.set.given; events = emits.set.events ∙ ap (λ (l : List Event). l ++ events_in all) none; promised = promised }

-- the first call that failed
pub fails_after : {set : Settings} {all : List Numbered} {events : List Event} {error : yaml_error_t} {earlier state : State} → IsAfter set all earlier
    → earlier.error ≡ None → Emits earlier events (Err error) state → IsPromised state → FailsAfter set all events error state
fails_after {set} {all} {events} {error} {earlier} {state} after none emits promised =
    record {
      earlier = earlier;
      after = after;
      no_error = none;
      emits = emits;
      promised = promised;
      documents =
          subst (λ (given : Settings). KeepsDocuments given (events_in all) state.page.output) after.set
          (subst (λ (given : List Event). KeepsDocuments earlier.given given state.page.output) after.events
          (documents_stay earlier.given earlier.events earlier.page.output state.page.output
          (documents_without_error earlier.given earlier.events earlier after.promised none) emits.grows.output));
    }

pub refused_at : {A : Type 0} {set : Settings} {error : yaml_error_t} {state : State} (given : List (NumberedEvent A)) (next : NumberedEvent A)
    (rest left all : List (NumberedEvent A)) → given ++ left ≡ all → left ≡ next ∷ rest
    → FailsAfter set (map seen_numbered given) (seen_event next.event ∷ []) error state → RefusesAt set (map seen_numbered all) next.line error state
refused_at given next rest left all parts is fails =
    record {
      before = map seen_numbered given;
      event = seen_event next.event;
      later = map seen_numbered rest;
      parts = sym (map-append seen_numbered given (next ∷ rest)) ∙ ap (λ left. map seen_numbered (given ++ left)) (sym is) ∙ ap (map seen_numbered) parts;
      fails = fails;
    }

-- the end of all events
pub ended : (set : Settings) (all : List Numbered) (last : Option ℕ) (answer : run_answer_t) (before after : State) → IsAfter set all before
    → before.error ≡ None → LastLine all last before → IsPromised after → FlushesLast last before answer after → RunsTo set all answer after
unfolding fails_after
ended set all None answer before after was none ends promised h =
    let done : EmitsScript set all before =
    record {
      after = was;
      no_error = none;
      flushed_whole = subst (λ (events : List Event). HasAllBytes before.given events before) (sym (was.events ∙ ap events_in ends.0)) ends.1;
    }
    in
    subst (λ (a : run_answer_t). RunsTo set all a after) (sym h.0) (subst (EmitsScript set all) (sym h.1) done)
ended set all (Some line) Done before after was none ends promised h =
    record {
      after = record {
        set = h.0.set.given ∙ was.set;
        events = h.0.set.events ∙ append-nil before.events ∙ was.events;
        promised = promised;
      };
      no_error = none_from_result after.error h.0.answered;
      flushed_whole = h.1;
    }
ended set all (Some line) (Refused reported error) before after was none ends promised h =
    inr (record { ends = subst (EndsOnLine all) (sym h.0) ends; fails = fails_after was none h.1 promised; unflushed = h.2 })
ended set all (Some line) _ before after was none ends promised h = h

-- a run of a new emitter
pub runs_new : (set : Settings) (all : List Numbered) (answer : run_answer_t) (first after : State) → first ≡ new_state_with set
    → (first.events ≡ [] → RunsTo first.given all answer after) → RunsTo set all answer after
runs_new set all answer first after new runs =
    subst (λ (given : Settings). RunsTo given all answer after) (ap (λ (s : State). s.given) new) (runs (ap (λ (s : State). s.events) new))

-- the answer if the output was written, or couldn't be
pub returned_answer : (set : Settings) (all : List Numbered) (answer : run_answer_t) (state : State) (old new : Option (List ℕ)) → RunsTo set all answer state
    → Appends old new state.page.output → AnswersEvents set all answer old new
returned_answer set all (BadLine line) state old new runs appends = runs
returned_answer set all ReadFailed state old new runs appends = tt
returned_answer set all WriteFailed state old new runs appends = absurd runs
returned_answer set all NoMemory state old new runs appends = tt
returned_answer set all _ state old new runs appends = (state, runs, appends)

pub silent_only : (set : Settings) (all : List Numbered) (answer : run_answer_t) (state : State) (old new : Option (List ℕ)) → RunsTo set all answer state
    → WritesNothing answer old new
silent_only set all (BadLine line) state old new runs = absurd runs
silent_only set all ReadFailed state old new runs = absurd runs
silent_only set all NoMemory state old new runs = absurd runs
silent_only set all _ state old new runs = tt
