-- A writer's text and output only grow, and its emitter has no error but the one that is said.
use Rattle.yaml_json.proofs.Common.{[], append-nil, subst, sym, Option, None, Some, Ok, Err, List, ◌≡◌, inl, inr, some_from_result, Event, failure_of, refl}
use Rattle.yaml_json.proofs.Common.{WriterState, PassedEvents, yaml_error_t, writers_error, Grew, Kept, emitter_error, JsonError, StreamError, Stop}
use Rattle.yaml_emitter.specs.State.{with_all_taken}
use Rattle.yaml_json.{proofs.TextStops.said_as, specs.Sent.IsByReader}
use Rattle.yaml_writer.specs.Failing.{HasErrorSaid}
use Rattle.yaml_pen.proofs.{Composing.grows_itself, Composing.grows_then, Writing.none_from_result}
use Rattle.yaml_json.specs.declared.error.StreamError.TheVariants as faults

pub grew_itself : (writer : WriterState) → Grew writer None writer
grew_itself writer = record { grows = grows_itself writer.emitter.page; sound = λ none. none }

-- a call that succeeded, and then another
pub grew_then : (before between after : WriterState) (found : Option yaml_error_t) → Grew before None between → Grew between found after
    → Grew before found after
grew_then before between after found one other =
    record { grows = grows_then {between = between.emitter.page} one.grows other.grows; sound = sound_then found other.sound } where
      sound_then : (found : Option yaml_error_t) → HasErrorSaid between found after → HasErrorSaid before found after
      sound_then None stays = λ none. stays (one.sound none)
      sound_then (Some code) (inl memory) = inl (memory.0, λ none. memory.1 (one.sound none))
      sound_then (Some code) (inr has) = inr has

pub grew_kept : (before after : WriterState) → Kept before (Ok tt) after → Grew before None after
grew_kept before after kept = record { grows = kept.grows; sound = λ none. kept.sound }

pub grew_said : (before after : WriterState) (stop : Stop) (found : Option yaml_error_t) → found ≡ failure_of stop → Kept before (Err stop) after
    → Grew before found after
grew_said before after stop found is kept = record { grows = kept.grows; sound = said_as before after stop found is kept }

-- a call that gives events
pub grew_passed : (before after : WriterState) (events : List Event) → PassedEvents before events (Ok tt) after → Grew before None after
grew_passed before after events passed = record { grows = passed.emits.grows; sound = λ none. none_from_result after.emitter.error passed.emits.answered }

pub grew_failing : (before after : WriterState) (events : List Event) (error : yaml_error_t) → PassedEvents before events (Err error) after
    → Grew before (Some error) after
grew_failing before after events error passed =
    record { grows = passed.emits.grows; sound = inr (some_from_result after.emitter.error error passed.emits.answered) }

-- all that was flushed is taken
pub grew_sent : (before after : WriterState) → after ≡ record before { emitter = with_all_taken before.emitter } → Grew before None after
grew_sent before after kept =
    subst (Grew before None) (sym kept)
    (record {
      grows = record {
        text = record { rest = []; parts = append-nil before.emitter.page.text };
        output = record { rest = []; parts = append-nil before.emitter.page.output };
      };
      sound = λ none. none;
    })

-- the reader failed
pub grew_reading : (was now : WriterState) (error : StreamError) → IsByReader error → Grew was None now → Grew was (emitter_error error) now
grew_reading was now (faults.Refused error) is grew =
    subst (λ (e : JsonError). Grew was (writers_error e) now) (sym is) (record { grows = grew.grows; sound = inl (refl, grew.sound) })
grew_reading was now (faults.ReadFailed error) is grew = grew
grew_reading was now _ is grew = absurd is
