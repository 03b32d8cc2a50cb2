-- Taking output doesn't change which events an emitter's state comes after.
use Rattle.yaml_emitter.proofs.Common.{Option, None, Some, take, false, List, [], ◌++◌, ◌∷◌, refl, ap, Event, first_standing, Piece, settings_for, written}
use Rattle.yaml_emitter.proofs.Common.{Settings, Effective, at_stream, Steps, steps, progress}
use Rattle.yaml_emitter.proofs.Common.{closes_at_once, IsPage, HoldsPiecesWith, HasProgress, closes_last, StandsRefused, HoldsCut}
use Rattle.yaml_emitter.proofs.Common.{holds_before, holds_part, StandsStopped, at_event, between_events, StandsFailed, MachineStands, StandsAfter, State}
use Rattle.yaml_emitter.proofs.Common.{MachineState, machine_of, with_all_taken, Page, all_taken}
use Rattle.yaml_base.specs.declared.errors.{yaml_error_t.yaml_error_t, yaml_error_t.TheVariants.Memory, yaml_error_t.TheVariants.WriteError}
use Rattle.yaml_emitter.{proofs.standing.Standing.settled_same}

page_taken : (s : Effective) (page : Page) → IsPage s page → IsPage s (all_taken page)
page_taken s page h = record { encoding = h.encoding; bom_written = h.bom_written; line_break = h.line_break; limit = h.limit; sound_output = h.sound_output }

holds_taken : (error : Option yaml_error_t) (s : Effective) (events : List Event) (pieces : List Piece) (page : Page)
    → HoldsPiecesWith error s events pieces page → HoldsPiecesWith error s events pieces (all_taken page)
holds_taken error s [] pieces page h = ap all_taken h
holds_taken error s (event ∷ events) pieces page h = (page_taken s page h.0, h.1, h.2)

-- a machine whose output is all taken
abbrev taken_from : MachineState → MachineState
taken_from machine = record machine { page = all_taken machine.page }

state_taken : (given : Settings) (all prefix : List Event) (reached : Steps) (machine : MachineState) → HasProgress given all prefix reached machine
    → HasProgress given all prefix reached (taken_from machine)
state_taken given all prefix reached machine h =
    record {
      given_kept = h.given_kept;
      settled = settled_same (settings_for given all) prefix machine (taken_from machine) refl h.settled;
      stands = h.stands;
      stage = h.stage;
      standing = h.standing;
      page = holds_taken None (settings_for given all) prefix reached.pieces machine.page h.page;
      flushed_whole = h.flushed_whole;
      flushed = h.flushed;
    }

cut_taken : (given : Settings) (s : Effective) (prefix : List Event) (event : Event) (before with_event : Steps) (error : yaml_error_t) (page : Page)
    → HoldsCut given s prefix event before with_event error page → HoldsCut given s prefix event before with_event error (all_taken page)
cut_taken given s prefix event before with_event error page (holds_before memory holds) =
    holds_before memory (holds_taken None s prefix before.pieces page holds)
cut_taken given s prefix event before with_event error page (holds_part begins is full grown part) = holds_part begins (page_taken s page is) full grown part

stopped_taken : (given : Settings) (all : List Event) (error : yaml_error_t) (machine : MachineState) → StandsStopped given all error machine
    → StandsStopped given all error (taken_from machine)
stopped_taken given all error machine h =
    let s = settings_for given all in
    elim h [
      | at_event at ↦
          at_event
          (record {
            prefix = at.prefix;
            event = at.event;
            later = at.later;
            failed = at.failed;
            given_kept = at.given_kept;
            stands = at.stands;
            page = cut_taken given s at.prefix at.event (steps s (closes_last at.prefix (at.event ∷ at.later)) at.prefix at_stream first_standing)
                (steps s (closes_at_once at.event at.later) (at.prefix ++ at.event ∷ []) at_stream first_standing) error machine.page at.page;
            flushed = at.flushed;
          })
      | between_events at ↦
          between_events
          (record {
            before = at.before;
            later = at.later;
            parts = at.parts;
            given_kept = at.given_kept;
            stands = at.stands;
            page = holds_taken (Some error) s (take (written at.before) at.before) (progress s at.before).pieces machine.page at.page;
            sound_output = at.sound_output;
            flushed = at.flushed;
          })
    ]

refused_taken : (given : Settings) (all : List Event) (error : yaml_error_t) (machine : MachineState) → StandsRefused given all error machine
    → StandsRefused given all error (taken_from machine)
refused_taken given all error machine h =
    record {
      prefix = h.prefix;
      event = h.event;
      later = h.later;
      failed = h.failed;
      progress = state_taken given all h.prefix (steps (settings_for given all) false h.prefix at_stream first_standing) machine h.progress;
      refusal = h.refusal;
    }

failed_taken : (error : yaml_error_t) (given : Settings) (all : List Event) (machine : MachineState) → StandsFailed given all error machine
    → StandsFailed given all error (taken_from machine)
failed_taken WriteError given all machine h = stopped_taken given all WriteError machine h
failed_taken Memory given all machine h = stopped_taken given all Memory machine h
failed_taken error given all machine h = refused_taken given all error machine h

stands_by : (error : Option yaml_error_t) (given : Settings) (all held : List Event) (machine : MachineState) → MachineStands given all error held machine
    → MachineStands given all error held (taken_from machine)
stands_by None given all held machine h =
    record { progress = state_taken given all (take (written all) all) (progress (settings_for given all) all) machine h.progress; held = h.held }
stands_by (Some error) given all held machine h = (h.0, failed_taken error given all machine h.1)

pub stands_taken : (given : Settings) (all : List Event) (state : State) → StandsAfter given all state → StandsAfter given all (with_all_taken state)
stands_taken given all state stands = record { texts = stands.texts; so = stands_by state.error given all state.held (machine_of state) stands.so }
