-- The state of an emitter after the events that it was given, for the proofs. `Promises` has all that its caller may rely on; of the
-- names here contracts use `StandsAfter` alone.
use Rattle.std.specs.Prelude.{◌≡◌, ◌+◌, ◌<◌, Bool, true, false, Option, None, Some, Result, List, [], ◌∷◌, ◌++◌, length, take}
use Rattle.std.specs.List.{list_all}
use Rattle.yaml_base.specs.Settings.{Settings, Effective}
use Rattle.yaml_base.specs.Event.{Event}
use Rattle.yaml_base.specs.Prefix.{IsPrefix}
use Rattle.yaml_base.specs.Refusal.{IsAcceptedPrefix, refusal}
use Rattle.yaml_base.specs.Ready.{written, held_back}
use Rattle.yaml_base.specs.Layout.{Piece, first_standing}
use Rattle.yaml_base.specs.Steps.{at_stream, Steps, steps, progress}
use Rattle.yaml_base.specs.Output.{settings_for, text_written, last_flushes}
use Rattle.yaml_base.specs.Meaning.{has_scalar_texts}
use Rattle.yaml_base.specs.declared.errors.yaml_error_t.{yaml_error_t}
use Rattle.yaml_base.specs.declared.errors.yaml_error_t.TheVariants.{WriteError, Memory}
use Rattle.yaml_pen.specs.Page.{Page, new_page, encoded, IsFlushedOutput}
use Rattle.yaml_emitter.specs.StaysFlushed.{StaysFlushed}
use Rattle.yaml_emitter.specs.State.{GivenEvent, MachineState, State, machine_of, standing_of}
use Rattle.yaml_emitter.specs.Processing.{Processed, closes_at_once}

-- a page of a stream that was begun, with these settings
pub record IsPage (s : Effective) (page : Page) : Type 0 where
  pub encoding : page.encoding ≡ Some s.encoding
  pub bom_written : page.bom_due ≡ false
  pub line_break : page.line_break ≡ s.line_break
  pub limit : page.limit ≡ s.limit
  pub sound_output : IsFlushedOutput (encoded page) page.output page.limit page.error

-- a page is new before the stream's start, and holds the text of the pieces after it; it has this error
abbrev pub HoldsPiecesWith : Option yaml_error_t → Effective → List Event → List Piece → Page → Type 0
HoldsPiecesWith error s [] pieces page = page ≡ record (new_page s.limit) { error = error }
HoldsPiecesWith error s (event ∷ events) pieces page =
    IsPage s page × (page.text ≡ text_written s pieces) × (page.error ≡ error)

-- a page holds the text of the pieces, without an error
abbrev pub HoldsPieces : Effective → List Event → List Piece → Page → Type 0
HoldsPieces s events pieces page = HoldsPiecesWith None s events pieces page

-- from the first event on the settings are those of the stream
abbrev pub IsSettled : Effective → List Event → MachineState → Type 0
IsSettled s [] machine = Unit {0}
IsSettled s (event ∷ events) machine = machine.settings ≡ s

-- the machine after the steps over a prefix of the events; the output has all that was flushed at the ends of its documents
pub record HasProgress (given : Settings) (all prefix : List Event) (progress : Steps) (machine : MachineState) : Type 0 where
  pub given_kept : machine.given ≡ given
  pub settled : IsSettled (settings_for given all) prefix machine
  pub stands : IsAcceptedPrefix given.canonical prefix
  pub stage : machine.stage ≡ progress.stage
  pub standing : standing_of machine ≡ progress.standing
  pub page : HoldsPieces (settings_for given all) prefix progress.pieces machine.page
  pub flushed_whole : last_flushes prefix ≡ true → machine.page.output ≡ encoded machine.page
  pub flushed : StaysFlushed given all (length prefix) machine.page.output

-- without an error: the ready events are written, the others held
pub record StandsWithoutError (given : Settings) (all waiting : List Event) (machine : MachineState) : Type 0 where
  pub progress : HasProgress given all (take (written all) all) (progress (settings_for given all) all) machine
  pub held : waiting ≡ held_back all

-- the list has the events before one that became ready, that event, and those given after it
pub record FailedAt (all prefix : List Event) (event : Event) (later : List Event) : Type 0 where
  pub parts : prefix ++ event ∷ later ≡ all
  pub became_ready : length prefix < written all

-- true if the last event of a list starts a collection that the event after them ends
abbrev pub closes_last : List Event → List Event → Bool
closes_last [] rest = false
closes_last (event ∷ []) rest = closes_at_once event rest
closes_last (event ∷ next ∷ more) rest = closes_last (next ∷ more) rest

-- an event was refused: it added no text
pub record StandsRefused (given : Settings) (all : List Event) (error : yaml_error_t) (machine : MachineState) : Type 0 where
  pub prefix : List Event
  pub event : Event
  pub later : List Event
  pub failed : FailedAt all prefix event later
  pub progress : HasProgress given all prefix (steps (settings_for given all) false prefix at_stream first_standing) machine
  pub refusal : refusal given.canonical prefix event ≡ Some error

-- the page of an event that was cut short, by the steps of the events before it, and with it: the text of those before, if memory
-- failed before it; or that text and a prefix of the event's own piece
pub data HoldsCut (given : Settings) (s : Effective) (prefix : List Event) (event : Event) (before with_event : Steps) (error : yaml_error_t)
    (page : Page) : Type 0 where
  holds_before : error ≡ Memory → HoldsPieces s prefix before.pieces page → HoldsCut given s prefix event before with_event error page
  holds_part :
      IsAcceptedPrefix given.canonical (prefix ++ event ∷ []) → IsPage s page
      → (error ≡ WriteError → page.error ≡ Some WriteError)
      → IsPrefix (text_written s before.pieces) page.text
      → IsPrefix page.text (text_written s with_event.pieces)
      → HoldsCut given s prefix event before with_event error page

-- the output passed its limit, or memory failed, at an event
pub record StandsCut (given : Settings) (all : List Event) (error : yaml_error_t) (machine : MachineState) : Type 0 where
  pub prefix : List Event
  pub event : Event
  pub later : List Event
  pub failed : FailedAt all prefix event later
  pub given_kept : machine.given ≡ given
  pub stands : IsAcceptedPrefix given.canonical prefix
  pub page :
      let s = settings_for given all in
      let before = steps s (closes_last prefix (event ∷ later)) prefix at_stream first_standing in
      let with_event = steps s (closes_at_once event later) (prefix ++ event ∷ []) at_stream first_standing in
      HoldsCut given s prefix event before with_event error machine.page
  pub flushed : StaysFlushed given all (length prefix) machine.page.output

-- the output passed its limit, or memory failed, in a flush between events: all that were ready were written, and more may have
-- been given since
pub record StandsUnflushed (given : Settings) (all : List Event) (error : yaml_error_t) (machine : MachineState) : Type 0 where
  pub before : List Event
  pub later : List Event
  pub parts : before ++ later ≡ all
  pub given_kept : machine.given ≡ given
  pub stands : IsAcceptedPrefix given.canonical (take (written before) before)
  pub page :
      HoldsPiecesWith (Some error) (settings_for given all) (take (written before) before)
      (progress (settings_for given all) before).pieces machine.page
  pub sound_output : IsFlushedOutput (encoded machine.page) machine.page.output machine.page.limit machine.page.error
  pub flushed : StaysFlushed given all (written before) machine.page.output

-- the output passed its limit, or memory failed, at an event or between two
pub data StandsStopped (given : Settings) (all : List Event) (error : yaml_error_t) (machine : MachineState) : Type 0 where
  at_event : StandsCut given all error machine → StandsStopped given all error machine
  between_events : StandsUnflushed given all error machine → StandsStopped given all error machine

-- memory and the limit stop an emitter; any other error is a refusal
abbrev pub StandsFailed : Settings → List Event → yaml_error_t → MachineState → Type 0
StandsFailed given all WriteError machine = StandsStopped given all WriteError machine
StandsFailed given all Memory machine = StandsStopped given all Memory machine
StandsFailed given all error machine = StandsRefused given all error machine

-- a machine without an error holds the events that aren't ready; after an error nothing is held
abbrev pub MachineStands : Settings → List Event → Option yaml_error_t → (held : List Event) → MachineState → Type 0
MachineStands given all None held machine = StandsWithoutError given all held machine
MachineStands given all (Some error) held machine = (held ≡ []) × StandsFailed given all error machine

-- the state of an emitter after these events, by its error or without one
abbrev pub StateStands : Settings → List Event → State → Type 0
StateStands given all state = MachineStands given all state.error state.held (machine_of state)

-- this is the state of an emitter after these events, whose texts are those of strings, under these settings
pub record StandsAfter (given : Settings) (all : List GivenEvent) (state : State) : Type 0 where
  pub texts : list_all has_scalar_texts all ≡ true
  pub so : StateStands given all state

-- in between: a prefix of the events is written, the others wait
pub record HasReached (given : Settings) (all prefix rest : List Event) (machine : MachineState) : Type 0 where
  pub parts : prefix ++ rest ≡ all
  pub ready : written all ≡ length prefix + written rest
  pub progress : HasProgress given all prefix (steps (settings_for given all) (closes_last prefix rest) prefix at_stream first_standing) machine

-- the machine with this error kept
abbrev pub failed_by : yaml_error_t → MachineState → MachineState
failed_by error machine = record machine { error = Some error }

-- for every list that `before` has reached, `after` has reached it with more written
abbrev pub ReachedOn : (waiting : List Event) → MachineState → (left : List Event) → MachineState → Type 0
ReachedOn waiting before left after =
    (given : Settings) (all prefix : List Event) → HasReached given all prefix waiting before
    → (next : List Event) × HasReached given all next left after

-- one of the waiting events failed, for every list that the machine had reached
abbrev pub FailedReady : (waiting : List Event) → (error : yaml_error_t) → (before after : MachineState) → Type 0
FailedReady waiting error before after =
    (given : Settings) (all prefix : List Event) → HasReached given all prefix waiting before → StandsFailed given all error (failed_by error after)

-- the first waiting event was processed
pub record ProcessedFirst (waiting : List Event) (before after : MachineState) (answer : Result (Unit {0}) yaml_error_t) : Type 0 where
  pub event : Event
  pub rest : List Event
  pub waits : waiting ≡ event ∷ rest
  pub done : Processed event (closes_at_once event rest) before after answer
