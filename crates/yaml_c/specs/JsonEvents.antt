-- The results of a call that gives an emitter the events of a JSON text, and the emitter after it.
use Rattle.std.specs.Prelude.{◌≡◌, ◌≢◌, ◌⊎◌, ℕ, ℤ, pos, Bool, true, false, ◌&&◌, None, Some, List, [], ◌++◌, Result, Ok, Err, IsUtf8, is_none, if◌then◌else◌}
use Rattle.std.specs.Str.{IsValidUpTo}
use Rattle.json.specs.Json.{Json, value}
use Rattle.json.specs.Lex.{tokens}
use Rattle.json.specs.Token.{Token}
use Rattle.yaml_base.specs.declared.errors.yaml_error_t.{yaml_error_t}
use Rattle.yaml_base.specs.Positions.{IsPositionOf}
use Rattle.yaml_base.specs.declared.places.Position.{Position}
use Rattle.yaml_emitter.specs.Emits.{Emits}
use Rattle.yaml_emitter.specs.State.{State}
use Rattle.yaml_pen.specs.Page.{result_of_error}
use Rattle.yaml_writer.specs.Writing.{writer_over}
use Rattle.yaml_json.specs.Failing.{IsSound}
use Rattle.yaml_json.specs.JsonEvents.{json_events}
use Rattle.yaml_json.specs.Places.{HasPlace}
use Rattle.yaml_json.specs.Refused.{HasNamesOnce, TokensStopAt}
use Rattle.yaml_json.specs.TokenEvents.{tokens_events}
use Rattle.yaml_json.specs.declared.error.JsonError.{JsonError}
use Rattle.yaml_json.specs.declared.expecting.Expected.TheVariants.{Utf8}
use Rattle.yaml_json.specs.declared.error.JsonError.TheVariants as errors
use Rattle.yaml_c.specs.Answers.{at_place, nothing_reported}
use Rattle.yaml_c.specs.Kept.{TellsError, lasting_error}
use Rattle.yaml_c.specs.declared.json_events.TextGiving.{TextGiving}
use Rattle.yaml_c.specs.declared.json_events.TextGiving.TheVariants.{Answered, NoMemory}
use Rattle.yaml_c.specs.declared.results.CallResult.{CallResult}

-- True if the text is JSON nested at most `depth` deep, with each name once in its object if that is asked for, and its events were given.
pub record GaveText (depth : ℕ) (unique in_flow : Bool) (text : List ℕ) (before after : State) : Type 0 where
  pub sound : before.error ≡ None
  pub utf8 : IsUtf8 text
  pub json : Json
  pub read : value depth (tokens text) ≡ Some (json, [])
  pub names : HasNamesOnce unique text
  pub emits : Emits before (json_events before.given.canonical in_flow json) (result_of_error after.error) after
  pub no_error : after.error ≡ None

-- True if the events of the text's first tokens were given, and no more, for this reason. If there are no first tokens, nothing changed.
pub record StoppedInText (depth : ℕ) (unique in_flow : Bool) (text : List ℕ) (before : State) (error : JsonError) (after : State) : Type 0 where
  pub utf8 : IsUtf8 text
  pub taken : List Token
  pub left : List Token
  pub split : taken ++ left ≡ tokens text
  pub why : TokensStopAt depth unique text taken left error
  pub emits : Emits before (tokens_events before.given.canonical in_flow taken) (result_of_error after.error) after
  pub sound : IsSound (writer_over before) (Err error) (writer_over after)
  pub place : HasPlace depth text error
  pub unchanged : taken ≡ [] → after ≡ before

-- True if the text isn't UTF-8, and the error has the place of the first byte that isn't.
pub record IsNoUtf8 (text : List ℕ) (error : JsonError) : Type 0 where
  pub refused : IsUtf8 text → ⊥
  pub offset : ℕ
  pub valid : IsValidUpTo text offset
  pub position : Position
  pub is : IsPositionOf text offset position
  pub place : error ≡ errors.NotJson position Utf8

-- True if the error is the one that the emitter had before.
abbrev pub HadError : State → JsonError → Type 0
HadError before error = (code : yaml_error_t) × (before.error ≡ Some code) × (error ≡ errors.Emitter code)

-- True if nothing was given, since the emitter had failed before or the text isn't UTF-8.
abbrev pub GaveNothing : List ℕ → State → JsonError → State → Type 0
GaveNothing text before error after = (after ≡ before) × (HadError before error ⊎ ((before.error ≡ None) × IsNoUtf8 text error))

-- True of an error of the emitter or of memory.
abbrev pub is_writers_error : Result (Unit {0}) JsonError → Bool
is_writers_error (Err (errors.Emitter code)) = true
is_writers_error result = false

-- The emitter after a text was given with this result. It is closed if memory ran out that wasn't the emitter's.
abbrev pub closed_after : Result (Unit {0}) JsonError → State → State
closed_after result state = if is_writers_error result && is_none state.error then record state { closed = true } else state

-- The outcome of a text by the result of giving it, of which so many arrays and objects are open, and the emitter after it. If memory ran
-- out that wasn't the emitter's, the emitter is closed, unless nothing is open.
abbrev pub SettlesAs : Result (Unit {0}) JsonError → (levels : ℕ) → TextGiving → State → State → Type 0
SettlesAs result levels (Answered same) before after =
    (same ≡ result) × (after ≡ closed_after result before) × (is_writers_error result ≡ true → before.error ≡ None → levels ≢ 0)
SettlesAs result levels NoMemory before after =
    (is_writers_error result ≡ true) × (before.error ≡ None) × (levels ≡ 0) × (after ≡ before)

-- True if the events of the text's first tokens were given, and no more, for this reason. If it is the emitter's error, or memory that ran
-- out, an event was given, and each later call tells it.
pub record FailedInText (depth : ℕ) (unique in_flow : Bool) (text : List ℕ) (before : State) (error : JsonError) (after : State) : Type 0 where
  pub sound : before.error ≡ None
  pub stopped : State
  pub stops : StoppedInText depth unique in_flow text before error stopped
  pub closes : after ≡ closed_after (Err error) stopped
  pub begun : is_writers_error (Err error) ≡ true → tokens_events before.given.canonical in_flow stops.taken ≢ []
  pub lasts : (code : yaml_error_t) → error ≡ errors.Emitter code → lasting_error after ≡ Some code

-- True if the text was given with this outcome. An emitter that had failed before tells its error. If memory ran out before an event was
-- given, nothing changed.
abbrev pub GaveJson : (depth : ℕ) → (unique in_flow : Bool) → List ℕ → TextGiving → State → State → Type 0
GaveJson depth unique in_flow text (Answered (Ok done)) before after = GaveText depth unique in_flow text before after
GaveJson depth unique in_flow text (Answered (Err error)) before after =
    GaveNothing text before error after ⊎ FailedInText depth unique in_flow text before error after
GaveJson depth unique in_flow text NoMemory before after = (before.error ≡ None) × (after ≡ before)

-- True if the status and the report are those of the outcome: 0 for a text that was given, 5 if it isn't JSON, 6 if it nests too deep, 7 if
-- an object gives a name twice; 3 or 1 by the emitter's error; 3 and no error if memory ran out before an event was given.
abbrev pub TellsJson : TextGiving → (status : ℤ) → CallResult → Type 0
TellsJson (Answered (Ok done)) status report = (status ≡ pos 0) × (report ≡ nothing_reported)
TellsJson (Answered (Err (errors.NotJson position says))) status report = (status ≡ pos 5) × (report ≡ at_place position)
TellsJson (Answered (Err (errors.Marked position))) status report = (status ≡ pos 5) × (report ≡ at_place position)
TellsJson (Answered (Err (errors.TooDeep position))) status report = (status ≡ pos 6) × (report ≡ at_place position)
TellsJson (Answered (Err (errors.DuplicateName position))) status report = (status ≡ pos 7) × (report ≡ at_place position)
TellsJson (Answered (Err (errors.Emitter error))) status report = TellsError (Some error) status report
TellsJson NoMemory status report = (status ≡ pos 3) × (report ≡ nothing_reported)

abbrev pub GivesJson : (depth : ℕ) → (unique in_flow : Bool) → List ℕ → (status : ℤ) → CallResult → State → State → Type 0
GivesJson depth unique in_flow text status report before after =
    (giving : TextGiving) × GaveJson depth unique in_flow text giving before after × TellsJson giving status report
