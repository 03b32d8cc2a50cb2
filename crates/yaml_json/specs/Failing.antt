-- Why a writer fails that is given the events of a text, and the events that it was given until then.
use Rattle.std.specs.Prelude.{◌≡◌, ℕ, ◌<◌, ◌≤◌, Bool, Option, None, Some, Result, Ok, Err, List, [], ◌++◌, flat_map, length}
use Rattle.json.specs.Token.{Token}
use Rattle.json.specs.Lex.{tokens}
use Rattle.json.specs.Json.{Json, value}
use Rattle.json.specs.Tree.{depth as nesting}
use Rattle.yaml_base.specs.Event.{Event}
use Rattle.yaml_base.specs.Refusal.{most_open}
use Rattle.yaml_base.specs.Settings.{Settings}
use Rattle.yaml_base.specs.declared.errors.yaml_error_t.{yaml_error_t}
use Rattle.yaml_pen.specs.Wrote.{Grows}
use Rattle.yaml_emitter.specs.Uncut.{IsUncut}
use Rattle.yaml_writer.specs.Answering.{IsAnswerBy, KeptBy}
use Rattle.yaml_writer.specs.Failing.{FailedHaving, HasErrorSaid}
use Rattle.yaml_writer.specs.Unfinished.{FailsBy, PassesLimit}
use Rattle.yaml_writer.specs.WasGiven.{between}
use Rattle.yaml_writer.specs.Writing.{WriterState, closing, opening}
use Rattle.yaml_json.specs.Begins.{BeginsWithinDepth}
use Rattle.yaml_json.specs.JsonEvents.{json_events}
use Rattle.yaml_json.specs.TokenEvents.{tokens_events}
use Rattle.yaml_json.specs.declared.error.JsonError.{JsonError}
use Rattle.yaml_json.specs.declared.error.JsonError.TheVariants as errors
use Rattle.yaml_json.specs.declared.values.Stop.{Stop}
use Rattle.yaml_json.specs.declared.values.Stop.TheVariants as stops

-- ---- the error of the writer, if there is one

abbrev pub failure_of : Stop → Option yaml_error_t
failure_of (stops.Failed error) = Some error
failure_of _ = None

abbrev pub emitter_error_of : Result (Unit {0}) Stop → Option yaml_error_t
emitter_error_of (Ok done) = None
emitter_error_of (Err stop) = failure_of stop

-- the writer's answer
abbrev pub IsStopOf : Result (Unit {0}) yaml_error_t → Result (Unit {0}) Stop → Type 0
IsStopOf = IsAnswerBy (λ (error : yaml_error_t). stops.Failed error)

abbrev pub writers_error : JsonError → Option yaml_error_t
writers_error (errors.Emitter error) = Some error
writers_error _ = None

-- ---- the events that were given

-- The events of the first of some tokens were given. If there is no first, nothing changed.
pub record FailedAfter (in_flow : Bool) (taken ahead : List Token) (was : WriterState) (error : yaml_error_t) (now : WriterState) : Type 0 where
  pub left : List Token
  pub parts : taken ++ left ≡ ahead
  pub gave : FailedHaving was (tokens_events was.canonical in_flow taken) error now
  pub unchanged : taken ≡ [] → now ≡ was

-- the events of the first of these tokens were given to the emitter, and some value nested at most `depth` deep begins with the
-- tokens of these events; then an allocation failed, or the emitter has this error now
abbrev pub FailedInValue : (depth : ℕ) → (in_flow : Bool) → List Token → WriterState → yaml_error_t → WriterState → Type 0
FailedInValue depth in_flow ahead was error now =
    (taken : List Token) × (FailedAfter in_flow taken ahead was error now × BeginsWithinDepth depth taken)

-- so of the tokens of a text
abbrev pub FailedInText : (depth : ℕ) → (in_flow : Bool) → (text : List ℕ) → WriterState → yaml_error_t → WriterState → Type 0
FailedInText depth in_flow text was error now = FailedInValue depth in_flow (tokens text) was error now

-- the events of some texts, after each of which a document begins
abbrev pub events_with_separators : (canonical in_flow : Bool) → List (List ℕ × Json) → List Event
events_with_separators canonical in_flow parts = flat_map (λ part. json_events canonical in_flow part.1 ++ between) parts

-- ---- that nothing changed

-- If the emitter has no error, the same collections are open.
abbrev pub StaysLevelUnlessFailed : WriterState → WriterState → Type 0
StaysLevelUnlessFailed was now = now.emitter.error ≡ None → now.levels ≡ was.levels

-- If the emitter has no error, and no more collections are open than before, nothing changed.
abbrev pub StaysUnlessOpened : WriterState → WriterState → Type 0
StaysUnlessOpened was now = now.emitter.error ≡ None → length now.levels ≤ length was.levels → now ≡ was

-- ---- the result of a call

-- the emitter has no error after a success, and none more after the text stopped the writing, and its text and its output only grow
abbrev pub Kept : WriterState → Result (Unit {0}) Stop → WriterState → Type 0
Kept = KeptBy failure_of

-- the error is the one that the emitter has now, as is said; and its text and its output only grow
pub record Grew (was : WriterState) (found : Option yaml_error_t) (now : WriterState) : Type 0 where
  pub grows : Grows was.emitter.page now.emitter.page
  pub sound : HasErrorSaid was found now

-- the emitter has no error after a success, and after an error the one that is returned, if any
abbrev pub IsSound : WriterState → Result (Unit {0}) JsonError → WriterState → Type 0
IsSound was (Ok done) now = now.emitter.error ≡ None
IsSound was (Err error) now = HasErrorSaid was (writers_error error) now

-- ---- why no stream was written

-- The bytes of the events of the text's tokens pass the limit. If the text is JSON nested at most `depth` deep, and no deeper than the
-- emitter allows, the bytes of the stream of its value pass it.
pub record OverLimit (given : Settings) (in_flow : Bool) (depth : ℕ) (text : List ℕ) : Type 0 where
  pub passes : PassesLimit given (opening ++ tokens_events given.canonical in_flow (tokens text) ++ closing)
  pub cut : (json : Json) → value depth (tokens text) ≡ Some (json, []) → nesting json ≤ most_open
      → IsUncut given (opening ++ json_events given.canonical in_flow json ++ closing) → ⊥

-- If the text is JSON nested at most `depth` deep, it has more levels than may be open.
abbrev pub NestsPastMost : (depth : ℕ) → (text : List ℕ) → Type 0
NestsPastMost depth text = (json : Json) → value depth (tokens text) ≡ Some (json, []) → most_open < nesting json

-- An allocation failed, the limit is exceeded, or too many collections were open.
abbrev pub JsonFailsBy : Settings → (in_flow : Bool) → (depth : ℕ) → (text : List ℕ) → yaml_error_t → Type 0
JsonFailsBy given in_flow depth text = FailsBy depth (OverLimit given in_flow depth text) (NestsPastMost depth text)
