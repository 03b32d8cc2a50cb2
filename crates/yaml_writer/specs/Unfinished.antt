-- Why a stream couldn't be finished, or a value has none.
use Rattle.std.specs.Prelude.{◌≡◌, ◌⊎◌, ℕ, ◌<◌, Bool, true, false, Option, None, Some, List, [], ◌∷◌, ◌++◌, length, take}
use Rattle.yaml_base.specs.Event.{Event}
use Rattle.yaml_base.specs.Grammar.{Partial, within_document, partial_of}
use Rattle.yaml_base.specs.Output.{settings_for, bytes_written}
use Rattle.yaml_base.specs.Pieces.{list_layout}
use Rattle.yaml_base.specs.Refusal.{IsAccepted, IsAcceptedPrefix, most_open, refusal}
use Rattle.yaml_base.specs.Settings.{Settings}
use Rattle.yaml_base.specs.declared.errors.yaml_error_t.{yaml_error_t}
use Rattle.yaml_base.specs.declared.errors.yaml_error_t.TheVariants.{ExpectedNode, Memory, TooDeep, WriteError}
use Rattle.yaml_emitter.specs.Promises.{IsRefusal}
use Rattle.yaml_emitter.specs.State.{State}
use Rattle.yaml_emitter.specs.Uncut.{IsUncut}
use Rattle.yaml_writer.specs.Writing.{closing_by}

-- one of some events is refused with this error; those before it begin a stream
pub record RefusesOne (canonical : Bool) (all : List Event) (error : yaml_error_t) : Type 0 where
  pub prefix : List Event
  pub event : Event
  pub later : List Event
  pub parts : prefix ++ event ∷ later ≡ all
  pub begins : IsAcceptedPrefix canonical prefix
  pub refusal : refusal canonical prefix event ≡ Some error

-- True if a document is open, and its root, or the next node of its innermost collection, is missing.
abbrev pub awaits_more : Option Partial → Bool
awaits_more (Some (within_document encoding before start levels)) = true
awaits_more _ = false

-- a node is missing: the events before this one leave one out, and it neither is a node nor begins one
pub record MissesNode (all : List Event) : Type 0 where
  pub prefix : List Event
  pub event : Event
  pub later : List Event
  pub parts : prefix ++ event ∷ later ≡ all
  pub awaits : awaits_more (partial_of prefix) ≡ true
  pub none : partial_of (prefix ++ event ∷ []) ≡ None

-- The events are no stream: one of them is refused with this error. If the error says that a node is missing, one is.
pub record IsNoStream (canonical : Bool) (all : List Event) (error : yaml_error_t) : Type 0 where
  pub unaccepted : IsAccepted canonical all → ⊥
  pub named : RefusesOne canonical all error
  pub missing : error ≡ ExpectedNode → MissesNode all

-- The bytes of the events pass the limit: already those of the first of them, in a stream that begins so; and if all are a stream, its
-- bytes do.
pub record PassesLimit (given : Settings) (all : List Event) : Type 0 where
  pub prefix : List Event
  pub later : List Event
  pub parts : prefix ++ later ≡ all
  pub more : List Event
  pub accepted : IsAccepted given.canonical (prefix ++ more)
  pub passed :
      let s = settings_for given all in
      given.limit < length (bytes_written s (take (length prefix) (list_layout s (prefix ++ more))))
  pub whole : IsAccepted given.canonical all → IsUncut given all → ⊥

-- The stream of an emitter can't be finished, for this error, by an end that is written or isn't: the emitter's first error stays; the
-- limit is exceeded only if the bytes pass it; an error of events comes only if they are no stream.
pub record IsUnfinishedBy (implicit : Bool) (emitter : State) (error : yaml_error_t) : Type 0 where
  pub first : (earlier : yaml_error_t) → emitter.error ≡ Some earlier → error ≡ earlier
  pub full : error ≡ WriteError → PassesLimit emitter.given (emitter.events ++ closing_by implicit)
  pub refused : IsRefusal error → IsNoStream emitter.given.canonical (emitter.events ++ closing_by implicit) error

-- The same with an end of the document that isn't written.
abbrev pub IsUnfinished : State → yaml_error_t → Type 0
IsUnfinished = IsUnfinishedBy true

-- ---- why a value has no stream

-- An allocation failed; or the limit is exceeded, of which this holds; or more levels are allowed than may be open, the value has more, and
-- of it that holds.
abbrev pub FailsBy : (depth : ℕ) → (over_limit deeper : Type 0) → yaml_error_t → Type 0
FailsBy depth over_limit deeper error =
    (error ≡ Memory) ⊎ (((error ≡ WriteError) × over_limit) ⊎ ((error ≡ TooDeep) × ((most_open < depth) × deeper)))
