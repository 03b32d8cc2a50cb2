-- The result of a run, by the script that was read and the bytes that were written.
use Rattle.std.specs.Prelude.{◌≡◌, ◌⊎◌, ℕ, ⊤, None, Some, Option, Ok, Err, List, [], ◌∷◌, ◌++◌, map}
use Rattle.std.specs.Io.KnownBytes.{Appends, Keeps, IsAtEnd}
use Rattle.yaml_base.specs.Settings.{Settings}
use Rattle.yaml_base.specs.Event.{Event}
use Rattle.yaml_base.specs.scripts.Script.{Numbered, Script, bad_line, understood}
use Rattle.yaml_base.specs.declared.errors.yaml_error_t.{yaml_error_t}
use Rattle.yaml_base.specs.declared.errors.yaml_error_t.TheVariants.{Memory}
use Rattle.yaml_base.specs.Sinks.{AppendsFirst}
use Rattle.yaml_emitter.specs.Emits.{Emits, IsFlushed, IsPromised}
use Rattle.yaml_emitter.specs.State.{State}
use Rattle.yaml_emitter.specs.StaysFlushed.{KeepsDocuments}
use Rattle.yaml_tool.specs.declared.answers.run_answer_t.{run_answer_t}
use Rattle.yaml_tool.specs.declared.answers.run_answer_t.TheVariants.{Done, Refused, BadLine, ReadFailed, WriteFailed, NoMemory}

-- the events, without the numbers of their lines
abbrev pub events_in : List Numbered → List Event
events_in all = map (λ (numbered : Numbered). numbered.event) all

-- the last of some events has this line
pub record EndsOnLine (all : List Numbered) (line : ℕ) : Type 0 where
  pub before : List Numbered
  pub event : Event
  pub parts : before ++ record { line = line; event = event } ∷ [] ≡ all

-- ---- the emitter that a script's events were given

-- an emitter with these settings was given these events, and keeps its promises about them
pub record IsAfter (given : Settings) (all : List Numbered) (state : State) : Type 0 where
  pub set : state.given ≡ given
  pub events : state.events ≡ events_in all
  pub promised : IsPromised state

-- no call returned an error, and all written text is flushed
pub record EmitsScript (given : Settings) (all : List Numbered) (state : State) : Type 0 where
  pub after : IsAfter given all state
  pub no_error : state.error ≡ None
  pub flushed_whole : IsFlushed state

-- the first call that returned an error gave these events, after those of `before`, and returned this error; all bytes that were
-- written before it are kept, and all bytes of the documents that were complete before it are written
pub record FailsAfter (given : Settings) (before : List Numbered) (events : List Event) (error : yaml_error_t) (state : State) : Type 0 where
  pub earlier : State
  pub after : IsAfter given before earlier
  pub no_error : earlier.error ≡ None
  pub emits : Emits earlier events (Err error) state
  pub promised : IsPromised state
  pub documents : KeepsDocuments given (events_in before) state.page.output

-- the call with this line's event failed, and no event after it was given
pub record RefusesAt (given : Settings) (all : List Numbered) (line : ℕ) (error : yaml_error_t) (state : State) : Type 0 where
  pub before : List Numbered
  pub event : Event
  pub later : List Numbered
  pub parts : before ++ record { line = line; event = event } ∷ later ≡ all
  pub fails : FailsAfter given before (event ∷ []) error state

-- every event was taken without an error, and the flush after the last, of this line, failed; if memory failed the output is as it was
pub record FlushFails (given : Settings) (all : List Numbered) (line : ℕ) (error : yaml_error_t) (state : State) : Type 0 where
  pub ends : EndsOnLine all line
  pub fails : FailsAfter given all [] error state
  pub unflushed : error ≡ Memory → state.page.output ≡ fails.earlier.page.output

-- the emitter after a run with this answer
abbrev pub RunsTo : Settings → List Numbered → run_answer_t → State → Type 0
RunsTo given all Done state = EmitsScript given all state
RunsTo given all (Refused line error) state = RefusesAt given all line error state ⊎ FlushFails given all line error state
RunsTo given all answer state = ⊥

-- ---- the whole run, by the script that was read and by the writer's bytes before and after it

-- the output of an emitter that was given the events was appended
abbrev pub WritesOutput : Settings → List Numbered → run_answer_t → Option (List ℕ) → Option (List ℕ) → Type 0
WritesOutput given all answer old new = (state : State) × RunsTo given all answer state × Appends old new state.page.output

-- a prefix of the output of such an emitter was appended
abbrev pub WritesBeginning : Settings → List Numbered → Option (List ℕ) → Option (List ℕ) → Type 0
WritesBeginning given all old new =
    (answer : run_answer_t) × (state : State) × RunsTo given all answer state × AppendsFirst old new state.page.output

-- the answer for a script's first bad line, unless reading or memory failed
abbrev pub AnswersBadLine : ℕ → run_answer_t → Type 0
AnswersBadLine number (BadLine line) = line ≡ number
AnswersBadLine number ReadFailed = ⊤
AnswersBadLine number NoMemory = ⊤
AnswersBadLine number answer = ⊥

-- the answer for a script's events, unless reading or memory failed
abbrev pub AnswersEvents : Settings → List Numbered → run_answer_t → Option (List ℕ) → Option (List ℕ) → Type 0
AnswersEvents given all (BadLine line) old new = ⊥
AnswersEvents given all ReadFailed old new = ⊤
AnswersEvents given all WriteFailed old new = WritesBeginning given all old new
AnswersEvents given all NoMemory old new = ⊤
AnswersEvents given all answer old new = WritesOutput given all answer old new

-- the answer for a script
abbrev pub AnswersScript : Script → run_answer_t → Option (List ℕ) → Option (List ℕ) → Type 0
AnswersScript (bad_line number) answer old new = AnswersBadLine number answer
AnswersScript (understood given all) answer old new = AnswersEvents given all answer old new

-- nothing is written if no event was emitted
abbrev pub WritesNothing : run_answer_t → Option (List ℕ) → Option (List ℕ) → Type 0
WritesNothing (BadLine line) old new = Keeps old new
WritesNothing ReadFailed old new = Keeps old new
WritesNothing NoMemory old new = Keeps old new
WritesNothing answer old new = ⊤

-- the whole script was read, unless reading or memory failed
abbrev pub ReadsAll : run_answer_t → Option (List ℕ) → Type 0
ReadsAll ReadFailed left = ⊤
ReadsAll NoMemory left = ⊤
ReadsAll answer left = IsAtEnd left

-- ---- parts of a run

-- the reason why a script has no meaning
abbrev pub IsFault : run_answer_t → Script → Type 0
IsFault (BadLine line) script = script ≡ bad_line line
IsFault ReadFailed script = ⊤
IsFault NoMemory script = ⊤
IsFault answer script = ⊥

-- the line of the last event, if there is one; before the first nothing is flushed
abbrev pub LastLine : List Numbered → Option ℕ → State → Type 0
LastLine all None state = (all ≡ []) × (state.page.output ≡ [])
LastLine all (Some line) state = EndsOnLine all line

-- the effect of the last flush, with the line of its call; without an event there is none
abbrev pub FlushesLast : Option ℕ → State → run_answer_t → State → Type 0
FlushesLast None before answer after = (answer ≡ Done) × (after ≡ before)
FlushesLast (Some line) before Done after = Emits before [] (Ok tt) after × IsFlushed after
FlushesLast (Some line) before (Refused reported error) after =
    (reported ≡ line) × Emits before [] (Err error) after × (error ≡ Memory → after.page.output ≡ before.page.output)
FlushesLast (Some line) before answer after = ⊥
