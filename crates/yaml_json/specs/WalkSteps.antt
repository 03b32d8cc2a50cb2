-- The calls of a walk over the tokens of a text, by their results.
use Rattle.std.specs.Prelude.{◌≡◌, ℕ, true, IfSome, IsSome, Result, Ok, Err, List, [], ◌∷◌}
use Rattle.json.specs.Lex.{tokens}
use Rattle.json.specs.Token.{Token}
use Rattle.yaml_writer.specs.Answering.{StaysUnlessFailed}
use Rattle.yaml_writer.specs.Writing.{WriterState}
use Rattle.yaml_json.specs.Failing.{FailedInText, FailedInValue, Kept, StaysLevelUnlessFailed, StaysUnlessOpened, failure_of}
use Rattle.yaml_json.specs.Names.{NamesOnce}
use Rattle.yaml_json.specs.Nests.{HasNoneOpen, IsNesting}
use Rattle.yaml_json.specs.Offsets.{StopsAtLexeme}
use Rattle.yaml_json.specs.Reached.{LastRead, Reader}
use Rattle.yaml_json.specs.Refused.{IsByText}
use Rattle.yaml_json.specs.Walk.{BeganFirstValue, BeganValue, BeginFailed, FirstFailed, KeepsNamesAfter, KeepsTo, Refuses, RefusesFirst, RefusesToken}
use Rattle.yaml_json.specs.Walk.{HasUniqueNames, StepFailed, WalkedOn, StopsText, TextStopsWriting}
use Rattle.yaml_json.specs.Wrote.{WroteDocument, WroteText, WroteValue}
use Rattle.yaml_json.specs.declared.settings.JsonSettings.{JsonSettings}
use Rattle.yaml_json.specs.declared.values.Nesting.{Nesting}
use Rattle.yaml_json.specs.declared.values.Stop.{Stop}

-- The state of a walk: the open arrays and objects, and the writer.
pub record JsonWalk (A : Type 0) : Type 0 where
  pub nest : Nesting A
  pub writer : WriterState

abbrev pub at : {A : Type 0} → Nesting A → WriterState → JsonWalk A
at nest writer = record { nest = nest; writer = writer }

-- ---- one token

-- the token was given, with which a value begins
pub record TokenGiven {A : Type 0} (settings : JsonSettings) (token : Token) (before after : JsonWalk A) : Type 0 where
  pub began : BeganValue settings.values.depth settings.values.flow token before.nest.kinds.items before.writer after.nest.kinds.items after.writer
  pub fits : IsNesting settings.values.depth settings.unique_names after.nest
  pub names : KeepsNamesAfter before.nest.names (token ∷ []) after.nest.names
  pub kept : Kept before.writer (Ok tt) after.writer

-- no value begins with the token, and the writer is as before; or the writer failed at it
pub record TokenStopped {A : Type 0} (settings : JsonSettings) (token : Token) (before : JsonWalk A) (stop : Stop) (after : JsonWalk A) : Type 0 where
  pub refused : RefusesToken settings.values.depth before.nest.kinds.items token stop
  pub same : IsByText stop → after.writer ≡ before.writer
  pub unmoved : StaysUnlessFailed before.writer after.writer
  pub kept : Kept before.writer (Err stop) after.writer
  pub failed :
      IfSome (failure_of stop)
      (λ error. BeginFailed settings.values.depth settings.values.flow token before.nest.kinds.items before.writer error after.writer)

abbrev pub TokenStep : {A : Type 0} → JsonSettings → Token → JsonWalk A → Result (Unit {0}) Stop → JsonWalk A → Type 0
TokenStep settings token before (Ok done) after = TokenGiven settings token before after
TokenStep settings token before (Err stop) after = TokenStopped settings token before stop after

-- ---- the first token of a reader

-- the first of the tokens ahead was given, with which a value begins
pub record FirstGiven {A : Type 0} (settings : JsonSettings) (reader : Reader) (before : JsonWalk A) (left : Reader) (after : JsonWalk A)
    : Type 0 where
  pub began :
      BeganFirstValue settings.values.depth settings.values.flow reader.ahead before.nest.kinds.items before.writer left.ahead after.nest.kinds.items after.writer
  pub fits : IsNesting settings.values.depth settings.unique_names after.nest
  pub names : KeepsTo before.nest.names reader.ahead left.ahead after.nest.names
  pub kept : Kept before.writer (Ok tt) after.writer

-- no value begins with the first of them, or there is none, and the writer is as before; or the writer failed at it
pub record FirstStopped {A : Type 0} (settings : JsonSettings) (reader : Reader) (before : JsonWalk A) (stop : Stop) (after : JsonWalk A)
    : Type 0 where
  pub refused : RefusesFirst settings.values.depth before.nest.kinds.items reader.ahead stop
  pub same : IsByText stop → after.writer ≡ before.writer
  pub unmoved : StaysUnlessFailed before.writer after.writer
  pub kept : Kept before.writer (Err stop) after.writer
  pub failed :
      IfSome (failure_of stop)
      (λ error. FirstFailed settings.values.depth settings.values.flow reader.ahead before.nest.kinds.items before.writer error after.writer)

abbrev pub FirstStep : {A : Type 0} → JsonSettings → Reader → JsonWalk A → Result (Unit {0}) Stop → Reader → JsonWalk A → Type 0
FirstStep settings reader before (Ok done) left after = FirstGiven settings reader before left after
FirstStep settings reader before (Err stop) left after = FirstStopped settings reader before stop after

-- ---- an item, a member, or an end

-- The first of the tokens ahead were given, and the walk is after them.
pub record Walked {A : Type 0} (settings : JsonSettings) (reader : Reader) (before : JsonWalk A) (left : Reader) (after : JsonWalk A)
    : Type 0 where
  pub stepped : WalkedOn settings.values.depth settings.values.flow reader.ahead before.nest.kinds.items before.writer left.ahead after.nest.kinds.items after.writer
  pub fits : IsNesting settings.values.depth settings.unique_names after.nest
  pub names : KeepsTo before.nest.names reader.ahead left.ahead after.nest.names
  pub last : LastRead reader left
  pub kept : Kept before.writer (Ok tt) after.writer

-- the text stops the walk after the first of them, or the writer failed
pub record WalkStopped {A : Type 0} (settings : JsonSettings) (reader : Reader) (before : JsonWalk A) (stop : Stop) (left : Reader)
    (after : JsonWalk A) : Type 0 where
  pub refused :
      IsByText stop
      → Refuses settings.values.depth settings.unique_names settings.values.flow before.nest.kinds.items before.nest.names reader.ahead left.before before.writer stop
      after.writer
  pub level : StaysLevelUnlessFailed before.writer after.writer
  pub kept : Kept before.writer (Err stop) after.writer
  pub failed :
      IfSome (failure_of stop)
      (λ error. StepFailed settings.values.depth settings.values.flow reader.ahead before.nest.kinds.items before.writer error after.writer)

abbrev pub WalkStep : {A : Type 0} → JsonSettings → Reader → JsonWalk A → Result (Unit {0}) Stop → Reader → JsonWalk A → Type 0
WalkStep settings reader before (Ok done) left after = Walked settings reader before left after
WalkStep settings reader before (Err stop) left after = WalkStopped settings reader before stop left after

-- ---- a value

-- the first of the tokens ahead were a value, whose events were given; nothing is open
pub record ValueGiven {A : Type 0} (settings : JsonSettings) (reader : Reader) (before : JsonWalk A) (left : Reader) (after : JsonWalk A)
    : Type 0 where
  pub none : HasNoneOpen settings.unique_names after.nest
  pub written : WroteValue settings.values.depth settings.values.flow reader.ahead before.writer left.ahead after.writer
  pub names : HasUniqueNames settings.unique_names reader.ahead left.ahead
  pub last : LastRead reader left
  pub kept : Kept before.writer (Ok tt) after.writer

-- all of them were
pub record OnlyGiven {A : Type 0} (settings : JsonSettings) (reader : Reader) (before after : JsonWalk A) : Type 0 where
  pub none : HasNoneOpen settings.unique_names after.nest
  pub written : WroteDocument settings.values.depth settings.values.flow reader.ahead before.writer after.writer
  pub names : settings.unique_names ≡ true → NamesOnce [] reader.ahead
  pub kept : Kept before.writer (Ok tt) after.writer

-- the text stops the writing, or the writer failed
pub record ValueStopped {A : Type 0} (settings : JsonSettings) (reader : Reader) (before : JsonWalk A) (stop : Stop) (left : Reader)
    (after : JsonWalk A) : Type 0 where
  pub refused :
      IsByText stop
      → TextStopsWriting settings.values.depth settings.unique_names settings.values.flow reader.ahead left.before before.writer stop after.writer
  pub unopened : IsSome (failure_of stop) → StaysUnlessOpened before.writer after.writer
  pub kept : Kept before.writer (Err stop) after.writer
  pub failed :
      IfSome (failure_of stop) (λ error. FailedInValue settings.values.depth settings.values.flow reader.ahead before.writer error after.writer)

abbrev pub ValueStep : {A : Type 0} → JsonSettings → Reader → JsonWalk A → Result (Unit {0}) Stop → Reader → JsonWalk A → Type 0
ValueStep settings reader before (Ok done) left after = ValueGiven settings reader before left after
ValueStep settings reader before (Err stop) left after = ValueStopped settings reader before stop left after

abbrev pub OnlyStep : {A : Type 0} → JsonSettings → Reader → JsonWalk A → Result (Unit {0}) Stop → Reader → JsonWalk A → Type 0
OnlyStep settings reader before (Ok done) left after = OnlyGiven settings reader before after
OnlyStep settings reader before (Err stop) left after = ValueStopped settings reader before stop left after

-- ---- a text

-- the text is JSON, and its events were given
pub record TextGiven (settings : JsonSettings) (text : List ℕ) (before after : WriterState) : Type 0 where
  pub written : WroteText settings.values.depth settings.values.flow text before after
  pub names : settings.unique_names ≡ true → NamesOnce [] (tokens text)
  pub kept : Kept before (Ok tt) after

-- the text stops the writing at this offset, or the writer failed
pub record TextStopped (settings : JsonSettings) (text : List ℕ) (before : WriterState) (stop : Stop) (offset : ℕ) (after : WriterState) : Type 0 where
  pub refused : IsByText stop → StopsText settings.values.depth settings.unique_names settings.values.flow text before stop after
  pub place : IsByText stop → StopsAtLexeme settings.values.depth text offset stop
  pub unopened : IsSome (failure_of stop) → StaysUnlessOpened before after
  pub kept : Kept before (Err stop) after
  pub failed : IfSome (failure_of stop) (λ error. FailedInText settings.values.depth settings.values.flow text before error after)

abbrev pub TextStep : JsonSettings → List ℕ → WriterState → Result (Unit {0}) (Stop × ℕ) → WriterState → Type 0
TextStep settings text before (Ok done) after = TextGiven settings text before after
TextStep settings text before (Err failed) after = TextStopped settings text before failed.0 failed.1 after
