-- The calls that read JSON texts part by part and send their documents on, by their results.
use Rattle.std.specs.Prelude.{◌≡◌, ◌-◌, ℕ, Bool, false, Option, None, Result, Ok, Err, IfSome, IsUtf8, List, [], drop, length}
use Rattle.std.specs.Io.KnownBytes.{IsAtEnd}
use Rattle.yaml_pen.specs.Wrote.{Grows}
use Rattle.yaml_writer.specs.Writing.{WriterState}
use Rattle.yaml_json.specs.Failing.{Grew}
use Rattle.yaml_json.specs.Places.{IsPositionAfter, MovesPosition}
use Rattle.yaml_json.specs.Sent.{Advances, FailsNext, HasCome, IsByReader, IsIncoming, IsScanned, IsSoundSending, LeavesLast}
use Rattle.yaml_writer.specs.WasGiven.{BeginsNext, IsBare}
use Rattle.yaml_json.specs.Sent.{SentTexts, StopsInPart, StopsSending, StopsWithin, emitter_error}
use Rattle.yaml_json.specs.WalkSteps.{TextGiven}
use Rattle.yaml_json.specs.declared.cuts.Cut.{Cut}
use Rattle.yaml_json.specs.declared.error.StreamError.{StreamError}
use Rattle.yaml_base.specs.declared.places.Position.{Position}
use Rattle.yaml_json.specs.declared.settings.JsonSettings.{JsonSettings}
use Rattle.yaml_json.specs.declared.stream.Incoming.{Incoming}

-- ---- a part

-- These bytes came. If no more may follow, none came, and the reader is at its end.
pub record PartRead {A : Type 0} (before : Incoming A) (ahead : Option (List ℕ)) (more : Bool) (after : Incoming A) (left : Option (List ℕ))
    : Type 0 where
  pub come : HasCome before ahead after left
  pub incoming : IsIncoming after
  pub place : after.reading.position ≡ before.reading.position
  pub end : more ≡ false → IsAtEnd left × (after ≡ before)

-- or the reader failed
abbrev pub ReadStep : {A : Type 0} → Incoming A → Option (List ℕ) → Result Bool StreamError → Incoming A → Option (List ℕ) → Type 0
ReadStep before ahead (Ok more) after left = PartRead before ahead more after left
ReadStep before ahead (Err error) after left = IsByReader error

-- ---- one text

-- the bytes are JSON in UTF-8, and the text's events were given
pub record BytesGiven (settings : JsonSettings) (text : List ℕ) (was now : WriterState) : Type 0 where
  pub utf8 : IsUtf8 text
  pub given : TextGiven settings text was now

-- the events of the text's first tokens were given, and no more, for this reason
pub record BytesStopped (settings : JsonSettings) (text : List ℕ) (was : WriterState) (error : StreamError) (now : WriterState) : Type 0 where
  pub stopped : StopsInPart settings.values.depth settings.unique_names settings.values.flow [] text was error now
  pub grew : Grew was (emitter_error error) now

abbrev pub BytesStep : JsonSettings → List ℕ → WriterState → Result (Unit {0}) StreamError → WriterState → Type 0
BytesStep settings text was (Ok done) now = BytesGiven settings text was now
BytesStep settings text was (Err error) now = BytesStopped settings text was error now

-- so of the last text, which begins at this place; that of the error is counted from the first byte that came
pub record LastStopped (settings : JsonSettings) (text : List ℕ) (place : Position) (was : WriterState) (error : StreamError) (now : WriterState)
    : Type 0 where
  pub stopped : (front : List ℕ) → IsPositionAfter front place → StopsInPart settings.values.depth settings.unique_names settings.values.flow front text was error now
  pub grew : Grew was (emitter_error error) now

abbrev pub LastStep : JsonSettings → List ℕ → Position → WriterState → Result (Unit {0}) StreamError → WriterState → Type 0
LastStep settings text place was (Ok done) now = BytesGiven settings text was now
LastStep settings text place was (Err error) now = LastStopped settings text place was error now

-- ---- the next document

-- It was begun, and the sink was given all output before.
pub record NextBegun (was : WriterState) (held : Option (List ℕ)) (now : WriterState) (holds : Option (List ℕ)) : Type 0 where
  pub begun : BeginsNext was held now holds
  pub grew : Grew was None now

-- the writer failed, or the sink
pub record NextFailed (was : WriterState) (held : Option (List ℕ)) (error : StreamError) (now : WriterState) (holds : Option (List ℕ)) : Type 0 where
  pub failed : FailsNext was held error now holds
  pub grew : Grew was (emitter_error error) now

abbrev pub NextStep : WriterState → Option (List ℕ) → Result (Unit {0}) StreamError → WriterState → Option (List ℕ) → Type 0
NextStep was held (Ok done) now holds = NextBegun was held now holds
NextStep was held (Err error) now holds = NextFailed was held error now holds

-- ---- the texts that are complete in the input that came

-- Their events were given, a document begun after each, and the sink was given the output of the documents; the last `count` bytes are
-- left.
pub record CompleteGiven (settings : JsonSettings) (held : List ℕ) (was : WriterState) (before : Option (List ℕ)) (count : ℕ) (cut : Cut)
    (now : WriterState) (after : Option (List ℕ)) : Type 0 where
  pub bare : IsBare now
  pub left : LeavesLast count held cut
  pub advances :
      Advances settings.values.depth settings.values.flow settings.unique_names held was before (drop (length held - count) held) now after
  pub grew : Grew was None now

-- so of those before an error
pub record CompleteStopped (settings : JsonSettings) (held : List ℕ) (place : Position) (was : WriterState) (before : Option (List ℕ))
    (error : StreamError) (now : WriterState) (after : Option (List ℕ)) : Type 0 where
  pub stops : StopsWithin settings.values.depth settings.values.flow settings.unique_names held place was before error now after
  pub grew : Grew was (emitter_error error) now

abbrev pub CompleteStep : JsonSettings → List ℕ → Position → WriterState → Option (List ℕ) → Result ℕ StreamError → Cut → WriterState → Option (List ℕ)
    → Type 0
CompleteStep settings held place was before (Ok count) cut now after = CompleteGiven settings held was before count cut now after
CompleteStep settings held place was before (Err error) cut now after = CompleteStopped settings held place was before error now after

-- and the bytes of those that were given are dropped
pub record CompleteDropped {A : Type 0} (settings : JsonSettings) (came : Incoming A) (was : WriterState) (before : Option (List ℕ)) (left : Incoming A)
    (now : WriterState) (after : Option (List ℕ)) : Type 0 where
  pub bare : IsBare now
  pub scanned : IsScanned left
  pub place : MovesPosition came.held.items left.held.items came.reading.position left.reading.position
  pub advances :
      Advances settings.values.depth settings.values.flow settings.unique_names came.held.items was before left.held.items now after
  pub grew : Grew was None now

abbrev pub DropStep : {A : Type 0} → JsonSettings → Incoming A → WriterState → Option (List ℕ) → Result (Unit {0}) StreamError → Incoming A
    → WriterState → Option (List ℕ) → Type 0
DropStep settings came was before (Ok done) left now after = CompleteDropped settings came was before left now after
DropStep settings came was before (Err error) left now after =
    CompleteStopped settings came.held.items came.reading.position was before error now after

-- ---- all texts of a reader

-- The reader is at its end, and its texts were sent; earlier output stays, and the emitter has no error.
pub record TextsSent (settings : JsonSettings) (ahead left : Option (List ℕ)) (was : WriterState) (before : Option (List ℕ)) (now : WriterState)
    (after : Option (List ℕ)) : Type 0 where
  pub grows : Grows was.emitter.page now.emitter.page
  pub sound : IsSoundSending was (Ok tt) now
  pub ended : IsAtEnd left
  pub bare : IsBare now
  pub sent : IfSome ahead (λ text. SentTexts settings.values.depth settings.unique_names settings.values.flow text was before now after)

-- The first of them were sent, and no more; earlier output stays, and an error of the emitter is the one that is returned.
pub record TextsUnsent (settings : JsonSettings) (ahead : Option (List ℕ)) (was : WriterState) (before : Option (List ℕ)) (error : StreamError)
    (now : WriterState) (after : Option (List ℕ)) : Type 0 where
  pub grows : Grows was.emitter.page now.emitter.page
  pub sound : IsSoundSending was (Err error) now
  pub stopped : IfSome ahead (λ text. StopsSending settings.values.depth settings.unique_names settings.values.flow text was before error now after)

abbrev pub SendsTexts : JsonSettings → (ahead left : Option (List ℕ)) → WriterState → Option (List ℕ) → Result (Unit {0}) StreamError → WriterState
    → Option (List ℕ) → Type 0
SendsTexts settings ahead left was before (Ok done) now after = TextsSent settings ahead left was before now after
SendsTexts settings ahead left was before (Err error) now after = TextsUnsent settings ahead was before error now after
