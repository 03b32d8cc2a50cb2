-- JSON texts that come part by part: the events that were given, and the bytes that were sent on.
use Rattle.std.specs.Prelude.{◌≡◌, ◌⊎◌, ℕ, ◌-◌, ◌≤◌, Bool, Option, None, Result, Ok, Err, List, [], ◌∷◌, ◌++◌}
use Rattle.std.specs.Prelude.{IsUtf8, drop, flat_map, length, map}
use Rattle.std.specs.Io.KnownBytes.{Appends, Consumes}
use Rattle.json.specs.Json.{Json}
use Rattle.json.specs.Lex.{tokens}
use Rattle.json.specs.Token.{Token}
use Rattle.yaml_base.specs.Prefix.{IsPrefix}
use Rattle.yaml_base.specs.declared.errors.yaml_error_t.{yaml_error_t}
use Rattle.yaml_base.specs.declared.errors.yaml_error_t.TheVariants.{Memory}
use Rattle.yaml_emitter.specs.State.{State, bytes_taken}
use Rattle.yaml_writer.specs.Failing.{FailedHaving, HasErrorSaid}
use Rattle.yaml_writer.specs.WasGiven.{EmitsTaking, GaveEvents, StaysUsable, NextUnsent, IsAllTaken, WroteTaking, between}
use Rattle.yaml_writer.specs.Writing.{Finishes, WriterState, opening}
use Rattle.yaml_json.specs.Cuts.{HasScanned}
use Rattle.yaml_json.specs.Failing.{events_with_separators, writers_error}
use Rattle.yaml_json.specs.Places.{HasPlaceWithin, IsPositionAfter}
use Rattle.yaml_json.specs.Refused.{HaveNamesOnce, IsOfText, TokensStopAt}
use Rattle.yaml_json.specs.Texts.{texts_in}
use Rattle.yaml_json.specs.TokenEvents.{tokens_events}
use Rattle.yaml_json.specs.Wrote.{AreJson, IsYamlOfTexts, parts_events}
use Rattle.yaml_json.specs.declared.cuts.Cut.{Cut}
use Rattle.yaml_json.specs.declared.stream.Incoming.{Incoming}
use Rattle.yaml_json.specs.declared.error.JsonError.TheVariants as errors
use Rattle.yaml_json.specs.declared.error.StreamError.{StreamError}
use Rattle.yaml_json.specs.declared.error.StreamError.TheVariants as faults
use Rattle.yaml_base.specs.declared.places.Position.{Position}

-- each of some texts is UTF-8
abbrev pub AreUtf8 : List (List ℕ × Json) → Type 0
AreUtf8 [] = Unit {0}
AreUtf8 (part ∷ parts) = IsUtf8 part.0 × AreUtf8 parts

-- The text is UTF-8, one JSON text after another, cut at their ends. Their events were given, a document each, and the sink was given the
-- bytes that were taken. If names must be unique, they are. If the writer was at the start of its first document, the bytes that were taken
-- of it before, those that the sink was given, and those that then finish the stream, are together read as the values of the text.
pub record SentTexts (depth : ℕ) (unique in_flow : Bool) (text : List ℕ) (was : WriterState) (before : Option (List ℕ)) (now : WriterState)
    (after : Option (List ℕ)) : Type 0 where
  pub parts : List (List ℕ × Json)
  pub cut : map (λ part. part.0) parts ≡ texts_in text
  pub joined : flat_map (λ part. part.0) parts ≡ text
  pub each : AreJson depth parts
  pub utf8 : IsUtf8 text
  pub names : HaveNamesOnce unique (texts_in text)
  pub handed : List ℕ
  pub sends : Appends before after handed
  pub wrote : WroteTaking was (parts_events was.canonical in_flow parts) handed now
  pub reads : (bytes : List ℕ) → was.emitter.events ≡ opening → was.canonical ≡ was.emitter.given.canonical → Finishes now.emitter bytes
      → IsYamlOfTexts was.emitter.given in_flow depth text ((bytes_taken was.emitter ++ handed) ++ bytes)

-- Of these bytes, these are left: the texts before them were given, a document begun after each, and the sink was given the output of the
-- documents.
pub record SentSoFar (depth : ℕ) (in_flow unique : Bool) (text : List ℕ) (was : WriterState) (before : Option (List ℕ)) (rest : List ℕ) (now : WriterState)
    (after : Option (List ℕ)) : Type 0 where
  pub parts : List (List ℕ × Json)
  pub joined : flat_map (λ part. part.0) parts ++ rest ≡ text
  pub cut : map (λ part. part.0) parts ++ texts_in rest ≡ texts_in text
  pub each : AreJson depth parts
  pub utf8 : AreUtf8 parts
  pub names : HaveNamesOnce unique (map (λ part. part.0) parts)
  pub handed : List ℕ
  pub sends : Appends before after handed
  pub wrote : WroteTaking was (events_with_separators was.canonical in_flow parts) handed now
  pub whole : ((parts ≡ []) × (handed ≡ [])) ⊎ IsAllTaken now.emitter

-- If the sending had these bytes ahead, these are left now.
abbrev pub Advances : (depth : ℕ) → (in_flow unique : Bool) → List ℕ → WriterState → Option (List ℕ) → List ℕ → WriterState → Option (List ℕ) → Type 0
Advances depth in_flow unique ahead before held left now holds =
    (text : List ℕ) (was : WriterState) (start : Option (List ℕ)) (more : List ℕ)
    → SentSoFar depth in_flow unique text was start (ahead ++ more) before held → SentSoFar depth in_flow unique text was start (left ++ more) now holds

-- the writer failed at the start of the next document, and nothing was given to the sink; or the sink failed
abbrev pub FailsNext : WriterState → Option (List ℕ) → StreamError → WriterState → Option (List ℕ) → Type 0
FailsNext before held (faults.WriteFailed error) after holds = NextUnsent before held after holds
FailsNext before held (faults.Refused (errors.Emitter error)) after holds = FailedHaving before between error after × (holds ≡ held)
FailsNext before held _ after holds = ⊥

-- ---- errors

-- The error of the emitter, if there is one.
abbrev pub emitter_error : StreamError → Option yaml_error_t
emitter_error (faults.Refused error) = writers_error error
emitter_error _ = None

-- the emitter has no error after a success, and after an error the one that is returned, if any
abbrev pub IsSoundSending : WriterState → Result (Unit {0}) StreamError → WriterState → Type 0
IsSoundSending was (Ok done) now = now.emitter.error ≡ None
IsSoundSending was (Err error) now = HasErrorSaid was (emitter_error error) now

-- nothing but an allocation of the reading failed, or the reader
abbrev pub IsByReader : StreamError → Type 0
IsByReader (faults.Refused error) = error ≡ errors.Emitter Memory
IsByReader (faults.ReadFailed error) = Unit {0}
IsByReader _ = ⊥

-- The error explains a text of which these tokens were taken, with those ahead. Tokens are taken only of UTF-8.
abbrev pub StopsPartAt : (depth : ℕ) → (unique : Bool) → (text : List ℕ) → (taken left : List Token) → StreamError → Type 0
StopsPartAt depth unique text taken left (faults.Refused error) =
    TokensStopAt depth unique text taken left error × (IsUtf8 text ⊎ ((taken ≡ []) × (IsOfText error → ⊥)))
StopsPartAt depth unique text taken left (faults.NotText position) = (taken ≡ []) × (IsUtf8 text → ⊥)
StopsPartAt depth unique text taken left _ = taken ≡ []

-- A writer was given the events of a text's first tokens, and no more, for this reason; the error has its place there, counted from the
-- start of the bytes that came before the text.
pub record StopsInPart (depth : ℕ) (unique in_flow : Bool) (front text : List ℕ) (was : WriterState) (error : StreamError) (now : WriterState)
    : Type 0 where
  pub taken : List Token
  pub left : List Token
  pub split : taken ++ left ≡ tokens text
  pub why : StopsPartAt depth unique text taken left error
  pub place : HasPlaceWithin depth front text error
  pub gave : GaveEvents was (tokens_events was.canonical in_flow taken) now

-- The sink was given these bytes; if it failed, these and a beginning of the bytes that were offered to it then.
abbrev pub GivesSink : StreamError → (old new : Option (List ℕ)) → (handed offered : List ℕ) → Type 0
GivesSink (faults.WriteFailed error) old new handed offered =
    (first : List ℕ) × IsPrefix first offered × Appends old new (handed ++ first)
GivesSink _ old new handed offered = (offered ≡ []) × Appends old new handed

-- These documents weren't sent: none, or the last if the writer failed.
abbrev pub MayBeUnsent : StreamError → List (List ℕ × Json) → Type 0
MayBeUnsent (faults.Refused (errors.Emitter error)) unsent = length unsent ≤ 1
MayBeUnsent _ unsent = unsent ≡ []

-- Of the documents of these texts, the sink was given whole ones: the output of a writer without an error that was given no more than
-- these and the start of the next, and whose output is taken; if there are none, nothing.
pub record SentDocuments (in_flow : Bool) (parts : List (List ℕ × Json)) (was : WriterState) (before : Option (List ℕ)) (error : StreamError)
    (handed : List ℕ) (after : Option (List ℕ)) : Type 0 where
  pub sent : List (List ℕ × Json)
  pub unsent : List (List ℕ × Json)
  pub are : sent ++ unsent ≡ parts
  pub most : MayBeUnsent error unsent
  pub offered : List ℕ
  pub sends : GivesSink error before after handed offered
  pub then : State
  pub wrote : EmitsTaking was.emitter (events_with_separators was.canonical in_flow sent) (handed ++ offered) then
  pub whole : ((sent ≡ []) × (handed ++ offered ≡ [])) ⊎ IsAllTaken then

-- the first of the texts in a text are UTF-8 and allowed; the writer was given their events, with a document begun after each, and then
-- those of the first tokens of the next text, and no more, for this reason; the sink was given their documents, which are taken
pub record StopsSending (depth : ℕ) (unique in_flow : Bool) (text : List ℕ) (was : WriterState) (before : Option (List ℕ)) (error : StreamError)
    (now : WriterState) (after : Option (List ℕ)) : Type 0 where
  pub parts : List (List ℕ × Json)
  pub next : List ℕ
  pub later : List (List ℕ)
  pub cut : map (λ part. part.0) parts ++ next ∷ later ≡ texts_in text
  pub each : AreJson depth parts
  pub utf8 : AreUtf8 parts
  pub names : HaveNamesOnce unique (map (λ part. part.0) parts)
  pub taken : List Token
  pub left : List Token
  pub split : taken ++ left ≡ tokens next
  pub why : StopsPartAt depth unique next taken left error
  pub place : HasPlaceWithin depth (flat_map (λ part. part.0) parts) next error
  pub handed : List ℕ
  pub emits :
      EmitsTaking was.emitter (events_with_separators was.canonical in_flow parts ++ tokens_events was.canonical in_flow taken) handed now.emitter
  pub usable : StaysUsable was (events_with_separators was.canonical in_flow parts ++ tokens_events was.canonical in_flow taken) now
  pub documents : SentDocuments in_flow parts was before error handed after

-- If the sending had these bytes ahead, which begin at this place, it stops.
abbrev pub StopsWithin : (depth : ℕ) → (in_flow unique : Bool) → List ℕ → Position → WriterState → Option (List ℕ) → StreamError → WriterState
    → Option (List ℕ) → Type 0
StopsWithin depth in_flow unique ahead place before held error now holds =
    (text : List ℕ) (was : WriterState) (start : Option (List ℕ)) (more front : List ℕ) → IsPositionAfter front place → front ++ (ahead ++ more) ≡ text
    → SentSoFar depth in_flow unique text was start (ahead ++ more) before held
    → StopsSending depth unique in_flow text was start error now holds

-- ---- the input that came

-- The bytes that are held were scanned as far as the cut says; then all of them were.
abbrev pub IsIncoming : {A : Type 0} → Incoming A → Type 0
IsIncoming incoming = HasScanned incoming.held.items incoming.reading.cut

abbrev pub IsScanned : {A : Type 0} → Incoming A → Type 0
IsScanned incoming = IsIncoming incoming × (incoming.reading.cut.scanned ≡ length incoming.held.items)

-- the last `count` of these bytes are left, and scanned
pub record LeavesLast (count : ℕ) (held : List ℕ) (cut : Cut) : Type 0 where
  pub within : count ≤ length held
  pub scanned : HasScanned (drop (length held - count) held) cut
  pub all : cut.scanned ≡ length (drop (length held - count) held)

-- These bytes came after those.
abbrev pub HasCome : {A : Type 0} → Incoming A → Option (List ℕ) → Incoming A → Option (List ℕ) → Type 0
HasCome before ahead after left =
    (bytes : List ℕ) × (after.held.items ≡ before.held.items ++ bytes) × Consumes ahead left bytes
