-- The part of a text, or of the texts of a text, that was taken before an error: the events that the writer was given, and why no more.
use Rattle.std.specs.Prelude.{◌≡◌, ℕ, Bool, List, [], ◌∷◌, ◌++◌, flat_map, map}
use Rattle.json.specs.Token.{Token}
use Rattle.json.specs.Lex.{tokens}
use Rattle.json.specs.Json.{Json}
use Rattle.yaml_pen.specs.Page.{result_of_error}
use Rattle.yaml_emitter.specs.Emits.{Emits}
use Rattle.yaml_writer.specs.WasGiven.{StaysUsable}
use Rattle.yaml_writer.specs.Writing.{WriterState}
use Rattle.yaml_json.specs.Failing.{events_with_separators}
use Rattle.yaml_json.specs.Places.{HasPlaceAfter}
use Rattle.yaml_json.specs.Refused.{HaveNamesOnce, TokensStopAt}
use Rattle.yaml_json.specs.Texts.{texts_in}
use Rattle.yaml_json.specs.TokenEvents.{tokens_events}
use Rattle.yaml_json.specs.Wrote.{AreJson}
use Rattle.yaml_json.specs.declared.error.JsonError.{JsonError}

-- The writer was given the events of the text's first tokens, and no more, for this reason. If there are no first tokens, nothing changed.
pub record StopsInText (depth : ℕ) (unique in_flow : Bool) (text : List ℕ) (was : WriterState) (error : JsonError) (now : WriterState) : Type 0 where
  pub taken : List Token
  pub left : List Token
  pub split : taken ++ left ≡ tokens text
  pub why : TokensStopAt depth unique text taken left error
  pub emits : Emits was.emitter (tokens_events was.canonical in_flow taken) (result_of_error now.emitter.error) now.emitter
  pub usable : StaysUsable was (tokens_events was.canonical in_flow taken) now
  pub unchanged : taken ≡ [] → now ≡ was

-- the first of the texts in a text are allowed, and the writer was given their events, with a document begun after each, and then those of
-- the first tokens of the next text, and no more, for this reason, which has its place there
pub record StopsInTexts (depth : ℕ) (unique in_flow : Bool) (text : List ℕ) (was : WriterState) (error : JsonError) (now : WriterState) : Type 0 where
  pub parts : List (List ℕ × Json)
  pub next : List ℕ
  pub later : List (List ℕ)
  pub cut : map (λ part. part.0) parts ++ next ∷ later ≡ texts_in text
  pub each : AreJson depth parts
  pub names : HaveNamesOnce unique (map (λ part. part.0) parts)
  pub taken : List Token
  pub left : List Token
  pub split : taken ++ left ≡ tokens next
  pub why : TokensStopAt depth unique next taken left error
  pub place : HasPlaceAfter depth text (flat_map (λ part. part.0) parts) next error
  pub emits :
      Emits was.emitter (events_with_separators was.canonical in_flow parts ++ tokens_events was.canonical in_flow taken)
      (result_of_error now.emitter.error) now.emitter
  pub usable : StaysUsable was (events_with_separators was.canonical in_flow parts ++ tokens_events was.canonical in_flow taken) now
