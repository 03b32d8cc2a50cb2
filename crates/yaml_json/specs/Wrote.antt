-- The events of a value of JSON that a writer was given, and the tokens that the reader has left.
use Rattle.std.specs.Prelude.{◌≡◌, ℕ, Bool, Some, List, [], ◌∷◌, ◌++◌, flat_map, map, true}
use Rattle.json.specs.Token.{Token}
use Rattle.json.specs.Lex.{tokens}
use Rattle.json.specs.Json.{Json, value}
use Rattle.yaml_base.specs.Event.{Event, document_end}
use Rattle.yaml_base.specs.Settings.{Settings}
use Rattle.yaml_emitter.specs.State.{bytes_taken}
use Rattle.yaml_writer.specs.WasGiven.{WasGiven}
use Rattle.yaml_writer.specs.Writing.{Finishes, IsStream, WriterState, closing, opening, plain_start}
use Rattle.yaml_json.specs.JsonEvents.{json_events}
use Rattle.yaml_json.specs.Texts.{texts_in}
use Rattle.yaml_json.specs.Means.{ReadsAsJson, ReadsAsValues}

-- the first of these tokens are a value nested at most `depth` deep; its events were given
pub record WroteValue (depth : ℕ) (in_flow : Bool) (before : List Token) (was : WriterState) (after : List Token) (now : WriterState) : Type 0 where
  pub json : Json
  pub read : value depth before ≡ Some (json, after)
  pub wrote : WasGiven was (json_events was.canonical in_flow json) now

-- the tokens are a value nested at most `depth` deep, and nothing after it; its events were given
pub record WroteDocument (depth : ℕ) (in_flow : Bool) (before : List Token) (was : WriterState) (now : WriterState) : Type 0 where
  pub json : Json
  pub read : value depth before ≡ Some (json, [])
  pub wrote : WasGiven was (json_events was.canonical in_flow json) now

-- the text is JSON nested at most `depth` deep; its events were given
abbrev pub WroteText : (depth : ℕ) → (in_flow : Bool) → (text : List ℕ) → WriterState → WriterState → Type 0
WroteText depth in_flow text was now = WroteDocument depth in_flow (tokens text) was now

-- each of some texts is JSON nested at most `depth` deep, with its value
abbrev pub AreJson : (depth : ℕ) → List (List ℕ × Json) → Type 0
AreJson depth [] = Unit {0}
AreJson depth (part ∷ parts) = (value depth (tokens part.0) ≡ Some (part.1, [])) × AreJson depth parts

-- the events of their values, a document each, within the start of the first document and the end of the last
abbrev pub parts_events : (canonical in_flow : Bool) → List (List ℕ × Json) → List Event
parts_events canonical in_flow [] = []
parts_events canonical in_flow (part ∷ []) = json_events canonical in_flow part.1
parts_events canonical in_flow (part ∷ next ∷ rest) =
    json_events canonical in_flow part.1 ++ document_end true ∷ plain_start ∷ parts_events canonical in_flow (next ∷ rest)

-- The text is one JSON text after another, cut at their ends; their events were given, a document each.
pub record WroteTexts (depth : ℕ) (in_flow : Bool) (text : List ℕ) (was now : WriterState) : Type 0 where
  pub parts : List (List ℕ × Json)
  pub cut : map (λ part. part.0) parts ≡ texts_in text
  pub joined : flat_map (λ part. part.0) parts ≡ text
  pub each : AreJson depth parts
  pub wrote : WasGiven was (parts_events was.canonical in_flow parts) now

-- the text is one JSON text after another, the bytes are the stream of their documents, and both schemas read them as their
-- values, in portable mode with the line breaks of YAML 1.1 and with those of 1.2
pub record IsYamlOfTexts (given : Settings) (in_flow : Bool) (depth : ℕ) (text bytes : List ℕ) : Type 0 where
  pub parts : List (List ℕ × Json)
  pub joined : flat_map (λ part. part.0) parts ≡ text
  pub each : AreJson depth parts
  pub stream : IsStream given (opening ++ parts_events given.canonical in_flow parts ++ closing) bytes
  pub reads : ReadsAsValues given.breaks12 bytes (map (λ part. part.1) parts)
  pub reads_with_either_breaks : given.portable ≡ true → (breaks12 : Bool) → ReadsAsValues breaks12 bytes (map (λ part. part.1) parts)

-- If the writer was at the start of its first document, the stream that it then finishes, with the bytes that were taken of it before, is
-- read as the values of the text.
abbrev pub ReadsTexts : (depth : ℕ) → (in_flow : Bool) → (text : List ℕ) → WriterState → WriterState → Type 0
ReadsTexts depth in_flow text was now =
    (bytes : List ℕ) → was.emitter.events ≡ opening → was.canonical ≡ was.emitter.given.canonical → Finishes now.emitter bytes
    → IsYamlOfTexts was.emitter.given in_flow depth text (bytes_taken was.emitter ++ bytes)

-- the text is JSON nested at most `depth` deep, the bytes are the stream of its one document, and both schemas read them as its
-- value, in portable mode with the line breaks of YAML 1.1 and with those of 1.2
pub record IsYamlOf (given : Settings) (in_flow : Bool) (depth : ℕ) (text bytes : List ℕ) : Type 0 where
  pub json : Json
  pub read : value depth (tokens text) ≡ Some (json, [])
  pub stream : IsStream given (opening ++ json_events given.canonical in_flow json ++ closing) bytes
  pub reads : ReadsAsJson given.breaks12 bytes json
  pub reads_with_either_breaks : given.portable ≡ true → (breaks12 : Bool) → ReadsAsJson breaks12 bytes json
