-- The streams of JSON texts.
use Rattle.yaml_json.proofs.Common.{ℕ, flat_map, Some, Bool, true, List, [], ◌++◌, ◌∷◌, refl, ◌≡◌, append-nil, ap, ap₂, subst, ◌∙◌, and_from, list_all-append}
use Rattle.yaml_json.proofs.Common.{list_all, Json, value, tokens, HasNumbers, Event, has_scalar_texts, Settings, json_events, WasGiven, WroteText, AreJson}
use Rattle.yaml_json.proofs.Common.{parts_events, ReadsTexts, WriterState, opening, closing, IsNewWriter}
use Rattle.json.proofs.Numbered.{ArePrintableOrBad-tokens, value-HasNumbers}
use Rattle.yaml_json.proofs.{JsonReads.HaveNumbers, JsonReads.reads_as_values, JsonReads.reads_as_json, Trees.values_of}
use Rattle.yaml_json.specs.Wrote.{IsYamlOfTexts, IsYamlOf}
use Rattle.yaml_emitter.specs.State.{bytes_taken}
use Rattle.yaml_writer.specs.{WasGiven.EmitsTaking, Writing.Finishes}
use Rattle.yaml_writer.proofs.{WholeStreams.stream_whole, WholeStreams.whole_by_either, GivenAndTaken.emits_untaken, GivenAndTaken.stream_finished}

-- each number of a value that was read is one
text_has_numbers : (depth : ℕ) (text : List ℕ) (json : Json) → value depth (tokens text) ≡ Some (json, []) → HasNumbers json
text_has_numbers depth text json read = value-HasNumbers depth (tokens text) [] json (ArePrintableOrBad-tokens text) read

-- true if the texts of some events consist of Unicode scalar values
abbrev pub HaveScalarTexts : List Event → Type 0
HaveScalarTexts events = list_all has_scalar_texts events ≡ true

-- the texts of all events of a stream, its end included
texts_closed : (events : List Event) → HaveScalarTexts events → HaveScalarTexts (events ++ closing)
texts_closed events texts =
    list_all-append has_scalar_texts events closing
    ∙ and_from (list_all has_scalar_texts events) (list_all has_scalar_texts closing) texts refl

-- the events after those that open a stream, by the form of a writer
pub opened_events : {before all : List Event} {canonical given : Bool} (events : Bool → List Event) → all ≡ before ++ events canonical → before ≡ opening
    → canonical ≡ given → all ≡ opening ++ events given
opened_events events is opens same = is ∙ ap₂ (λ (first later : List Event). first ++ later) opens (ap events same)

-- a new writer was given a text's events, and was finished
pub yaml_of : (given : Settings) (in_flow : Bool) (depth : ℕ) (text bytes : List ℕ) (first filled : WriterState) → IsNewWriter given first
    → WroteText depth in_flow text first filled → HaveScalarTexts filled.emitter.events → Finishes filled.emitter bytes
    → IsYamlOf given in_flow depth text bytes
yaml_of given in_flow depth text bytes first filled new wrote scalars finishes =
    let events = opening ++ json_events given.canonical in_flow wrote.json in
    let emits = wrote.wrote.emits in
    let are = opened_events (λ c. json_events c in_flow wrote.json) emits.set.events new.events new.canonical in
    let stream = stream_finished filled.emitter bytes (emits.set.given ∙ new.settings) are (emits.taken ∙ new.untaken) finishes in
    let numbers = text_has_numbers depth text wrote.json wrote.read in
    let texts = texts_closed events (subst HaveScalarTexts are scalars) in
    let whole = stream_whole given (events ++ closing) bytes stream in
    record {
      json = wrote.json;
      read = wrote.read;
      stream = stream;
      reads = reads_as_json given in_flow text wrote.json bytes numbers texts stream.accepted whole;
      reads_with_either_breaks = λ portable breaks12. reads_as_json (record given { breaks12 = breaks12 }) in_flow text wrote.json bytes
          numbers texts stream.accepted (whole_by_either given breaks12 (events ++ closing) bytes portable whole);
    }

-- Several texts

all_have_numbers : (depth : ℕ) (parts : List (List ℕ × Json)) → AreJson depth parts → HaveNumbers (values_of parts)
all_have_numbers depth [] each = tt
all_have_numbers depth (part ∷ parts) each = (text_has_numbers depth part.0 part.1 each.0, all_have_numbers depth parts each.1)

-- The events of one text or more read as these texts, however many of their bytes were taken.
texts_read : (depth : ℕ) (in_flow : Bool) (text : List ℕ) (was now : WriterState) (taken : List ℕ) (part : List ℕ × Json) (rest : List (List ℕ × Json))
    → flat_map (λ part. part.0) (part ∷ rest) ≡ text → AreJson depth (part ∷ rest)
    → EmitsTaking was.emitter (parts_events was.canonical in_flow (part ∷ rest)) taken now.emitter → HaveScalarTexts now.emitter.events
    → (bytes : List ℕ) → was.emitter.events ≡ opening → was.canonical ≡ was.emitter.given.canonical → Finishes now.emitter bytes
    → IsYamlOfTexts was.emitter.given in_flow depth text ((bytes_taken was.emitter ++ taken) ++ bytes)
texts_read depth in_flow text was now taken part rest joined each emits scalars bytes opens canonical finishes =
    let given = was.emitter.given in
    let events = opening ++ parts_events given.canonical in_flow (part ∷ rest) in
    let are = opened_events (λ c. parts_events c in_flow (part ∷ rest)) emits.appended opens canonical in
    let stream = stream_finished now.emitter bytes emits.given are emits.taken finishes in
    let all = (bytes_taken was.emitter ++ taken) ++ bytes in
    let numbers = all_have_numbers depth (part ∷ rest) each in
    let texts = texts_closed events (subst HaveScalarTexts are scalars) in
    let whole = stream_whole given (events ++ closing) all stream in
    record {
      parts = part ∷ rest;
      joined = joined;
      each = each;
      stream = stream;
      reads = reads_as_values given in_flow part rest all numbers texts stream.accepted whole;
      reads_with_either_breaks = λ portable breaks12. reads_as_values (record given { breaks12 = breaks12 }) in_flow part rest all numbers texts stream.accepted
          (whole_by_either given breaks12 (events ++ closing) all portable whole);
    }

-- the last of them is one
pub sent_reads : (depth : ℕ) (in_flow : Bool) (text : List ℕ) (was now : WriterState) (taken : List ℕ) (parts : List (List ℕ × Json))
    (last : List ℕ × Json) → flat_map (λ part. part.0) (parts ++ last ∷ []) ≡ text → AreJson depth (parts ++ last ∷ [])
    → EmitsTaking was.emitter (parts_events was.canonical in_flow (parts ++ last ∷ [])) taken now.emitter → HaveScalarTexts now.emitter.events
    → (bytes : List ℕ) → was.emitter.events ≡ opening → was.canonical ≡ was.emitter.given.canonical → Finishes now.emitter bytes
    → IsYamlOfTexts was.emitter.given in_flow depth text ((bytes_taken was.emitter ++ taken) ++ bytes)
sent_reads depth in_flow text was now taken [] last = texts_read depth in_flow text was now taken last []
sent_reads depth in_flow text was now taken (part ∷ rest) last = texts_read depth in_flow text was now taken part (rest ++ last ∷ [])

-- nothing was taken
pub last_reads : (depth : ℕ) (in_flow : Bool) (text : List ℕ) (was now : WriterState) (parts : List (List ℕ × Json)) (last : List ℕ × Json)
    → flat_map (λ part. part.0) (parts ++ last ∷ []) ≡ text → AreJson depth (parts ++ last ∷ [])
    → WasGiven was (parts_events was.canonical in_flow (parts ++ last ∷ [])) now → HaveScalarTexts now.emitter.events
    → ReadsTexts depth in_flow text was now
last_reads depth in_flow text was now parts last joined each wrote scalars bytes opens canonical finishes =
    subst (λ (s : List ℕ). IsYamlOfTexts was.emitter.given in_flow depth text (s ++ bytes)) (append-nil (bytes_taken was.emitter))
    (sent_reads depth in_flow text was now [] parts last joined each (emits_untaken wrote.emits) scalars bytes opens canonical finishes)
