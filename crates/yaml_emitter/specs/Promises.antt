-- The promises to a caller about an emitter after the events that it was given.
use Rattle.std.specs.Prelude.{◌≡◌, ◌↔◌, ℕ, zero, suc, ◌<◌, ◌≤◌, Bool, true, false, Option, None, Some, IsSome, List, [], ◌∷◌, ◌++◌, length, take}
use Rattle.std.specs.List.{All}
use Rattle.yaml_base.specs.Prefix.{IsPrefix}
use Rattle.yaml_base.specs.Settings.{Settings}
use Rattle.yaml_base.specs.Encoding.{cut}
use Rattle.yaml_base.specs.Event.{Event, stream_end, document_start, sequence_start, mapping_start}
use Rattle.yaml_base.specs.Refusal.{IsAccepted, IsAcceptedPrefix, refusal}
use Rattle.yaml_base.specs.Ready.{awaited, written, held_back}
use Rattle.yaml_base.specs.NodeLayout.{bodies_of}
use Rattle.yaml_base.specs.Pieces.{list_layout, pieces}
use Rattle.yaml_base.specs.Output.{settings_for, text_written, bytes_written, output_of, last_flushes}
use Rattle.yaml_base.specs.Meaning.{BodyMeans}
use Rattle.yaml_base.specs.streams.StreamContent.{agrees}
use Rattle.yaml_base.specs.StreamLaw.{reads_alike}
use Rattle.yaml_base.specs.streams.StreamReader.{stream_trees}
use Rattle.yaml_base.specs.reading.Content.{content_of}
use Rattle.yaml_base.specs.reading.CanonicalReader.{canonical_content}
use Rattle.yaml_base.specs.TidyBodies.{BodyIsTidy}
use Rattle.yaml_base.specs.WrittenTexts.{HoldsRaw}
use Rattle.yaml_base.specs.declared.errors.yaml_error_t.{yaml_error_t}
use Rattle.yaml_base.specs.declared.errors.yaml_error_t.TheVariants.{WriteError, Memory}
use Rattle.yaml_pen.specs.Page.{encoded}
use Rattle.yaml_emitter.specs.State.{GivenEvent, State}
use Rattle.yaml_emitter.specs.StaysFlushed.{StaysFlushed}
use Rattle.yaml_emitter.specs.Uncut.{IsUncut}

-- the text so far is that of the first `count` pieces
abbrev pub HasText : Settings → List Event → ℕ → State → Type 0
HasText given all count state =
    state.page.text ≡ text_written (settings_for given all) (pieces (settings_for given all) all count)

-- true if nothing waits, or the first waiting event starts a document or a collection
abbrev pub begins_with_start : List Event → Bool
begins_with_start [] = true
begins_with_start (document_start start ∷ rest) = true
begins_with_start (sequence_start start ∷ rest) = true
begins_with_start (mapping_start start ∷ rest) = true
begins_with_start events = false

-- the most events that may wait, by the first of them: one after a document's start, two after a sequence's, three after a mapping's
abbrev pub most_held : List Event → ℕ
most_held [] = 0
most_held (event ∷ rest) = awaited event

-- exactly the events that aren't ready wait
pub record QueuesUnready (all : List Event) (state : State) : Type 0 where
  pub held : state.held ≡ held_back all
  pub few : length state.held ≤ most_held state.held
  pub starts : begins_with_start state.held ≡ true

-- an accepted list begins with `prefix`. The text of the first `count` pieces of its layout is a prefix of the text so far, which is
-- a prefix of the text of the pieces of `prefix`. The output is a prefix of the list's bytes, and begins with all bytes of the
-- documents among the first `count` events
pub record BeginsOutput (given : Settings) (all prefix : List Event) (count : ℕ) (state : State) : Type 0 where
  pub later : List Event
  pub parts : prefix ++ later ≡ all
  pub more : List Event
  pub accepted : IsAccepted given.canonical (prefix ++ more)
  pub least :
      let s = settings_for given all in
      IsPrefix (text_written s (take count (list_layout s (prefix ++ more)))) state.page.text
  pub most :
      let s = settings_for given all in
      IsPrefix state.page.text (text_written s (take (length prefix) (list_layout s (prefix ++ more))))
  pub output :
      let s = settings_for given all in
      state.page.output ≡ cut (length state.page.output) (bytes_written s (list_layout s (prefix ++ more)))
  pub flushed : StaysFlushed given all count state.page.output

-- an event that became ready was refused: the events before it begin an accepted list, with it they begin none; text and output
-- are those of the events before it
pub record RefusedAt (given : Settings) (all : List Event) (error : yaml_error_t) (state : State) : Type 0 where
  pub prefix : List Event
  pub event : Event
  pub later : List Event
  pub parts : prefix ++ event ∷ later ≡ all
  pub became_ready : length prefix < written all
  pub refusal : refusal given.canonical prefix event ≡ Some error
  pub begins : IsAcceptedPrefix given.canonical prefix
  pub ends : IsAcceptedPrefix given.canonical (prefix ++ event ∷ []) → ⊥
  pub text : HasText given all (length prefix) state
  pub output : BeginsOutput given all prefix (length prefix) state

-- after an error the events of `prefix`, which come before the one in work, are written whole; of its own piece nothing, or a prefix
pub data StopsWriting (given : Settings) (all prefix : List Event) (state : State) : Type 0 where
  stops_before : BeginsOutput given all prefix (length prefix) state → StopsWriting given all prefix state
  stops_within : (event : Event) → BeginsOutput given all (prefix ++ event ∷ []) (length prefix) state → StopsWriting given all prefix state

-- without an error the written events are all that are ready
abbrev pub OutputBegins : Settings → List Event → Option yaml_error_t → State → Type 0
OutputBegins given all None state = BeginsOutput given all (take (written all) all) (written all) state
OutputBegins given all (Some error) state = (prefix : List Event) × StopsWriting given all prefix state

-- an accepted list whose bytes are within the limit begins with these events
pub record FitsLimit (given : Settings) (all : List Event) : Type 0 where
  pub more : List Event
  pub accepted : IsAccepted given.canonical (all ++ more)
  pub uncut : IsUncut given (all ++ more)

-- the bytes of the text pass the limit, and the output is full: it is that of every accepted list that begins with all events,
-- and no such list fits the limit
pub record FillsLimit (given : Settings) (all : List Event) (state : State) : Type 0 where
  pub passed : given.limit < length (encoded state.page)
  pub full : length state.page.output ≡ given.limit
  pub output : (more : List Event) → IsAccepted given.canonical (all ++ more) → state.page.output ≡ output_of given (all ++ more)
  pub unfit : FitsLimit given all → ⊥

-- an error of an event that can't be written, so neither of the output's limit nor of memory
abbrev pub IsRefusal : yaml_error_t → Type 0
IsRefusal WriteError = ⊥
IsRefusal Memory = ⊥
IsRefusal error = Unit {0}

-- neither the output's limit nor memory failed
abbrev pub HasRoomAndMemory : Option yaml_error_t → Type 0
HasRoomAndMemory None = Unit {0}
HasRoomAndMemory (Some error) = IsRefusal error

-- there is no error but that of memory
abbrev pub FailsOnlyByMemory : Option yaml_error_t → Type 0
FailsOnlyByMemory None = Unit {0}
FailsOnlyByMemory (Some error) = error ≡ Memory

-- true if the last event is the stream's end
abbrev pub ends_stream : List Event → Bool
ends_stream [] = false
ends_stream (stream_end ∷ []) = true
ends_stream (event ∷ rest) = ends_stream rest

-- if neither the limit nor memory failed, a list that ends the stream is accepted exactly if no event was refused and none waits
abbrev pub EndsExactly : Settings → List Event → State → Type 0
EndsExactly given all state =
    HasRoomAndMemory state.error → IsAccepted given.canonical all ↔ ((state.error ≡ None) × (state.held ≡ []))

-- these bytes, or none if there are no pieces, not even a byte order mark
abbrev pub bytes_of_some : ℕ → List ℕ → List ℕ
bytes_of_some zero bytes = []
bytes_of_some (suc count) bytes = bytes

-- all bytes of the written pieces
abbrev pub bytes_so_far : Settings → List Event → List ℕ
bytes_so_far given all =
    let s = settings_for given all in
    bytes_of_some (written all) (bytes_written s (pieces s all (written all)))

-- all bytes are flushed
abbrev pub HasAllBytes : Settings → List Event → State → Type 0
HasAllBytes given all state = state.page.output ≡ bytes_so_far given all

-- an accepted list is written whole, uncut, and keeps its meaning. Each scalar reads as its value. Canonical bytes read as the
-- content. In every mode the bytes read as documents that agree with the list: in portable mode for every list, and with the line
-- breaks of YAML 1.1 and of 1.2; in other modes for each list that loses no document and has no flow indicator in a tag. The text
-- holds printable characters, the CR of line breaks, and tabs if blanks are literal; with the line breaks of YAML 1.2 or in
-- portable mode neither U+2028 nor U+2029. Each scalar's text is tidy
pub record IsWritten (given : Settings) (all : List Event) (state : State) : Type 0 where
  pub text : state.page.text ≡ text_written (settings_for given all) (list_layout (settings_for given all) all)
  pub output : state.page.output ≡ output_of given all
  pub uncut : IsUncut given all
  pub means : All (BodyMeans (settings_for given all)) (bodies_of (list_layout (settings_for given all) all))
  pub reads : given.canonical ≡ true → canonical_content given.breaks12 state.page.output ≡ content_of all
  pub reads_back : reads_alike given.portable given.canonical all ≡ true
      → agrees given.canonical all (stream_trees given.breaks12 state.page.output) ≡ true
  pub reads_with_either_breaks : given.portable ≡ true → (breaks12 : Bool)
      → agrees given.canonical all (stream_trees breaks12 state.page.output) ≡ true
  pub raw : HoldsRaw (settings_for given all) state.page.text
  pub tidy : All (BodyIsTidy (settings_for given all)) (bodies_of (list_layout (settings_for given all) all))

-- all that a caller may rely on after these events
pub record Promised (given : Settings) (all : List GivenEvent) (state : State) : Type 0 where
  pub text : state.error ≡ None → HasText given all (written all) state
  pub held : state.error ≡ None → QueuesUnready all state
  pub dropped : IsSome state.error → state.held ≡ []
  pub refused : (error : yaml_error_t) → state.error ≡ Some error → IsRefusal error → RefusedAt given all error state
  pub output : OutputBegins given all state.error state
  pub within : length state.page.output ≤ given.limit
  pub full : state.error ≡ Some WriteError → FillsLimit given all state
  pub fits : FitsLimit given all → FailsOnlyByMemory state.error
  pub flushed_whole : state.error ≡ None → last_flushes (take (written all) all) ≡ true → HasAllBytes given all state
  pub ends : ends_stream all ≡ true → EndsExactly given all state
  pub whole : state.error ≡ None → IsAccepted given.canonical all → IsWritten given all state
