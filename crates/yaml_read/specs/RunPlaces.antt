-- The places at which the bytes of a document stop to be those of a node's events.
use Rattle.std.specs.Prelude.{ℕ, ◌≡◌, ◌≢◌, true, None, List, [], ◌∷◌, ◌++◌, All, length}
use Rattle.std.specs.Str.{encode_utf8_all}
use Rattle.yaml_base.specs.Characters.{Text}
use Rattle.yaml_base.specs.Event.{DocumentStart, Event, document_start, document_end}
use Rattle.yaml_read.specs.Awaits.{can_end}
use Rattle.yaml_read.specs.Beginnings.{NoOpening}
use Rattle.yaml_read.specs.EventTexts.{BeginsNode, Pending, HasBegunText, HasRunText, IsInNode, IsOver, closing_text, ends_name, event_text, lead_text, may_come}
use Rattle.yaml_read.specs.EventTexts.{opening_text, outside, trail_text}
use Rattle.yaml_read.specs.Places.{LacksEnd}
use Rattle.yaml_read.specs.Words.{past_word}
use Rattle.yaml_read.specs.declared.errors.Stop.{Stop}
use Rattle.yaml_read.specs.declared.errors.Stop.TheVariants as stop

-- The start of a document that has neither a version nor directives.
abbrev pub bare_start : DocumentStart
bare_start = record { version = None; directives = []; implicit = true }

-- a document's events, by those of its root
abbrev pub in_document : List Event → List Event
in_document events = document_start bare_start ∷ (events ++ document_end true ∷ [])

-- no text of an event that may come begins the bytes
abbrev pub NoEventBegins : (levels : List Pending) → (bytes : List ℕ) → Type 0
NoEventBegins levels bytes =
    (event : Event) (rest : Text) → IsInNode event → may_come levels event ≡ true → ends_name rest ≡ true
    → bytes ≢ encode_utf8_all (event_text levels event ++ rest)

-- The place so far before the end of these bytes is their beginning, and no node begins there; or it follows the text with which a node
-- begins, and what is due after it is missing.
pub data IsNodePlace (levels : List Pending) (bytes : List ℕ) (left : ℕ) : Type 0 where
  at_node : NoOpening bytes → left ≡ length bytes → IsNodePlace levels bytes left
  after_node : (event : Event) (rest : List ℕ) → BeginsNode event → bytes ≡ encode_utf8_all (opening_text event) ++ rest
      → IsOver (opening_text event) rest → past_word (trail_text levels) rest ≡ None → left ≡ length rest → IsNodePlace levels bytes left

-- The place is the first at which no event that may come goes on: neither what leads to a node is there nor the end of the innermost
-- collection; or a node is wrong after what leads to it, or what is due after that end is missing.
pub data IsEventPlace (levels : List Pending) (bytes : List ℕ) (left : ℕ) : Type 0 where
  at_event : past_word (lead_text levels) bytes ≡ None → (can_end levels ≡ true → past_word (closing_text levels) bytes ≡ None)
      → left ≡ length bytes → IsEventPlace levels bytes left
  in_event_at : (rest : List ℕ) → bytes ≡ lead_text levels ++ rest → IsNodePlace levels rest left → IsEventPlace levels bytes left
  after_bracket : (rest : List ℕ) → can_end levels ≡ true → bytes ≡ closing_text levels ++ rest
      → past_word (trail_text (outside levels)) rest ≡ None → left ≡ length rest → IsEventPlace levels bytes left

-- After a document's first line the bytes are those of events of a node, the last with its whole name, no event goes on in what follows,
-- and the place is where; or they are those of a whole node, and its line's end is missing at the place, or more follows that.
pub data StopsInRun (whole : List ℕ) (left : ℕ) : Type 0 where
  in_event : (levels : List Pending) (events : List Event) (text : Text) (bytes : List ℕ) → HasBegunText levels events text
      → All IsInNode events → whole ≡ encode_utf8_all text ++ bytes → IsOver text bytes → NoEventBegins levels bytes
      → IsEventPlace levels bytes left → StopsInRun whole left
  after_root : (events : List Event) (text : Text) (bytes : List ℕ) → HasRunText [] events text → All IsInNode events
      → whole ≡ encode_utf8_all text ++ bytes → IsOver text bytes → LacksEnd bytes (stop.Refused left) → StopsInRun whole left

-- Reading stops at a place with this property, or memory gave out.
abbrev pub StopsBy : (IsPlace : ℕ → Type 0) → Stop → Type 0
StopsBy IsPlace (stop.Refused left) = IsPlace left
StopsBy IsPlace (stop.TooDeep left) = ⊥
StopsBy IsPlace stop.Memory = Unit {0}

-- why reading stops after a document's first line
abbrev pub RunStops : (whole : List ℕ) → Stop → Type 0
RunStops whole error = StopsBy (StopsInRun whole) error
