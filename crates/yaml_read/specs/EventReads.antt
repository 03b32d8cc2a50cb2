-- The events of a document that were read.
use Rattle.std.specs.Prelude.{◌≡◌, true, Option, Result, Ok, Err, List, ℕ, [], ◌∷◌, ◌++◌, All, codes}
use Rattle.std.specs.Borrow.{Bor}
use Rattle.std.specs.Str.{encode_utf8_all}
use Rattle.yaml_base.specs.Characters.{Text, line_feed}
use Rattle.yaml_base.specs.Event.{Event, document_start, document_end}
use Rattle.yaml_read.specs.EventSteps.{ReadsEvent, ReadsNode, text_behind_lead}
use Rattle.yaml_read.specs.EventTexts.{Pending, BeginsNode, HasRunText, IsInNode, IsOver, ends_name, event_text, may_come}
use Rattle.yaml_read.specs.Places.{LacksEnd}
use Rattle.yaml_read.specs.RunPlaces.{RunStops, StopsBy, bare_start, in_document}
use Rattle.yaml_read.specs.declared.errors.Stop.{Stop}
use Rattle.yaml_read.specs.declared.errors.Stop.TheVariants as stop

-- one more event, which begins a node, was read after what leads to it, and it is the only one
pub record IsNodeRead (found : List Event) (levels : List Pending) (text : List ℕ) (new : List Event) (after : Option (List Pending)) (rest : List ℕ)
    : Type 0 where
  pub event : Event
  pub pushed : new ≡ found ++ event ∷ []
  pub node : ReadsNode levels text after event rest
  pub only : (other : Event) (tail : Text) → BeginsNode other → ends_name tail ≡ true → text ≡ encode_utf8_all (text_behind_lead levels other ++ tail)
      → event ≡ other

abbrev pub NoNode : (levels : List Pending) (text : List ℕ) → Type 0
NoNode levels text =
    (event : Event) (tail : Text) → BeginsNode event → ends_name tail ≡ true → text ≡ encode_utf8_all (text_behind_lead levels event ++ tail) → ⊥

-- one more event was read, with what leads to it, and it is the only one
pub record IsEventRead (found : List Event) (levels : List Pending) (text : List ℕ) (new : List Event) (after : Option (List Pending)) (rest : List ℕ)
    : Type 0 where
  pub event : Event
  pub pushed : new ≡ found ++ event ∷ []
  pub read : ReadsEvent levels text after event rest
  pub only : (other : Event) (tail : Text) → IsInNode other → may_come levels other ≡ true → ends_name tail ≡ true
      → text ≡ encode_utf8_all (event_text levels other ++ tail) → event ≡ other

-- ---- a whole root

-- the events found so far, the document's start before them, are those of the whole root
pub record RunEnded (whole : List ℕ) (found : List Event) (bytes : List ℕ) : Type 0 where
  pub events : List Event
  pub text : Text
  pub found_are : found ≡ document_start bare_start ∷ events
  pub run : HasRunText [] events text
  pub in_node : All IsInNode events
  pub parts : whole ≡ encode_utf8_all text ++ bytes
  pub over : IsOver text bytes

-- nothing but the document's end is due, after the root
pub record EndDue (events found : List Event) (bytes : List ℕ) : Type 0 where
  pub all : in_document events ≡ found ++ document_end true ∷ []
  pub bytes_are : bytes ≡ codes "\n"

-- the bytes aren't those of a root and a line's end, or memory gave out
pub record RunFails (whole : List ℕ) (error : Stop) : Type 0 where
  pub stops : RunStops whole error
  pub reads : (events : List Event) (node : Text) → HasRunText [] events node → All IsInNode events → whole ≡ encode_utf8_all (node ++ line_feed ∷ [])
      → error ≡ stop.Memory

-- the events up to the root's end, and what follows it
abbrev pub RootRead : (whole : List ℕ) (found : List Event) → Result (Bor (List ℕ)) Stop → Type 0
RootRead whole found (Ok end) =
    RunEnded whole found end.now
    × ((events : List Event) (node : Text) → HasRunText [] events node → All IsInNode events → whole ≡ encode_utf8_all (node ++ line_feed ∷ [])
    → EndDue events found end.now)
RootRead whole found (Err error) = RunFails whole error

-- a line's end follows the root, and nothing else; the document's end was added
abbrev pub EndRead : {T : Type 0} (found : List Event) (bytes : List ℕ) (new : List Event) → Result T Stop → Type 0
EndRead found bytes new (Ok _) = (new ≡ found ++ document_end true ∷ []) × (bytes ≡ codes "\n")
EndRead found bytes new (Err error) = StopsBy (λ left. LacksEnd bytes (stop.Refused left)) error × (bytes ≡ codes "\n" → error ≡ stop.Memory)

-- the events of the whole document, and they are the only ones
pub record IsEventRun (whole : List ℕ) (found : List Event) : Type 0 where
  pub sound : (events : List Event) × (node : Text) × (found ≡ in_document events) × HasRunText [] events node × All IsInNode events
      × (whole ≡ encode_utf8_all (node ++ line_feed ∷ []))
  pub only : (events : List Event) (node : Text) → HasRunText [] events node → All IsInNode events → whole ≡ encode_utf8_all (node ++ line_feed ∷ [])
      → found ≡ in_document events

abbrev pub RunAnswer : {T : Type 0} (whole : List ℕ) (found : List Event) → Result T Stop → Type 0
RunAnswer whole found (Ok _) = IsEventRun whole found
RunAnswer whole found (Err error) = RunFails whole error
