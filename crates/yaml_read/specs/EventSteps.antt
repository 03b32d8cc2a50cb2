-- The parts that are read with an event of a document.
use Rattle.std.specs.Prelude.{ℕ, ◌≡◌, true, Option, None, Some, List, [], ◌∷◌, ◌++◌}
use Rattle.std.specs.Str.{encode_utf8_all}
use Rattle.yaml_base.specs.Characters.{Text}
use Rattle.yaml_base.specs.Event.{Event, sequence_start, mapping_start}
use Rattle.yaml_read.specs.Awaits.{seen_await}
use Rattle.yaml_read.specs.EventTexts.{Pending, BeginsNode, IsInNode, IsOver, event_text, may_come, next_open, left_open, opening_text, trail_text}
use Rattle.yaml_read.specs.declared.leads.Await.{Await}
use Rattle.yaml_read.specs.declared.leads.Await.TheVariants as code
use Rattle.yaml_read.specs.declared.steps.Progress.{Progress}
use Rattle.yaml_read.specs.declared.steps.Progress.TheVariants.{Continues, RootEnds}

-- The part that a collection awaits that an event opens; none if it opens none.
abbrev pub await_opened : Event → Option Await
await_opened (sequence_start start) = Some code.FirstItem
await_opened (mapping_start start) = Some code.FirstKey
await_opened _ = None

-- The collections that are open after the beginning of a node, by the one that it opens; none if the root ends.
abbrev pub open_behind_opening : List Pending → Option Await → Option (List Pending)
open_behind_opening levels None = left_open levels
open_behind_opening levels (Some awaited) = Some (seen_await awaited ∷ levels)

-- The text after the beginning of a node in its event's text.
abbrev pub trail_behind_opening : List Pending → Option Await → Text
trail_behind_opening levels None = trail_text levels
trail_behind_opening levels (Some awaited) = []

-- the text of an event that begins a node, after what leads to it
abbrev pub text_behind_lead : List Pending → Event → Text
text_behind_lead levels event = opening_text event ++ trail_behind_opening levels (await_opened event)

-- ---- the code's answers

-- The collections that are open now; none if the root has ended.
abbrev pub open_now : List Pending → Progress → Option (List Pending)
open_now levels (Continues rest) = Some levels
open_now levels (RootEnds rest) = None

-- the bytes that follow
abbrev pub bytes_behind : Progress → List ℕ
bytes_behind (Continues rest) = rest.now
bytes_behind (RootEnds rest) = rest.now

-- bytes begin with a word; what is open after it, and what follows
abbrev pub GoesTo : (behind : Option (List Pending)) → (word text : List ℕ) → (now : List Pending) → Progress → Type 0
GoesTo behind word text now progress = (behind ≡ open_now now progress) × (text ≡ word ++ bytes_behind progress)

-- an event that begins a node was read, after what leads to it
pub record ReadsNode (before : List Pending) (text : List ℕ) (after : Option (List Pending)) (event : Event) (rest : List ℕ) : Type 0 where
  pub begins : BeginsNode event
  pub opened : open_behind_opening before (await_opened event) ≡ after
  pub parts : text ≡ encode_utf8_all (text_behind_lead before event) ++ rest
  pub over : IsOver (text_behind_lead before event) rest

-- an event was read, with what leads to it and what follows it
pub record ReadsEvent (before : List Pending) (text : List ℕ) (after : Option (List Pending)) (event : Event) (rest : List ℕ) : Type 0 where
  pub in_node : IsInNode event
  pub comes : may_come before event ≡ true
  pub opened : next_open before event ≡ after
  pub parts : text ≡ encode_utf8_all (event_text before event) ++ rest
  pub over : IsOver (event_text before event) rest
