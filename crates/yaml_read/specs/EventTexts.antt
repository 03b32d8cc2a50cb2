-- The canonical text of a document's node, event by event.
use Rattle.std.specs.Prelude.{ℕ, ◌*◌, ◌≡◌, Bool, true, false, not, Option, None, Some, List, [], ◌∷◌, ◌++◌, codes, length}
use Rattle.std.specs.Str.{all_scalars}
use Rattle.yaml_base.specs.Characters.{Text, is_alpha}
use Rattle.yaml_base.specs.Event.{Event, alias, scalar, sequence_start, sequence_end, mapping_start, mapping_end, any_style, any_layout}
use Rattle.yaml_base.specs.Tags.{alias_fault, anchor_fault, tag_fault}
use Rattle.yaml_base.specs.graphs.DumpedText.{closing_line, collection_properties, scalar_properties}
use Rattle.yaml_base.specs.graphs.Meetings.{mapping_held, opening_event_of, scalar_held, sequence_held}
use Rattle.yaml_base.specs.graphs.DumpedText.{in_quotes, line_at}

-- the thing that a sequence or a mapping awaits: an item or its end, a key or its end, the value of a key
pub data Pending : Type 0 where
  item_awaited : (empty : Bool) → Pending
  key_awaited : (empty : Bool) → Pending
  value_awaited : Pending

-- ---- text

-- The text that leads to a node. What is open is listed innermost first.
abbrev pub lead_text : List Pending → Text
lead_text [] = []
lead_text (item_awaited empty ∷ outer) = line_at (length (item_awaited empty ∷ outer) * 2)
lead_text (key_awaited empty ∷ outer) = line_at (length (key_awaited empty ∷ outer) * 2) ++ codes "? "
lead_text (value_awaited ∷ outer) = line_at (length (value_awaited ∷ outer) * 2) ++ codes ": "

-- The text that follows a node.
abbrev pub trail_text : List Pending → Text
trail_text [] = []
trail_text (item_awaited empty ∷ outer) = codes ","
trail_text (key_awaited empty ∷ outer) = []
trail_text (value_awaited ∷ outer) = codes ","

-- how a node begins; an alias and a scalar end there as well
abbrev pub opening_text : Event → Text
opening_text (alias name) = codes "*" ++ name
opening_text (scalar content) = scalar_properties content ++ in_quotes content.value
opening_text (sequence_start start) = collection_properties start ++ codes "["
opening_text (mapping_start start) = collection_properties start ++ codes "{"
opening_text _ = []

-- how the innermost collection ends
abbrev pub closing_text : List Pending → Text
closing_text (item_awaited empty ∷ outer) = closing_line (length outer * 2) empty ++ codes "]"
closing_text (key_awaited empty ∷ outer) = closing_line (length outer * 2) empty ++ codes "}"
closing_text _ = []

-- The collections around the innermost one.
abbrev pub outside : List Pending → List Pending
outside [] = []
outside (awaited ∷ outer) = outer

-- an event, with what leads to it and what follows it
abbrev pub event_text : List Pending → Event → Text
event_text levels (alias name) = lead_text levels ++ (opening_text (alias name) ++ trail_text levels)
event_text levels (scalar content) = lead_text levels ++ (opening_text (scalar content) ++ trail_text levels)
event_text levels (sequence_start start) = lead_text levels ++ opening_text (sequence_start start)
event_text levels (mapping_start start) = lead_text levels ++ opening_text (mapping_start start)
event_text levels sequence_end = closing_text levels ++ trail_text (outside levels)
event_text levels mapping_end = closing_text levels ++ trail_text (outside levels)
event_text levels _ = []

-- ---- order

-- The part that an open collection awaits after a node in it.
abbrev pub next_awaited : Pending → Pending
next_awaited (item_awaited empty) = item_awaited false
next_awaited (key_awaited empty) = value_awaited
next_awaited value_awaited = key_awaited false

-- The collections that are open after a node; none if it is the root.
abbrev pub left_open : List Pending → Option (List Pending)
left_open [] = None
left_open (awaited ∷ outer) = Some (next_awaited awaited ∷ outer)

-- The collections that are open after an event; none if the root ends.
abbrev pub next_open : List Pending → Event → Option (List Pending)
next_open levels (sequence_start start) = Some (item_awaited true ∷ levels)
next_open levels (mapping_start start) = Some (key_awaited true ∷ levels)
next_open levels sequence_end = left_open (outside levels)
next_open levels mapping_end = left_open (outside levels)
next_open levels _ = left_open levels

-- an event may come there
abbrev pub may_come : List Pending → Event → Bool
may_come levels (alias name) = true
may_come levels (scalar content) = true
may_come levels (sequence_start start) = true
may_come levels (mapping_start start) = true
may_come (item_awaited empty ∷ outer) sequence_end = true
may_come (key_awaited empty ∷ outer) mapping_end = true
may_come _ _ = false

-- events to the root's end, and their text
pub data HasRunText : List Pending → List Event → Text → Type 0 where
  root_ends : (levels : List Pending) (event : Event) (text : Text) → may_come levels event ≡ true → next_open levels event ≡ None
      → text ≡ event_text levels event → HasRunText levels (event ∷ []) text
  more_come : (levels next : List Pending) (event : Event) (events : List Event) (rest text : Text) → may_come levels event ≡ true
      → next_open levels event ≡ Some next → text ≡ event_text levels event ++ rest → HasRunText next events rest
      → HasRunText levels (event ∷ events) text

-- events from the root's beginning on, their text, and what is open after them
pub data HasBegunText : List Pending → List Event → Text → Type 0 where
  none_begun : HasBegunText [] [] []
  one_more : (before levels : List Pending) (events : List Event) (event : Event) (text : Text) → HasBegunText before events text
      → may_come before event ≡ true → next_open before event ≡ Some levels
      → HasBegunText levels (events ++ event ∷ []) (text ++ event_text before event)

-- ---- which events are read

-- the parts of a node's beginning: its anchor, if it has one, its tag, and a scalar's value
abbrev pub IsAnchor : Option Text → Type 0
IsAnchor None = Unit {0}
IsAnchor (Some name) = anchor_fault name ≡ None

pub record AreParts (anchor : Option Text) (tag value : Text) : Type 0 where
  pub anchor_sound : IsAnchor anchor
  pub tag_sound : tag_fault tag ≡ None
  pub tag_scalars : all_scalars tag ≡ true
  pub value_scalars : all_scalars value ≡ true

-- an event that begins a node, as a dump gives it, without a style
pub data BeginsNode : Event → Type 0 where
  is_alias : (name : Text) → alias_fault name ≡ None → BeginsNode (alias name)
  is_scalar : (anchor : Option Text) (tag value : Text) → AreParts anchor tag value
      → BeginsNode (opening_event_of anchor tag (scalar_held value any_style))
  is_sequence : (anchor : Option Text) (tag : Text) → AreParts anchor tag [] → BeginsNode (opening_event_of anchor tag (sequence_held [] any_layout))
  is_mapping : (anchor : Option Text) (tag : Text) → AreParts anchor tag [] → BeginsNode (opening_event_of anchor tag (mapping_held [] any_layout))

-- so are the events of a node
pub data IsInNode : Event → Type 0 where
  begins_node : (event : Event) → BeginsNode event → IsInNode event
  ends_sequence : IsInNode sequence_end
  ends_mapping : IsInNode mapping_end

-- a name can't go on with what follows
abbrev pub ends_name : Text → Bool
ends_name [] = true
ends_name (c ∷ rest) = not (is_alpha c)

-- a text ends with a character of a name
abbrev pub ends_in_name : Text → Bool
ends_in_name [] = false
ends_in_name (c ∷ []) = is_alpha c
ends_in_name (c ∷ next ∷ rest) = ends_in_name (next ∷ rest)

-- no name goes on from a text into the bytes after it
pub record IsOver (text : Text) (bytes : List ℕ) : Type 0 where
  pub ends : ends_in_name text ≡ true → ends_name bytes ≡ true
