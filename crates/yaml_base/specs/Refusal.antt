-- Which event is refused after which list, and by which error (libyaml's own rules; YAML 1.1, sections 7.1, 8.1 and 8.2, for directives,
-- anchors and tags).
pub use Rattle.yaml_base.specs.Options.{some_if}
use Rattle.std.specs.Prelude.{◌≡◌, ◌↔◌, ℕ, ◌-◌, ◌≤◌, Bool, true, false, Option, None, List, [], ◌∷◌, ◌++◌, ◌&&◌, not, nat_lt, length, count_by}
use Rattle.std.specs.Prelude.{is_some, is_none, option_and_then}
use Rattle.std.specs.Option.{option_or}
use Rattle.std.specs.List.{list_all}
use Rattle.yaml_base.specs.Characters.{Text}
use Rattle.yaml_base.specs.Event.{Event, document_start, alias, scalar, sequence_start, sequence_end, mapping_start, mapping_end}
use Rattle.yaml_base.specs.Tags.{anchor_fault, alias_fault, tag_fault, version_fault, directives_fault}
use Rattle.yaml_base.specs.scalars.Style.{lacks_tag_and_flags}
use Rattle.yaml_base.specs.Grammar.{Level, Partial, before_stream, between_documents, within_document, after_root, after_stream, push, partial_of, Stream}
use Rattle.yaml_base.specs.Grammar.{stream_events}
use Rattle.yaml_base.specs.declared.errors.yaml_error_t.{yaml_error_t}
use Rattle.yaml_base.specs.declared.errors.yaml_error_t.TheVariants.{ExpectedStreamStart, ExpectedDocumentStart, ExpectedDocumentEnd, ExpectedNode}
use Rattle.yaml_base.specs.declared.errors.yaml_error_t.TheVariants.{ExpectedNothing, NoTagNorImplicit, TooDeep}
use Rattle.yaml_base.specs.Event.{scalar_tag, collection_tag}

-- the refusal of an anchor and of the tag that is written, if there are any
abbrev pub properties_fault : Option Text → Option Text → Option yaml_error_t
properties_fault anchor tag = option_or (option_and_then anchor_fault anchor) (option_and_then tag_fault tag)

-- the refusal of an anchor's or alias's name, then that of a tag that is written; both are sought before the place's
abbrev pub name_or_tag_fault : Bool → Event → Option yaml_error_t
name_or_tag_fault canonical (alias name) = alias_fault name
name_or_tag_fault canonical (scalar content) =
    properties_fault content.anchor (scalar_tag canonical content)
name_or_tag_fault canonical (sequence_start start) =
    properties_fault start.anchor (collection_tag canonical start)
name_or_tag_fault canonical (mapping_start start) =
    properties_fault start.anchor (collection_tag canonical start)
name_or_tag_fault canonical _ = None

-- the refusal of an event's own content: besides these, a scalar without a tag needs a flag
abbrev pub content_fault : Bool → Event → Option yaml_error_t
content_fault canonical (scalar content) =
    some_if
    (lacks_tag_and_flags (is_some (scalar_tag canonical content)) content.plain_implicit content.quoted_implicit)
    NoTagNorImplicit
content_fault canonical (document_start start) =
    option_or (option_and_then version_fault start.version) (directives_fault start.directives)
content_fault canonical _ = None

-- the error if another event comes than the one that must be next
abbrev pub expected : Partial → yaml_error_t
expected before_stream = ExpectedStreamStart
expected (between_documents encoding before) = ExpectedDocumentStart
expected (within_document encoding before start levels) = ExpectedNode
expected (after_root encoding before start root) = ExpectedDocumentEnd
expected (after_stream stream) = ExpectedNothing

-- the refusal of an event that may not come after this partial tree
abbrev pub place_fault : Partial → Event → Option yaml_error_t
place_fault partial event = some_if (is_none (push partial event)) (expected partial)

-- the maximum nesting depth (this library's own bound)
abbrev pub most_open : ℕ
most_open = 1000000

-- true of an event that opens a collection
abbrev pub begins_collection : Event → Bool
begins_collection (sequence_start start) = true
begins_collection (mapping_start start) = true
begins_collection _ = false

-- true of an event that closes a collection
abbrev pub ends_collection : Event → Bool
ends_collection sequence_end = true
ends_collection mapping_end = true
ends_collection _ = false

-- the open collections
abbrev pub open_levels : Partial → List Level
open_levels (within_document encoding before start levels) = levels
open_levels _ = []

-- the refusal of a collection if too many are open
abbrev pub depth_fault : Partial → Event → Option yaml_error_t
depth_fault partial event =
    some_if (begins_collection event && not (nat_lt (length (open_levels partial)) most_open)) TooDeep

-- the first refusal of an event at a place
abbrev pub refusal_at : Bool → Partial → Event → Option yaml_error_t
refusal_at canonical partial event =
    option_or (name_or_tag_fault canonical event)
    (option_or (place_fault partial event)
    (option_or (content_fault canonical event) (depth_fault partial event)))

-- the refusal of an event after a list; none after a list that begins no stream
abbrev pub refusal : Bool → List Event → Event → Option yaml_error_t
refusal canonical before event = option_and_then (λ partial. refusal_at canonical partial event) (partial_of before)

-- true if an event's own names, tags, versions and directives are in order
abbrev pub is_sound : Bool → Event → Bool
is_sound canonical event = is_none (option_or (name_or_tag_fault canonical event) (content_fault canonical event))

-- the number of collections that a list of events leaves open
abbrev pub open_count : List Event → ℕ
open_count events = count_by begins_collection events - count_by ends_collection events

-- a list is accepted if it is the events of a stream, each event is sound, and after no prefix of it more than `most_open` collections are
-- open
pub record IsAccepted (canonical : Bool) (events : List Event) : Type 0 where
  pub stream : Stream
  pub is_stream : stream_events stream ≡ events
  pub sound : list_all (is_sound canonical) events ≡ true
  pub shallow : (prefix rest : List Event) → prefix ++ rest ≡ events → open_count prefix ≤ most_open

-- some accepted list begins with these events
pub record IsAcceptedPrefix (canonical : Bool) (events : List Event) : Type 0 where
  pub rest : List Event
  pub accepted : IsAccepted canonical (events ++ rest)

-- after events that begin an accepted list, an event is refused exactly if no accepted list continues with it
abbrev pub RefusedExactly : Type 0
RefusedExactly =
    (canonical : Bool) (before : List Event) (event : Event) → IsAcceptedPrefix canonical before
    → (refusal canonical before event ≡ None) ↔ IsAcceptedPrefix canonical (before ++ event ∷ [])
