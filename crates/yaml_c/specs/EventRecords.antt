-- The meaning of an array of a C program's events: a list of events, by libyaml's numbers, with the texts of an arena.
use Rattle.std.specs.Prelude.{ℕ, suc, Bool, true, false, Option, None, Some, List, [], ◌∷◌, ◌==◌, if◌then◌else◌, option_map, option_and_then}
use Rattle.yaml_base.specs.Characters.{Text}
use Rattle.yaml_base.specs.Settings.{Encoding, utf8, utf16_little, utf16_big, LineBreak, carriage_return_break, line_feed_break, both_break}
use Rattle.yaml_base.specs.Event.{ScalarStyle, any_style, plain, single_quoted, double_quoted, literal, folded, CollectionStyle, any_layout, block, flow}
use Rattle.yaml_base.specs.Event.{Version, TagDirective, Scalar, Collection, Event, stream_start, stream_end, document_start, document_end, alias, scalar}
use Rattle.yaml_base.specs.Event.{sequence_start, sequence_end, mapping_start, mapping_end}
use Rattle.yaml_base.specs.scripts.Script.{Numbered}
use Rattle.yaml_writer.specs.TypedEvents.{typed_scalar}
use Rattle.yaml_c.specs.Arena.{is_on, part_of, text_in_arena, optional_text_at}
use Rattle.yaml_c.specs.declared.arena.Span.{Span}
use Rattle.yaml_c.specs.declared.records.DirectiveRecord.{DirectiveRecord}
use Rattle.yaml_c.specs.declared.records.EventRecord.{EventRecord}

-- ---- libyaml's numbers

-- yaml_scalar_style_t
abbrev pub scalar_style_numbered : ℕ → Option ScalarStyle
scalar_style_numbered number =
    if number == 0 then Some any_style
    else (if number == 1 then Some plain
    else (if number == 2 then Some single_quoted
    else (if number == 3 then Some double_quoted
    else (if number == 4 then Some literal
    else (if number == 5 then Some folded else None)))))

-- yaml_sequence_style_t and yaml_mapping_style_t
abbrev pub collection_style_numbered : ℕ → Option CollectionStyle
collection_style_numbered number =
    if number == 0 then Some any_layout else (if number == 1 then Some block else (if number == 2 then Some flow else None))

-- yaml_encoding_t; 0 asks for none
abbrev pub encoding_numbered : ℕ → Option (Option Encoding)
encoding_numbered number =
    if number == 0 then Some None
    else (if number == 1 then Some (Some utf8)
    else (if number == 2 then Some (Some utf16_little)
    else (if number == 3 then Some (Some utf16_big) else None)))

-- yaml_break_t; 0 asks for none
abbrev pub break_numbered : ℕ → Option (Option LineBreak)
break_numbered number =
    if number == 0 then Some None
    else (if number == 1 then Some (Some carriage_return_break)
    else (if number == 2 then Some (Some line_feed_break)
    else (if number == 3 then Some (Some both_break) else None)))

-- ---- directives

-- A directive, if both its texts have a reading.
abbrev pub directive_from : Option Text → Option Text → Option TagDirective
directive_from (Some handle) (Some prefix) = Some (record { handle = handle; prefix = prefix })
directive_from handle prefix = None

abbrev pub directive_recorded : List ℕ → DirectiveRecord → Option TagDirective
directive_recorded arena directive = directive_from (text_in_arena arena directive.handle) (text_in_arena arena directive.prefix)

-- The readings of an array's elements in order, if each has one.
abbrev pub all_read : {R E : Type 0} → (R → Option E) → List R → Option (List E)
all_read read [] = Some []
all_read read (first ∷ rest) = option_and_then (λ one. option_map (λ others. one ∷ others) (all_read read rest)) (read first)

abbrev pub directives_recorded : List ℕ → List DirectiveRecord → Option (List TagDirective)
directives_recorded arena directives = all_read (directive_recorded arena) directives

-- those of a span of the array
abbrev pub directives_at : List ℕ → List DirectiveRecord → Span → Option (List TagDirective)
directives_at arena directives span = option_and_then (directives_recorded arena) (part_of directives span)

-- The version, if the event has one.
abbrev pub version_recorded : EventRecord → Option Version
version_recorded event = if event.has_version == 0 then None else Some (record { major = event.major; minor = event.minor })

-- ---- one event

-- STREAM-START has the encoding for its style
abbrev pub stream_start_recorded : EventRecord → Option Event
stream_start_recorded event = option_map stream_start (encoding_numbered event.style)

abbrev pub document_start_recorded : List ℕ → List DirectiveRecord → EventRecord → Option Event
document_start_recorded arena directives event =
    option_map (λ all. document_start (record { version = version_recorded event; directives = all; implicit = is_on event.implicit }))
    (directives_at arena directives event.directives)

-- ALIAS has the name of the node for its anchor
abbrev pub alias_recorded : List ℕ → EventRecord → Option Event
alias_recorded arena event = option_map alias (text_in_arena arena event.anchor)

-- A scalar, with the flags and the style that keep its tag if that is asked for.
abbrev pub typed_where : (typed : Bool) → Scalar → Scalar
typed_where true content = typed_scalar content
typed_where false content = content

-- A scalar, if its style and its texts have a reading.
abbrev pub scalar_with_texts : Option ScalarStyle → (plain_implicit quoted_implicit typed : Bool) → Option (Option Text) → Option (Option Text) → Option Text
    → Option Event
scalar_with_texts (Some style) plain_implicit quoted_implicit typed (Some anchor) (Some tag) (Some value) =
    Some
    (scalar
    (typed_where typed
    (record {
      anchor = anchor;
      tag = tag;
      value = value;
      plain_implicit = plain_implicit;
      quoted_implicit = quoted_implicit;
      style = style;
    })))
scalar_with_texts style plain_implicit quoted_implicit typed anchor tag value = None

abbrev pub scalar_recorded : List ℕ → EventRecord → Option Event
scalar_recorded arena event =
    scalar_with_texts (scalar_style_numbered event.style) (is_on event.implicit) (is_on event.quoted_implicit) (is_on event.typed)
    (optional_text_at arena event.has_anchor event.anchor) (optional_text_at arena event.has_tag event.tag) (text_in_arena arena event.value)

-- The start of a collection, if its style and its texts have a reading.
abbrev pub collection_from : Option CollectionStyle → (implicit : Bool) → Option (Option Text) → Option (Option Text) → Option Collection
collection_from (Some style) implicit (Some anchor) (Some tag) =
    Some (record { anchor = anchor; tag = tag; implicit = implicit; style = style })
collection_from style implicit anchor tag = None

abbrev pub collection_recorded : List ℕ → EventRecord → Option Collection
collection_recorded arena event =
    collection_from (collection_style_numbered event.style) (is_on event.implicit) (optional_text_at arena event.has_anchor event.anchor)
    (optional_text_at arena event.has_tag event.tag)

-- The event of a kind of yaml_event_type_t; `None` for another kind, or if the style or a text has no reading.
abbrev pub event_recorded : List ℕ → List DirectiveRecord → EventRecord → Option Event
event_recorded arena directives event =
    if event.kind == 1 then stream_start_recorded event
    else (if event.kind == 2 then Some stream_end
    else (if event.kind == 3 then document_start_recorded arena directives event
    else (if event.kind == 4 then Some (document_end (is_on event.implicit))
    else (if event.kind == 5 then alias_recorded arena event
    else (if event.kind == 6 then scalar_recorded arena event
    else (if event.kind == 7 then option_map sequence_start (collection_recorded arena event)
    else (if event.kind == 8 then Some sequence_end
    else (if event.kind == 9 then option_map mapping_start (collection_recorded arena event)
    else (if event.kind == 10 then Some mapping_end else None)))))))))

-- ---- the array

-- an event of the array that has a reading, before the others
abbrev pub before_others : ℕ → Option Event → List Numbered → List Numbered
before_others number None others = []
before_others number (Some event) others = record { line = number; event = event } ∷ others

-- the events up to the first that has no reading, each with its number in the array, from this number on
abbrev pub events_from : ℕ → List ℕ → List DirectiveRecord → List EventRecord → List Numbered
events_from number arena directives [] = []
events_from number arena directives (first ∷ rest) =
    before_others number (event_recorded arena directives first) (events_from (suc number) arena directives rest)
