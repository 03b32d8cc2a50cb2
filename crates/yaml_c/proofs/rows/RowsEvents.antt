-- Worked rows: the meaning of arrays of events and an arena.
use Rattle.yaml_c.proofs.Common.{ℕ, None, Some, pos, false, true, List, [], ◌∷◌, refl, ◌≡◌, event_recorded, events_from}
use Rattle.yaml_base.proofs.Common.{codes, literal, plain, flow, stream_start, stream_end, document_start, alias, scalar, sequence_start, utf8}
use Rattle.std.specs.{Char.encode_utf8, Str.chars, Str.is_utf8}
use Rattle.yaml_c.specs.{Arena.text_in_arena, Arena.optional_text_at, EventRecords.directives_at, declared.arena.Span.Span}
use Rattle.yaml_c.specs.{declared.records.DirectiveRecord.DirectiveRecord, declared.records.EventRecord.EventRecord}

-- "ab!x" and a byte that is in no UTF-8
abbrev arena : List ℕ
arena = 0x61 ∷ 0x62 ∷ 0x21 ∷ 0x78 ∷ 0xFF ∷ []

abbrev span : ℕ → ℕ → Span
span start length = record { start = start; length = length }

text_two : text_in_arena arena (span 0 2) ≡ Some (codes "ab")
unfolding chars is_utf8 encode_utf8
text_two = refl

text_none : text_in_arena arena (span 5 0) ≡ Some []
unfolding chars is_utf8 encode_utf8
text_none = refl

text_after_quote : text_in_arena arena (span 6 0) ≡ None
unfolding chars is_utf8 encode_utf8
text_after_quote = refl

text_past : text_in_arena arena (span 3 3) ≡ None
unfolding chars is_utf8 encode_utf8
text_past = refl

text_far : text_in_arena arena (span 18446744073709551615 18446744073709551615) ≡ None
unfolding chars is_utf8 encode_utf8
text_far = refl

text_bad : text_in_arena arena (span 3 2) ≡ None
unfolding chars is_utf8 encode_utf8
text_bad = refl

text_off : optional_text_at arena 0 (span 9 9) ≡ Some None
unfolding chars is_utf8 encode_utf8
text_off = refl

text_on : optional_text_at arena 7 (span 1 1) ≡ Some (Some (codes "b"))
unfolding chars is_utf8 encode_utf8
text_on = refl

text_on_bad : optional_text_at arena 1 (span 9 9) ≡ None
unfolding chars is_utf8 encode_utf8
text_on_bad = refl

-- an event of a kind and a style, whose flags are on, with the texts "a", "!x" and "ab"
abbrev event : ℕ → ℕ → EventRecord
event kind style =
    record {
      kind = kind;
      style = style;
      implicit = 1;
      quoted_implicit = 0;
      has_anchor = 1;
      has_tag = 2;
      has_version = 1;
      major = pos 1;
      minor = pos 2;
      typed = 0;
      anchor = span 0 1;
      tag = span 2 2;
      value = span 0 2;
      directives = span 1 1;
    }

-- the second directive shortens "ab" to "!"
abbrev directives : List DirectiveRecord
directives = record { handle = span 4 1; prefix = span 0 0 } ∷ record { handle = span 2 1; prefix = span 0 2 } ∷ []

starts_stream : event_recorded arena directives (event 1 1) ≡ Some (stream_start (Some utf8))
unfolding chars is_utf8 encode_utf8
starts_stream = refl

starts_document :
    event_recorded arena directives (event 3 99)
    ≡ Some
    (document_start
    (record {
      version = Some (record { major = pos 1; minor = pos 2 });
      directives = record { handle = codes "!"; prefix = codes "ab" } ∷ [];
      implicit = true;
    }))
unfolding chars is_utf8 encode_utf8
starts_document = refl

bad_directive : directives_at arena directives (span 0 2) ≡ None
unfolding chars is_utf8 encode_utf8
bad_directive = refl

no_directives : directives_at arena directives (span 2 0) ≡ Some []
unfolding chars is_utf8 encode_utf8
no_directives = refl

past_directives : directives_at arena directives (span 2 1) ≡ None
unfolding chars is_utf8 encode_utf8
past_directives = refl

is_alias : event_recorded arena directives (event 5 99) ≡ Some (alias (codes "a"))
unfolding chars is_utf8 encode_utf8
is_alias = refl

is_literal :
    event_recorded arena directives (event 6 4)
    ≡ Some
    (scalar
    (record {
      anchor = Some (codes "a");
      tag = Some (codes "!x");
      value = codes "ab";
      plain_implicit = true;
      quoted_implicit = false;
      style = literal;
    }))
unfolding chars is_utf8 encode_utf8
is_literal = refl

-- a scalar that keeps its tag: "ab" as a plain scalar doesn't have the tag "!x"
is_typed :
    event_recorded arena directives (record (event 6 1) { typed = 1 })
    ≡ Some
    (scalar
    (record {
      anchor = Some (codes "a");
      tag = Some (codes "!x");
      value = codes "ab";
      plain_implicit = false;
      quoted_implicit = false;
      style = plain;
    }))
unfolding chars is_utf8 encode_utf8
is_typed = refl

no_style : event_recorded arena directives (event 6 6) ≡ None
unfolding chars is_utf8 encode_utf8
no_style = refl

starts_flow :
    event_recorded arena directives (event 7 2)
    ≡ Some (sequence_start (record { anchor = Some (codes "a"); tag = Some (codes "!x"); implicit = true; style = flow }))
unfolding chars is_utf8 encode_utf8
starts_flow = refl

no_kind : event_recorded arena directives (event 0 0) ≡ None
unfolding chars is_utf8 encode_utf8
no_kind = refl

no_higher_kind : event_recorded arena directives (event 11 0) ≡ None
unfolding chars is_utf8 encode_utf8
no_higher_kind = refl

-- the second event has no reading, so that the third isn't read
stops_at_bad : events_from 0 arena directives (event 2 0 ∷ event 9 3 ∷ event 2 0 ∷ []) ≡ record { line = 0; event = stream_end } ∷ []
unfolding chars is_utf8 encode_utf8
stops_at_bad = refl

reads_all :
    events_from 5 arena directives (event 2 0 ∷ event 5 0 ∷ [])
    ≡ record { line = 5; event = stream_end } ∷ record { line = 6; event = alias (codes "a") } ∷ []
unfolding chars is_utf8 encode_utf8
reads_all = refl
