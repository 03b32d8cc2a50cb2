-- Which events of a list are ready to be written (libyaml's own rule).
use Rattle.std.specs.Prelude.{ℕ, suc, ◌≡◌, ◌≤◌, ◌==◌, Bool, true, false, ◌||◌, List, [], ◌∷◌, ◌++◌, nat_lt, map, length, drop, count_by, if◌then◌else◌}
use Rattle.std.specs.List.{list_any}
use Rattle.yaml_base.specs.Event.{Event, stream_start, stream_end, document_start, document_end, sequence_start, sequence_end, mapping_start, mapping_end}
use Rattle.yaml_base.specs.Grammar.{Stream, stream_events}

-- true of an event that opens a stream, a document or a collection
abbrev pub is_start : Event → Bool
is_start (stream_start encoding) = true
is_start (document_start start) = true
is_start (sequence_start start) = true
is_start (mapping_start start) = true
is_start _ = false

-- true of an event that closes one
abbrev pub is_end : Event → Bool
is_end stream_end = true
is_end (document_end implicit) = true
is_end sequence_end = true
is_end mapping_end = true
is_end _ = false

-- the number of events that must follow an event before it is ready, if no end comes sooner
abbrev pub awaited : Event → ℕ
awaited (document_start start) = 1
awaited (sequence_start start) = 2
awaited (mapping_start start) = 3
awaited _ = 0

-- true if a list has as many starts as ends
abbrev pub is_balanced : List Event → Bool
is_balanced events = count_by is_start events == count_by is_end events

-- the nonempty prefixes of a list
abbrev pub nonempty_prefixes : List Event → List (List Event)
nonempty_prefixes [] = []
nonempty_prefixes (event ∷ rest) = (event ∷ []) ∷ map (λ prefix. event ∷ prefix) (nonempty_prefixes rest)

-- true if the first event of a list is ready: it awaits nothing, or more events are there than it awaits, or some nonempty prefix has as
-- many starts as ends
abbrev pub is_ready : Event → List Event → Bool
is_ready event rest =
    awaited event == 0 || nat_lt (awaited event) (length (event ∷ rest)) || list_any is_balanced (nonempty_prefixes (event ∷ rest))

-- the number of events of a list that are ready: those before the first that isn't
abbrev pub written : List Event → ℕ
written [] = 0
written (event ∷ rest) = if is_ready event rest then suc (written rest) else 0

-- the events of a list from the first that isn't ready
abbrev pub held_back : List Event → List Event
held_back events = drop (written events) events

-- as a list grows, no event that was ready waits again
abbrev pub ReadyStays : Type 0
ReadyStays = (events more : List Event) → written events ≤ written (events ++ more)

-- all events of a whole stream are ready
abbrev pub WholeStreamIsReady : Type 0
WholeStreamIsReady = (stream : Stream) → written (stream_events stream) ≡ length (stream_events stream)
