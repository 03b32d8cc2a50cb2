-- The end of a document and of its stream.
use Rattle.yaml_writer.proofs.Common.{ℕ, ◌<◌, ◌≤◌, is_some, Option, None, Some, length, Bool, false, true, ◌||◌, List, [], ◌++◌, ◌∷◌, refl, ◌≡◌, append_assoc}
use Rattle.yaml_writer.proofs.Common.{ap, ap₂, subst, sym, ◌∙◌, arith, nil_from_length, Text, Event, stream_end, document_end, IsAccepted, Settings, ends_last}
use Rattle.yaml_writer.proofs.Common.{IsRefusal, HasRoomAndMemory, Promised, StandsAfter, State, output_left, RefusesOne, IsUnfinishedBy, WriterState}
use Rattle.yaml_writer.proofs.Common.{closing_by, Result}
use Rattle.yaml_emitter.specs.{Emits.Emits, State.bytes_taken}
use Rattle.yaml_emitter.proofs.Common.{RefusedAt, ends_stream}
use Rattle.std.specs.Prelude.{unwrap_or, IsSome}
use Rattle.yaml_base.specs.declared.errors.yaml_error_t.{yaml_error_t}
use Rattle.yaml_writer.proofs.{MissingNodes.misses, Overflow.overflowed, Taken.taken_and_left}
use Rattle.yaml_writer.specs.Writing.{awaits_node, IsStream}

-- No node is awaited if there is neither an anchor nor a tag.
pub nothing_awaited : (writer : WriterState) → writer.anchor ≡ None → writer.tag ≡ None → awaits_node writer ≡ false
nothing_awaited writer anchor tag = ap₂ (λ (a t : Option Text). is_some a || is_some t) anchor tag

-- the event that was refused
pub refuses_one : (given : Settings) (all : List Event) (error : yaml_error_t) (state : State) → RefusedAt given all error state
    → RefusesOne given.canonical all error
refuses_one given all error state at = record {
  prefix = at.prefix;
  event = at.event;
  later = at.later;
  parts = at.parts;
  begins = at.begins;
  refusal = at.refusal;
}

-- an error stays when an event is given
pub error_kept : (before after : State) (event : Event) (error : yaml_error_t)
    → (IsSome before.error → after ≡ record before { events = before.events ++ event ∷ []; started = true })
    → before.error ≡ Some error → after.error ≡ Some error
error_kept before after event error kept is = ap (λ (s : State). s.error) (kept (ap is_some is)) ∙ is

pub same_error : (a b : yaml_error_t) → Some a ≡ Some b → a ≡ b
same_error a b is = ap (λ o. unwrap_or o a) is

-- The meaning of the number of events that wait.
pub some_waits : (count : ℕ) (held : List Event) → 0 < count → count ≡ length held → held ≡ [] → ⊥
some_waits count held some is none = let empty = ap length none in omega (arith, some, is, empty)

pub none_waits : (count : ℕ) (held : List Event) → count ≤ 0 → count ≡ length held → held ≡ []
none_waits count held none is = nil_from_length held (omega (arith, none, is))

-- What holds of the emitter's events after some were given holds of those before and these.
pub of_given : {before after : State} {events : List Event} {answer : Result (Unit {0}) yaml_error_t} (holds : Settings → List Event → Type 0)
    → Emits before events answer after → holds after.given after.events → holds before.given (before.events ++ events)
of_given {before} {after} {events} holds emits so =
    subst (λ (given : Settings). holds given (before.events ++ events)) emits.set.given
    (subst (λ (all : List Event). holds after.given all) emits.set.events so)

module _ (implicit : Bool) where
  -- The events that end the stream.
  abbrev closing : List Event
  closing = closing_by implicit

  -- a list to which the closing is added ends the stream
  closing_ends : (events : List Event) → ends_stream (events ++ closing) ≡ true
  closing_ends events =
      ap ends_stream (sym (append_assoc events (document_end implicit ∷ []) (stream_end ∷ []))) ∙ ends_last (events ++ document_end implicit ∷ [])

  -- without an error and an event that waits, the output is that of a stream
  stream_finished : (given : Settings) (all : List Event) (state : State) → Promised given (all ++ closing) state → state.error ≡ None → state.held ≡ []
      → IsStream given (all ++ closing) state.page.output
  stream_finished given all state promised none held =
      let room : HasRoomAndMemory state.error = subst HasRoomAndMemory (sym none) tt in
      let accepted = (promised.ends (closing_ends all) room).1 (none, held) in
      record { accepted = accepted; state = state; written = promised.whole none accepted; output = refl }

  -- If an event was refused, the events are no stream.
  refused_unaccepted : (given : Settings) (all : List Event) (error : yaml_error_t) (state : State) → Promised given (all ++ closing) state
      → state.error ≡ Some error → IsRefusal error → IsAccepted given.canonical (all ++ closing) → ⊥
  refused_unaccepted given all error state promised some refusal accepted =
      apart (sym ((promised.ends (closing_ends all) (subst HasRoomAndMemory (sym some) refusal)).0 accepted).0 ∙ some)
    where
      apart : None ≡ Some error → ⊥
      apart is = cc

  -- Nor are they if an event waits.
  pub waiting_unaccepted : (given : Settings) (all : List Event) (state : State) → Promised given (all ++ closing) state → state.error ≡ None
      → (state.held ≡ [] → ⊥) → IsAccepted given.canonical (all ++ closing) → ⊥
  waiting_unaccepted given all state promised none some accepted =
      some ((promised.ends (closing_ends all) (subst HasRoomAndMemory (sym none) tt)).0 accepted).1

  -- The meaning of an error of the emitter once document and stream were ended.
  pub failed_unfinished : (before after : State) (error : yaml_error_t) → ((earlier : yaml_error_t) → before.error ≡ Some earlier → after.error ≡ Some earlier)
      → StandsAfter before.given (before.events ++ closing) after → Promised before.given (before.events ++ closing) after
      → after.error ≡ Some error → IsUnfinishedBy implicit before error
  failed_unfinished before after error stays stands promised is = record {
    first = λ earlier was. same_error error earlier (sym is ∙ stays earlier was);
    full = λ full. overflowed before.given (before.events ++ closing) after stands.so (is ∙ ap (λ (e : yaml_error_t). Some e) full);
    refused = λ refusal.
        let one = refuses_one before.given (before.events ++ closing) error after (promised.refused error is refusal) in
        record {
          unaccepted = refused_unaccepted before.given before.events error after promised is refusal;
          named = one;
          missing = λ node.
              misses before.given.canonical (before.events ++ closing)
              (subst (RefusesOne before.given.canonical (before.events ++ closing)) node one);
        };
  }

  -- The bytes that were taken and those that are left then are the stream.
  pub rest_finished : (before after : State) → bytes_taken after ≡ bytes_taken before
      → Promised before.given (before.events ++ closing) after → after.error ≡ None → after.held ≡ []
      → IsStream before.given (before.events ++ closing) (bytes_taken before ++ output_left after.page)
  rest_finished before after taken promised none held =
      subst (IsStream before.given (before.events ++ closing))
      (sym (ap (λ (bytes : List ℕ). bytes ++ output_left after.page) (sym taken) ∙ taken_and_left after))
      (stream_finished before.given before.events after promised none held)
