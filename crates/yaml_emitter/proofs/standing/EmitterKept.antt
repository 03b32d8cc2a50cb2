-- The invariants of an emitter.
use Rattle.yaml_emitter.proofs.Common.{ℕ, ◌<◌, ◌≤◌, vec_len, vec_capacity, length, false, true, List, [], map, ◌++◌, ◌∷◌, refl, ◌≡◌, ap, sym, ◌∙◌, arith, Event}
use Rattle.yaml_emitter.proofs.Common.{length-map, map-append, scalar, seen_event, seen_events, state_of, IsEngine, is_head_ready, State}
use Rattle.yaml_emitter.proofs.Common.{MachineState, None, Bool, false≢true, is_ready, ◌==◌, ◌&&◌, ◌||◌, nat_lt, list_any, is_balanced, and_parts}
use Rattle.yaml_emitter.proofs.Common.{eqb-true, nonempty_prefixes, awaited, document_start, sequence_start, mapping_start}
use Rattle.yaml_base.proofs.ReadyLaws.{ready_stays}
use Rattle.yaml_base.specs.Event.{Collection, alias, any_layout, any_style, document_end, mapping_end, sequence_end, stream_end, stream_start}
use Rattle.yaml_emitter.specs.declared.kinds.EventKind.TheVariants.{StreamStart, StreamEnd, DocumentStart, DocumentEnd, Alias, Scalar}
use Rattle.yaml_emitter.specs.declared.kinds.EventKind.TheVariants.{SequenceStart, SequenceEnd, MappingStart, MappingEnd}
use Rattle.yaml_emitter.proofs.standing.StandingPromises.{held_few, most_few}
use Rattle.yaml_emitter.specs.{EmitsEvent.StillWait, EventKinds.kind_of, declared.kinds.EventKind.EventKind, declared.engine.Engine.TheInside.Inside}

-- If the first waiting event isn't ready, at most three wait.
pub waiting_few : {E : Type 0} (seen : E → Event) (xs : List E) → is_head_ready (map seen xs) ≡ false → length xs ≤ 3
waiting_few seen xs waits = omega (arith, held_few (map seen xs) waits, most_few (map seen xs), length-map xs seen)

-- There is room for one more.
pub room_left : {A : Type 0} (e : Inside A) → IsEngine e → vec_len e.queue < vec_capacity e.queue
room_left e kept =
    let few = waiting_few seen_event e.queue.items kept.waits in
    let room = kept.room in
    let ok = e.queue.ok in
    omega (arith, few, room, ok)

-- The view of a queue to which an event is appended.
pub seen_more : {E : Type 0} (seen : E → Event) (items pushed slice : List E) (x : E) → slice ≡ pushed → pushed ≡ items ++ x ∷ []
    → map seen slice ≡ map seen items ++ seen x ∷ []
seen_more seen items pushed slice x is grown = ap (map seen) (is ∙ grown) ∙ map-append seen items (x ∷ [])

-- There is an event of each kind.
no_collection : Collection
no_collection = record { anchor = None; tag = None; implicit = true; style = any_layout }

pub some_last : (kind : EventKind) → (last : Event) × (kind_of last ≡ kind)
some_last StreamStart = (stream_start None, refl)
some_last StreamEnd = (stream_end, refl)
some_last DocumentStart = (document_start (record { version = None; directives = []; implicit = true }), refl)
some_last DocumentEnd = (document_end true, refl)
some_last Alias = (alias [], refl)
some_last Scalar = (scalar (record { anchor = None; tag = None; value = []; plain_implicit = true; quoted_implicit = true; style = any_style }), refl)
some_last SequenceStart = (sequence_start no_collection, refl)
some_last SequenceEnd = (sequence_end, refl)
some_last MappingStart = (mapping_start no_collection, refl)
some_last MappingEnd = (mapping_end, refl)

-- Events that wait on with one more after them wait without it.
pub waits_without : (waiting : List Event) (last : Event) → StillWait waiting last → is_head_ready waiting ≡ false
waits_without [] last still = refl
waits_without (event ∷ rest) last still = by (is_ready event rest) refl
  where
    by : (b : Bool) → is_ready event rest ≡ b → b ≡ false
    by true e = absurd (false≢true (sym still ∙ ready_stays event rest (last ∷ []) e))
    by false e = refl

single_waits : (event : Event) → (awaited event == 0) ≡ false → is_head_ready (event ∷ []) ≡ false
single_waits (document_start start) more = refl
single_waits (sequence_start start) more = refl
single_waits (mapping_start start) more = refl
single_waits event more = cc

-- An event that can't be written is appended to the queue, and the first waiting event goes on waiting.
pub waits_behind : (waiting : List Event) (event : Event) → StillWait waiting event → (waiting ≡ [] → (awaited event == 0) ≡ false)
    → is_head_ready (waiting ++ event ∷ []) ≡ false
waits_behind [] event still more = single_waits event (more refl)
waits_behind (first ∷ rest) event still more = still

-- If it may not pass the queue, and none waits, it awaits others.
pub awaits_more : {E : Type 0} (seen : E → Event) (queue : List E) (awaits : Bool)
    → (length queue == 0 && awaits) ≡ false → map seen queue ≡ [] → awaits ≡ false
awaits_more seen [] awaits apart empty = apart
awaits_more seen (event ∷ rest) awaits apart empty = cc

no_pass : {E : Type 0} (seen : E → Event) (first : E) (rest : List E) (awaits : Bool) → (length (first ∷ rest) == 0 && awaits) ≡ true → ⊥
no_pass seen first rest awaits both =
    let parts = and_parts (length (first ∷ rest) == 0) awaits both in omega (arith, eqb-true (length (first ∷ rest)) 0 parts.0)

-- If it may, it awaits none, and none waits.
pub passes : {E : Type 0} (seen : E → Event) (queue : List E) (event : Event) → (length queue == 0 && awaited event == 0) ≡ true
    → (map seen queue ≡ []) × (is_head_ready (event ∷ []) ≡ true)
passes seen [] event both = (refl, ap (λ b. b || nat_lt (awaited event) 1 || list_any is_balanced (nonempty_prefixes (event ∷ []))) both)
passes seen (first ∷ rest) event both = absurd (no_pass seen first rest (awaited event == 0) both)

pub within_count : {E : Type 0} (seen : E → Event) (xs : List E) (count len : ℕ) → count ≤ length (map seen xs) → length xs ≡ len → count ≤ len
within_count seen xs count len within is = omega (arith, within, is, length-map xs seen)

pub has_output_inside : {A : Type 0} (e : Inside A) {seen : State} → state_of e ≡ seen → seen.has_output ≡ true → e.has_output ≡ true
has_output_inside e is output = ap (λ (s : State). s.has_output) is ∙ output

-- an emitter with an output may write
pub kept_emitting : {A : Type 0} (e after : Inside A) → e.has_output ≡ true → after.has_output ≡ e.has_output → 4 ≤ vec_capacity after.queue
    → is_head_ready (seen_events after.queue.items) ≡ false → IsEngine after
kept_emitting e after output same room waits =
    record {
      untouched = λ none. let wrong : true ≡ false = sym (same ∙ output) ∙ none in cc;
      begun = λ begun. same ∙ output;
      opened = λ opened. same ∙ output;
      room = room;
      waits = waits;
    }

pub kept_limited : {A : Type 0} (e : Inside A) (after : MachineState) → IsEngine e → IsEngine (record e { has_output = true; machine = after })
kept_limited e after kept = record { untouched = λ none. cc; begun = λ begun. refl; opened = λ opened. refl; room = kept.room; waits = kept.waits }
