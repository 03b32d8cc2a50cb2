-- Which of the events that wait are ready with one more.
use Rattle.yaml_emitter.proofs.Common.{ℕ, ◌+◌, ◌<◌, ◌==◌, suc, zero, nat_lt, ◌||◌, ◌&&◌, drop, length, length-map, map, slice_index_or as get_or}
use Rattle.yaml_emitter.proofs.Common.{Bool, false, true, List, [], ◌++◌, ◌∷◌, refl, ◌≡◌, length-append, and_parts, ap, sym, ◌∙◌, list_any, Event, Scalar}
use Rattle.yaml_emitter.proofs.Common.{scalar, awaited, is_balanced, nonempty_prefixes, is_head_ready, false≢true}
use Rattle.yaml_emitter.proofs.standing.WrittenPrefixes.{seen_from}
use Rattle.yaml_emitter.proofs.Common.{Err, Ok, subst, drop-drop, closes_at_once, Processed, ProcessedFirst, HasReached, ReachedOn, MachineState}
use Rattle.yaml_base.specs.declared.errors.{yaml_error_t.yaml_error_t}
use Rattle.yaml_emitter.proofs.standing.Emitting.{reached_on, took_failed, took_next}
use Rattle.yaml_emitter.specs.{EmitsEvent.StillWait, StandsAfter.FailedReady, Queue.are_ready_by_one_more}

pub or_middle : (a b c : Bool) → b ≡ true → a || b || c ≡ true
or_middle true b c h = refl
or_middle false b c h = ap (λ (x : Bool). x || c) h

-- The first event is ready, if one more makes all ready.
pub head_becomes_ready : (waiting : List Event) (next : Scalar) → are_ready_by_one_more waiting ≡ true → is_head_ready (waiting ++ scalar next ∷ []) ≡ true
head_becomes_ready [] next h = refl
head_becomes_ready (event ∷ rest) next h =
    let all = event ∷ (rest ++ scalar next ∷ []) in
    let long : length all ≡ length (event ∷ rest) + 1 = length-append (event ∷ rest) (scalar next ∷ []) in
    or_middle (awaited event == 0) (nat_lt (awaited event) (length all)) (list_any is_balanced (nonempty_prefixes all))
    (ap (nat_lt (awaited event)) long
    ∙ (and_parts (nat_lt (awaited event) (length (event ∷ rest) + 1)) (are_ready_by_one_more rest) h).0)

-- The events after the first ones are ready with one more, too.
ready_behind : (n : ℕ) (waiting : List Event) → are_ready_by_one_more waiting ≡ true → are_ready_by_one_more (drop n waiting) ≡ true
ready_behind zero waiting h = h
ready_behind (suc n) [] h = refl
ready_behind (suc n) (event ∷ rest) h = ready_behind n rest (and_parts (nat_lt (awaited event) (length (event ∷ rest) + 1)) (are_ready_by_one_more rest) h).1

-- If a scalar after them makes all ready, none waits on.
pub none_waits_on : (n : ℕ) (waiting : List Event) (next : Scalar) → are_ready_by_one_more waiting ≡ true → StillWait (drop n waiting) (scalar next)
    → drop n waiting ≡ []
none_waits_on n waiting next h still = by (drop n waiting) (ready_behind n waiting h) still
  where
    by : (left : List Event) → are_ready_by_one_more left ≡ true → StillWait left (scalar next) → left ≡ []
    by [] ready still = refl
    by (event ∷ rest) ready still = absurd (false≢true (sym still ∙ head_becomes_ready (event ∷ rest) next ready))

-- Looking at one event of a queue.
pub ready_from : {E : Type 0} (seen : E → Event) (xs : List E) (i : ℕ) (x : E) → i < length xs → x ≡ get_or xs i x
    → are_ready_by_one_more (map seen (drop i xs))
    ≡ (nat_lt (awaited (seen x)) (length (drop i xs) + 1) && are_ready_by_one_more (map seen (drop (i + 1) xs)))
ready_from seen xs i x within at =
    let is = seen_from seen xs i x within at in
    let long : length (seen x ∷ map seen (drop (i + 1) xs)) ≡ length (drop i xs) = sym (ap length is) ∙ length-map (drop i xs) seen in
    ap are_ready_by_one_more is
    ∙ ap (λ (n : ℕ). nat_lt (awaited (seen x)) (n + 1) && are_ready_by_one_more (map seen (drop (i + 1) xs))) long

-- One event more of those that wait is written.
pub wrote_one_more : (waiting : List Event) (n : ℕ) (last event : Event) (rest : List Event) (before between after : MachineState)
    → ReachedOn (waiting ++ last ∷ []) before (drop n waiting ++ last ∷ []) between → drop n waiting ≡ event ∷ rest
    → is_head_ready (event ∷ (rest ++ last ∷ [])) ≡ true → Processed event (closes_at_once event (rest ++ last ∷ [])) between after (Ok tt)
    → ReachedOn (waiting ++ last ∷ []) before (drop (n + 1) waiting ++ last ∷ []) after
wrote_one_more waiting n last event rest before between after on split ready done =
    let behind = last ∷ [] in
    let left = event ∷ (rest ++ behind) in
    let took : ProcessedFirst left between after (Ok tt) = record { event = event; rest = rest ++ behind; waits = refl; done = done } in
    let here : drop n waiting ++ behind ≡ left = ap (λ (l : List Event). l ++ behind) split in
    let next : rest ++ behind ≡ drop (n + 1) waiting ++ behind =
    ap (λ (l : List Event). l ++ behind) (sym (ap (drop 1) split) ∙ drop-drop 1 n waiting) in
    reached_on (waiting ++ behind) left (drop (n + 1) waiting ++ behind) before between after
    (subst (λ (l : List Event). ReachedOn (waiting ++ behind) before l between) here on)
    (subst (λ (l : List Event). ReachedOn left between l after) next (took_next left between after took ready))

-- One of them failed.
pub failed_one_more : (waiting : List Event) (n : ℕ) (last event : Event) (rest : List Event) (before between after : MachineState) (error : yaml_error_t)
    → ReachedOn (waiting ++ last ∷ []) before (drop n waiting ++ last ∷ []) between → drop n waiting ≡ event ∷ rest
    → is_head_ready (event ∷ (rest ++ last ∷ [])) ≡ true → Processed event (closes_at_once event (rest ++ last ∷ [])) between after (Err error)
    → FailedReady (waiting ++ last ∷ []) error before after
failed_one_more waiting n last event rest before between after error on split ready done given all prefix reached =
    let left = event ∷ (rest ++ last ∷ []) in
    let took : ProcessedFirst left between after (Err error) = record { event = event; rest = rest ++ last ∷ []; waits = refl; done = done } in
    let at = on given all prefix reached in
    took_failed left between after error took ready given all at.0
    (subst (λ (l : List Event). HasReached given all at.0 (l ++ last ∷ []) between) split at.1)
