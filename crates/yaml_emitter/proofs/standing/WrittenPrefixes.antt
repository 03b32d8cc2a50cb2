-- A balanced prefix of a list, found by counting along.
use Rattle.yaml_emitter.proofs.Common.{ℕ, suc, zero, ◌+◌, ◌<◌, ◌==◌, count_by, drop, length, slice_index_or as get_or, Bool, cond, false, true, ◌||◌, ◌&&◌, []}
use Rattle.yaml_emitter.proofs.Common.{List, map, ◌∷◌, ◌++◌, refl, ◌≡◌, drop-cons, ap, sym, ◌∙◌, zero-add, add-one, arith, ne_eqb, list_any, Event, stream_end}
use Rattle.yaml_emitter.proofs.Common.{document_start, sequence_start, mapping_start, awaited, is_balanced, nonempty_prefixes, Some, if◌then◌else◌, option_map}
use Rattle.std.proofs.{Common.eq-eqb, Common.add-zero, Common.add_assoc, lemmas.List.Sums.sum_by-cons}
use Rattle.std.specs.Prelude.{◌≤◌, unwrap_or}
use Rattle.yaml_emitter.specs.Queue.{checked_pred, open_behind}
use Rattle.yaml_base.specs.Ready.{is_start, is_end}

abbrev count_of : Bool → ℕ
count_of b = cond b 1 0

-- true if some prefix of the list, after these numbers of starts and ends, has as many starts as ends
abbrev closes_after : ℕ → ℕ → List Event → Bool
closes_after starts ends [] = false
closes_after starts ends (event ∷ rest) =
    ((starts + count_of (is_start event)) == (ends + count_of (is_end event)))
    || closes_after (starts + count_of (is_start event)) (ends + count_of (is_end event)) rest

abbrev balanced_after : ℕ → ℕ → List Event → Bool
balanced_after starts ends events = (starts + count_by is_start events) == (ends + count_by is_end events)

list_any-map : {X Y : Type 0} (p : X → Bool) (f : Y → X) (ys : List Y) → list_any p (map f ys) ≡ list_any (λ y. p (f y)) ys
list_any-map p f [] = refl
list_any-map p f (y ∷ ys) = ap (λ b. p (f y) || b) (list_any-map p f ys)

list_any_same : {X : Type 0} (p q : X → Bool) → ((x : X) → p x ≡ q x) → (xs : List X) → list_any p xs ≡ list_any q xs
list_any_same p q same [] = refl
list_any_same p q same (x ∷ xs) = ap (λ b. b || list_any p xs) (same x) ∙ ap (λ b. q x || b) (list_any_same p q same xs)

-- one event more before a prefix
balanced_after-cons :
    (starts ends : ℕ) (event : Event) (prefix : List Event)
    → balanced_after starts ends (event ∷ prefix)
    ≡ balanced_after (starts + count_of (is_start event)) (ends + count_of (is_end event)) prefix
balanced_after-cons starts ends event prefix =
    let s : starts + count_by is_start (event ∷ prefix) ≡ (starts + count_of (is_start event)) + count_by is_start prefix =
    ap (λ n. starts + n) (sum_by-cons (λ x. cond (is_start x) 1 0) event prefix)
    ∙ sym (add_assoc starts (count_of (is_start event)) (count_by is_start prefix)) in
    let e : ends + count_by is_end (event ∷ prefix) ≡ (ends + count_of (is_end event)) + count_by is_end prefix =
    ap (λ n. ends + n) (sum_by-cons (λ x. cond (is_end x) 1 0) event prefix) ∙ sym (add_assoc ends (count_of (is_end event)) (count_by is_end prefix)) in
    ap (λ n. n == (ends + count_by is_end (event ∷ prefix))) s
    ∙ ap (λ n. ((starts + count_of (is_start event)) + count_by is_start prefix) == n) e

balanced_after-nothing : (starts ends : ℕ) → balanced_after starts ends [] ≡ (starts == ends)
balanced_after-nothing starts ends = ap (λ n. n == (ends + 0)) (add-zero starts) ∙ ap (λ n. starts == n) (add-zero ends)

closes_after-nonempty_prefixes :
    (starts ends : ℕ) (events : List Event)
    → list_any (balanced_after starts ends) (nonempty_prefixes events) ≡ closes_after starts ends events
closes_after-nonempty_prefixes starts ends [] = refl
closes_after-nonempty_prefixes starts ends (event ∷ rest) =
    let s = starts + count_of (is_start event) in
    let e = ends + count_of (is_end event) in
    ap (λ b. balanced_after starts ends (event ∷ []) || b)
    (list_any-map (balanced_after starts ends) (λ prefix. event ∷ prefix) (nonempty_prefixes rest)
    ∙ list_any_same (λ prefix. balanced_after starts ends (event ∷ prefix)) (balanced_after s e) (balanced_after-cons starts ends event)
    (nonempty_prefixes rest)
    ∙ closes_after-nonempty_prefixes s e rest)
    ∙ ap (λ b. b || closes_after s e rest) (balanced_after-cons starts ends event [] ∙ balanced_after-nothing s e)

-- counting from nothing tells whether some prefix is balanced
closes_after-none : (events : List Event) → list_any is_balanced (nonempty_prefixes events) ≡ closes_after 0 0 events
closes_after-none events = list_any_same is_balanced (balanced_after 0 0) from_none (nonempty_prefixes events) ∙ closes_after-nonempty_prefixes 0 0 events
  where
    from_none : (prefix : List Event) → is_balanced prefix ≡ balanced_after 0 0 prefix
    from_none prefix =
        ap (λ n. n == count_by is_end prefix) (sym (zero-add (count_by is_start prefix)))
        ∙ ap (λ n. (0 + count_by is_start prefix) == n) (sym (zero-add (count_by is_end prefix)))

-- a list seen from an element on
pub seen_from : {E : Type 0} (seen : E → Event) (xs : List E) (i : ℕ) (x : E) → i < length xs → x ≡ get_or xs i x
    → map seen (drop i xs) ≡ seen x ∷ map seen (drop (i + 1) xs)
seen_from seen xs i x within at =
    let here : drop i xs ≡ get_or xs i x ∷ drop (i + 1) xs = rw add-one (drop-cons xs i x within) in
    ap (map seen) here ∙ ap (λ y. seen y ∷ map seen (drop (i + 1) xs)) (sym at)

-- no event is both a start and an end
apart : (event : Event) → (is_start event && is_end event) ≡ false
apart stream_end = refl
apart event = refl

-- true if some event ends the part that was started before, within which `depth` are open
abbrev pub closed_by : (depth : ℕ) → List Event → Bool
closed_by depth [] = false
closed_by depth (event ∷ rest) = unwrap_or (option_map (λ more. closed_by more rest) (open_behind depth event)) true

closed_step : (rest : List Event) (depth starts ends : ℕ) → starts ≡ suc (depth + ends)
    → ((depth starts ends : ℕ) → starts ≡ suc (depth + ends) → closes_after starts ends rest ≡ closed_by depth rest)
    → (s t : Bool) → (s && t) ≡ false
    → (((starts + count_of s) == (ends + count_of t)) || closes_after (starts + count_of s) (ends + count_of t) rest)
    ≡ unwrap_or (option_map (λ more. closed_by more rest) (if s then Some (depth + 1) else (if t then checked_pred depth else Some depth))) true
closed_step rest depth starts ends e later true true h = cc
closed_step rest depth starts ends e later true false h =
    ap (λ b. b || closes_after (starts + 1) (ends + 0) rest) (ne_eqb (starts + 1) (ends + 0) (λ same. omega (arith, e, same)))
    ∙ later (depth + 1) (starts + 1) (ends + 0) (omega (arith, e))
closed_step rest zero starts ends e later false true h =
    ap (λ b. b || closes_after (starts + 0) (ends + 1) rest) (eq-eqb (starts + 0) (ends + 1) (omega (arith, e)))
closed_step rest (suc depth) starts ends e later false true h =
    ap (λ b. b || closes_after (starts + 0) (ends + 1) rest) (ne_eqb (starts + 0) (ends + 1) (λ same. omega (arith, e, same)))
    ∙ later depth (starts + 0) (ends + 1) (omega (arith, e))
closed_step rest depth starts ends e later false false h =
    ap (λ b. b || closes_after (starts + 0) (ends + 0) rest) (ne_eqb (starts + 0) (ends + 0) (λ same. omega (arith, e, same)))
    ∙ later depth (starts + 0) (ends + 0) (omega (arith, e))

closed_is : (events : List Event) (depth starts ends : ℕ) → starts ≡ suc (depth + ends) → closes_after starts ends events ≡ closed_by depth events
closed_is [] depth starts ends e = refl
closed_is (event ∷ rest) depth starts ends e = closed_step rest depth starts ends e (closed_is rest) (is_start event) (is_end event) (apart event)

-- the part that a start begins is ended if the events after it end it
pub closed_start : (first : Event) (events : List Event) → is_start first ≡ true
    → list_any is_balanced (nonempty_prefixes (first ∷ events)) ≡ closed_by 0 events
closed_start first events starts =
    closes_after-none (first ∷ events)
    ∙ ap (λ s. ((0 + count_of s) == (0 + count_of (is_end first))) || closes_after (0 + count_of s) (0 + count_of (is_end first)) events) starts
    ∙ ap (λ t. ((0 + 1) == (0 + count_of t)) || closes_after (0 + 1) (0 + count_of t) events) (ap (λ s. s && is_end first) (sym starts) ∙ apart first)
    ∙ closed_is events 0 1 0 refl

-- looking at one event more
pub closed_from : {E : Type 0} (seen : E → Event) (xs : List E) (i : ℕ) (x : E) → i < length xs → x ≡ get_or xs i x → (depth : ℕ) (tail : List Event)
    → closed_by depth (map seen (drop i xs) ++ tail)
    ≡ unwrap_or (option_map (λ more. closed_by more (map seen (drop (i + 1) xs) ++ tail)) (open_behind depth (seen x))) true
closed_from seen xs i x within at depth tail = ap (λ l. closed_by depth (l ++ tail)) (seen_from seen xs i x within at)

-- the last event ends the part before it if nothing within that is open
pub closed_last : (depth : ℕ) (event : Event) → closed_by depth (event ∷ []) ≡ (is_end event && depth == 0)
closed_last depth event = by depth (is_start event) (is_end event) (apart event)
  where
    by : (depth : ℕ) (s t : Bool) → (s && t) ≡ false
        → unwrap_or (option_map (λ more. closed_by more []) (if s then Some (depth + 1) else (if t then checked_pred depth else Some depth))) true
        ≡ (t && depth == 0)
    by depth true true h = cc
    by depth true false h = refl
    by zero false true h = refl
    by (suc depth) false true h = sym (ne_eqb (suc depth) 0 (λ same. cc))
    by depth false false h = refl

-- one event opens one more at most
pub behind_few : (depth : ℕ) (event : Event) (more : ℕ) → open_behind depth event ≡ Some more → more ≤ depth + 1
behind_few depth event more is = by depth (is_start event) (is_end event) is
  where
    by : (depth : ℕ) (s t : Bool) → (if s then Some (depth + 1) else (if t then checked_pred depth else Some depth)) ≡ Some more → more ≤ depth + 1
    by depth true t is = let same : depth + 1 ≡ more = cc in omega (arith, same)
    by zero false true is = cc
    by (suc depth) false true is = let same : depth ≡ more = cc in omega (arith, same)
    by depth false false is = let same : depth ≡ more = cc in omega (arith, same)

-- an event that awaits others is a start
pub awaiting_starts : (event : Event) → (awaited event == 0) ≡ false → is_start event ≡ true
awaiting_starts (document_start start) waits = refl
awaiting_starts (sequence_start start) waits = refl
awaiting_starts (mapping_start start) waits = refl
awaiting_starts event waits = cc
