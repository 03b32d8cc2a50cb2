-- A walk over a value: what it has left to visit holds the values, the scalars and the depth that the value has left.
use Rattle.yaml_value.proofs.Common.{max, ℕ, suc, ◌+◌, ◌<◌, ◌≤◌, nat_le, length, List, [], map, ◌++◌, ◌∷◌, refl, ◌≡◌, append_assoc, ap, sym, subst, ◌∙◌, arith}
use Rattle.yaml_value.proofs.Common.{map-append, nat_tests, TypedValue, int_value, text_value, TypedValues, list_value, TypedPairs}
use Rattle.yaml_value.proofs.Common.{map_value, no_values, values_and, no_value_pairs, value_pairs_and, values_count, value_pairs_count, nesting}
use Rattle.yaml_value.proofs.Common.{values_nesting, value_pairs_nesting, values_of, pairs_of, seen_value, seen_values, seen_pairs}
use Rattle.yaml_base.proofs.Common.{append-nil, length-append, None, Option, Some, false}
use Rattle.yaml_base.specs.values.TypedValues.{value_count}
use Rattle.yaml_value.specs.{declared.value.Value.Value, declared.walk.Rest.Rest}
use Rattle.yaml_value.specs.Walk.{items_in, values_in, count_all, count_left, Left, Next, next_after, seen_flat, seen_rest, entered, split, stepped, stepped_by}
use Rattle.yaml_value.specs.WalkTexts.{IsOfProgram, StepIsOfProgram, HoldsOfProgram, HoldOfProgram, PairsHoldOfProgram}

-- ---- the values in a value

items_more : (before : TypedValues) (values : List TypedValue) → items_in (values_of before values) ≡ items_in before ++ values
items_more before [] = sym (append-nil (items_in before))
items_more before (value ∷ values) = items_more (values_and before value) values ∙ append_assoc (items_in before) (value ∷ []) values

pub items_seen : {A : Type 0} (items : List (Value A)) → items_in (seen_values items) ≡ map seen_value items
items_seen items = items_more no_values (map seen_value items)

abbrev seen_pair : {A : Type 0} → Value A × Value A → TypedValue × TypedValue
seen_pair pair = (seen_value pair.0, seen_value pair.1)

pairs_more : {A : Type 0} (before : TypedPairs) (pairs : List (Value A × Value A))
    → values_in (pairs_of before (map (seen_pair {A = A}) pairs)) ≡ values_in before ++ seen_flat pairs
pairs_more before [] = sym (append-nil (values_in before))
pairs_more {A} before (pair ∷ pairs) =
    pairs_more (value_pairs_and before (seen_value pair.0) (seen_value pair.1)) pairs
    ∙ append_assoc (values_in before) (seen_value pair.0 ∷ seen_value pair.1 ∷ []) (seen_flat pairs)

pub pairs_seen : {A : Type 0} (pairs : List (Value A × Value A)) → values_in (seen_pairs pairs) ≡ seen_flat pairs
pairs_seen pairs = pairs_more no_value_pairs pairs

-- ---- counts

count_all-append : (first second : List TypedValue) → count_all (first ++ second) ≡ count_all first + count_all second
count_all-append [] second = omega arith
count_all-append (value ∷ first) second = let rest = count_all-append first second in omega (arith, rest)

count_items : (items : TypedValues) → count_all (items_in items) ≡ values_count items
count_items no_values = refl
count_items (values_and items item) =
    omega (arith, count_items items, count_all-append (items_in items) (item ∷ []))

count_pairs : (pairs : TypedPairs) → count_all (values_in pairs) ≡ value_pairs_count pairs
count_pairs no_value_pairs = refl
count_pairs (value_pairs_and pairs key value) =
    omega (arith, count_pairs pairs, count_all-append (values_in pairs) (key ∷ value ∷ []))

pub count_left-append : (outer inner : List Left) → count_left (outer ++ inner) ≡ count_left outer + count_left inner
count_left-append [] inner = omega arith
count_left-append (left ∷ outer) inner = let rest = count_left-append outer inner in omega (arith, rest)

-- an entered value leaves all its values but itself
pub count_entered : (value : TypedValue) → 1 + count_left (entered value) ≡ value_count value
count_entered (list_value items) = omega (arith, count_items items)
count_entered (map_value pairs) = omega (arith, count_pairs pairs)
count_entered _ = refl

pub entered_one : (value : TypedValue) → length (entered value) ≤ 1
entered_one value = grind arith

-- ---- steps

-- the rest of a list or a map, innermost of others
abbrev with_left : List Left → List TypedValue → Next → List Left
with_left outer values next = outer ++ record { values = values; next = next } ∷ []

-- the result of a step
abbrev after_step : List Left → List TypedValue → Next → Option TypedValue × List Left
after_step outer values next = stepped outer (record { values = values; next = next })

-- the work that is left: each turn of a walk does some of it
abbrev pub work : List Left → ℕ
work levels = count_left levels + count_left levels + length levels

work_fewer : (outer : List Left) (values : List TypedValue) (next : Next) → work (after_step outer values next).1 < work (with_left outer values next)
work_fewer outer [] next =
    let counts = count_left-append outer (record { values = []; next = next } ∷ []) in
    let lengths = length-append outer (record { values = []; next = next } ∷ []) in
    omega (arith, counts, lengths)
work_fewer outer (value ∷ values) next =
    let counts = count_left-append outer (record { values = value ∷ values; next = next } ∷ []) in
    let lengths = length-append outer (record { values = value ∷ values; next = next } ∷ []) in
    let counts_after = count_left-append outer (record { values = values; next = next_after next } ∷ entered value) in
    let lengths_after = length-append outer (record { values = values; next = next_after next } ∷ entered value) in
    let inside = count_entered value in
    let one = entered_one value in
    omega (arith, counts, lengths, counts_after, lengths_after, inside, one)

-- the number of values that a step enters
abbrev pub counted_by : Option TypedValue → ℕ
counted_by None = 0
counted_by (Some value) = 1

counts_by : (outer : List Left) (values : List TypedValue) (next : Next)
    → counted_by (after_step outer values next).0 + count_left (after_step outer values next).1 ≡ count_left (with_left outer values next)
counts_by outer [] next = let before = count_left-append outer (record { values = []; next = next } ∷ []) in omega (arith, before)
counts_by outer (value ∷ values) next =
    let before = count_left-append outer (record { values = value ∷ values; next = next } ∷ []) in
    let after = count_left-append outer (record { values = values; next = next_after next } ∷ entered value) in
    let inside = count_entered value in
    omega (arith, before, after, inside)

-- a step counts the value that it enters
pub step_counts : (levels outer : List Left) (left : Left) (next : Option TypedValue) (after : List Left) → levels ≡ outer ++ left ∷ []
    → (next, after) ≡ stepped outer left → counted_by next + count_left after ≡ count_left levels
step_counts levels outer left next after is so =
    subst (λ levels. counted_by next + count_left after ≡ count_left levels) (sym is)
    (subst (λ (made : Option TypedValue × List Left). counted_by made.0 + count_left made.1 ≡ count_left (outer ++ left ∷ [])) (sym so)
    (counts_by outer left.values left.next))

-- ---- scalars

-- the scalars in some values are those of a program
abbrev AllOfProgram : List TypedValue → Type 0
AllOfProgram [] = Unit {0}
AllOfProgram (value ∷ values) = HoldsOfProgram value × AllOfProgram values

all-split : (first second : List TypedValue) → AllOfProgram (first ++ second) → AllOfProgram first × AllOfProgram second
all-split [] second holds = (tt, holds)
all-split (value ∷ first) second holds = let parts = all-split first second holds.1 in ((holds.0, parts.0), parts.1)

items_hold : (items : TypedValues) → AllOfProgram (items_in items) → HoldOfProgram items
items_hold no_values holds = tt
items_hold (values_and items item) holds = let parts = all-split (items_in items) (item ∷ []) holds in (items_hold items parts.0, parts.1.0)

fields_hold : (pairs : TypedPairs) → AllOfProgram (values_in pairs) → PairsHoldOfProgram pairs
fields_hold no_value_pairs holds = tt
fields_hold (value_pairs_and pairs key value) holds =
    let parts = all-split (values_in pairs) (key ∷ value ∷ []) holds in
    (fields_hold pairs parts.0, (parts.1.0, parts.1.1.0))

-- those of what is left do
abbrev pub LeftOfProgram : List Left → Type 0
LeftOfProgram [] = Unit {0}
LeftOfProgram (left ∷ inner) = AllOfProgram left.values × LeftOfProgram inner

left-append : (outer inner : List Left) → LeftOfProgram outer → LeftOfProgram inner → LeftOfProgram (outer ++ inner)
left-append [] inner before holds = holds
left-append (left ∷ outer) inner before holds = (before.0, left-append outer inner before.1 holds)

left-split : (outer inner : List Left) → LeftOfProgram (outer ++ inner) → LeftOfProgram outer × LeftOfProgram inner
left-split [] inner holds = (tt, holds)
left-split (left ∷ outer) inner holds = let parts = left-split outer inner holds.1 in ((holds.0, parts.0), parts.1)

pub holds_entered : (value : TypedValue) → IsOfProgram value → LeftOfProgram (entered value) → HoldsOfProgram value
holds_entered (list_value items) own holds = items_hold items holds.0
holds_entered (map_value pairs) own holds = fields_hold pairs holds.0
holds_entered (int_value n) own holds = own
holds_entered (text_value text) own holds = own
holds_entered _ own holds = tt

pub holds_by : (outer : List Left) (values : List TypedValue) (next : Next)
    → StepIsOfProgram (after_step outer values next).0 → LeftOfProgram (after_step outer values next).1 → LeftOfProgram (with_left outer values next)
holds_by outer [] next own holds = left-append outer (record { values = []; next = next } ∷ []) holds (tt, tt)
holds_by outer (value ∷ values) next own holds =
    let parts = left-split outer (record { values = values; next = next_after next } ∷ entered value) holds in
    left-append outer (record { values = value ∷ values; next = next } ∷ []) parts.0
    ((holds_entered value own parts.1.1, parts.1.0), tt)

-- ---- depth

-- how deep some values nest
abbrev deepest : List TypedValue → ℕ
deepest [] = 0
deepest (value ∷ values) = max (nesting value) (deepest values)

deepest-append : (first second : List TypedValue) → deepest (first ++ second) ≡ max (deepest first) (deepest second)
deepest-append [] second = omega arith
deepest-append (value ∷ first) second = let rest = deepest-append first second in omega (arith, rest)

items_deepest : (items : TypedValues) → deepest (items_in items) ≡ values_nesting items
items_deepest no_values = refl
items_deepest (values_and items item) =
    omega (arith, items_deepest items, deepest-append (items_in items) (item ∷ []))

fields_deepest : (pairs : TypedPairs) → deepest (values_in pairs) ≡ value_pairs_nesting pairs
fields_deepest no_value_pairs = refl
fields_deepest (value_pairs_and pairs key value) =
    omega (arith, fields_deepest pairs, deepest-append (values_in pairs) (key ∷ value ∷ []))

-- how deep what is left nests
abbrev pub deepest_left : List Left → ℕ
deepest_left [] = 0
deepest_left (left ∷ inner) = suc (max (deepest left.values) (deepest_left inner))

deepest_left-append : (outer inner : List Left) → deepest_left (outer ++ inner) ≡ max (deepest_left outer) (length outer + deepest_left inner)
deepest_left-append [] inner = omega arith
deepest_left-append (left ∷ outer) inner = let rest = deepest_left-append outer inner in omega (arith, rest)

pub deepest_entered : (value : TypedValue) → deepest_left (entered value) ≡ nesting value
deepest_entered (list_value items) = omega (arith, items_deepest items)
deepest_entered (map_value pairs) = omega (arith, fields_deepest pairs)
deepest_entered _ = refl

-- each level is one deeper
pub levels_deep : (levels : List Left) → length levels ≤ deepest_left levels
levels_deep [] = omega arith
levels_deep (left ∷ inner) = let rest = levels_deep inner in omega (arith, rest)

fits_by : (outer : List Left) (values : List TypedValue) (next : Next) (most : ℕ) → length outer < most
    → nat_le (deepest_left (after_step outer values next).1) most ≡ nat_le (deepest_left (with_left outer values next)) most
fits_by outer [] next most room =
    let before = deepest_left-append outer (record { values = []; next = next } ∷ []) in
    grind (arith, nat_tests, before, room)
fits_by outer (value ∷ values) next most room =
    let before = deepest_left-append outer (record { values = value ∷ values; next = next } ∷ []) in
    let after = deepest_left-append outer (record { values = values; next = next_after next } ∷ entered value) in
    let inside = deepest_entered value in
    ap (λ depth. nat_le depth most) (omega (arith, before, after, inside))

-- ---- walks

-- the rests in a list of a program, before one was taken off it
pub popped : {A : Type 0} (levels others : List (Rest A)) (rest : Rest A) → levels ≡ others ++ rest ∷ []
    → map (seen_rest {A = A}) levels ≡ map (seen_rest {A = A}) others ++ seen_rest rest ∷ []
popped {A} levels others rest is = ap (map (seen_rest {A = A})) is ∙ map-append (seen_rest {A = A}) others (rest ∷ [])

-- a step leaves less to do
pub step_smaller : (levels outer : List Left) (left : Left) (after : List Left) → levels ≡ outer ++ left ∷ [] → after ≡ (stepped outer left).1
    → work after < work levels
step_smaller levels outer left after is so =
    subst (λ levels. work after < work levels) (sym is)
    (subst (λ after. work after < work (outer ++ left ∷ [])) (sym so) (work_fewer outer left.values left.next))

-- a step leaves the others of a level, and the values in its first value
pub step_is : (outer pushed : List Left) (left rest : Left) (value : TypedValue) (after : List Left) → pushed ≡ outer ++ rest ∷ []
    → Some (value, rest) ≡ split left → after ≡ pushed ++ entered value → (Some value, after) ≡ stepped outer left
step_is outer pushed left rest value after put is so =
    ap (λ (levels : List Left). (Some value, levels))
    (so ∙ ap (λ levels. levels ++ entered value) put ∙ append_assoc outer (rest ∷ []) (entered value))
    ∙ ap (λ (parts : Option (TypedValue × Left)). stepped_by outer parts) is

pub step_ends : (outer : List Left) (left : Left) → None ≡ split left → (None, outer) ≡ stepped outer left
step_ends outer left is = ap (λ (parts : Option (TypedValue × Left)). stepped_by outer parts) is

-- a step leaves the depth that fits or doesn't
pub step_fits : (levels outer : List Left) (left : Left) (most : ℕ) → levels ≡ outer ++ left ∷ [] → length outer < most
    → nat_le (deepest_left (stepped outer left).1) most ≡ nat_le (deepest_left levels) most
step_fits levels outer left most is room =
    fits_by outer left.values left.next most room ∙ ap (λ levels. nat_le (deepest_left levels) most) (sym is)

-- if a step passes the depth, the value does
pub step_exceeds : (levels outer : List Left) (left : Left) (most : ℕ) → levels ≡ outer ++ left ∷ [] → length outer < most
    → most < length (stepped outer left).1 → nat_le (deepest_left levels) most ≡ false
step_exceeds levels outer left most is room passes =
    let deep = levels_deep (stepped outer left).1 in
    sym (step_fits levels outer left most is room) ∙ grind (arith, nat_tests, deep, passes)

-- a new list that a value was entered in
pub first_level : {A : Type 0} (empty levels : List (Rest A)) (value : TypedValue) → empty ≡ []
    → map (seen_rest {A = A}) levels ≡ map (seen_rest {A = A}) empty ++ entered value
    → map (seen_rest {A = A}) levels ≡ entered value
first_level {A} empty levels value none is = is ∙ ap (λ items. map (seen_rest {A = A}) items ++ entered value) none
