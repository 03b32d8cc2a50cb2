-- Lemmas by which crates that write whole values show that a value's events are an accepted list.
use Rattle.yaml_base.proofs.Common.{suc, zero, ℕ, ◌+◌, ◌-◌, ◌≤◌, count_by, Bool, cond, false, true, List, [], ◌++◌, ◌∷◌, ◌≡◌, subst, sym, ◌∙◌, arith}
use Rattle.yaml_base.proofs.Common.{and_from, list_all-append, sum_by-append, list_all, Event, begins_collection, ends_collection, is_sound, open_count}

-- ---- each event is in order

abbrev pub sound : Bool → List Event → Bool
sound canonical events = list_all (is_sound canonical) events

pub both_sound : (canonical : Bool) (first second : List Event) → sound canonical first ≡ true → sound canonical second ≡ true
    → sound canonical (first ++ second) ≡ true
both_sound canonical first second one other =
    list_all-append (is_sound canonical) first second ∙ and_from (sound canonical first) (sound canonical second) one other

-- ---- how many collections are open

-- the number of open collections after an event, by whether it begins one and whether it ends one
abbrev pub after_atoms : (begins ends : Bool) → ℕ → ℕ
after_atoms true ends now = suc now
after_atoms false true zero = zero
after_atoms false true (suc now) = now
after_atoms false false now = now

abbrev pub after_event : Event → ℕ → ℕ
after_event event now = after_atoms (begins_collection event) (ends_collection event) now

-- with `now` open before some events, at most `most` are open before and after each of them
abbrev pub Stays : (most now : ℕ) → List Event → Type 0
Stays most now [] = now ≤ most
Stays most now (event ∷ events) = (now ≤ most) × Stays most (after_event event now) events

stays_now : (most now : ℕ) (events : List Event) → Stays most now events → now ≤ most
stays_now most now [] h = h
stays_now most now (event ∷ events) h = h.0

one_more : (begins ends : Bool) (now others_begin others_end most : ℕ) → (after_atoms begins ends now + others_begin) - others_end ≤ most
    → (now + (cond begins 1 0 + others_begin)) - (cond ends 1 0 + others_end) ≤ most
one_more true true now b e most h = omega (arith, h)
one_more true false now b e most h = omega (arith, h)
one_more false true zero b e most h = omega (arith, h)
one_more false true (suc now) b e most h = omega (arith, h)
one_more false false now b e most h = omega (arith, h)

prefix_stays : (most now : ℕ) (prefix rest : List Event) → Stays most now (prefix ++ rest)
    → (now + count_by begins_collection prefix) - count_by ends_collection prefix ≤ most
prefix_stays most now [] rest h = let few = stays_now most now rest h in omega (arith, few)
prefix_stays most now (event ∷ prefix) rest h =
    let begun : count_by begins_collection (event ∷ prefix) ≡ (0 + cond (begins_collection event) 1 0) + count_by begins_collection prefix =
    sum_by-append (λ x. cond (begins_collection x) 1 0) (event ∷ []) prefix in
    let ended : count_by ends_collection (event ∷ prefix) ≡ (0 + cond (ends_collection event) 1 0) + count_by ends_collection prefix =
    sum_by-append (λ x. cond (ends_collection x) 1 0) (event ∷ []) prefix in
    let more = one_more (begins_collection event) (ends_collection event) now (count_by begins_collection prefix) (count_by ends_collection prefix) most
    (prefix_stays most (after_event event now) prefix rest h.1) in
    omega (arith, begun, ended, more)

-- no prefix leaves more than `most` open
pub few_open : (most : ℕ) (events prefix rest : List Event) → Stays most 0 events → prefix ++ rest ≡ events → open_count prefix ≤ most
few_open most events prefix rest stays is =
    let few = prefix_stays most 0 prefix rest (subst (Stays most 0) (sym is) stays) in omega (arith, few)
