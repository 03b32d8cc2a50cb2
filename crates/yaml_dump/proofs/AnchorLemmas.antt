-- The nodes that a walk meets again, one more step at a time.
use Rattle.yaml_dump.proofs.Common.{suc, zero, ℕ, ◌+◌, ◌-◌, ◌<◌, ◌≤◌, ◌==◌, unwrap_or, option_map, Option, None, Some, nat_le, drop, length}
use Rattle.yaml_dump.proofs.Common.{slice_index_or as get_or, slice_set as set, take, Bool, cond, false, not, true, ◌&&◌, ◌||◌, List, [], map, ◌++◌, ◌∷◌, ◌≢◌}
use Rattle.yaml_dump.proofs.Common.{refl, ◌≡◌, length-append, length-set, get_or-set_other, get_or-set_same, append-nil, ap, subst, sym, ◌∙◌, arith}
use Rattle.yaml_dump.proofs.Common.{nat_tests, get_or-map, length-map, map-append, Step, meets_again, numbered_name, IsNumbered, is_numbered}
use Rattle.yaml_dump.proofs.Common.{replicate, anchor_of_place, HasPlaces, Places, step_number, seen_step}
use Rattle.yaml_base.proofs.Common.{nat_lt, filter_map-append, filter, filter_map, position, position_or_len, node_met_again, first_of_each, shared_nodes}
use Rattle.yaml_base.proofs.Common.{anchor_of}
use Rattle.std.proofs.lemmas.List.{get_or-replicate, length-replicate}
use Rattle.std.{proofs.Common.add-one, proofs.Math.Seq.take-append_seam, proofs.lemmas.List.take_more, proofs.lemmas.List.Elements.filter-append}
use Rattle.std.{proofs.lemmas.List.Folds.position_or_len_push, proofs.lemmas.List.Folds.list_all-map, proofs.lemmas.List.Sums.prefix_len-le-length}
use Rattle.std.{proofs.lemmas.List.Sums.AllPass-from_list_all, specs.List.cons_option}
use Rattle.yaml_base.proofs.SharedNodes.{has, has_first, has_position}
use Rattle.yaml_dump.specs.{Anchors.place_in, Events.StepIsPlaced}
use Rattle.yaml_dump.specs.{declared.steps.Step.TheVariants.MeetsAgain}
use Rattle.yaml_dump.specs.declared.steps.Step as declared

kept_once : (b c : Bool) (number : ℕ) → cond (not b) (number ∷ []) [] ≡ cond (b || false) [] (number ∷ [])
kept_once b c number = grind (arith, nat_tests)

always : (b : Bool) (number : ℕ) → [] ≡ cond (b || true) [] (number ∷ [])
always b number = grind (arith, nat_tests)

equal_either_way : (x y : ℕ) → (x == y) ≡ (y == x)
equal_either_way x y = grind (arith, nat_tests)

one_kept : (b : Bool) (number x : ℕ) → filter (λ other. not (other == x)) (cond b [] (number ∷ [])) ≡ cond (x == number || b) [] (number ∷ [])
one_kept b number x = grind (arith, nat_tests, always, kept_once, cond, equal_either_way)

-- one more number
pub first_of_more : (xs : List ℕ) (number : ℕ) → first_of_each (xs ++ number ∷ []) ≡ first_of_each xs ++ cond (has number xs) [] (number ∷ [])
first_of_more [] number = refl
first_of_more (x ∷ xs) number = grind (arith, nat_tests, filter, not, filter-append, first_of_each, cond, has, one_kept, first_of_more xs number)

-- a step that meets no node again changes nothing, and any other adds its node if it isn't there yet
pub shared_more : (walk : List Step) (number : ℕ)
    → shared_nodes (walk ++ meets_again number ∷ []) ≡ shared_nodes walk ++ cond (has number (shared_nodes walk)) [] (number ∷ [])
shared_more walk number = grind (arith, nat_tests, filter_map, node_met_again, first_of_each, filter_map-append, first_of_more, cond, has_first)

pub shared_same : (walk : List Step) (step : Step) → node_met_again step ≡ None → shared_nodes (walk ++ step ∷ []) ≡ shared_nodes walk
shared_same walk step x = grind (arith, nat_tests, first_of_each, filter_map-append, node_met_again, append-nil, filter_map)

-- every other step meets none again
pub meets_none : (step : declared.Step) → ((number : ℕ) → step ≢ MeetsAgain number) → node_met_again (seen_step step) ≡ None
meets_none step other = grind (arith, nat_tests)

-- ---- places

place_of_position : (b : Bool) (k : ℕ) → unwrap_or (option_map (λ place. place + 1) (cond b (Some k) None)) 0 ≡ cond b (k + 1) 0
place_of_position b k = grind (arith, nat_tests)

place_is : (xs : List ℕ) (number : ℕ)
    → place_in xs number ≡ cond (nat_lt (position_or_len (λ other. other == number) xs) (length xs)) (position_or_len (λ other. other == number) xs + 1) 0
place_is xs number = place_of_position (nat_lt (position_or_len (λ other. other == number) xs) (length xs)) (position_or_len (λ other. other == number) xs)

within : (number : ℕ) (xs : List ℕ) → position_or_len (λ other. other == number) xs ≤ length xs
within number xs = prefix_len-le-length (λ other. not (other == number)) xs

none_at : (b : Bool) (k : ℕ) → cond b (k + 1) 0 ≡ 0 → b ≡ false
none_at b k is = grind (arith, nat_tests)

some_at : (b : Bool) (k : ℕ) → cond b (k + 1) 0 ≢ 0 → b ≡ true
some_at b k is = grind (arith, nat_tests)

-- a number without a place isn't there, and one with a place is
pub not_there : (xs : List ℕ) (number : ℕ) → place_in xs number ≡ 0 → has number xs ≡ false
not_there xs number is = grind (arith, nat_tests, position_or_len, has_position, none_at, nat_lt, length, place_is)

pub is_there : (xs : List ℕ) (number : ℕ) → place_in xs number ≢ 0 → has number xs ≡ true
is_there xs number is = grind (arith, nat_tests, position_or_len, has_position, some_at, nat_lt, length, place_is)

new_at : (k l after whole : ℕ) (same : Bool) → k ≤ l → nat_lt k l ≡ false → after ≡ cond (k == l) (l + cond same 0 1) k → same ≡ true → whole ≡ l + 1
    → cond (nat_lt after whole) (after + 1) 0 ≡ l + 1
new_at k l after whole same in_it x is y long = grind (arith, nat_tests)

old_at : (k l after whole : ℕ) (same : Bool) → k ≤ l → after ≡ cond (k == l) (l + cond same 0 1) k → same ≡ false → whole ≡ l + 1
    → cond (nat_lt after whole) (after + 1) 0 ≡ cond (nat_lt k l) (k + 1) 0
old_at k l after whole same in_it is x long = grind (arith, nat_tests)

one_longer : (xs : List ℕ) (number : ℕ) → length (xs ++ number ∷ []) ≡ length xs + 1
one_longer xs number = length-append xs (number ∷ [])

-- a new number comes last
pub new_place : (xs : List ℕ) (number : ℕ) → has number xs ≡ false → place_in (xs ++ number ∷ []) number ≡ length xs + 1
new_place xs number none =
    place_is (xs ++ number ∷ []) number
    ∙ new_at (position_or_len (λ other. other == number) xs) (length xs) (position_or_len (λ other. other == number) (xs ++ number ∷ []))
    (length (xs ++ number ∷ [])) (number == number)
    (within number xs) (sym (has_position number xs) ∙ none) (position_or_len_push (λ other. other == number) xs number) (grind (arith, nat_tests))
    (one_longer xs number)

-- and leaves the others' places as they are
pub old_place : (xs : List ℕ) (number last : ℕ) → number ≢ last → place_in (xs ++ last ∷ []) number ≡ place_in xs number
old_place xs number last differs = grind (arith, nat_tests, place_is, old_at, position_or_len, length, position_or_len_push, one_longer)

-- a step that meets no node again gives none
pub other_step : (walk : List Step) (step : Step) (shared : ℕ) (places : List ℕ) → node_met_again step ≡ None → Places walk shared places
    → Places (walk ++ step ∷ []) shared places
other_step walk step shared places none before = grind (arith, nat_tests, shared_same, length, place_in)

-- nor does one that meets a node of a place
pub met_before : (walk : List Step) (met shared : ℕ) (places : List ℕ) → 1 ≤ met → met ≤ length places → get_or places (met - 1) 0 ≢ 0
    → Places walk shared places → Places (walk ++ meets_again met ∷ []) shared places
met_before walk met shared places first last is before =
    grind (arith, nat_tests, shared_nodes, has, is_there, shared_more, cond, append-nil, length, place_in, before.given.placed met first last)

-- before the walk no node has a place
pub none_placed : (count : ℕ) (places : List ℕ) → places ≡ replicate count 0 → Places [] 0 places
none_placed count places zeros = grind (arith, nat_tests, length, length-replicate, get_or, get_or-replicate)

-- each place, once a node has the next
one_placed : (same : Bool) (numbers places : List ℕ) (met shared number : ℕ) → (number == met) ≡ same → 1 ≤ met → met ≤ length places → 1 ≤ number
    → has met numbers ≡ false → shared ≡ length numbers → get_or places (number - 1) 0 ≡ place_in numbers number
    → get_or (set places (met - 1) (shared + 1)) (number - 1) 0 ≡ place_in (numbers ++ met ∷ []) number
one_placed same numbers places met shared number differs first last low x counted given =
    grind (arith, nat_tests, length, get_or-set_same, new_place, get_or-set_other, old_place)

-- a node without a place gets the next
pub met_first : (walk : List Step) (met shared : ℕ) (places : List ℕ) → 1 ≤ met → met ≤ length places → get_or places (met - 1) 0 ≡ 0
    → Places walk shared places
    → Places (walk ++ meets_again met ∷ []) (shared + 1) (set places (met - 1) (shared + 1))
met_first walk met shared places first last is before =
    let numbers = shared_nodes walk in
    let none : has met numbers ≡ false = not_there numbers met (sym (before.given.placed met first last) ∙ is) in
    let more : shared_nodes (walk ++ meets_again met ∷ []) ≡ numbers ++ met ∷ [] = shared_more walk met
    ∙ ap (λ (b : Bool). numbers ++ cond b [] (met ∷ [])) none in record {
      counted = ap (λ (n : ℕ). n + 1) before.counted ∙ sym (ap length more ∙ one_longer numbers met);
      given = record {
        placed = λ number low high.
            let inside : number ≤ length places = omega (arith, length-set places (met - 1) (shared + 1)) in
            one_placed (number == met) numbers places met shared number refl first last low none before.counted (before.given.placed number low inside)
            ∙ ap (λ (all : List ℕ). place_in all number) (sym more);
      };
    }

option_anchor : (found : Option ℕ)
    → option_map (λ place. numbered_name (place + 1)) found ≡ anchor_of_place (unwrap_or (option_map (λ place. place + 1) found) 0)
option_anchor found = grind (arith, nat_tests, add-one)

-- a node's anchor is that of its place
pub anchor_placed : (walk : List Step) (number : ℕ) → anchor_of walk number ≡ anchor_of_place (place_in (shared_nodes walk) number)
anchor_placed walk number = option_anchor (position (λ other. other == number) (shared_nodes walk))

-- ---- numbers

bounds : (count number : ℕ) → (nat_le 1 number && nat_le number count) ≡ true → (1 ≤ number) × (number ≤ count)
bounds count number is = grind (arith, nat_tests)

-- each step of a numbered walk is numbered
pub step_numbered : (walk : List declared.Step) (count index size : ℕ) (default : declared.Step) → is_numbered count (map seen_step walk) ≡ true
    → index < length walk → size ≡ count
    → IsNumbered size (seen_step (get_or walk index default))
step_numbered walk count index size default is inside same =
    let test = λ (step : Step). nat_le 1 (step_number step) && nat_le (step_number step) count in
    let each = AllPass-from_list_all (λ (step : declared.Step). test (seen_step step)) walk
    (sym (list_all-map test seen_step walk) ∙ is) index default inside in
    let both : (1 ≤ step_number (seen_step (get_or walk index default)))
    × (step_number (seen_step (get_or walk index default)) ≤ count) = bounds count (step_number (seen_step (get_or walk index default))) each in
    record { first = both.0; last = omega (arith, both.1) }

-- one more step of a walk
pub seen_more : (walk : List declared.Step) (index : ℕ) (default : declared.Step) → index < length walk
    → map seen_step (take (index + 1) walk) ≡ map seen_step (take index walk) ++ seen_step (get_or walk index default) ∷ []
seen_more walk index default inside = ap (map seen_step) (take_more walk index default inside)
    ∙ map-append seen_step (take index walk) (get_or walk index default ∷ [])

-- a slice that keeps its length is the whole slice
pub whole_slice : (len : ℕ) (written old : List ℕ) → len ≡ length written → take len (written ++ drop (length written) old) ≡ written
whole_slice len written old same = ap (λ (n : ℕ). take n (written ++ drop (length written) old)) same ∙ take-append_seam written (drop (length written) old)

-- ---- a node that a walk meets again is shared

has_behind : (first : Option ℕ) (number : ℕ) (rest : List ℕ) → has number rest ≡ true → has number (cons_option first rest) ≡ true
has_behind first number rest is = grind (arith, nat_tests)

has_met : (walk : List Step) (index number : ℕ) (default : Step) → index < length walk → get_or walk index default ≡ meets_again number
    → has number (filter_map node_met_again walk) ≡ true
has_met [] index number default inside is = absurd (omega arith)
has_met (step ∷ walk) zero number default inside is = grind (arith, nat_tests, has, filter_map, node_met_again)
has_met (step ∷ walk) (suc index) number default inside is =
    has_behind (node_met_again step) number (filter_map node_met_again walk) (has_met walk index number default (omega arith) is)

some_place : (b : Bool) (k : ℕ) → b ≡ true → 0 < cond b (k + 1) 0
some_place b k is = grind (arith, nat_tests)

has_place : (numbers : List ℕ) (number : ℕ) → has number numbers ≡ true → 0 < place_in numbers number
has_place numbers number is = grind (arith, nat_tests, position_or_len, place_is, some_place, nat_lt, length, has_position)

-- a node that is met again has a place
pub met_has_place : (walk : List Step) (index number : ℕ) (default : Step) → index < length walk → get_or walk index default ≡ meets_again number
    → 0 < place_in (shared_nodes walk) number
met_has_place walk index number default inside is = grind (arith, nat_tests, has_place, shared_nodes, has_first, filter_map, node_met_again, has_met)

-- each step of a walk is numbered, and its node has a rank if it is met again
pub step_placed : (walk : List declared.Step) (count index : ℕ) (places : List ℕ) (default : declared.Step) → is_numbered count (map seen_step walk) ≡ true
    → index < length walk → length places ≡ count → HasPlaces (map seen_step walk) places
    → StepIsPlaced places (seen_step (get_or walk index default))
step_placed walk count index places default is inside same has_places =
    let numbered = step_numbered walk count index (length places) default is inside same in record {
      numbered = numbered;
      shared = λ number again.
          let bounds = subst (λ step. IsNumbered (length places) step) again numbered in
          let within : index < length (map seen_step walk) = omega (arith, length-map walk seen_step) in
          let met : get_or (map seen_step walk) index (seen_step default)
          ≡ meets_again number = get_or-map seen_step walk index default (seen_step default) inside ∙ again in
          subst (λ (place : ℕ). 0 < place) (sym (has_places.placed number bounds.first bounds.last))
          (met_has_place (map seen_step walk) index number (seen_step default) within met);
    }
