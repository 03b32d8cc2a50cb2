-- That no name comes twice among the tokens of a value is that each object has it once.
use Rattle.yaml_json.proofs.Common.{suc, ℕ, ◌<◌, length, slice_index_or, List, [], ◌++◌, ◌∷◌, refl, ◌≡◌, append-nil, append_assoc, subst, sym, arith, Json}
use Rattle.yaml_json.proofs.Common.{Items, array, Members, object, no_items, item, no_members, member, Token, json_tokens, items_tokens, members_tokens}
use Rattle.yaml_json.proofs.Common.{IsNewName, names_after, NamesOnce, all_names_after, HasUniqueKeys}
use Rattle.yaml_base.proofs.Common.{⊤, All}
use Rattle.std.{specs.Prelude.◌≢◌, proofs.lemmas.List.Elements.All-nil, proofs.lemmas.List.Elements.All-cons, proofs.lemmas.List.Kept.AllPairs-cons}
use Rattle.json.specs.Strict.{keys, AreDistinct, ItemsHaveUniqueKeys, MembersHaveUniqueKeys}

-- some tokens, and then others
pub once_both : (levels : List (List (List ℕ))) (first second : List Token) → NamesOnce levels first → NamesOnce (all_names_after levels first) second
    → NamesOnce levels (first ++ second)
once_both levels [] second one other = other
once_both levels (token ∷ first) second one other = (one.0, once_both (names_after levels token) first second one.1 other)

pub once_first : (levels : List (List (List ℕ))) (first second : List Token) → NamesOnce levels (first ++ second) → NamesOnce levels first
once_first levels [] second once = tt
once_first levels (token ∷ first) second once = (once.0, once_first (names_after levels token) first second once.1)

pub once_second : (levels : List (List (List ℕ))) (first second : List Token) → NamesOnce levels (first ++ second)
    → NamesOnce (all_names_after levels first) second
once_second levels [] second once = once
once_second levels (token ∷ first) second once = once_second (names_after levels token) first second once.1

pub names_after_both : (levels : List (List (List ℕ))) (first second : List Token)
    → all_names_after levels (first ++ second) ≡ all_names_after (all_names_after levels first) second
names_after_both levels [] second = refl
names_after_both levels (token ∷ first) second = names_after_both (names_after levels token) first second

-- ---- the names of one object

-- each of these is new to those
abbrev AreNew : List (List ℕ) → List (List ℕ) → Type 0
AreNew names [] = ⊤
AreNew names (name ∷ more) = IsNewName names name × AreNew names more

new_to_none : (more : List (List ℕ)) → AreNew [] more
new_to_none [] = tt
new_to_none (name ∷ more) = (tt, new_to_none more)

-- a name differs from each of these
abbrev Differs : List ℕ → List (List ℕ) → Type 0
Differs name [] = ⊤
Differs name (next ∷ more) = (name ≢ next) × Differs name more

differ_from : (name : List ℕ) (names more : List (List ℕ)) → AreNew (name ∷ names) more → Differs name more
differ_from name names [] new = tt
differ_from name names (next ∷ more) new = (new.0.0, differ_from name names more new.1)

new_to_others : (name : List ℕ) (names more : List (List ℕ)) → AreNew (name ∷ names) more → AreNew names more
new_to_others name names [] new = tt
new_to_others name names (next ∷ more) new = (new.0.1, new_to_others name names more new.1)

new_to_both : (name : List ℕ) (names more : List (List ℕ)) → Differs name more → AreNew names more → AreNew (name ∷ names) more
new_to_both name names [] differ new = tt
new_to_both name names (next ∷ more) differ new = ((differ.0, new.0), new_to_both name names more differ.1 new.1)

-- as the toolchain says it
all_differ : (name : List ℕ) (more : List (List ℕ)) → Differs name more → All (λ other. name ≢ other) more
all_differ name [] differ = All-nil (λ other. name ≢ other)
all_differ name (next ∷ more) differ = All-cons (λ other. name ≢ other) next more differ.0 (all_differ name more differ.1)

distinct_nil : AreDistinct []
distinct_nil i j d less lesser = let never : ⊥ = omega (arith, lesser) in absurd never

distinct_more : (name : List ℕ) (more : List (List ℕ)) → Differs name more → AreDistinct more → AreDistinct (name ∷ more)
distinct_more name more differ distinct = AllPairs-cons (λ (a b : List ℕ). a ≢ b) name more (all_differ name more differ) distinct

differs_each : (name : List ℕ) (more : List (List ℕ)) → ((j : ℕ) (d : List ℕ) → j < length more → name ≢ slice_index_or more j d) → Differs name more
differs_each name [] each = tt
differs_each name (next ∷ more) each = (each 0 next (omega arith), differs_each name more (λ j d less. each (suc j) d (omega (arith, less))))

distinct_first : (name : List ℕ) (more : List (List ℕ)) → AreDistinct (name ∷ more) → Differs name more
distinct_first name more distinct = differs_each name more (λ j d less. distinct 0 (suc j) d (omega arith) (omega (arith, less)))

distinct_rest : (name : List ℕ) (more : List (List ℕ)) → AreDistinct (name ∷ more) → AreDistinct more
distinct_rest name more distinct i j d less lesser = distinct (suc i) (suc j) d (omega (arith, less)) (omega (arith, lesser))

-- ---- a value whose names come once has each once in its object

abbrev Levels : Type 0
Levels = List (List (List ℕ))

mutual
  once_value : (json : Json) (levels : Levels) (rest : List Token) → NamesOnce levels (json_tokens json ++ rest) → HasUniqueKeys json × NamesOnce levels rest
  once_value (array inner) levels rest once = once_items inner [] levels rest once.1
  once_value (object inner) levels rest once =
      let found = once_members inner [] levels rest once.1 in ((found.1, found.2), found.3)
  once_value _ levels rest once = (tt, once.1)

  once_items : (inner : Items) (names : List (List ℕ)) (levels : Levels) (rest : List Token) → NamesOnce (names ∷ levels) (items_tokens inner ++ rest)
      → ItemsHaveUniqueKeys inner × NamesOnce levels rest
  once_items no_items names levels rest once = (tt, once.1)
  once_items (item json more) names levels rest once =
      let one = once_value json (names ∷ levels) (items_tokens more ++ rest)
      (subst (NamesOnce (names ∷ levels)) (append_assoc (json_tokens json) (items_tokens more) rest) once) in
      let others = once_items more names levels rest one.1 in
      ((one.0, others.0), others.1)

  once_members : (inner : Members) (names : List (List ℕ)) (levels : Levels) (rest : List Token) → NamesOnce (names ∷ levels) (members_tokens inner ++ rest)
      → AreNew names (keys inner) × AreDistinct (keys inner) × MembersHaveUniqueKeys inner × NamesOnce levels rest
  once_members no_members names levels rest once = (tt, distinct_nil, tt, once.1)
  once_members (member name json more) names levels rest once =
      let one = once_value json ((name ∷ names) ∷ levels) (members_tokens more ++ rest)
      (subst (NamesOnce ((name ∷ names) ∷ levels)) (append_assoc (json_tokens json) (members_tokens more) rest) once.1) in
      let others = once_members more (name ∷ names) levels rest one.1 in (
        (once.0, new_to_others name names (keys more) others.0),
        distinct_more name (keys more) (differ_from name names (keys more) others.0) others.1,
        (one.0, others.2),
        others.3,
      )

-- ---- and the other way round

mutual
  value_once : (json : Json) (levels : Levels) (rest : List Token) → HasUniqueKeys json → NamesOnce levels rest → NamesOnce levels (json_tokens json ++ rest)
  value_once (array inner) levels rest unique once = (tt, items_once inner [] levels rest unique once)
  value_once (object inner) levels rest unique once = (tt, members_once inner [] levels rest (new_to_none (keys inner)) unique.0 unique.1 once)
  value_once _ levels rest unique once = (tt, once)

  items_once : (inner : Items) (names : List (List ℕ)) (levels : Levels) (rest : List Token) → ItemsHaveUniqueKeys inner → NamesOnce levels rest
      → NamesOnce (names ∷ levels) (items_tokens inner ++ rest)
  items_once no_items names levels rest unique once = (tt, once)
  items_once (item json more) names levels rest unique once =
      subst (NamesOnce (names ∷ levels)) (sym (append_assoc (json_tokens json) (items_tokens more) rest))
      (value_once json (names ∷ levels) (items_tokens more ++ rest) unique.0 (items_once more names levels rest unique.1 once))

  members_once : (inner : Members) (names : List (List ℕ)) (levels : Levels) (rest : List Token) → AreNew names (keys inner) → AreDistinct (keys inner)
      → MembersHaveUniqueKeys inner → NamesOnce levels rest → NamesOnce (names ∷ levels) (members_tokens inner ++ rest)
  members_once no_members names levels rest new distinct unique once = (tt, once)
  members_once (member name json more) names levels rest new distinct unique once = (
    new.0,
    subst (NamesOnce ((name ∷ names) ∷ levels)) (sym (append_assoc (json_tokens json) (members_tokens more) rest)) (value_once json ((name ∷ names) ∷ levels)
        (members_tokens more ++ rest) unique.0 (members_once more (name ∷ names) levels rest
        (new_to_both name names (keys more) (distinct_first name (keys more) distinct) new.1) (distinct_rest name (keys more) distinct) unique.1 once)),
  )

pub once_is_unique : (json : Json) (levels : Levels) → NamesOnce levels (json_tokens json) → HasUniqueKeys json
once_is_unique json levels once = (once_value json levels [] (subst (NamesOnce levels) (sym (append-nil (json_tokens json))) once)).0

pub unique_is_once : (json : Json) (levels : Levels) → HasUniqueKeys json → NamesOnce levels (json_tokens json)
unique_is_once json levels unique = subst (NamesOnce levels) (append-nil (json_tokens json)) (value_once json levels [] unique tt)
