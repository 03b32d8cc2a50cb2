-- The lists and sets that hold the names of the objects that are open.
use Rattle.yaml_json.proofs.Common.{bytes_eq-Decides, ap, arith, inl, inr, length-append, subst, sym, ◌∙◌, or_parts, list_any, bytes_eq, ◌<◌, ◌≤◌, ◌+◌, ◌⊎◌}
use Rattle.yaml_json.proofs.Common.{both_ways, ap₂, length-drop, take_all, AddsName, HaveNames, IsNewName, Bool, List, [], cond, drop, false, length, not, refl}
use Rattle.yaml_json.proofs.Common.{take, true, ℕ, ◌++◌, ◌-◌, ◌||◌, ◌∷◌, ◌≡◌}
use Rattle.yaml_base.proofs.Common.{or_cases, same_from_decides, slice_index_or as get_or}
use Rattle.std.{specs.BTreeSet.BTreeSet, specs.BTreeSet.Updates, specs.BTreeSet.contains_by, specs.Borrow.Bor, specs.Cmp.Lexicographic.slice_cmp}
use Rattle.std.{specs.List.slice_range, specs.Ordering.nat_cmp, specs.declared.cmp.Ordering.Ordering, proofs.lemmas.Bool.not-true, proofs.lemmas.Bool.not-false}
use Rattle.std.{proofs.lemmas.Bool.Decides.Decides-like, proofs.lemmas.Map.Text.is_eq-slice_cmp, proofs.Common.set, proofs.Math.Seq.get_or-append_seam}
use Rattle.std.{proofs.Math.Seq.set-append_seam, proofs.lemmas.List.Folds.list_any-append, proofs.lemmas.List.drop-append-le, proofs.lemmas.List.take-append-le}
use Rattle.yaml_json.specs.{HeldNames.HasNames, Names.outer_names, declared.names.Level.Level, declared.names.Names.Names}

-- A name is new if and only if it is none of those.
pub new_among : (names : List (List ℕ)) (name : List ℕ) → list_any (bytes_eq name) names ≡ false → IsNewName names name
new_among [] name none = tt
new_among (other ∷ names) name none =
    let both = or_parts (bytes_eq name other) (list_any (bytes_eq name) names) none in
    (λ same. both_ways (bytes_eq name other) both.0 ((bytes_eq-Decides name other).1 (sym same)), new_among names name both.1)

pub among_new : (names : List (List ℕ)) (name : List ℕ) → list_any (bytes_eq name) names ≡ true → IsNewName names name → ⊥
among_new [] name some new = cc
among_new (other ∷ names) name some new = elim (or_cases (bytes_eq name other) (list_any (bytes_eq name) names) some) [
  | inl first ↦ new.0 (sym ((bytes_eq-Decides name other).0 first))
  | inr later ↦ among_new names name later new.1
]

-- If none are kept, each is new.
pub adds_unkept : {A : Type 0} (names : List (List ℕ)) (levels : List (List (List ℕ))) (name : List ℕ) (held : Names A) → held.are_kept ≡ false
    → AddsName names levels name true held
adds_unkept names levels name held none = ((λ kept. cc), (λ new kept. cc), (λ is. cc))

-- ---- one level

abbrev Keys : Type 0
Keys = List (Bor (List ℕ))

abbrev Set : Type 0
Set = BTreeSet (Bor (List ℕ))

abbrev name_cmp : Bor (List ℕ) → Bor (List ℕ) → Ordering
name_cmp a b = slice_cmp nat_cmp a.now b.now

same_both_ways : (a b : List ℕ) → bytes_eq a b ≡ bytes_eq b a
same_both_ways a b =
    same_from_decides (bytes_eq a b) (bytes_eq b a) (bytes_eq-Decides a b)
    (Decides-like (bytes_eq b a) (λ same. sym same) (λ same. sym same) (bytes_eq-Decides b a))

-- a name more among those of the list, among those of the set, or one that was among both
or_again : (one all : Bool) → (one ≡ true → all ≡ true) → all ≡ (one || all)
or_again true all then = then refl
or_again false all then = refl

or_listed : (few one many all : Bool) → (few || many) ≡ all → ((few || (one || false)) || many) ≡ (one || all)
or_listed true true many all is = refl
or_listed true false many all is = is
or_listed false true many all is = refl
or_listed false false many all is = is

or_more : (few one many all : Bool) → (few || many) ≡ all → (few || cond one true many) ≡ (one || all)
or_more true true many all is = refl
or_more true false many all is = is
or_more false true many all is = refl
or_more false false many all is = is

module _ (few : Keys) (many : Set) (names : List (List ℕ)) (has : HasNames few many names) (key : Bor (List ℕ)) where
  abbrev listed : List ℕ → Bool
  listed name = list_any (λ k. bytes_eq k.now name) few

  abbrev in_set : List ℕ → Bool
  in_set name = contains_by (λ k. slice_cmp nat_cmp name k.now) many

  known : listed key.now ≡ true → list_any (bytes_eq key.now) names ≡ true
  known found = sym (has key.now) ∙ ap (λ (b : Bool). b || in_set key.now) found

  known_by_set : listed key.now ≡ false → list_any (bytes_eq key.now) names ≡ in_set key.now
  known_by_set none = sym (has key.now) ∙ ap (λ (b : Bool). b || in_set key.now) none

  has_again : listed key.now ≡ true → HasNames few many (key.now ∷ names)
  has_again found name =
      has name ∙ or_again (bytes_eq name key.now) (list_any (bytes_eq name) names)
      (λ same. subst (λ (n : List ℕ). list_any (bytes_eq n) names ≡ true) (sym ((bytes_eq-Decides name key.now).0 same)) (known found))

  has_listed : HasNames (few ++ key ∷ []) many (key.now ∷ names)
  has_listed name =
      ap (λ (b : Bool). b || in_set name) (list_any-append (λ k. bytes_eq k.now name) few (key ∷ []))
      ∙ ap (λ (b : Bool). (listed name || (b || false)) || in_set name) (same_both_ways key.now name)
      ∙ or_listed (listed name) (bytes_eq name key.now) (in_set name) (list_any (bytes_eq name) names) (has name)

  has_more : (later : Set) → Updates name_cmp many later key true → HasNames few later (key.now ∷ names)
  has_more later updates name =
      let at : Bor (List ℕ) = record { ref_ptr = key.ref_ptr; now = name } in
      ap (λ (b : Bool). listed name || b)
      (updates.0 at ∙ ap (λ (b : Bool). cond b true (in_set name)) (is_eq-slice_cmp key.now name ∙ same_both_ways key.now name))
      ∙ or_more (listed name) (bytes_eq name key.now) (in_set name) (list_any (bytes_eq name) names) (has name)

-- ---- the last of some levels

set_last : {A : Type 0} (levels init : List A) (last new : A) (n : ℕ) → levels ≡ init ++ last ∷ [] → n ≡ length levels
    → set levels (n - 1) new ≡ init ++ new ∷ []
set_last levels init last new n is long =
    let e : n - 1 ≡ length init = omega (arith, long, ap length is, length-append init (last ∷ [])) in
    ap₂ (λ all i. set all i new) is e ∙ set-append_seam init last [] new

last_of : {A : Type 0} (levels init : List A) (last d : A) (n : ℕ) → levels ≡ init ++ last ∷ [] → n ≡ length levels → get_or levels (n - 1) d ≡ last
last_of levels init last d n is long =
    let e : n - 1 ≡ length init = omega (arith, long, ap length is, length-append init (last ∷ [])) in
    ap₂ (λ all i. get_or all i d) is e ∙ get_or-append_seam init last [] d

none_in_empty : (keys : Keys) (p : Bor (List ℕ) → Bool) → length keys ≡ 0 → list_any p keys ≡ false
none_in_empty [] p none = refl
none_in_empty (key ∷ keys) p none = cc

-- a level more, without a name
pub entered : {A : Type 0} (few : Keys) (levels later : List (Level A)) (level : Level A) (outer : List (List (List ℕ))) → level.first ≡ length few
    → length level.many.keys ≡ 0 → later ≡ levels ++ level ∷ [] → HaveNames few levels outer → HaveNames few later ([] ∷ outer)
entered few levels later level outer first empty is have =
    let none_listed : length (drop level.first few) ≡ 0 = omega (arith, first, length-drop level.first few) in (
      levels,
      level,
      is,
      omega (arith, first),
      λ name. ap₂ (λ listed in_set. listed || in_set) (none_in_empty (drop level.first few) (λ key. bytes_eq key.now name) none_listed)
          (none_in_empty level.many.keys _ empty),
      subst (λ (keys : Keys). HaveNames keys levels outer) (sym (take_all level.first few (omega (arith, first)))) have,
    )

pub longer : {A : Type 0} (levels later : List A) (level : A) → later ≡ levels ++ level ∷ [] → length later ≡ length levels + 1
longer levels later level is = ap length is ∙ length-append levels (level ∷ [])

pub no_item : {A : Type 0} (items : List A) → length items ≡ 0 → items ≡ []
no_item [] none = refl
no_item (item ∷ items) none = cc

-- a list that ends with a level isn't empty
pub never_last : {A : Type 0} (init : List A) (last : A) (levels : List A) → levels ≡ init ++ last ∷ [] → (0 < length levels → false ≡ true) → ⊥
never_last init last levels is none =
    let no : false ≡ true = none (omega (arith, ap length is, length-append init (last ∷ []))) in
    cc

-- a level fewer
same_ends : {A : Type 0} (first second : List A) (x y : A) → first ++ x ∷ [] ≡ second ++ y ∷ [] → (first ≡ second) × (x ≡ y)
same_ends [] [] x y same = (refl, cc)
same_ends [] (b ∷ []) x y same = cc
same_ends [] (b ∷ c ∷ second) x y same = cc
same_ends (a ∷ []) [] x y same = cc
same_ends (a ∷ b ∷ first) [] x y same = cc
same_ends (a ∷ first) (b ∷ second) x y same =
    let head : a ≡ b = cc in
    let rest : first ++ x ∷ [] ≡ second ++ y ∷ [] = cc in
    let ends = same_ends first second x y rest in
    (ap₂ (λ h t. h ∷ t) head ends.0, ends.1)

none_left : {A : Type 0} (left : List A) (level : A) → [] ≡ left ++ level ∷ [] → ⊥
none_left [] level is = cc
none_left (first ∷ left) level is = cc

pub left : {A : Type 0} (few later : Keys) (levels before : List (Level A)) (level : Level A) (names : List (List (List ℕ)))
    → levels ≡ before ++ level ∷ [] → later ≡ take level.first few → HaveNames few levels names → HaveNames later before (outer_names names)
left few later levels before level [] is cut have = absurd (none_left before level (sym have ∙ is))
left few later levels before level (names ∷ outer) is cut have =
    let ends = same_ends have.0 before have.1 level (sym have.2 ∙ is) in
    subst (λ (keys : Keys). HaveNames keys before outer) (sym cut) (subst (λ (l : Level _). HaveNames (take l.first few) before outer) ends.1
    (subst (λ (ls : List (Level _)). HaveNames (take have.1.first few) ls outer) ends.0 have.5))

module _ {A : Type 0} (few : Keys) (levels : List (Level A)) (n : ℕ) (long : n ≡ length levels) (level : Level A) (at : level ≡ get_or levels (n - 1) level)
    (part : Keys) (part_is : part ≡ slice_range few level.first (length few)) (key : Bor (List ℕ)) (names : List (List ℕ))
    (outer : List (List (List ℕ))) (kept : Bool) (is_kept : kept ≡ true) (holds : kept ≡ true → HaveNames few levels (names ∷ outer)) where
  have : HaveNames few levels (names ∷ outer)
  have = holds is_kept

  inner : (level.first ≤ length few) × HasNames (drop level.first few) level.many names × HaveNames (take level.first few) have.0 outer
  inner =
      subst (λ (l : Level A). (l.first ≤ length few) × HasNames (drop l.first few) l.many names × HaveNames (take l.first few) have.0 outer)
      (sym (at ∙ last_of levels have.0 have.1 level n have.2 long)) (have.3, have.4, have.5)

  -- so its names begin within the list
  pub never_past : (listed : Keys) → listed ≡ few → (length listed < level.first) ⊎ (length listed < length listed) → ⊥
  never_past listed is (inl past) = omega (arith, past, inner.0, ap length is)
  never_past listed is (inr past) = omega (arith, past)

  cut : part ≡ drop level.first few
  cut = part_is ∙ take_all (length few - level.first) (drop level.first few) (omega (arith, length-drop level.first few))

  has : HasNames part level.many names
  has = subst (λ (keys : Keys). HasNames keys level.many names) (sym cut) inner.1

  have_more : (many : Set) → HasNames part many (key.now ∷ names)
      → HaveNames few (set levels (n - 1) (record { first = level.first; many = many })) ((key.now ∷ names) ∷ outer)
  have_more many has_more =
      let later : Level A = record { first = level.first; many = many } in (
        have.0,
        later,
        set_last levels have.0 have.1 later n have.2 long,
        inner.0,
        subst (λ (keys : Keys). HasNames keys many (key.now ∷ names)) cut has_more,
        inner.2,
      )

  -- The meaning of `AddsName`.
  abbrev Adds : Bool → Keys → List (Level A) → Type 0
  Adds new few_now levels_now =
      (kept ≡ true → HaveNames few_now levels_now ((key.now ∷ names) ∷ outer))
      × (new ≡ true → kept ≡ true → IsNewName names key.now) × (new ≡ false → (kept ≡ true) × (IsNewName names key.now → ⊥))

  -- the name is in the list
  pub adds_again : list_any (λ k. bytes_eq k.now key.now) part ≡ true → Adds false few (set levels (n - 1) level)
  adds_again found = (
    λ same. have_more level.many (has_again part level.many names has key found),
    (λ is. cc),
    λ is. (is_kept, among_new names key.now (known part level.many names has key found)),
  )

  module _ (none : list_any (λ k. bytes_eq k.now key.now) part ≡ false) where
    -- it is added to the list
    pub adds_listed : (few_now : Keys) → few_now ≡ few ++ key ∷ [] → length level.many.keys ≡ 0 → Adds true few_now (set levels (n - 1) level)
    adds_listed few_now is empty =
        let cut_now : part ++ key ∷ [] ≡ drop level.first few_now =
        ap (λ (keys : Keys). keys ++ key ∷ []) cut ∙ sym (drop-append-le level.first few (key ∷ []) inner.0) ∙ ap (drop level.first) (sym is) in
        let same_prefix : take level.first few ≡ take level.first few_now =
        sym (take-append-le level.first few (key ∷ []) inner.0) ∙ ap (take level.first) (sym is) in (
          λ same. (
            have.0,
            level,
            set_last levels have.0 have.1 level n have.2 long,
            omega (arith, inner.0, ap length is, length-append few (key ∷ [])),
            subst (λ (keys : Keys). HasNames keys level.many (key.now ∷ names)) cut_now (has_listed part level.many names has key),
            subst (λ (keys : Keys). HaveNames keys have.0 outer) same_prefix inner.2,
          ),
          λ new same. new_among names key.now (known_by_set part level.many names has key none ∙ none_in_empty level.many.keys _ empty),
          (λ is. cc),
        )

    -- or to the set
    pub adds_more : (many : Set) → Updates name_cmp level.many many key true → (new : Bool) → new ≡ not (contains_by (name_cmp key) level.many)
        → Adds new few (set levels (n - 1) (record { first = level.first; many = many }))
    adds_more many updates new added =
        let known_so : (b : Bool) → contains_by (name_cmp key) level.many ≡ b → list_any (bytes_eq key.now) names ≡ b =
        λ b is. known_by_set part level.many names has key none ∙ is in (
          λ same. have_more many (has_more part level.many names has key many updates),
          λ is same. new_among names key.now (known_so false (not-true (contains_by (name_cmp key) level.many) (sym added ∙ is))),
          λ is. (is_kept, among_new names key.now (known_so true (not-false (contains_by (name_cmp key) level.many) (sym added ∙ is)))),
        )
