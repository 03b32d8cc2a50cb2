-- The keys of a table and their index beside the keys and values as contracts see them.
use Rattle.toml_ordered.proofs.Common.{◌≡◌, ℕ, zero, suc, ◌+◌, ◌<◌, ◌≤◌, ◌==◌, ◌||◌, true, false, Bool, List, [], ◌∷◌, ◌++◌, length, drop, Option, Some, None}
use Rattle.toml_ordered.proofs.Common.{cond, string_bytes, bytes_eq, refl, sym, ap, subst, ◌∙◌, inl, inr, arith, set, get_or, TomlNode, TomlNodes, node_view}
use Rattle.toml_ordered.proofs.Common.{keys_view, HasKey, append, cases_Bool, eq-eqb, eqb-true, false≢true, bytes_eq-Decides, get_by_text}
use Rattle.std.{proofs.Common.nat_lt, proofs.Common.drop-cons, proofs.lemmas.Bool.Decides.nat_tests, specs.Map.update}
use Rattle.toml_ordered.{proofs.Trees.Entry, proofs.Trees.Places, specs.Data.counts, specs.Data.is_place, specs.Data.kept, specs.Data.nodes_from}
use Rattle.toml_ordered.{specs.Keys.entries_view, specs.Keys.IsFoundAt, specs.Keys.IsNoted, specs.Tables.get_node, specs.Tables.replace}

-- ---- a key that doesn't count, or is another

same_bytes : (k l : List ℕ) → bytes_eq k l ≡ true → k ≡ l
same_bytes k l e = (bytes_eq-Decides k l).0 e

bytes_same : (k : List ℕ) → bytes_eq k k ≡ true
bytes_same k = (bytes_eq-Decides k k).1 refl

passed_over : (b : Bool) (k l : List ℕ) (x : TomlNode) (ns : TomlNodes) → (b ≡ true → bytes_eq k l ≡ false) → get_node k (kept b l x ns) ≡ get_node k ns
passed_over false k l x ns other = refl
passed_over true k l x ns other = rw (other refl)

replaced_over : (b : Bool) (k l : List ℕ) (x y : TomlNode) (ns : TomlNodes) → (b ≡ true → bytes_eq k l ≡ false)
    → replace k y (kept b l x ns) ≡ kept b l x (replace k y ns)
replaced_over false k l x y ns other = refl
replaced_over true k l x y ns other = rw (other refl)

appended_over : (b : Bool) (k l : List ℕ) (x y : TomlNode) (ns : TomlNodes) → append (kept b l x ns) k y ≡ kept b l x (append ns k y)
appended_over false k l x y ns = refl
appended_over true k l x y ns = refl

none_here : (b : Bool) (k l : List ℕ) (x : TomlNode) (ns : TomlNodes) → get_node k (kept b l x ns) ≡ None → b ≡ true → bytes_eq k l ≡ false
none_here false k l x ns none live = absurd (false≢true live)
none_here true k l x ns none live = elim (cases_Bool (bytes_eq k l)) [
  | inl same ↦ absurd (some_none x (sym (ap (λ (b : Bool). cond b (Some x) (get_node k ns)) same) ∙ none))
  | inr other ↦ other
]
  where
    some_none : (y : TomlNode) → Some y ≡ None → ⊥
    some_none y e = cc

none_behind : (b : Bool) (k l : List ℕ) (x : TomlNode) (ns : TomlNodes) → get_node k (kept b l x ns) ≡ None → get_node k ns ≡ None
none_behind b k l x ns none = sym (passed_over b k l x ns (none_here b k l x ns none)) ∙ none

-- ---- a key that is there

-- what holds of a place holds of it from the first one on
from_first : (P : ℕ → Type 0) (at : ℕ) → P at → P (0 + at)
from_first P at holds = let start : at ≡ 0 + at = omega arith in subst P start holds

module _ (index : Places) (k : List ℕ) where
  -- a key that counts at this place isn't one that counts at no such place
  not_here : (n : ℕ) (l : List ℕ) → (bytes_eq k l ≡ true → counts index (n + 0) k ≡ false) → counts index n l ≡ true → bytes_eq k l ≡ false
  not_here n l none live = elim (cases_Bool (bytes_eq k l)) [
    | inl same ↦
        let zeroth : n + 0 ≡ n = omega arith in
        let away : counts index n k ≡ false = sym (ap (λ (m : ℕ). counts index m k) zeroth) ∙ none same in
        absurd (false≢true (sym away ∙ ap (counts index n) (same_bytes k l same) ∙ live))
    | inr other ↦ other
  ]

  live_here : (n : ℕ) (l : List ℕ) → counts index (n + 0) k ≡ true → bytes_eq k l ≡ true → counts index n l ≡ true
  live_here n l is same =
      let zeroth : n ≡ n + 0 = omega arith in
      ap (counts index n) (sym (same_bytes k l same)) ∙ ap (λ (m : ℕ). counts index m k) zeroth ∙ is

  -- the key counts at no place up to this one, from n on
  abbrev CountsNot : (n at : ℕ) → List Entry → Type 0
  CountsNot n at es = (before : ℕ) → before < at → HasKey k before es → counts index (n + before) k ≡ false

  counts_not_later : (n at : ℕ) (e : Entry) (es : List Entry) → CountsNot n (suc at) (e ∷ es) → CountsNot (suc n) at es
  counts_not_later n at e es none before less has =
      let next : suc n + before ≡ n + suc before = omega arith in
      ap (λ (m : ℕ). counts index m k) next ∙ none (suc before) (omega (arith, less)) has

  found_from : (n at : ℕ) (es : List Entry) (d : Entry) → counts index (n + at) k ≡ true → CountsNot n at es → HasKey k at es
      → get_node k (nodes_from index n (entries_view es)) ≡ Some (node_view (get_or es at d).1)
  found_from n at [] d is none has = absurd has
  found_from n zero (e ∷ es) d is none has =
      let here : counts index n (string_bytes e.0) ≡ true = live_here n (string_bytes e.0) is has in
      rw (here, has)
  found_from n (suc at) (e ∷ es) d is none has =
      let next : suc n + at ≡ n + suc at = omega arith in
      passed_over (counts index n (string_bytes e.0)) k (string_bytes e.0) (node_view e.1) (nodes_from index (suc n) (entries_view es))
      (not_here n (string_bytes e.0) (none 0 (omega arith)))
      ∙ found_from (suc n) at es d (ap (λ (m : ℕ). counts index m k) next ∙ is) (counts_not_later n at e es none) has

  written_from : (n at : ℕ) (es : List Entry) (d w : Entry) → counts index (n + at) k ≡ true → CountsNot n at es → HasKey k at es
      → w.0 ≡ (get_or es at d).0 → nodes_from index n (entries_view (set es at w)) ≡ replace k (node_view w.1) (nodes_from index n (entries_view es))
  written_from n at [] d w is none has same = absurd has
  written_from n zero (e ∷ es) d w is none has same =
      let here : counts index n (string_bytes e.0) ≡ true = live_here n (string_bytes e.0) is has in
      rw (same, here, has)
  written_from n (suc at) (e ∷ es) d w is none has same =
      let next : suc n + at ≡ n + suc at = omega arith in
      let b = counts index n (string_bytes e.0) in
      let ns = nodes_from index (suc n) (entries_view es) in
      ap (kept b (string_bytes e.0) (node_view e.1))
      (written_from (suc n) at es d w (ap (λ (m : ℕ). counts index m k) next ∙ is) (counts_not_later n at e es none) has same)
      ∙ sym (replaced_over b k (string_bytes e.0) (node_view e.1) (node_view w.1) ns (not_here n (string_bytes e.0) (none 0 (omega arith))))

  -- ---- a key that isn't there

  absent_from : (n : ℕ) (es : List Entry) → CountsNot n (length es) es → get_node k (nodes_from index n (entries_view es)) ≡ None
  absent_from n [] none = refl
  absent_from n (e ∷ es) none =
      passed_over (counts index n (string_bytes e.0)) k (string_bytes e.0) (node_view e.1) (nodes_from index (suc n) (entries_view es))
      (not_here n (string_bytes e.0) (none 0 (omega arith)))
      ∙ absent_from (suc n) es (counts_not_later n (length es) e es none)

-- the value at the place of a key
pub found_at : (k : List ℕ) (at : ℕ) (es : List Entry) (d : Entry) (index : Places) → IsFoundAt k at es index
    → get_node k (keys_view es index) ≡ Some (node_view (get_or es at d).1)
found_at k at es d index has =
    found_from index k 0 at es d (from_first (λ m. counts index m k ≡ true) at has.0.0)
    (λ before less there. from_first (λ m. counts index m k ≡ false) before (has.0.1 before less there)) has.1

-- another written in its place
pub written_at : (k : List ℕ) (at : ℕ) (es : List Entry) (d w : Entry) (index : Places) → IsFoundAt k at es index → w.0 ≡ (get_or es at d).0
    → keys_view (set es at w) index ≡ replace k (node_view w.1) (keys_view es index)
written_at k at es d w index has same =
    written_from index k 0 at es d w (from_first (λ m. counts index m k ≡ true) at has.0.0)
    (λ before less there. from_first (λ m. counts index m k ≡ false) before (has.0.1 before less there)) has.1 same

-- the same of the value that is there
pub found_here : (k : List ℕ) (at : ℕ) (es : List Entry) (e : Entry) (index : Places) → IsFoundAt k at es index → get_or es at e ≡ e
    → get_node k (keys_view es index) ≡ Some (node_view e.1)
found_here k at es e index has is = found_at k at es e index has ∙ ap (λ (x : Entry). Some (node_view x.1)) is

pub written_here : (k : List ℕ) (at : ℕ) (es : List Entry) (e w : Entry) (index : Places) → IsFoundAt k at es index → get_or es at e ≡ e → w.0 ≡ e.0
    → keys_view (set es at w) index ≡ replace k (node_view w.1) (keys_view es index)
written_here k at es e w index has is same = written_at k at es e w index has (same ∙ ap (λ (x : Entry). x.0) (sym is))

has_within : (k : List ℕ) (at : ℕ) (es : List Entry) → HasKey k at es → at < length es
has_within k at [] has = absurd has
has_within k zero (e ∷ es) has = omega arith
has_within k (suc at) (e ∷ es) has = let less = has_within k at es has in omega (arith, less)

has_here : (k : List ℕ) (at : ℕ) (es : List Entry) (d : Entry) → HasKey k at es → bytes_eq k (string_bytes (get_or es at d).0) ≡ true
has_here k at [] d has = absurd has
has_here k zero (e ∷ es) d has = has
has_here k (suc at) (e ∷ es) d has = has_here k at es d has

pub key_here : (k : List ℕ) (at : ℕ) (es : List Entry) (d : Entry) → at < length es → bytes_eq k (string_bytes (get_or es at d).0) ≡ true → HasKey k at es
key_here k at [] d within same = absurd (omega (arith, within))
key_here k zero (e ∷ es) d within same = same
key_here k (suc at) (e ∷ es) d within same = key_here k at es d (omega (arith, within)) same

-- ---- a key that none of the first has

-- what a search of the first 16 has seen
pub seen_more : (k : List ℕ) (at : ℕ) (es : List Entry) (d : Entry) → at < length es → bytes_eq k (string_bytes (get_or es at d).0) ≡ false
    → ((before : ℕ) → before < at → HasKey k before es → ⊥) → (before : ℕ) → before < suc at → HasKey k before es → ⊥
seen_more k at es d within other none before less has = elim (cases_Bool (before == at)) [
  | inl same ↦
      let is : before ≡ at = eqb-true before at same in
      false≢true (sym other ∙ subst (λ (p : ℕ). bytes_eq k (string_bytes (get_or es p d).0) ≡ true) is (has_here k before es d has))
  | inr differs ↦ none before (grind (arith, nat_tests, less, differs)) has
]

-- none of all
pub seen_all : (k : List ℕ) (at : ℕ) (es : List Entry) → length es ≤ at → ((before : ℕ) → before < at → HasKey k before es → ⊥)
    → (before : ℕ) → HasKey k before es → ⊥
seen_all k at es past none before has = let less = has_within k before es has in none before (omega (arith, less, past)) has

pub listed_here : (k : List ℕ) (at : ℕ) (es : List Entry) (index : Places) → at < 16 → HasKey k at es
    → ((before : ℕ) → before < at → HasKey k before es → ⊥) → IsFoundAt k at es index
listed_here k at es index less has none =
    let listed : nat_lt at 16 ≡ true = grind (arith, nat_tests, less) in
    ((ap (λ (b : Bool). b || is_place (get_by_text index k) at) listed, λ before earlier there. absurd (none before earlier there)), has)

-- the places at which the index alone decides
by_index : (k : List ℕ) (index : Places) (at : ℕ) → (at < 16 → ⊥) → counts index at k ≡ is_place (get_by_text index k) at
by_index k index at past =
    let listed : nat_lt at 16 ≡ false = elim (cases_Bool (nat_lt at 16)) [
      | inl less ↦ absurd (past (grind (arith, nat_tests, less)))
      | inr more ↦ more
    ] in
    ap (λ (b : Bool). b || is_place (get_by_text index k) at) listed

is_place_only : (o : Option ℕ) (place at : ℕ) → o ≡ Some place → (at ≡ place → ⊥) → is_place o at ≡ false
is_place_only o place at is other = elim (cases_Bool (is_place o at)) [
  | inl same ↦ absurd (other (sym (eqb-true place at (sym (ap (λ (p : Option ℕ). is_place p at) is) ∙ same))))
  | inr differs ↦ differs
]

module _ (k : List ℕ) (es : List Entry) (index : Places) (none : (at : ℕ) → at < 16 → HasKey k at es → ⊥) where
  pub indexed_here : (at : ℕ) → get_by_text index k ≡ Some at → HasKey k at es → IsFoundAt k at es index
  indexed_here at is has =
      let itself : (at == at) ≡ true = eq-eqb at at refl in (
        (
          by_index k index at (λ less. none at less has) ∙ ap (λ (o : Option ℕ). is_place o at) is ∙ itself,
          λ before earlier there. by_index k index before (λ less. none before less there)
              ∙ is_place_only (get_by_text index k) at before is (λ same. omega (arith, earlier, same)),
        ),
        has,
      )

  -- a key without a place
  pub absent : get_by_text index k ≡ None → get_node k (keys_view es index) ≡ None
  absent is =
      absent_from index k 0 es λ at less has.
      from_first (λ m. counts index m k ≡ false) at (by_index k index at (λ listed. none at listed has) ∙ ap (λ (o : Option ℕ). is_place o at) is)

  -- a key whose place has no such key
  pub absent_other : (place : ℕ) → get_by_text index k ≡ Some place → (HasKey k place es → ⊥) → get_node k (keys_view es index) ≡ None
  absent_other place is other =
      absent_from index k 0 es λ at less has.
      from_first (λ m. counts index m k ≡ false) at (by_index k index at (λ listed. none at listed has)
      ∙ is_place_only (get_by_text index k) place at is (λ same. other (subst (λ (p : ℕ). HasKey k p es) same has)))

pub not_past : (k : List ℕ) (place : ℕ) (es : List Entry) → length es ≤ place → HasKey k place es → ⊥
not_past k place es past has = let less = has_within k place es has in omega (arith, less, past)

pub not_other : (k : List ℕ) (place : ℕ) (es : List Entry) (d : Entry) → bytes_eq k (string_bytes (get_or es place d).0) ≡ false → HasKey k place es → ⊥
not_other k place es d other has = false≢true (sym other ∙ has_here k place es d has)

-- ---- a key that goes last

module _ (index after : Places) (w : Entry) where
  -- as after IsNoted, from n on
  abbrev NotedFrom : (n at : ℕ) → Type 0
  NotedFrom n at =
      (counts after (n + at) (string_bytes w.0) ≡ true)
      × ((l : List ℕ) (before : ℕ) → before < at → (counts index (n + before) l ≡ true → bytes_eq (string_bytes w.0) l ≡ false)
      → counts after (n + before) l ≡ counts index (n + before) l)

  noted_later : (n at : ℕ) → NotedFrom n (suc at) → NotedFrom (suc n) at
  noted_later n at noted =
      let next : suc n + at ≡ n + suc at = omega arith in (
        ap (λ (m : ℕ). counts after m (string_bytes w.0)) next ∙ noted.0,
        λ l before less other.
            let later : n + suc before ≡ suc n + before = omega arith in
            subst (λ (m : ℕ). counts after m l ≡ counts index m l) later
            (noted.1 l (suc before) (omega (arith, less)) (subst (λ (m : ℕ). counts index m l ≡ true → bytes_eq (string_bytes w.0) l ≡ false) (sym later) other)),
      )

  appended_from : (n : ℕ) (es : List Entry) → get_node (string_bytes w.0) (nodes_from index n (entries_view es)) ≡ None → NotedFrom n (length es)
      → nodes_from after n (entries_view (es ++ w ∷ [])) ≡ append (nodes_from index n (entries_view es)) (string_bytes w.0) (node_view w.1)
  appended_from n [] none noted =
      let zeroth : n ≡ n + 0 = omega arith in
      let here : counts after n (string_bytes w.0) ≡ true = ap (λ (m : ℕ). counts after m (string_bytes w.0)) zeroth ∙ noted.0 in
      rw here
  appended_from n (e ∷ es) none noted =
      let k = string_bytes w.0 in
      let l = string_bytes e.0 in
      let b = counts index n l in
      let ns = nodes_from index (suc n) (entries_view es) in
      let zeroth : n + 0 ≡ n = omega arith in
      let same : counts after n l ≡ b =
      subst (λ (m : ℕ). counts after m l ≡ counts index m l) zeroth (noted.1 l 0 (omega arith)
      (subst (λ (m : ℕ). counts index m l ≡ true → bytes_eq k l ≡ false) (sym zeroth) (none_here b k l (node_view e.1) ns none))) in
      ap (λ (c : Bool). kept c l (node_view e.1) (nodes_from after (suc n) (entries_view (es ++ w ∷ [])))) same
      ∙ ap (kept b l (node_view e.1)) (appended_from (suc n) es (none_behind b k l (node_view e.1) ns none) (noted_later n (length es) noted))
      ∙ sym (appended_over b k l (node_view e.1) (node_view w.1) ns)

pub appended : (index after : Places) (es : List Entry) (w : Entry) → get_node (string_bytes w.0) (keys_view es index) ≡ None
    → IsNoted (string_bytes w.0) (length es) index after
    → keys_view (es ++ w ∷ []) after ≡ append (keys_view es index) (string_bytes w.0) (node_view w.1)
appended index after es w none noted =
    appended_from index after w 0 es none (
      from_first (λ m. counts after m (string_bytes w.0) ≡ true) (length es) noted.0,
      λ l before less other. from_first (λ m. counts after m l ≡ counts index m l) before
          (noted.1 l before less (λ live. other (from_first (λ m. counts index m l ≡ true) before live))),
    )

-- a place that the index has
pub noted_indexed : (k : List ℕ) (at : ℕ) (index after : Places)
    → ((l : List ℕ) → get_by_text after l ≡ update bytes_eq (get_by_text index) k (Some at) l) → IsNoted k at index after
noted_indexed k at index after noted = (
  ap (λ (b : Bool). nat_lt at 16 || b)
      (ap (λ (o : Option ℕ). is_place o at) (noted k ∙ ap (λ (b : Bool). cond b (Some at) (get_by_text index k)) (bytes_same k)) ∙ eq-eqb at at refl)
      ∙ or_true (nat_lt at 16),
  λ l before earlier other. as_before l before earlier other,
)
  where
    or_true : (b : Bool) → (b || true) ≡ true
    or_true true = refl
    or_true false = refl

    as_before : (l : List ℕ) (before : ℕ) → before < at → (counts index before l ≡ true → bytes_eq k l ≡ false) → counts after before l ≡ counts index before l
    as_before l before earlier other = elim (cases_Bool (bytes_eq k l)) [
      | inl same ↦
          let now : get_by_text after l ≡ Some at = noted l ∙ ap (λ (b : Bool). cond b (Some at) (get_by_text index l)) same in
          let gone : counts index before l ≡ false = elim (cases_Bool (counts index before l)) [
            | inl live ↦ absurd (false≢true (sym (other live) ∙ same))
            | inr gone ↦ gone
          ] in
          let past : nat_lt before 16 ≡ false = or_false (nat_lt before 16) (is_place (get_by_text index l) before) gone in
          ap (λ (b : Bool). b || is_place (get_by_text after l) before) past
          ∙ is_place_only (get_by_text after l) at before now (λ here. omega (arith, earlier, here)) ∙ sym gone
      | inr differs ↦ ap (λ (o : Option ℕ). nat_lt before 16 || is_place o before) (noted l ∙ ap (λ (b : Bool). cond b (Some at) (get_by_text index l)) differs)
    ]
      where
        or_false : (a b : Bool) → (a || b) ≡ false → a ≡ false
        or_false true b none = absurd (false≢true (sym none))
        or_false false b none = refl
