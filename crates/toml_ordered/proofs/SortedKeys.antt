-- Keys put in order, one after another: two different keys may change places.
use Rattle.std.proofs.Common.{◌≡◌, ℕ, Ordering, Less, Equal, Greater, nat_cmp, is_eq, true, false, List, Some, refl, sym, ap, subst, ◌∙◌, inl, inr, ◌⊎◌}
use Rattle.std.proofs.Common.{bytes_eq}
use Rattle.toml.proofs.NodeLaws.{get_node-insert, replace-insert}
use Rattle.toml.specs.Data.{same_key}
use Rattle.toml.specs.Tables.{Node, Nodes, no_nodes, node, get_node, insert, replace}
use Rattle.std.proofs.lemmas.{Bool.cases_Bool, Bool.false≢true, Cmp.nat_list_cmp_total, Slice.Eq.bytes_eq-Decides, Map.Text.is_eq-slice_cmp}
use Rattle.std.specs.{Cmp.Lexicographic.slice_cmp, Ordering.ordering_reverse}

abbrev pub IsOneOfThree : Ordering → Type 0
IsOneOfThree o = (o ≡ Less) ⊎ ((o ≡ Equal) ⊎ (o ≡ Greater))

pub cases_ordering : (o : Ordering) → IsOneOfThree o
cases_ordering Less = inl refl
cases_ordering Equal = inr (inl refl)
cases_ordering Greater = inr (inr refl)

abbrev pub cmp : List ℕ → List ℕ → Ordering
cmp = slice_cmp nat_cmp

-- keys that compare alike are the same
pub same_from_equal : (k l : List ℕ) → cmp k l ≡ Equal → k ≡ l
same_from_equal k l e = (bytes_eq-Decides k l).0 (sym (is_eq-slice_cmp k l) ∙ ap is_eq e)

turned : (k l : List ℕ) (o : Ordering) → cmp k l ≡ o → cmp l k ≡ ordering_reverse o
turned k l o e = nat_list_cmp_total.antisymm l k ∙ ap ordering_reverse e

-- ---- two keys

swap_less : (k l : List ℕ) (x y : Node) (ns : Nodes) → cmp k l ≡ Less → insert k x (insert l y ns) ≡ insert l y (insert k x ns)
swap_less k l x y no_nodes less = rw (less, turned k l Less less)
swap_less k l x y (node m z ns) less =
    let greater = turned k l Less less in
    elim (cases_ordering (cmp l m)) [
      | inl b ↦
          let a : cmp k m ≡ Less = nat_list_cmp_total.trans k l m less b in
          rw (b, less, a, greater, b)
      | inr other ↦ elim other [
        | inl b ↦
            let a : cmp k m ≡ Less = subst (λ (j : List ℕ). cmp k j ≡ Less) (same_from_equal l m b) less in
            rw (b, a, greater, b)
        | inr b ↦ elim (cases_ordering (cmp k m)) [
          | inl a ↦ rw (b, a, greater, b)
          | inr more ↦ elim more [
            | inl a ↦ rw (b, a, b)
            | inr a ↦ rw (b, a, b) (ap (node m z) (swap_less k l x y ns less))
          ]
        ]
      ]
    ]

pub swap : (k l : List ℕ) (x y : Node) (ns : Nodes) → bytes_eq k l ≡ false → insert k x (insert l y ns) ≡ insert l y (insert k x ns)
swap k l x y ns other =
    elim (cases_ordering (cmp k l)) [
      | inl less ↦ swap_less k l x y ns less
      | inr rest ↦ elim rest [
        | inl same ↦ absurd (false≢true (sym other ∙ sym (is_eq-slice_cmp k l) ∙ ap is_eq same))
        | inr greater ↦ sym (swap_less l k y x ns (turned k l Greater greater))
      ]
    ]

-- ---- a key beside another

pub found_past : (k l : List ℕ) (y : Node) (ns : Nodes) → bytes_eq k l ≡ false → get_node k (insert l y ns) ≡ get_node k ns
found_past k l y no_nodes other = rw (is_eq-slice_cmp k l, other)
found_past k l y (node m z ns) other =
    elim (cases_ordering (cmp l m)) [
      | inl b ↦ rw (b, is_eq-slice_cmp k l, other)
      | inr rest ↦ elim rest [
        | inl b ↦
            let past : bytes_eq k m ≡ false = subst (λ (j : List ℕ). bytes_eq k j ≡ false) (same_from_equal l m b) other in
            rw (b, is_eq-slice_cmp k m, past)
        | inr b ↦ elim (cases_Bool (same_key k m)) [
          | inl here ↦ rw (b, here)
          | inr past ↦ rw (b, past) (found_past k l y ns other)
        ]
      ]
    ]

pub replaced_past : (k l : List ℕ) (x y : Node) (ns : Nodes) → bytes_eq k l ≡ false → replace k x (insert l y ns) ≡ insert l y (replace k x ns)
replaced_past k l x y no_nodes other = rw (is_eq-slice_cmp k l, other)
replaced_past k l x y (node m z ns) other =
    elim (cases_ordering (cmp l m)) [
      | inl b ↦ elim (cases_Bool (same_key k m)) [
        | inl here ↦ rw (b, is_eq-slice_cmp k l, other, here, b)
        | inr past ↦ rw (b, is_eq-slice_cmp k l, other, past, b)
      ]
      | inr rest ↦ elim rest [
        | inl b ↦
            let past : same_key k m ≡ false = is_eq-slice_cmp k m ∙ subst (λ (j : List ℕ). bytes_eq k j ≡ false) (same_from_equal l m b) other in
            rw (b, past, b)
        | inr b ↦ elim (cases_Bool (same_key k m)) [
          | inl here ↦ rw (b, here, b)
          | inr past ↦ rw (b, past, b) (ap (node m z) (replaced_past k l x y ns other))
        ]
      ]
    ]

-- ---- the same key

pub found_same : (k l : List ℕ) (y : Node) (ns : Nodes) → bytes_eq k l ≡ true → get_node k (insert l y ns) ≡ Some y
found_same k l y ns same = subst (λ (j : List ℕ). get_node k (insert j y ns) ≡ Some y) ((bytes_eq-Decides k l).0 same) (get_node-insert k y ns)

pub replaced_same : (k l : List ℕ) (x y : Node) (ns : Nodes) → bytes_eq k l ≡ true → replace k x (insert l y ns) ≡ insert l x ns
replaced_same k l x y ns same = subst (λ (j : List ℕ). replace k x (insert j y ns) ≡ insert j x ns) ((bytes_eq-Decides k l).0 same) (replace-insert k y x ns)
