-- Graphs that are isomorphic, and graphs that aren't.
use Rattle.yaml_base.proofs.Common.{suc, zero, ℕ, slice_index, Contains, codes, [], map, ◌∷◌, ◌⊎◌, refl, ◌≡◌, inl, ap, sym, ◌∙◌, arith, label_at, Isomorphic}
use Rattle.yaml_base.proofs.rows.{RowsMeetings.graph_of, RowsMeetings.sequence_of, RowsMeetings.string_of, RowsUnfolding.held_by_none}
use Rattle.yaml_base.proofs.Common.{Graph, children, IsReached, first_reached, child_reached, nat_tests}

-- ---- two nodes change places, and no root reaches a fourth

abbrev one : Graph
one = graph_of (sequence_of (2 ∷ 3 ∷ 2 ∷ []) ∷ string_of (codes "a") ∷ string_of (codes "b") ∷ [])

abbrev two : Graph
two = graph_of (sequence_of (3 ∷ 2 ∷ 3 ∷ []) ∷ string_of (codes "b") ∷ string_of (codes "a") ∷ string_of (codes "c") ∷ [])

abbrev exchanged : ℕ → ℕ
exchanged zero = 0
exchanged (suc zero) = 1
exchanged (suc (suc zero)) = 3
exchanged (suc (suc (suc zero))) = 2
exchanged (suc (suc (suc (suc number)))) = 0

held_by_one : (child : ℕ) → Contains (2 ∷ 3 ∷ 2 ∷ []) child → (child ≡ 2) ⊎ (child ≡ 3)
held_by_one child h = grind (arith, nat_tests)

held_by_two : (child : ℕ) → Contains (3 ∷ 2 ∷ 3 ∷ []) child → (child ≡ 2) ⊎ (child ≡ 3)
held_by_two child h = grind (arith, nat_tests)

reached_in_one : {number : ℕ} → IsReached one number → (number ≡ 1) ⊎ ((number ≡ 2) ⊎ (number ≡ 3))
reached_in_one first_reached = inl refl
reached_in_one (child_reached {number = parent} {child = child} r held) = grind (arith, held_by_one, held_by_none, reached_in_one r)

reached_in_two : {number : ℕ} → IsReached two number → (number ≡ 1) ⊎ ((number ≡ 2) ⊎ (number ≡ 3))
reached_in_two first_reached = inl refl
reached_in_two (child_reached {number = parent} {child = child} r held) = grind (arith, held_by_two, held_by_none, reached_in_two r)

-- a fact about the first three numbers holds for all that are reached
by_cases : (P : ℕ → Type 0) → P 1 → P 2 → P 3 → (number : ℕ) → (number ≡ 1) ⊎ ((number ≡ 2) ⊎ (number ≡ 3)) → P number
by_cases P h h2 h3 number h4 = grind (arith, nat_tests)

exchange : Isomorphic one two
exchange =
    record {
      partner = exchanged;
      back = exchanged;
      root = refl;
      labels = λ number reached. by_cases (λ n. label_at two (exchanged n) ≡ label_at one n) refl refl refl number (reached_in_one reached);
      kept = λ number reached.
          by_cases (λ n. children two (exchanged n) ≡ map exchanged (children one n)) refl refl refl number (reached_in_one reached);
      one_to_one = λ number reached. by_cases (λ n. exchanged (exchanged n) ≡ n) refl refl refl number (reached_in_one reached);
      onto = λ number reached. by_cases (λ n. exchanged (exchanged n) ≡ n) refl refl refl number (reached_in_two reached);
    }

-- ---- a node that is shared isn't two equal nodes

abbrev shared : Graph
shared = graph_of (sequence_of (2 ∷ 2 ∷ []) ∷ string_of (codes "a") ∷ [])

abbrev two_equal : Graph
two_equal = graph_of (sequence_of (2 ∷ 3 ∷ []) ∷ string_of (codes "a") ∷ string_of (codes "a") ∷ [])

shared_is_not_equal : Isomorphic shared two_equal → ⊥
shared_is_not_equal iso =
    let same : 2 ∷ 3 ∷ [] ≡ iso.partner 2 ∷ iso.partner 2 ∷ [] =
    ap (children two_equal) (sym iso.root) ∙ iso.kept 1 first_reached in
    let both : 2 ≡ 3 = ap (λ numbers. slice_index numbers 0) same ∙ sym (ap (λ numbers. slice_index numbers 1) same) in
    omega (arith, both)

equal_is_not_shared : Isomorphic two_equal shared → ⊥
equal_is_not_shared iso =
    let same : 2 ∷ 2 ∷ [] ≡ iso.partner 2 ∷ iso.partner 3 ∷ [] =
    ap (children shared) (sym iso.root) ∙ iso.kept 1 first_reached in
    let both : iso.partner 2 ≡ iso.partner 3 = sym (ap (λ numbers. slice_index numbers 0) same) ∙ ap (λ numbers. slice_index numbers 1) same in
    let second : IsReached two_equal 2 = child_reached first_reached (0, omega arith, refl) in
    let third : IsReached two_equal 3 = child_reached first_reached (1, omega arith, refl) in
    let numbers : 2 ≡ 3 = sym (iso.one_to_one 2 second) ∙ ap iso.back both ∙ iso.one_to_one 3 third in
    omega (arith, numbers)

-- ---- a sequence that holds itself isn't two sequences that hold each other

abbrev holds_itself : Graph
holds_itself = graph_of (sequence_of (1 ∷ []) ∷ [])

abbrev hold_each_other : Graph
hold_each_other = graph_of (sequence_of (2 ∷ []) ∷ sequence_of (1 ∷ []) ∷ [])

cycles_differ : Isomorphic holds_itself hold_each_other → ⊥
cycles_differ iso =
    let same : 2 ∷ [] ≡ iso.partner 1 ∷ [] = ap (children hold_each_other) (sym iso.root) ∙ iso.kept 1 first_reached in
    let numbers : 2 ≡ 1 = ap (λ numbers. slice_index numbers 0) same ∙ iso.root in
    omega (arith, numbers)
