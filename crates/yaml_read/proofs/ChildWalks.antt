-- The walk over a graph goes by the children of its nodes alone.
use Rattle.yaml_base.proofs.Common.{ℕ, suc, zero, true, false, List, [], ◌∷◌, ◌++◌, refl, ◌≡◌, ap, ◌∙◌, fold, length, list_any, Graph, children, Step, enters}
use Rattle.yaml_base.proofs.Common.{leaves, is_entry_of, steps_from}
use Rattle.yaml_base.{proofs.UnfoldSteps.from_node, specs.graphs.Meetings.graph_steps}
use Rattle.std.proofs.lemmas.List.Folds.{fold_along}

-- graphs whose nodes have the same children
abbrev pub HaveSameChildren : Graph → Graph → Type 0
HaveSameChildren one other = (number : ℕ) → children one number ≡ children other number

walk_same : (one other : Graph) → HaveSameChildren one other → (depth : ℕ) (before : List Step) (number : ℕ)
    → steps_from depth one before number ≡ steps_from depth other before number
walk_same one other same zero before number = refl
walk_same one other same (suc depth) before number =
    elim (list_any (is_entry_of number) before) as
    (λ entered. from_node depth one before number entered ≡ from_node depth other before number entered) [
      | true ↦ refl
      | false ↦
          let walk = steps_from depth one in
          let inside = before ++ enters number ∷ [] in
          ap (λ (numbers : List ℕ). fold walk inside numbers ++ leaves number ∷ []) (same number) ∙ ap (λ (steps : List Step). steps ++ leaves number ∷ [])
          (fold_along walk (steps_from depth other) (λ (some others : List Step). some ≡ others)
          (λ some others child is. ap (λ (steps : List Step). walk steps child) is ∙ walk_same one other same depth others child) inside inside
          (children other number) refl)
    ]

-- their walks are the same if they have as many nodes
pub walks_same : (one other : Graph) → length one.nodes ≡ length other.nodes → HaveSameChildren one other → graph_steps one ≡ graph_steps other
walks_same one other many same = ap (λ (count : ℕ). steps_from (suc count) one [] 1) many ∙ walk_same one other same (suc (length other.nodes)) [] 1
