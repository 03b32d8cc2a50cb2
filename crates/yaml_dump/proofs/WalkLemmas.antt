-- The visits that a walk still has to end make of its steps those of the whole walk.
use Rattle.yaml_dump.proofs.Common.{suc, zero, ℕ, ◌≤◌, None, Some, drop, length, Bool, false, true, List, [], ◌++◌, ◌∷◌, refl, ◌≡◌, length-append, ap, ◌∙◌}
use Rattle.yaml_dump.proofs.Common.{arith, list_any, slice_get, Graph, children, enters, leaves, meets_again, is_entry_of, steps_from, nat_tests}
use Rattle.std.specs.List.{fold}
use Rattle.yaml_base.proofs.UnfoldSteps.{from_node}
use Rattle.yaml_dump.specs.declared.walk.Visit.{Visit}
use Rattle.yaml_base.specs.graphs.Meetings as meetings

-- steps, and then those of visits that are gone on with to their ends, the innermost first; its children are met at most so many nodes deep
unfoldable pub finish : ℕ → Graph → List Visit → List meetings.Step → List meetings.Step
finish depth graph [] before = before
finish depth graph (visit ∷ outer) before =
    finish (suc depth) graph outer (fold (steps_from depth graph) before (drop visit.met (children graph visit.number)) ++ leaves visit.number ∷ [])

-- ---- steps are only added

-- by one step
added : (before : List meetings.Step) (step : meetings.Step) → length (before ++ step ∷ []) ≡ suc (length before)
added before step = length-append before (step ∷ []) ∙ omega arith

fold_longer : (step : List meetings.Step → ℕ → List meetings.Step) → ((before : List meetings.Step) (number : ℕ) → length before ≤ length (step before number))
    → (before : List meetings.Step) (numbers : List ℕ) → length before ≤ length (fold step before numbers)
fold_longer step longer before [] = omega arith
fold_longer step longer before (number ∷ numbers) = omega (arith, longer before number, fold_longer step longer (step before number) numbers)

steps_longer : (depth : ℕ) (graph : Graph) (before : List meetings.Step) (number : ℕ) → length before ≤ length (steps_from depth graph before number)
steps_longer zero graph before number = omega arith
steps_longer (suc depth) graph before number =
    elim (list_any (is_entry_of number) before) as (λ entered. length before ≤ length (from_node depth graph before number entered)) [
      | true ↦ omega (arith, added before (meets_again number))
      | false ↦
          let entered = before ++ enters number ∷ [] in
          let below = fold_longer (steps_from depth graph) (steps_longer depth graph) entered (children graph number) in
          omega (arith, added before (enters number), below, added (fold (steps_from depth graph) entered (children graph number)) (leaves number))
    ]

pub finish_longer : (depth : ℕ) (graph : Graph) (visits : List Visit) (before : List meetings.Step) → length before ≤ length (finish depth graph visits before)
unfolding finish
finish_longer depth graph [] before = omega arith
finish_longer depth graph (visit ∷ outer) before =
    grind (arith, nat_tests, fold, steps_from, drop, children, fold_longer, steps_longer, added, finish_longer (suc depth) graph outer)

-- ---- a turn leaves the whole walk as it is

-- after the last number
drop_none : (numbers : List ℕ) (place : ℕ) → slice_get numbers place ≡ None → drop place numbers ≡ []
drop_none [] zero none = refl
drop_none [] (suc place) none = refl
drop_none (number ∷ numbers) zero none = cc
drop_none (number ∷ numbers) (suc place) none = drop_none numbers place none

-- from a number on
drop_some : (numbers : List ℕ) (place child : ℕ) → slice_get numbers place ≡ Some child → drop place numbers ≡ child ∷ drop (suc place) numbers
drop_some [] place child some = cc
drop_some (number ∷ numbers) zero child some = let same : number ≡ child = cc in ap (λ (first : ℕ). first ∷ numbers) same
drop_some (number ∷ numbers) (suc place) child some = drop_some numbers place child some

-- no child is left: the visit ends
pub finish_left : (depth : ℕ) (graph : Graph) (visit : Visit) (outer : List Visit) (before : List meetings.Step)
    → slice_get (children graph visit.number) visit.met ≡ None
    → finish depth graph (visit ∷ outer) before ≡ finish (suc depth) graph outer (before ++ leaves visit.number ∷ [])
unfolding finish
finish_left depth graph visit outer before none = grind (arith, nat_tests, finish, fold, steps_from, drop_none, children)

-- a child is met
pub finish_met : (depth : ℕ) (graph : Graph) (visit : Visit) (outer : List Visit) (before : List meetings.Step) (child : ℕ)
    → slice_get (children graph visit.number) visit.met ≡ Some child
    → finish depth graph (visit ∷ outer) before
    ≡ finish depth graph (record { number = visit.number; met = suc visit.met } ∷ outer) (steps_from depth graph before child)
unfolding finish
finish_met depth graph visit outer before child some = grind (arith, nat_tests, finish, fold, steps_from, drop_some, children)

-- a walk from a node, and then the visits' ends: a node that was entered is met again
pub finish_again : (depth : ℕ) (graph : Graph) (visits : List Visit) (before : List meetings.Step) (number : ℕ) → list_any (is_entry_of number) before ≡ true
    → finish (suc depth) graph visits (steps_from (suc depth) graph before number) ≡ finish (suc depth) graph visits (before ++ meets_again number ∷ [])
finish_again depth graph visits before number entered = ap (λ (is : Bool). finish (suc depth) graph visits (from_node depth graph before number is)) entered

-- another is entered and visited
pub finish_entered : (depth : ℕ) (graph : Graph) (visits : List Visit) (before : List meetings.Step) (number : ℕ) → list_any (is_entry_of number) before ≡ false
    → finish (suc depth) graph visits (steps_from (suc depth) graph before number)
    ≡ finish depth graph (record { number = number; met = 0 } ∷ visits) (before ++ enters number ∷ [])
unfolding finish
finish_entered depth graph visits before number entered = ap (λ (is : Bool). finish (suc depth) graph visits (from_node depth graph before number is)) entered
