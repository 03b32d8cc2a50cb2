-- The invariants of a walk, one step at a time: a node is entered once, it is met again only after that, and every entered node is reached.
use Rattle.yaml_base.proofs.Common.{nat_tests, suc, zero, ℕ, ◌+◌, ⊤, ◌==◌, Contains, count_by, Bool, cond, false, true, ◌||◌, List, [], ◌++◌, ◌∷◌, refl, ◌≡◌}
use Rattle.yaml_base.proofs.Common.{eqb-true, ne_eqb, append-nil, append_assoc, inl, inr, ap, subst, sym, ◌∙◌, arith, or-true, or_cases, cases_eq}
use Rattle.yaml_base.proofs.Common.{Contains-append_left, Contains-append_right, list_any-append, sum_by-append, list_any, Graph, children, Step, enters}
use Rattle.yaml_base.proofs.Common.{leaves, meets_again, is_entry_of, steps_from, IsReached, child_reached}
use Rattle.std.{proofs.Math.Bool.or-false, specs.List.fold}

-- the steps from a node that was entered before or not
abbrev pub from_node : ℕ → Graph → List Step → ℕ → Bool → List Step
from_node depth graph before number true = before ++ meets_again number ∷ []
from_node depth graph before number false = fold (steps_from depth graph) (before ++ enters number ∷ []) (children graph number) ++ leaves number ∷ []

-- a list of steps has a property: that of no steps, and each step that a walk adds keeps it
pub record Keeps (graph : Graph) (P : List Step → Type 0) : Type 0 where
  pub met : (before : List Step) (number : ℕ) → list_any (is_entry_of number) before ≡ true → P before → P (before ++ meets_again number ∷ [])
  pub entered : (before : List Step) (number : ℕ) → IsReached graph number → list_any (is_entry_of number) before ≡ false → P before
      → P (before ++ enters number ∷ [])
  pub left : (before : List Step) (number : ℕ) → P before → P (before ++ leaves number ∷ [])

-- each of some numbers
fold_keeps : (Q : ℕ → Type 0) (P : List Step → Type 0) (step : List Step → ℕ → List Step)
    → ((before : List Step) (number : ℕ) → Q number → P before → P (step before number))
    → (numbers : List ℕ) → ((number : ℕ) → Contains numbers number → Q number) → (before : List Step) → P before → P (fold step before numbers)
fold_keeps Q P step keeps [] all before p = p
fold_keeps Q P step keeps (number ∷ numbers) all before p =
    fold_keeps Q P step keeps numbers (λ other within. all other (Contains-append_right (number ∷ []) numbers other within)) (step before number)
    (keeps before number (all number (Contains-append_left (number ∷ []) numbers number (0, omega arith, refl))) p)

-- a walk from a node that is reached
pub steps_keep : (graph : Graph) (P : List Step → Type 0) → Keeps graph P → (depth : ℕ) (before : List Step) (number : ℕ) → IsReached graph number → P before
    → P (steps_from depth graph before number)
steps_keep graph P keeps zero before number reached p = p
steps_keep graph P keeps (suc depth) before number reached p =
    (elim (list_any (is_entry_of number) before) as
    (λ entered. list_any (is_entry_of number) before ≡ entered → P (from_node depth graph before number entered)) [
      | true ↦ λ is. keeps.met before number is p
      | false ↦ λ is.
          keeps.left (fold (steps_from depth graph) (before ++ enters number ∷ []) (children graph number)) number
          (fold_keeps _ P _ (λ earlier child r q. steps_keep graph P keeps depth earlier child r q) _
          (λ child within. child_reached reached within) _ (keeps.entered before number reached is p))
    ]) refl

-- ---- one more step

-- a test of the steps so far and of the new one
pub any_added : (test : Step → Bool) (before : List Step) (step : Step) → list_any test (before ++ step ∷ []) ≡ (list_any test before || test step)
any_added test before step = list_any-append test before (step ∷ []) ∙ ap (λ (b : Bool). list_any test before || b) (or-false (test step))

-- if the new one fails
pub none_added : (test : Step → Bool) (before : List Step) (step : Step) → test step ≡ false → list_any test (before ++ step ∷ []) ≡ list_any test before
none_added test before step is = any_added test before step ∙ ap (λ (b : Bool). list_any test before || b) is ∙ or-false (list_any test before)

-- if it passes
pub one_added : (test : Step → Bool) (before : List Step) (step : Step) → test step ≡ true → list_any test (before ++ step ∷ []) ≡ true
one_added test before step is = any_added test before step ∙ ap (λ (b : Bool). list_any test before || b) is ∙ or-true (list_any test before)

-- those before it that pass still do
pub still_any : (test : Step → Bool) (before after : List Step) → list_any test before ≡ true → list_any test (before ++ after) ≡ true
still_any test before after is = list_any-append test before after ∙ ap (λ (b : Bool). b || list_any test after) is

pub count_added : (test : Step → Bool) (before : List Step) (step : Step) → count_by test (before ++ step ∷ []) ≡ count_by test before + cond (test step) 1 0
count_added test before step = sum_by-append (λ other. cond (test other) 1 0) before (step ∷ []) ∙ omega arith

-- ---- the invariants of a walk

-- a step meets the node of this number, for the first time or again
abbrev pub is_meeting_of : ℕ → Step → Bool
is_meeting_of number (enters other) = number == other
is_meeting_of number (meets_again other) = number == other
is_meeting_of number (leaves other) = false

-- a node is met again only after it was entered
abbrev pub FollowsEntry : List Step → Step → Type 0
FollowsEntry before (meets_again number) = list_any (is_entry_of number) before ≡ true
FollowsEntry before (enters number) = ⊤
FollowsEntry before (leaves number) = ⊤

-- so is each node of more steps
abbrev pub FollowEntries : List Step → List Step → Type 0
FollowEntries before [] = ⊤
FollowEntries before (step ∷ rest) = FollowsEntry before step × FollowEntries (before ++ step ∷ []) rest

-- a node is entered once or never, is met only if it is entered, at first by the entry, and only nodes that are reached are
pub record IsOrderly (graph : Graph) (walk : List Step) : Type 0 where
  pub once : (number : ℕ) → count_by (is_entry_of number) walk ≡ cond (list_any (is_entry_of number) walk) 1 0
  pub met : (number : ℕ) → list_any (is_meeting_of number) walk ≡ true → list_any (is_entry_of number) walk ≡ true
  pub follow : FollowEntries [] walk
  pub reached : (number : ℕ) → list_any (is_entry_of number) walk ≡ true → IsReached graph number

once_more : (test : Step → Bool) (before : List Step) (step : Step) → count_by test before ≡ cond (list_any test before) 1 0
    → (list_any test before ≡ true → test step ≡ false)
    → count_by test (before ++ step ∷ []) ≡ cond (list_any test (before ++ step ∷ [])) 1 0
once_more test before step is fails = grind (arith, nat_tests, count_added, any_added)

-- another number than that of a node which isn't entered yet
differs : (before : List Step) (number other : ℕ) → list_any (is_entry_of number) before ≡ false → list_any (is_entry_of other) before ≡ true
    → (other == number) ≡ false
differs before number other none some = grind (arith, cases_eq, ne_eqb)

-- one more step that comes after the entry of its node
follow_more : (before walk : List Step) (step : Step) → FollowEntries before walk → FollowsEntry (before ++ walk) step
    → FollowEntries before (walk ++ step ∷ [])
follow_more before [] step follow now = (subst (λ steps. FollowsEntry steps step) (append-nil before) now, tt)
follow_more before (first ∷ walk) step follow now = (
  follow.0,
  follow_more (before ++ first ∷ []) walk step follow.1
      (subst (λ steps. FollowsEntry steps step) (sym (append_assoc before (first ∷ []) walk)) now),
)

-- a property of the steps before a step, if the step has no part in it
kept : (graph : Graph) (before : List Step) (step : Step) → IsOrderly graph before → ((number : ℕ) → is_entry_of number step ≡ false)
    → ((number : ℕ) → is_meeting_of number step ≡ true → list_any (is_entry_of number) before ≡ true) → FollowsEntry before step
    → IsOrderly graph (before ++ step ∷ [])
kept graph before step orderly enters_none meets follows =
    record {
      once = λ number. once_more (is_entry_of number) before step (orderly.once number) (λ some. enters_none number);
      met = λ number some.
          let was : list_any (is_entry_of number) before ≡ true =
          elim (or_cases (list_any (is_meeting_of number) before) (is_meeting_of number step) (sym (any_added (is_meeting_of number) before step) ∙ some)) as
          (λ _. list_any (is_entry_of number) before ≡ true) [
            | inl earlier ↦ orderly.met number earlier
            | inr now ↦ meets number now
          ] in
          still_any (is_entry_of number) before (step ∷ []) was;
      follow = follow_more [] before step orderly.follow follows;
      reached = λ number some. orderly.reached number (sym (none_added (is_entry_of number) before step (enters_none number)) ∙ some);
    }

-- a node is entered
kept_entered : (graph : Graph) (before : List Step) (number : ℕ) → IsReached graph number → list_any (is_entry_of number) before ≡ false
    → IsOrderly graph before → IsOrderly graph (before ++ enters number ∷ [])
kept_entered graph before number reached none orderly =
    record {
      once = λ other. once_more (is_entry_of other) before (enters number) (orderly.once other) (differs before number other none);
      met = λ other some.
          elim (or_cases (list_any (is_meeting_of other) before) (other == number) (sym (any_added (is_meeting_of other) before (enters number)) ∙ some)) as
          (λ _. list_any (is_entry_of other) (before ++ enters number ∷ []) ≡ true) [
            | inl earlier ↦ still_any (is_entry_of other) before (enters number ∷ []) (orderly.met other earlier)
            | inr now ↦ one_added (is_entry_of other) before (enters number) now
          ];
      follow = follow_more [] before (enters number) orderly.follow tt;
      reached = λ other some.
          elim (or_cases (list_any (is_entry_of other) before) (other == number) (sym (any_added (is_entry_of other) before (enters number)) ∙ some)) as
          (λ _. IsReached graph other) [
            | inl earlier ↦ orderly.reached other earlier
            | inr now ↦ subst (λ (n : ℕ). IsReached graph n) (sym (eqb-true other number now)) reached
          ];
    }

keeps_orderly : (graph : Graph) → Keeps graph (IsOrderly graph)
keeps_orderly graph =
    record {
      met = λ before number some orderly.
          kept graph before (meets_again number) orderly (λ other. refl)
          (λ other now. subst (λ (n : ℕ). list_any (is_entry_of n) before ≡ true) (sym (eqb-true other number now)) some) some;
      entered = λ before number reached none orderly. kept_entered graph before number reached none orderly;
      left = λ before number orderly. kept graph before (leaves number) orderly (λ other. refl) (λ other now. cc) tt;
    }

orderly_none : (graph : Graph) → IsOrderly graph []
orderly_none graph = record { once = λ number. refl; met = λ number some. cc; follow = tt; reached = λ number some. cc }

-- a walk from a node that is reached
pub orderly_steps : (graph : Graph) (depth number : ℕ) → IsReached graph number → IsOrderly graph (steps_from depth graph [] number)
orderly_steps graph depth number reached = steps_keep graph (IsOrderly graph) (keeps_orderly graph) depth [] number reached (orderly_none graph)
