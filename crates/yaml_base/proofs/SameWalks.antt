-- The walk over a graph, and its anchors, depend on the order of meetings alone: over isomorphic graphs the walks are the
-- same but for the numbers of the nodes.
use Rattle.yaml_base.proofs.Common.{suc, ℕ, ◌+◌, ◌≤◌, ⊤, ◌==◌, Contains, option_map, Option, None, Some, nat_lt, length, Bool, cond, false, not, true, ◌||◌}
use Rattle.yaml_base.proofs.Common.{List, [], map, ◌++◌, ◌∷◌, refl, ◌≡◌, eq-eqb, eqb-true, length-append, append-nil, append_assoc, inl, inr, ap, subst, sym}
use Rattle.yaml_base.proofs.Common.{◌∙◌, arith, same_from_decides, length-map, map-append, Contains-append_left, Contains-append_right, filter, nat_tests}
use Rattle.yaml_base.proofs.Common.{filter_map, list_any, position, position_or_len, Text, Isomorphic, Graph, children, is_whole, Step, enters, leaves}
use Rattle.yaml_base.proofs.Common.{meets_again, is_entry_of, node_met_again, first_of_each, shared_nodes, numbered_name, anchor_of, Placed, alias_placed}
use Rattle.yaml_base.proofs.Common.{PlacedNodes, node_placed, none_placed, placed_and, number_at, numbers_at, IsReached, first_reached, child_reached}
use Rattle.yaml_base.{proofs.Twins.IsIn, proofs.Twins.in_either, proofs.UnfoldSteps.Keeps, proofs.UnfoldSteps.steps_keep, specs.graphs.Meetings.graph_steps}
use Rattle.yaml_base.proofs.UnfoldTrees.{placed_steps, below_steps, Fits, AllFit, walk_placed}

-- ---- each step in its turn

-- a node is entered if it wasn't before, and met again if it was
abbrev pub IsStepOf : List Step → Step → Type 0
IsStepOf before (enters number) = list_any (is_entry_of number) before ≡ false
IsStepOf before (meets_again number) = list_any (is_entry_of number) before ≡ true
IsStepOf before (leaves number) = ⊤

abbrev pub AreStepsOf : List Step → List Step → Type 0
AreStepsOf before [] = ⊤
AreStepsOf before (step ∷ rest) = IsStepOf before step × AreStepsOf (before ++ step ∷ []) rest

turns_more : (before walk : List Step) (step : Step) → AreStepsOf before walk → IsStepOf (before ++ walk) step → AreStepsOf before (walk ++ step ∷ [])
turns_more before [] step turns now = (subst (λ steps. IsStepOf steps step) (append-nil before) now, tt)
turns_more before (first ∷ walk) step turns now = (
  turns.0,
  turns_more (before ++ first ∷ []) walk step turns.1
      (subst (λ steps. IsStepOf steps step) (sym (append_assoc before (first ∷ []) walk)) now),
)

keeps_turns : (graph : Graph) → Keeps graph (AreStepsOf [])
keeps_turns graph = grind (arith, turns_more)

walk_turns : (graph : Graph) → AreStepsOf [] (graph_steps graph)
walk_turns graph = steps_keep graph (AreStepsOf []) (keeps_turns graph) (suc (length graph.nodes)) [] 1 first_reached tt

-- those of a list after its first part
later_turns : (before some others : List Step) → AreStepsOf before (some ++ others) → AreStepsOf (before ++ some) others
later_turns before [] others turns = subst (λ steps. AreStepsOf steps others) (sym (append-nil before)) turns
later_turns before (step ∷ some) others turns =
    subst (λ steps. AreStepsOf steps others) (append_assoc before (step ∷ []) some) (later_turns (before ++ step ∷ []) some others turns.1)

-- ---- steps of nodes that are reached

-- the node of a step
abbrev pub node_of_step : Step → ℕ
node_of_step (enters number) = number
node_of_step (leaves number) = number
node_of_step (meets_again number) = number

abbrev pub AllReached : Graph → List Step → Type 0
AllReached graph walk = (step : Step) → IsIn step walk → IsReached graph (node_of_step step)

one_reached : (graph : Graph) (step : Step) → IsReached graph (node_of_step step) → AllReached graph (step ∷ [])
one_reached graph step reached other (inl is) = subst (λ s. IsReached graph (node_of_step s)) is reached
one_reached graph step reached other (inr none) = absurd none

both_reached : (graph : Graph) (some others : List Step) → AllReached graph some → AllReached graph others → AllReached graph (some ++ others)
both_reached graph some others all more step within =
    elim (in_either step some others within) as (λ _. IsReached graph (node_of_step step)) [
      | inl earlier ↦ all step earlier
      | inr later ↦ more step later
    ]

mutual
  pub tree_reached : (named : ℕ → Option Text) (graph : Graph) (placed : Placed) → Fits named graph placed → IsReached graph (number_at placed)
      → AllReached graph (placed_steps placed)
  tree_reached named graph (alias_placed name number) fits reached = one_reached graph _ reached
  tree_reached named graph (node_placed anchor number below) fits reached =
      both_reached graph (enters number ∷ []) (below_steps below ++ leaves number ∷ []) (one_reached graph _ reached)
      (both_reached graph _ _ (below_reached named graph below fits.3
      (λ child within. child_reached reached (subst (λ (numbers : List ℕ). Contains numbers child) fits.2 within))) (one_reached graph _ reached))

  below_reached : (named : ℕ → Option Text) (graph : Graph) (below : PlacedNodes) → AllFit named graph below
      → ((child : ℕ) → Contains (numbers_at below) child → IsReached graph child) → AllReached graph (below_steps below)
  below_reached named graph none_placed fit reached step within = absurd within
  below_reached named graph (placed_and before last) fit reached step within =
      both_reached graph _ _
      (below_reached named graph before fit.0 (λ child within. reached child (Contains-append_left (numbers_at before) (number_at last ∷ []) child within)))
      (tree_reached named graph last fit.1
      (reached _ (Contains-append_right (numbers_at before) (number_at last ∷ []) (number_at last) (0, omega arith, refl)))) step within

-- ---- steps with the numbers of partners

abbrev pub renumbered : (ℕ → ℕ) → Step → Step
renumbered partner (enters number) = enters (partner number)
renumbered partner (leaves number) = leaves (partner number)
renumbered partner (meets_again number) = meets_again (partner number)

pub injective : (first second : Graph) (iso : Isomorphic first second) (number other : ℕ) → IsReached first number → IsReached first other
    → iso.partner number ≡ iso.partner other → number ≡ other
injective first second iso number other reached also same = sym (iso.one_to_one number reached) ∙ ap iso.back same ∙ iso.one_to_one other also

-- partners are the same exactly if the nodes are
same_test : (first second : Graph) (iso : Isomorphic first second) (number other : ℕ) → IsReached first number → IsReached first other
    → (iso.partner number == iso.partner other) ≡ (number == other)
same_test first second iso number other reached also = grind (arith, injective, eqb-true, eq-eqb, same_from_decides)

step_entered : (first second : Graph) (iso : Isomorphic first second) (number : ℕ) (step : Step) → IsReached first number
    → IsReached first (node_of_step step)
    → is_entry_of (iso.partner number) (renumbered iso.partner step) ≡ is_entry_of number step
step_entered first second iso number step h h2 = grind (arith, nat_tests, same_test)

entered_alike : (first second : Graph) (iso : Isomorphic first second) (number : ℕ) (before : List Step) → IsReached first number
    → AllReached first before
    → list_any (is_entry_of (iso.partner number)) (map (renumbered iso.partner) before) ≡ list_any (is_entry_of number) before
entered_alike first second iso number [] reached all = refl
entered_alike first second iso number (step ∷ before) reached all =
    ap (λ (b : Bool). b || list_any (is_entry_of (iso.partner number)) (map (renumbered iso.partner) before))
    (step_entered first second iso number step reached (all step (inl refl)))
    ∙ ap (λ (b : Bool). is_entry_of number step || b) (entered_alike first second iso number before reached (λ other within. all other (inr within)))

-- ---- two walks

last_parts : (xs ys : List ℕ) (x y : ℕ) → xs ++ x ∷ [] ≡ ys ++ y ∷ [] → (xs ≡ ys) × (x ≡ y)
last_parts [] [] x y same = (refl, let both : x ≡ y = cc in both)
last_parts [] (b ∷ ys) x y same = absurd (omega (arith, ap length same, length-append ys (y ∷ [])))
last_parts (a ∷ xs) [] x y same = absurd (omega (arith, ap length same, length-append xs (x ∷ [])))
last_parts (a ∷ xs) (b ∷ ys) x y same = grind (arith, nat_tests, last_parts xs ys x y)

mutual
  mirrored : (first second : Graph) (iso : Isomorphic first second) (named also : ℕ → Option Text) (one two : Placed) (before after later : List Step)
      → Fits named first one → Fits also second two → number_at two ≡ iso.partner (number_at one) → IsReached first (number_at one)
      → AllReached first before → AreStepsOf before (placed_steps one ++ after)
      → AreStepsOf (map (renumbered iso.partner) before) (placed_steps two ++ later)
      → placed_steps two ≡ map (renumbered iso.partner) (placed_steps one)
  mirrored first second iso named also (alias_placed name number) (alias_placed stated other) before after later fits matches is reached all turns takes =
      ap (λ (n : ℕ). meets_again n ∷ []) is
  mirrored first second iso named also (alias_placed name number) (node_placed anchor other below) before after later fits matches is reached all turns takes =
      let entered : list_any (is_entry_of other) (map (renumbered iso.partner) before) ≡ true =
      ap (λ (n : ℕ). list_any (is_entry_of n) (map (renumbered iso.partner) before)) is ∙ entered_alike first second iso number before reached all ∙ turns.0 in
      absurd (let no : true ≡ false = sym entered ∙ takes.0 in cc)
  mirrored first second iso named also (node_placed anchor number below)
      (alias_placed stated other) before after later fits matches is reached all turns takes =
      let entered : list_any (is_entry_of other) (map (renumbered iso.partner) before) ≡ false =
      ap (λ (n : ℕ). list_any (is_entry_of n) (map (renumbered iso.partner) before)) is ∙ entered_alike first second iso number before reached all ∙ turns.0 in
      absurd (let no : true ≡ false = sym takes.0 ∙ entered in cc)
  mirrored first second iso named also (node_placed anchor number below) (node_placed stated other lower) before after later fits matches is reached all turns
      takes =
      let partner = iso.partner in
      let held : numbers_at lower ≡ map partner (numbers_at below) =
      matches.2 ∙ ap (children second) is ∙ iso.kept number reached ∙ ap (map partner) (sym fits.2) in
      let within : map (renumbered partner) before ++ enters other ∷ [] ≡ map (renumbered partner) (before ++ enters number ∷ []) =
      ap (λ (n : ℕ). map (renumbered partner) before ++ enters n ∷ []) is ∙ sym (map-append (renumbered partner) before (enters number ∷ [])) in
      let inner =
      mirrored_below first second iso named also below lower _ _ _ fits.3 matches.3 held
      (λ child inside. child_reached reached (subst (λ (numbers : List ℕ). Contains numbers child) fits.2 inside))
      (both_reached first _ _ all (one_reached first _ reached))
      (subst (λ steps. AreStepsOf (before ++ enters number ∷ []) steps) (append_assoc (below_steps below) (leaves number ∷ []) after) turns.1)
      (subst (λ steps. AreStepsOf steps (below_steps lower ++ leaves other ∷ later)) within
      (subst (λ steps. AreStepsOf (map (renumbered partner) before ++ enters other ∷ []) steps) (append_assoc (below_steps lower) (leaves other ∷ []) later)
      takes.1)) in
      ap (λ (n : ℕ). enters n ∷ (below_steps lower ++ leaves n ∷ [])) is
      ∙ ap (λ steps. enters (partner number) ∷ (steps ++ leaves (partner number) ∷ [])) inner
      ∙ ap (λ steps. enters (partner number) ∷ steps) (sym (map-append (renumbered partner) (below_steps below) (leaves number ∷ [])))

  mirrored_below : (first second : Graph) (iso : Isomorphic first second) (named also : ℕ → Option Text) (some others : PlacedNodes)
      (before after later : List Step)
      → AllFit named first some → AllFit also second others → numbers_at others ≡ map iso.partner (numbers_at some)
      → ((child : ℕ) → Contains (numbers_at some) child → IsReached first child)
      → AllReached first before → AreStepsOf before (below_steps some ++ after)
      → AreStepsOf (map (renumbered iso.partner) before) (below_steps others ++ later)
      → below_steps others ≡ map (renumbered iso.partner) (below_steps some)
  mirrored_below first second iso named also none_placed none_placed before after later fit match are reached all turns takes = refl
  mirrored_below first second iso named also none_placed (placed_and earlier last) before after later fit match are reached all turns takes =
      absurd (omega (arith, ap length are, length-append (numbers_at earlier) (number_at last ∷ [])))
  mirrored_below first second iso named also (placed_and earlier last) none_placed before after later fit match are reached all turns takes =
      absurd (omega (
        arith,
        ap length are,
        length-map (numbers_at earlier ++ number_at last ∷ []) iso.partner,
        length-append (numbers_at earlier) (number_at last ∷ []),
      ))
  mirrored_below first second iso named also (placed_and earlier last) (placed_and sooner latter) before after later fit match are reached all turns takes =
      let partner = iso.partner in
      let parts = last_parts _ _ _ _ (are ∙ map-append partner (numbers_at earlier) (number_at last ∷ [])) in
      let reached_earlier = λ (child : ℕ) (within : Contains (numbers_at earlier) child).
      reached child (Contains-append_left (numbers_at earlier) (number_at last ∷ []) child within) in
      let turned = subst (λ steps. AreStepsOf before steps) (append_assoc (below_steps earlier) (placed_steps last) after) turns in
      let taken = subst (λ steps. AreStepsOf (map (renumbered partner) before) steps) (append_assoc (below_steps sooner) (placed_steps latter) later) takes in
      let inner =
      mirrored_below first second iso named also earlier sooner before (placed_steps last ++ after) (placed_steps latter ++ later) fit.0 match.0 parts.0
      reached_earlier all turned taken in
      let within : map (renumbered partner) before ++ below_steps sooner ≡ map (renumbered partner) (before ++ below_steps earlier) =
      ap (λ steps. map (renumbered partner) before ++ steps) inner ∙ sym (map-append (renumbered partner) before (below_steps earlier)) in
      let now =
      mirrored first second iso named also last latter (before ++ below_steps earlier) after later fit.1 match.1 parts.1
      (reached (number_at last) (Contains-append_right (numbers_at earlier) (number_at last ∷ []) (number_at last) (0, omega arith, refl)))
      (both_reached first before (below_steps earlier) all (below_reached named first earlier fit.0 reached_earlier))
      (later_turns before (below_steps earlier) (placed_steps last ++ after) turned) (subst (λ steps. AreStepsOf steps (placed_steps latter ++ later)) within
      (later_turns (map (renumbered partner) before) (below_steps sooner) (placed_steps latter ++ later) taken)) in
      ap (λ steps. steps ++ placed_steps latter) inner
      ∙ ap (λ steps. map (renumbered partner) (below_steps earlier) ++ steps) now
      ∙ sym (map-append (renumbered partner) (below_steps earlier) (placed_steps last))

-- the walks, and that all nodes of the first are reached
pub record SameWalks (first second : Graph) (iso : Isomorphic first second) : Type 0 where
  pub same : graph_steps second ≡ map (renumbered iso.partner) (graph_steps first)
  pub reached : AllReached first (graph_steps first)

pub same_walks : (first second : Graph) (iso : Isomorphic first second) → is_whole first ≡ true → is_whole second ≡ true → 1 ≤ length first.nodes
    → 1 ≤ length second.nodes → SameWalks first second iso
same_walks first second iso whole also_whole some also_some =
    let named = anchor_of (graph_steps first) in
    let also = anchor_of (graph_steps second) in
    let one = walk_placed named first whole some in
    let two = walk_placed also second also_whole also_some in
    let root : IsReached first (number_at one.placed) = subst (λ (n : ℕ). IsReached first n) (sym one.root) first_reached in
    let turns = subst (λ steps. AreStepsOf [] steps) (one.adds ∙ sym (append-nil (placed_steps one.placed))) (walk_turns first) in
    let takes = subst (λ steps. AreStepsOf [] steps) (two.adds ∙ sym (append-nil (placed_steps two.placed))) (walk_turns second) in
    record {
      same =
          two.adds
          ∙ mirrored first second iso named also one.placed two.placed [] [] [] one.fits two.fits
          (two.root ∙ sym iso.root ∙ ap iso.partner (sym one.root)) root (λ step none. absurd none) turns takes
          ∙ ap (map (renumbered iso.partner)) (sym one.adds);
      reached = subst (λ walk. AllReached first walk) (sym one.adds) (tree_reached named first one.placed one.fits root);
    }

-- ---- anchors

again_alike : (partner : ℕ → ℕ) (walk : List Step) → filter_map node_met_again (map (renumbered partner) walk) ≡ map partner (filter_map node_met_again walk)
again_alike partner [] = refl
again_alike partner (enters number ∷ walk) = again_alike partner walk
again_alike partner (leaves number ∷ walk) = again_alike partner walk
again_alike partner (meets_again number ∷ walk) = ap (λ (numbers : List ℕ). partner number ∷ numbers) (again_alike partner walk)

abbrev NumbersReached : Graph → List ℕ → Type 0
NumbersReached graph numbers = (number : ℕ) → IsIn number numbers → IsReached graph number

again_reached : (graph : Graph) (walk : List Step) → AllReached graph walk → NumbersReached graph (filter_map node_met_again walk)
again_reached graph [] all number within = absurd within
again_reached graph (enters other ∷ walk) all number within = again_reached graph walk (λ step inside. all step (inr inside)) number within
again_reached graph (leaves other ∷ walk) all number within = again_reached graph walk (λ step inside. all step (inr inside)) number within
again_reached graph (meets_again other ∷ walk) all number (inl is) = subst (λ (n : ℕ). IsReached graph n) is (all (meets_again other) (inl refl))
again_reached graph (meets_again other ∷ walk) all number (inr within) = again_reached graph walk (λ step inside. all step (inr inside)) number within

in_rest : (b : Bool) (number x : ℕ) (xs ys : List ℕ) → (IsIn number xs → IsIn number ys) → IsIn number (cond b (x ∷ xs) xs) → IsIn number (x ∷ ys)
in_rest b number x xs ys h h2 = grind (arith, nat_tests)

in_filter : (test : ℕ → Bool) (number : ℕ) (xs : List ℕ) → IsIn number (filter test xs) → IsIn number xs
in_filter test number [] within = within
in_filter test number (x ∷ xs) within = in_rest (test x) number x (filter test xs) xs (in_filter test number xs) within

in_firsts : (number : ℕ) (xs : List ℕ) → IsIn number (first_of_each xs) → IsIn number xs
in_firsts number [] within = within
in_firsts number (x ∷ xs) (inl is) = inl is
in_firsts number (x ∷ xs) (inr within) = inr (in_firsts number xs (in_filter (λ other. not (other == x)) number (first_of_each xs) within))

without_alike : (first second : Graph) (iso : Isomorphic first second) (x : ℕ) (xs : List ℕ) → IsReached first x → NumbersReached first xs
    → filter (λ other. not (other == iso.partner x)) (map iso.partner xs) ≡ map iso.partner (filter (λ other. not (other == x)) xs)
without_alike first second iso x [] reached all = refl
without_alike first second iso x (y ∷ ys) reached all =
    grind (arith, nat_tests, same_test, without_alike first second iso x ys reached (λ number within. all number (inr within)))

firsts_alike : (first second : Graph) (iso : Isomorphic first second) (xs : List ℕ) → NumbersReached first xs
    → first_of_each (map iso.partner xs) ≡ map iso.partner (first_of_each xs)
firsts_alike first second iso [] all = refl
firsts_alike first second iso (x ∷ xs) all =
    let partner = iso.partner in
    ap (λ (rest : List ℕ). partner x ∷ filter (λ other. not (other == partner x)) rest)
    (firsts_alike first second iso xs (λ number within. all number (inr within)))
    ∙ ap (λ (rest : List ℕ). partner x ∷ rest) (without_alike first _ iso x _ (all x (inl refl)) (λ number within. all number (inr (in_firsts _ xs within))))

shared_alike : (first second : Graph) (iso : Isomorphic first second) (walk : List Step) → AllReached first walk
    → shared_nodes (map (renumbered iso.partner) walk) ≡ map iso.partner (shared_nodes walk)
shared_alike first second iso walk all =
    ap first_of_each (again_alike _ walk) ∙ firsts_alike first _ iso _ (again_reached first walk all)

place_alike : (first second : Graph) (iso : Isomorphic first second) (number : ℕ) (xs : List ℕ) → IsReached first number → NumbersReached first xs
    → position_or_len (λ other. other == iso.partner number) (map iso.partner xs) ≡ position_or_len (λ other. other == number) xs
place_alike first second iso number [] reached all = refl
place_alike first second iso number (x ∷ xs) reached all =
    grind (arith, nat_tests, same_test, place_alike first second iso number xs reached (λ other within. all other (inr within)))

position_alike : (first second : Graph) (iso : Isomorphic first second) (number : ℕ) (xs : List ℕ) → IsReached first number → NumbersReached first xs
    → position (λ other. other == iso.partner number) (map iso.partner xs) ≡ position (λ other. other == number) xs
position_alike first second iso number xs reached all =
    ap (λ (n : ℕ). cond (nat_lt n (length (map iso.partner xs))) (Some n) None) (place_alike first second iso number xs reached all)
    ∙ ap (λ (n : ℕ). cond (nat_lt (position_or_len (λ other. other == number) xs) n) (Some (position_or_len (λ other. other == number) xs)) None)
    (length-map xs iso.partner)

-- a node's partner has its anchor
pub anchors_alike : (first second : Graph) (iso : Isomorphic first second) (walk : List Step) (number : ℕ) → AllReached first walk
    → IsReached first number
    → anchor_of (map (renumbered iso.partner) walk) (iso.partner number) ≡ anchor_of walk number
anchors_alike first second iso walk number all reached =
    ap (λ (shared : List ℕ). option_map (λ place. numbered_name (place + 1)) (position (λ other. other == iso.partner number) shared))
    (shared_alike first _ iso walk all) ∙ ap (option_map (λ (place : ℕ). numbered_name (place + 1))) (position_alike first _ iso _ _ reached
    (λ other within. again_reached first walk all other (in_firsts other _ within)))
