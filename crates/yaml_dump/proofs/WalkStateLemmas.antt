-- The invariants of a walk's state, and that each turn keeps them.
use Rattle.yaml_dump.proofs.Common.{nat_tests}
use Rattle.yaml_base.proofs.Common.{suc, ℕ, ◌+◌, ◌-◌, ◌<◌, ◌≤◌, All, Option, None, Some, length, replicate, slice_index_or as get_or, Bool, cond, false, true}
use Rattle.yaml_base.proofs.Common.{List, [], map, ◌++◌, ◌∷◌, ◌⊎◌, refl, ◌≡◌, eq-eqb, ne_eqb, ap, subst, sym, ◌∙◌, arith, cases_eq, length-map}
use Rattle.yaml_base.proofs.Common.{All-head, All-tail, list_any, Graph, is_whole, enters, leaves, meets_again, is_entry_of, steps_from}
use Rattle.std.{proofs.Common.reverse, proofs.Common.set, proofs.Common.◌≢◌, proofs.lemmas.List.Elements.All-cons}
use Rattle.std.{proofs.lemmas.List.Elements.All-push, proofs.lemmas.List.Folds.sum_by-replicate, proofs.lemmas.List.Sums.sum_by-set, specs.List.sum_by}
use Rattle.std.{specs.Prelude.Vec, specs.Prelude.IfSome}
use Rattle.std.proofs.lemmas.List.{get_or-replicate, get_or-set_other, get_or-set_same, length-replicate, length-set, reverse-append, length_push, get_or-map}
use Rattle.yaml_base.{proofs.UnfoldSteps.none_added, proofs.UnfoldSteps.one_added, specs.graphs.Meetings.graph_steps}
use Rattle.yaml_dump.{proofs.ChildLemmas.child_named, specs.Named.IsNamed, specs.Named.step_number, specs.Named.AreNamed, specs.WalkSteps.seen_step}
use Rattle.yaml_dump.{specs.declared.steps.Step.Step, specs.declared.walk.Visit.Visit, specs.declared.walk.Walker.Walker}
use Rattle.yaml_dump.proofs.WalkLemmas.{finish, finish_longer, finish_left, finish_met, finish_again, finish_entered}
use Rattle.yaml_dump.specs.WalkState.{WalkState, seen_walker, at_start, with_step, push_visit, met_or_entered, with_meeting, child_of, with_child, with_turn}
use Rattle.yaml_base.specs.graphs.Meetings as meetings

-- how many nodes were not entered yet
pub unentered : List Bool → ℕ
unentered entered = sum_by (λ is. cond is 0 1) entered

-- how deep the children of the innermost visit are walked from
abbrev pub depth_of : Graph → WalkState → ℕ
depth_of graph standing = suc (length graph.nodes) - length standing.visits

-- the flags say which nodes the steps entered, there are no more visits than entered nodes, and all numbers name nodes
pub record IsSound (graph : Graph) (standing : WalkState) : Type 0 where
  pub counted : length standing.entered ≡ length graph.nodes
  pub flagged : (place : ℕ) → place < length graph.nodes → get_or standing.entered place false ≡ list_any (is_entry_of (suc place)) standing.steps
  pub room : length standing.visits + unentered standing.entered ≤ length graph.nodes
  pub visits_named : All (λ visit. IsNamed (length graph.nodes) visit.number) standing.visits
  pub steps_named : All (λ step. IsNamed (length graph.nodes) (step_number step)) standing.steps

-- the visits' ends make the steps those of the whole walk
pub record Stands (graph : Graph) (standing : WalkState) : Type 0 where
  pub finished : finish (depth_of graph standing) graph standing.visits standing.steps ≡ graph_steps graph
  pub sound : IsSound graph standing

-- a walk from a node, and then the visits' ends make them so
pub record Meets (graph : Graph) (number : ℕ) (standing : WalkState) : Type 0 where
  pub finished : finish (depth_of graph standing) graph standing.visits (steps_from (depth_of graph standing) graph standing.steps number) ≡ graph_steps graph
  pub named : IsNamed (length graph.nodes) number
  pub sound : IsSound graph standing

-- ---- one more step

-- a step that enters none
sound_step : (graph : Graph) (standing : WalkState) (step : meetings.Step) → IsSound graph standing → ((number : ℕ) → is_entry_of number step ≡ false)
    → IsNamed (length graph.nodes) (step_number step)
    → IsSound graph (with_step step standing)
sound_step graph standing step sound enters_none named = record {
  counted = sound.counted;
  flagged = λ place within. sound.flagged place within ∙ sym (none_added (is_entry_of (suc place)) standing.steps step (enters_none (suc place)));
  room = sound.room;
  visits_named = sound.visits_named;
  steps_named = All-push (λ other. IsNamed (length graph.nodes) (step_number other)) standing.steps step sound.steps_named named;
}

-- ---- a turn without a child

-- without the innermost visit
sound_outer : (graph : Graph) (standing : WalkState) (visit : Visit) → IsSound graph (push_visit visit standing) → IsSound graph standing
sound_outer graph standing visit sound = record {
  counted = sound.counted;
  flagged = sound.flagged;
  room = omega (arith, sound.room);
  visits_named = All-tail (λ other. IsNamed (length graph.nodes) other.number) visit standing.visits sound.visits_named;
  steps_named = sound.steps_named;
}

-- the innermost visit's node
visit_named : (graph : Graph) (standing : WalkState) (visit : Visit) → IsSound graph (push_visit visit standing) → IsNamed (length graph.nodes) visit.number
visit_named graph standing visit sound = All-head (λ other. IsNamed (length graph.nodes) other.number) visit standing.visits sound.visits_named

-- its node is left
stands_left : (graph : Graph) (standing : WalkState) (visit : Visit) → Stands graph (push_visit visit standing) → child_of graph visit ≡ None
    → Stands graph (with_step (leaves visit.number) standing)
stands_left graph standing visit stands none =
    let out : suc (depth_of graph (push_visit visit standing)) ≡ depth_of graph standing = omega (arith, stands.sound.room) in
    record {
      finished =
          sym (ap (λ (depth : ℕ). finish depth graph standing.visits (standing.steps ++ leaves visit.number ∷ [])) out)
          ∙ sym (finish_left (depth_of graph (push_visit visit standing)) graph visit standing.visits standing.steps none)
          ∙ stands.finished;
      sound = sound_step graph standing (leaves visit.number) (sound_outer graph standing visit stands.sound) (λ number. refl)
          (visit_named graph standing visit stands.sound);
    }

-- ---- a node is met

-- the flag of a number
flag_of : (graph : Graph) (standing : WalkState) (number : ℕ) → IsSound graph standing → IsNamed (length graph.nodes) number
    → get_or standing.entered (number - 1) false ≡ list_any (is_entry_of number) standing.steps
flag_of graph standing number sound named = grind (arith, nat_tests, length, list_any, is_entry_of)

-- a node that was entered
stands_again : (graph : Graph) (standing : WalkState) (number : ℕ) → Meets graph number standing → get_or standing.entered (number - 1) false ≡ true
    → Stands graph (with_step (meets_again number) standing)
stands_again graph standing number meets entered =
    let depth = length graph.nodes - length standing.visits in
    let is : depth_of graph standing ≡ suc depth = omega (arith, meets.sound.room) in
    record {
      finished =
          ap (λ (d : ℕ). finish d graph standing.visits (standing.steps ++ meets_again number ∷ [])) is
          ∙ sym (finish_again depth graph standing.visits standing.steps number (sym (flag_of graph standing number meets.sound meets.named) ∙ entered))
          ∙ sym (ap (λ (d : ℕ). finish d graph standing.visits (steps_from d graph standing.steps number)) is)
          ∙ meets.finished;
      sound = sound_step graph standing (meets_again number) meets.sound (λ other. refl) meets.named;
    }

-- a flag is set
flag_set : (flags : List Bool) (place other : ℕ) (before : List meetings.Step) → place < length flags
    → get_or flags other false ≡ list_any (is_entry_of (suc other)) before → (other ≡ place) ⊎ (other ≢ place)
    → get_or (set flags place true) other false ≡ list_any (is_entry_of (suc other)) (before ++ enters (suc place) ∷ [])
flag_set flags place other before x is y =
    grind (arith, nat_tests, get_or, set, get_or-set_same, one_added, is_entry_of, eq-eqb, get_or-set_other, none_added, ne_eqb)

-- one node fewer is unentered
unentered_set : (flags : List Bool) (place : ℕ) → place < length flags → get_or flags place false ≡ false
    → suc (unentered (set flags place true)) ≡ unentered flags
unfolding unentered
unentered_set flags place within is = grind (arith, nat_tests, sum_by-set, cond, get_or)

-- a node that was not entered
sound_entered : (graph : Graph) (standing : WalkState) (number : ℕ) → IsSound graph standing → IsNamed (length graph.nodes) number
    → get_or standing.entered (number - 1) false ≡ false
    → IsSound graph (met_or_entered false number standing)
sound_entered graph standing number sound named entered =
    let first = named.first in
    let last = named.last in
    let counted = sound.counted in
    let room = sound.room in
    let place = number - 1 in
    let is : suc place ≡ number = omega arith in
    let within : place < length standing.entered = omega arith in
    let fewer = unentered_set standing.entered place within entered in
    record {
      counted = length-set standing.entered place true ∙ counted;
      flagged = λ other other_within. flag_set standing.entered place other standing.steps within (sound.flagged other other_within) (cases_eq other place)
          ∙ ap (λ (n : ℕ). list_any (is_entry_of (suc other)) (standing.steps ++ enters n ∷ [])) is;
      room = omega (arith, fewer);
      visits_named = All-cons (λ visit. IsNamed (length graph.nodes) visit.number)
          (record { number = number; met = 0 }) standing.visits named sound.visits_named;
      steps_named = All-push (λ step. IsNamed (length graph.nodes) (step_number step)) standing.steps (enters number) sound.steps_named named;
    }

-- it is entered and visited
stands_entered : (graph : Graph) (standing : WalkState) (number : ℕ) → Meets graph number standing → get_or standing.entered (number - 1) false ≡ false
    → Stands graph (met_or_entered false number standing)
stands_entered graph standing number meets entered =
    let depth = length graph.nodes - length standing.visits in
    let is : depth_of graph standing ≡ suc depth = omega (arith, meets.sound.room) in
    let sound = sound_entered graph standing number meets.sound meets.named entered in
    let deeper : depth_of graph (met_or_entered false number standing) ≡ depth = omega (arith, sound.room) in
    record {
      finished =
          ap (λ (d : ℕ). finish d graph (record { number = number; met = 0 } ∷ standing.visits) (standing.steps ++ enters number ∷ [])) deeper
          ∙ sym (finish_entered depth graph standing.visits standing.steps number (sym (flag_of graph standing number meets.sound meets.named) ∙ entered))
          ∙ sym (ap (λ (d : ℕ). finish d graph standing.visits (steps_from d graph standing.steps number)) is)
          ∙ meets.finished;
      sound = sound;
    }

-- by its flag
stands_flagged : (graph : Graph) (standing : WalkState) (number : ℕ) (entered : Bool) → Meets graph number standing
    → get_or standing.entered (number - 1) false ≡ entered
    → Stands graph (met_or_entered entered number standing)
stands_flagged graph standing number true meets entered = stands_again graph standing number meets entered
stands_flagged graph standing number false meets entered = stands_entered graph standing number meets entered

-- either way
stands_met : (graph : Graph) (standing : WalkState) (number : ℕ) → Meets graph number standing → Stands graph (with_meeting number standing)
stands_met graph standing number meets = stands_flagged graph standing number (get_or standing.entered (number - 1) false) meets refl

-- ---- turns

-- a visit's next child is met
meets_child : (graph : Graph) (standing : WalkState) (visit : Visit) (child : ℕ) → Stands graph (push_visit visit standing) → child_of graph visit ≡ Some child
    → IsNamed (length graph.nodes) child → Meets graph child (push_visit (record { number = visit.number; met = visit.met + 1 }) standing)
meets_child graph standing visit child stands some named =
    let more : suc visit.met ≡ visit.met + 1 = omega arith in
    let depth = depth_of graph (push_visit visit standing) in
    record {
      finished =
          ap (λ (met : ℕ). finish depth graph (record { number = visit.number; met = met } ∷ standing.visits) (steps_from depth graph standing.steps child))
          (sym more)
          ∙ sym (finish_met depth graph visit standing.visits standing.steps child some)
          ∙ stands.finished;
      named = named;
      sound = record {
        counted = stands.sound.counted;
        flagged = stands.sound.flagged;
        room = stands.sound.room;
        visits_named = All-cons (λ other. IsNamed (length graph.nodes) other.number) (record { number = visit.number; met = visit.met + 1 }) standing.visits
            (visit_named graph standing visit stands.sound)
            (All-tail (λ other. IsNamed (length graph.nodes) other.number) visit standing.visits stands.sound.visits_named);
        steps_named = stands.sound.steps_named;
      };
    }

-- with its next child, or without one
stands_turned : (graph : Graph) (standing : WalkState) (visit : Visit) (child : Option ℕ) → Stands graph (push_visit visit standing)
    → child ≡ child_of graph visit → IfSome child (λ number. IsNamed (length graph.nodes) number) → Stands graph (with_child visit child standing)
stands_turned graph standing visit None stands is named = stands_left graph standing visit stands (sym is)
stands_turned graph standing visit (Some child) stands is named =
    stands_met graph (push_visit (record { number = visit.number; met = visit.met + 1 }) standing) child
    (meets_child graph standing visit child stands (sym is) named)

-- ---- before the root

-- no node is entered
unentered-replicate : (count : ℕ) → unentered (replicate count false) ≡ count
unfolding unentered
unentered-replicate count = sum_by-replicate (λ (entered : Bool). cond entered 0 1) count false ∙ omega arith

-- the walk from the root is the whole walk
root_finished : (graph : Graph) → finish (suc (length graph.nodes) - 0) graph [] (steps_from (suc (length graph.nodes) - 0) graph [] 1) ≡ graph_steps graph
unfolding finish
root_finished graph = let same : suc (length graph.nodes) - 0 ≡ suc (length graph.nodes) = omega arith in ap (λ (depth : ℕ). steps_from depth graph [] 1) same

-- the root is met next
meets_root : (graph : Graph) → 1 ≤ length graph.nodes → Meets graph 1 (at_start (length graph.nodes))
meets_root graph some =
    grind (arith, nat_tests, unentered, replicate, length, unentered-replicate, root_finished, length-replicate, get_or-replicate, step_number)

-- ---- the consequences of a state

-- no visit is left: the walk is whole
pub steps_whole : (graph : Graph) (standing : WalkState) → standing.visits ≡ [] → Stands graph standing → standing.steps ≡ graph_steps graph
unfolding finish
steps_whole graph standing none stands = grind (arith, nat_tests, finish, length)

-- there are no more steps than the walk's
steps_within : (graph : Graph) (standing : WalkState) → Stands graph standing → length standing.steps ≤ length (graph_steps graph)
steps_within graph standing stands = grind (arith, nat_tests, length, finish_longer, depth_of)

-- a turn adds one
one_more : (visit : Visit) (child : Option ℕ) (standing : WalkState) → length (with_child visit child standing).steps ≡ length standing.steps + 1
one_more visit None standing = length_push standing.steps (leaves visit.number)
one_more visit (Some child) standing = at_flag (get_or standing.entered (child - 1) false)
  where
    at_flag : (entered : Bool) → length (met_or_entered entered child (push_visit (record { number = visit.number; met = visit.met + 1 }) standing)).steps
        ≡ length standing.steps + 1
    at_flag entered = grind (arith, nat_tests, length_push)

-- ---- a walker's loop

-- the root is met
pub stands_first : (graph : Graph) (count : ℕ) (started met : WalkState) → 1 ≤ length graph.nodes → count ≡ length graph.nodes → started ≡ at_start count
    → met ≡ with_meeting 1 started → Stands graph met
stands_first graph count started met some all is_start is_met =
    let is : with_meeting 1 (at_start (length graph.nodes)) ≡ met = sym (ap (λ (n : ℕ). with_meeting 1 (at_start n)) all) ∙ sym (ap (with_meeting 1) is_start)
    ∙ sym is_met in
    subst (λ (standing : WalkState). Stands graph standing) is (stands_met graph (at_start (length graph.nodes)) 1 (meets_root graph some))

-- the innermost visit is taken out
pub stands_popped : {A : Type 0} (graph : Graph) (walker : Walker A) (rest : Vec Visit A) (visit : Visit) → walker.visits.items ≡ rest.items ++ visit ∷ []
    → Stands graph (seen_walker walker) → Stands graph (push_visit visit (seen_walker (record walker { visits = rest })))
stands_popped graph walker rest visit is stands = grind (arith, nat_tests, reverse, reverse-append, seen_walker)

-- a visit's turn keeps it all
pub stands_behind : (graph : Graph) (visit : Visit) (before after : WalkState) → is_whole graph ≡ true → Stands graph (push_visit visit before)
    → after ≡ with_turn graph visit before → Stands graph after
stands_behind graph visit before after whole stands is =
    let child = child_of graph visit in
    let named = child_named graph visit.number visit.met child whole refl in
    subst (λ (standing : WalkState). Stands graph standing) (sym is) (stands_turned graph before visit child stands refl named)

-- a visit's turn leaves fewer steps to come
pub steps_fewer : (graph : Graph) (visit : Visit) (before after : WalkState) → is_whole graph ≡ true → Stands graph (push_visit visit before)
    → after ≡ with_turn graph visit before → length (graph_steps graph) - length after.steps < length (graph_steps graph) - length before.steps
steps_fewer graph visit before after whole stands is =
    let within = steps_within graph after (stands_behind graph visit before after whole stands is) in
    let more = ap (λ (standing : WalkState). length standing.steps) is ∙ one_more visit (child_of graph visit) before in
    omega (arith, within, more)

-- the innermost visit's node is a node
pub innermost_named : (graph : Graph) (visit : Visit) (outer : WalkState) → Stands graph (push_visit visit outer) → IsNamed (length graph.nodes) visit.number
innermost_named graph visit outer stands = visit_named graph outer visit stands.sound

-- the numbers in a walk's steps
pub walk_named : (count : ℕ) (walk : List Step) → All (λ step. IsNamed count (step_number step)) (map seen_step walk) → AreNamed count walk
walk_named count walk all = λ place default within.
    let seen_within : place < length (map seen_step walk) = omega (arith, length-map walk seen_step) in
    subst (λ (step : meetings.Step). IsNamed count (step_number step)) (get_or-map seen_step walk place default (seen_step default) within)
    (all place (seen_step default) seen_within)
