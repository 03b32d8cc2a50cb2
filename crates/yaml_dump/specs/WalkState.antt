-- The state of a walk over a document's nodes.
use Rattle.std.specs.Prelude.{ℕ, ◌+◌, ◌-◌, Bool, true, false, Option, None, Some, List, [], ◌∷◌, ◌++◌, flat_map, map, replicate, reverse, slice_get}
use Rattle.std.specs.Prelude.{slice_index_or, slice_set}
use Rattle.yaml_base.specs.graphs.Meetings as meetings
use Rattle.yaml_base.specs.graphs.Meetings.{Graph, children, enters, leaves, meets_again}
use Rattle.yaml_dump.specs.WalkSteps.{seen_step}
use Rattle.yaml_dump.specs.declared.walk.Visit.{Visit}
use Rattle.yaml_dump.specs.declared.walk.Walker.{Walker}

-- the steps so far, whether each node was entered (that of number 1 first), and the visits, the innermost first
pub record WalkState : Type 0 where
  pub steps : List meetings.Step
  pub entered : List Bool
  pub visits : List Visit

abbrev pub seen_walker : {A : Type 0} → Walker A → WalkState
seen_walker walker = record { steps = map seen_step walker.steps.items; entered = walker.entered.items; visits = reverse walker.visits.items }

-- the state before the first of `count` nodes is met
abbrev pub at_start : ℕ → WalkState
at_start count = record { steps = []; entered = replicate count false; visits = [] }

-- the state after a step
abbrev pub with_step : meetings.Step → WalkState → WalkState
with_step step standing = record standing { steps = standing.steps ++ step ∷ [] }

-- the state with this visit as the innermost
abbrev pub push_visit : Visit → WalkState → WalkState
push_visit visit standing = record standing { visits = visit ∷ standing.visits }

-- the state after meeting a node, by whether it was entered before
abbrev pub met_or_entered : Bool → ℕ → WalkState → WalkState
met_or_entered true number standing = with_step (meets_again number) standing
met_or_entered false number standing = push_visit (record { number = number; met = 0 })
    (with_step (enters number) (record standing { entered = slice_set standing.entered (number - 1) true }))

-- the state after meeting a node
abbrev pub with_meeting : ℕ → WalkState → WalkState
with_meeting number standing = met_or_entered (slice_index_or standing.entered (number - 1) false) number standing

-- the child that a visit meets next, if there is one
abbrev pub child_of : Graph → Visit → Option ℕ
child_of graph visit = slice_get (children graph visit.number) visit.met

-- the state after a visit goes on with its next child or, without one, after its node is left
abbrev pub with_child : Visit → Option ℕ → WalkState → WalkState
with_child visit None standing = with_step (leaves visit.number) standing
with_child visit (Some child) standing = with_meeting child (push_visit (record { number = visit.number; met = visit.met + 1 }) standing)

-- the state after a turn of a visit that was taken out
abbrev pub with_turn : Graph → Visit → WalkState → WalkState
with_turn graph visit standing = with_child visit (child_of graph visit) standing

-- the numbers of pairs, keys before values
abbrev pub pair_numbers : List meetings.NumberPair → List ℕ
pair_numbers pairs = flat_map (λ pair. pair.key ∷ pair.value ∷ []) pairs
