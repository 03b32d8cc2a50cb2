-- The anchors of shared nodes, as the code keeps them: for each node its rank among the shared ones.
use Rattle.std.specs.Prelude.{ℕ, zero, suc, ◌+◌, ◌-◌, ◌≤◌, ◌≡◌, ◌==◌, ◌&&◌, Bool, nat_le, Option, None, Some, List, length, position, option_map, unwrap_or}
use Rattle.std.specs.Prelude.{slice_index}
use Rattle.std.specs.List.{list_all}
use Rattle.yaml_base.specs.Characters.{Text}
use Rattle.yaml_base.specs.graphs.Meetings.{Step, shared_nodes, numbered_name}
use Rattle.yaml_dump.specs.Named.{IsNamed, step_number}

-- the step's node is one of `count` nodes
abbrev pub IsNumbered : ℕ → Step → Type 0
IsNumbered count step = IsNamed count (step_number step)

-- true if the node of each step of a walk is one of `count` nodes
abbrev pub is_numbered : ℕ → List Step → Bool
is_numbered count walk = list_all (λ step. nat_le 1 (step_number step) && nat_le (step_number step) count) walk

-- the place of a number's first appearance in a list, from 1 on; 0 if it isn't there
abbrev pub place_in : List ℕ → ℕ → ℕ
place_in numbers number = unwrap_or (option_map (λ place. place + 1) (position (λ other. other == number) numbers)) 0

-- the anchor of the shared node of a rank; the rank 0 has none
abbrev pub anchor_of_place : ℕ → Option Text
anchor_of_place zero = None
anchor_of_place (suc before) = Some (numbered_name (suc before))

-- for each node its rank among those that a walk meets again
pub record HasPlaces (walk : List Step) (places : List ℕ) : Type 0 where
  pub placed : (number : ℕ) → 1 ≤ number → number ≤ length places → slice_index places (number - 1) ≡ place_in (shared_nodes walk) number

-- a walk so far has met `shared` nodes again, and each has its rank
pub record Places (walk : List Step) (shared : ℕ) (places : List ℕ) : Type 0 where
  pub counted : shared ≡ length (shared_nodes walk)
  pub given : HasPlaces walk places
