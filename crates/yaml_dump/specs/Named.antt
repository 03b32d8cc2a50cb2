-- Numbers in a walk's steps that name nodes.
use Rattle.std.specs.Prelude.{ℕ, ◌≤◌, List, All}
use Rattle.yaml_base.specs.graphs.Meetings as meetings
use Rattle.yaml_base.specs.graphs.Meetings.{enters, leaves, meets_again}
use Rattle.yaml_dump.specs.WalkSteps.{seen_step}
use Rattle.yaml_dump.specs.declared.steps.Step.{Step}

-- the number is that of one of `count` nodes
pub record IsNamed (count number : ℕ) : Type 0 where
  pub first : 1 ≤ number
  pub last : number ≤ count

-- the node of a step
abbrev pub step_number : meetings.Step → ℕ
step_number (enters number) = number
step_number (leaves number) = number
step_number (meets_again number) = number

-- the node of each step is one of `count` nodes
abbrev pub AreNamed : ℕ → List Step → Type 0
AreNamed count walk = All (λ step. IsNamed count (step_number (seen_step step))) walk
