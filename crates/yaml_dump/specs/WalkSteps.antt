-- The view of a walk's steps in contracts.
use Rattle.yaml_base.specs.graphs.Meetings as meetings
use Rattle.yaml_base.specs.graphs.Meetings.{enters, leaves, meets_again}
use Rattle.yaml_dump.specs.declared.steps.Step.{Step}
use Rattle.yaml_dump.specs.declared.steps.Step.TheVariants.{Enters, Leaves, MeetsAgain}

-- a step
abbrev pub seen_step : Step → meetings.Step
seen_step (Enters number) = enters number
seen_step (Leaves number) = leaves number
seen_step (MeetsAgain number) = meets_again number
