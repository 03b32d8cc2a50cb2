-- The collection around a text, and analyses that lead to the same choices.
use Rattle.std.specs.Prelude.{◌≡◌, Bool, true, false}
use Rattle.yaml_base.specs.scalars.Analysis.{Allowances}
use Rattle.yaml_base.specs.Event.{ScalarStyle}
use Rattle.yaml_base.specs.scalars.Style.{chosen}
use Rattle.yaml_scalar.specs.declared.analysis.Context.{Context}
use Rattle.yaml_scalar.specs.declared.analysis.Context.TheVariants.{Flow, Block}

-- true for a text in a flow collection
abbrev pub is_flow : Context → Bool
is_flow Flow = true
is_flow Block = false

-- two analyses lead to the same choices
abbrev pub ChooseAlike : Allowances → Allowances → Type 0
ChooseAlike one other =
    (asked : ScalarStyle) (empty tag_written plain_implicit quoted_implicit flow simple_key canonical : Bool)
    → chosen one asked empty tag_written plain_implicit quoted_implicit flow simple_key canonical
    ≡ chosen other asked empty tag_written plain_implicit quoted_implicit flow simple_key canonical
