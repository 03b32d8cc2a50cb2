-- The view of lines in contracts.
use Rattle.yaml_base.specs.Seen.{seen_event}
use Rattle.yaml_base.specs.scripts.Script as notation
use Rattle.yaml_base.specs.scripts.Script.{says_nothing, sets, gives}
use Rattle.yaml_tool.specs.Settings.{seen_setting}
use Rattle.yaml_tool.specs.declared.lines.Line.{Line}
use Rattle.yaml_tool.specs.declared.lines.Line.TheVariants.{Nothing, Sets, Gives}

-- a line's meaning
abbrev pub seen_line : {A : Type 0} → Line A → notation.ScriptLine
seen_line Nothing = says_nothing
seen_line (Sets setting) = sets (seen_setting setting)
seen_line (Gives event) = gives (seen_event event)
