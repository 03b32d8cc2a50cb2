use Rattle.yaml_tool.proofs.Common.{drop, map, ◌≡◌, seen_setting, seen_settings}
use Rattle.yaml_base.specs.scripts.Script as notation
use Rattle.yaml_tool.proofs.settings.settings_of.Given as goal

abbrev pub invariant-loop-line : goal.invariant-loop-line
invariant-loop-line l =
    notation.settings_of notation.unset (map seen_setting l.lines)
    ≡ notation.settings_of (seen_settings l.settings) (map seen_setting (drop l.line-index l.lines))
