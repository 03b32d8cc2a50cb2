use Rattle.yaml_tool.proofs.Common.{drop, map, ◌≡◌, list_any, seen_setting}
use Rattle.yaml_tool.specs.Settings.{sets_same}
use Rattle.yaml_tool.proofs.settings.is_set.Given as goal

abbrev pub invariant-loop-line : goal.invariant-loop-line
invariant-loop-line l =
    list_any (sets_same (seen_setting l.setting)) (map seen_setting l.lines)
    ≡ list_any (sets_same (seen_setting l.setting)) (map seen_setting (drop l.line-index l.lines))
