use Rattle.std.proofs.Common.{◌∷◌, Some}
use Rattle.yaml_json_value.specs.Standing.{within}
use Rattle.yaml_value.specs.OpenLevels.{seen_level, seen_levels}
use Rattle.yaml_json_value.proofs.Taking.{entered, not_entered}
use Rattle.yaml_json_value.proofs.levels.enter.Goals as goal
use Rattle.yaml_json_value.proofs.levels.enter.Goals.{in-Ok, in-Err}

pub returns : goal.returns
returns g c =
    let old = c.args.levels.now.items in
    elim c.match-push.branch [
      | in-Ok w ↦ entered c.args.level old c.push.new.self.items c.match-push.result w.result-is w.in-Ok.ensures.items
      | in-Err w ↦ not_entered (Some (within (seen_level c.args.level ∷ seen_levels old))) c.push.new.self.items c.match-push.result w.result-is
    ]
