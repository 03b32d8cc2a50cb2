use Rattle.std.proofs.Common.{Option, subst, sym}
use Rattle.yaml_value.specs.{OpenLevels.seen_levels, SeenValues.seen_value}
use Rattle.yaml_json_value.specs.Standing.{ValueStanding}
use Rattle.yaml_json_value.specs.Walked.{StandsAt}
use Rattle.yaml_json_value.proofs.Taking.{value_given}
use Rattle.yaml_json_value.proofs.levels.give_to.Goals as goal

pub returns-in-Ok : goal.returns-in-Ok
returns-in-Ok g c =
    subst (λ (due : Option ValueStanding). StandsAt due c.enter.new.levels.items c.enter.result)
    (sym (value_given c.args.level c.in-Ok.more (seen_levels c.args.levels.now.items) (seen_value c.args.value) c.in_default.not-Pairs c.in-Ok.ensures))
    c.enter.ensures
