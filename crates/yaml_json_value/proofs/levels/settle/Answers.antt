use Rattle.std.proofs.Common.{List, ap, arith}
use Rattle.yaml_value.specs.{OpenLevels.OpenLevel, SeenValues.seen_value}
use Rattle.yaml_value.proofs.SeenLevels.{no_levels}
use Rattle.yaml_json_value.specs.Standing.{give}
use Rattle.yaml_json_value.proofs.Taking.{on_innermost}
use Rattle.yaml_json_value.proofs.levels.settle.Goals as goal

pub returns-in-Some : goal.returns-in-Some
returns-in-Some g c =
    on_innermost (λ (levels : List OpenLevel). give levels (seen_value c.args.value)) c.args.levels.now.items c.pop.new.self.items
    c.give_to.new.levels.items c.in-Some.level c.give_to.result c.in-Some.ensures.items c.give_to.ensures

pub returns-in-None : goal.returns-in-None
returns-in-None g c =
    ap (λ (levels : List OpenLevel). give levels (seen_value c.args.value))
    (no_levels c.args.levels.now.items (omega (arith, c.in-None.ensures.cases.0, c.args.levels.now.ok.0)))
