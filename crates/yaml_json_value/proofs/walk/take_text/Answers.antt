use Rattle.std.proofs.Common.{ap, sym}
use Rattle.json.specs.Token.{Token}
use Rattle.yaml_base.specs.values.TypedValues.{TypedValue}
use Rattle.yaml_value.specs.{OpenLevels.seen_levels, SeenValues.seen_value}
use Rattle.yaml_json_value.specs.Standing.{give}
use Rattle.yaml_json_value.proofs.Taking.{no_text, taken_as}
use Rattle.yaml_json_value.proofs.walk.take_text.Goals as goal

pub returns-in-Ok : goal.returns-in-Ok
returns-in-Ok g c =
    let before = seen_levels c.args.levels.now.items in
    taken_as (Token.string c.args.text.now) before c.settle.new.levels.items (give before (seen_value c.in-Ok.value)) c.settle.result
    (ap (λ (value : TypedValue). give before value) (sym c.in-Ok.ensures)) tt c.settle.ensures

pub returns-in-Err : goal.returns-in-Err
returns-in-Err g c =
    no_text c.args.text.now (Token.string c.args.text.now) (seen_levels c.args.levels.now.items) c.args.levels.now.items c.in-Err.stop c.in-Err.ensures
