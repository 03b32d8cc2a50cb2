use Rattle.std.proofs.Common.{arith, refl}
use Rattle.yaml_json_value.proofs.SeenRests.{count_rests, rest_more}
use Rattle.yaml_json_value.proofs.back.open.Goals as goal

pub returns-in-Ok : goal.returns-in-Ok
returns-in-Ok g c =
    let under = c.in-Ok.ensures.variant.0 refl in
    let count = count_rests c.args.levels.now.items in
    (rest_more c.args.levels.now.items c.try_push.new.self.items c.args.rest c.in-Ok.ensures.ok, omega (arith, under, count))

pub returns-in-Err : goal.returns-in-Err
returns-in-Err g c =
    let full = c.in-Err.ensures.full in
    let count = count_rests c.args.levels.now.items in
    omega (arith, full, count)
