use Rattle.yaml_read.proofs.Common.{◌<◌, ◌≤◌, arith, length, refl, most_nested, seen_levels, no_bracket, no_room}
use Rattle.yaml_read.proofs.{Stepping.closed_steps, Stepping.opened_steps, Stepping.unopened_steps, SeenLevels.levels_length}
use Rattle.yaml_read.proofs.levels.begin.Goals as goal

pub returns-in-Some : goal.returns-in-Some
returns-in-Some g c =
    λ kind empty tagged.
    let before = seen_levels c.args.levels.now.items in
    let room : length before < most_nested = omega (arith, c.len.ensures, c.args.levels.now.ok.0, levels_length c.args.levels.now.items) in
    closed_steps _ _ _ _ _ _ _ _ c.args.behind.now _ _ _ _ empty tagged
    (c.in-Ok.ensures.cut, room) c.in-Some.ensures.cut c.closed_value.ensures c.settle.ensures

pub returns-in-None : goal.returns-in-None
returns-in-None g c =
    λ kind empty tagged.
    let before = seen_levels c.args.levels.now.items in
    let room : length before < most_nested = omega (arith, c.len.ensures, c.args.levels.now.ok.0, levels_length c.args.levels.now.items) in
    opened_steps _ _ _ _ _ _ _ _ c.args.behind.now _ _ empty tagged (c.in-Ok.ensures.cut, room) c.in-None.ensures.cut c.enter.ensures

pub returns-then-len-ge-MOST_NESTED : goal.returns-then-len-ge-MOST_NESTED
returns-then-len-ge-MOST_NESTED g c =
    λ kind empty tagged.
    let before = seen_levels c.args.levels.now.items in
    let many : most_nested ≤ length before = omega (arith, c.len.ensures, c.args.levels.now.ok.0, levels_length c.args.levels.now.items) in
    unopened_steps g.row.A.Denot _ _ _ _ _ _ _ _ _ _ empty tagged (no_room c.in-Ok.inside.now c.in-Ok.ensures.cut many refl)

pub returns-in-Err : goal.returns-in-Err
returns-in-Err g c =
    λ kind empty tagged.
    unopened_steps g.row.A.Denot _ _ _ _ _ _ _ _ _ _ empty tagged (no_bracket c.in-Err.ensures.cut c.in-Err.ensures.placed)
