use Rattle.std.proofs.Common.{◌≡◌, List, Ok, [], arith, rules, subst}
use Rattle.yaml_value.specs.SeenValues.{seen_value}
use Rattle.yaml_json_value.specs.Rests.{seen_rests}
use Rattle.yaml_json_value.specs.Untyped.{Goes}
use Rattle.yaml_json_value.specs.declared.back.Rest.{Rest}
use Rattle.yaml_json_value.proofs.SeenRests.{begins_in, count_rests, taken}
use Rattle.yaml_json_value.proofs.Untyping.{fewer_left, then_goes}
use Rattle.yaml_json_value.proofs.back.write_tokens.Goals as goal

pub loop-rest-init : goal.loop-rest-init
loop-rest-init g c =
    let root = seen_value c.args.value.now in
    c.in-Ok.ensures root (begins_in root c.args.writer.now.tokens c.new-levels.result.items c.requires c.new-levels.ensures)

pub returns-in-Err : goal.returns-in-Err
returns-in-Err g c =
    let root = seen_value c.args.value.now in
    c.in-Err.ensures root (begins_in root c.args.writer.now.tokens c.new-levels.result.items c.requires c.new-levels.ensures)

pub write_next-requires : goal.write_next-requires
write_next-requires g c =
    let room = c.loop-rest.invariant.0.room in
    let count = count_rests c.loop-rest.levels.items in
    let fewer = c.in-Some.ensures.len in
    omega (arith, room, count, fewer)

pub loop-rest-preserved : goal.loop-rest-preserved
loop-rest-preserved g c =
    let root = seen_value c.args.value.now in
    let walked = taken root c.loop-rest.writer.tokens c.loop-rest.levels.items c.pop.new.self.items c.in-Some.rest c.in-Some.ensures.items
    c.loop-rest.invariant.0 in
    then_goes root c.args.writer.now c.loop-rest.writer c.write_next.new.writer (seen_rests c.loop-rest.levels.items)
    (seen_rests c.write_next.new.levels.items) (Ok tt) c.loop-rest.invariant (c.in-Ok-write_next.ensures root walked)

pub loop-rest-smaller : goal.loop-rest-smaller
loop-rest-smaller g c =
    let root = seen_value c.args.value.now in
    let walked = taken root c.loop-rest.writer.tokens c.loop-rest.levels.items c.pop.new.self.items c.in-Some.rest c.in-Some.ensures.items
    c.loop-rest.invariant.0 in
    let next = c.in-Ok-write_next.ensures root walked in
    fewer_left root c.loop-rest.writer.tokens c.write_next.new.writer.tokens (seen_rests c.loop-rest.levels.items)
    (seen_rests c.write_next.new.levels.items) c.loop-rest.invariant.0 next.0 next.1

pub returns-in-Err-write_next : goal.returns-in-Err-write_next
returns-in-Err-write_next g c =
    let root = seen_value c.args.value.now in
    c.in-Err-write_next.ensures root
    (taken root c.loop-rest.writer.tokens c.loop-rest.levels.items c.pop.new.self.items c.in-Some.rest c.in-Some.ensures.items c.loop-rest.invariant.0)

pub returns : goal.returns
returns g c =
    let none : c.loop-rest.levels.items ≡ [] = search rules in
    subst (λ (rests : List (Rest g.row.A.Denot)). Goes (seen_value c.args.value.now) c.args.writer.now c.loop-rest.writer (seen_rests rests) (Ok tt))
    none c.loop-rest.invariant
