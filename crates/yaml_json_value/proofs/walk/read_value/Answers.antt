use Rattle.std.proofs.Common.{List, ap, arith, length, refl, subst, sym, ◌∙◌}
use Rattle.json.specs.Reads.{token_of}
use Rattle.yaml_value.specs.{OpenLevels.seen_levels, SeenValues.seen_value, declared.levels.Level.Level}
use Rattle.yaml_json_value.specs.Walked.{WalkedTo}
use Rattle.yaml_json_value.proofs.Steps.{begins_walk, ends_integers, ends_other, ends_short, ends_whole, no_other, other_first, refused, step_on}
use Rattle.yaml_json_value.proofs.walk.read_value.Goals as goal

pub each_token-init : goal.each_token-init
each_token-init g c = (
  subst (λ (levels : List (Level _)). WalkedTo c.args.reader.now.ahead c.args.reader.now.ahead (seen_levels levels)) (sym c.new-levels.ensures.items)
      (begins_walk c.args.reader.now.ahead),
  refl,
)

pub returns-in-Err-clause-read : goal.returns-in-Err-clause-read
returns-in-Err-clause-read g c =
    λ root runs.
    ends_short g.row.A.Denot c.args.reader.now.ahead c.each_token.reader.ahead (seen_levels c.each_token.levels.items) root c.in-Err.stop
    c.each_token.invariant.0 c.in-Err.ensures.none runs

pub returns-in-Err-clause-other : goal.returns-in-Err-clause-other
returns-in-Err-clause-other g c =
    no_other g.row.A.Denot c.args.reader.now.ahead c.each_token.reader.ahead c.next_token.new.reader.before c.in-Err.stop c.in-Err.ensures.none

pub each_token-preserved : goal.each_token-preserved
each_token-preserved g c =
    let taken = rw c.in-Ok-None.field-0-is at c.in-Ok-None.ensures in (
      step_on c.args.reader.now.ahead c.each_token.reader.ahead c.next_token.new.reader.ahead (token_of c.in-Ok.token)
          (seen_levels c.each_token.levels.items)
          (seen_levels c.take_token.new.levels.items) c.each_token.invariant.0 c.in-Ok.ensures.first taken.0 taken.1,
      c.next_token.ensures.text ∙ c.each_token.invariant.1,
    )

pub each_token-smaller : goal.each_token-smaller
each_token-smaller g c = omega (arith, ap length c.in-Ok.ensures.first)

pub returns-in-Ok-Some-clause-read : goal.returns-in-Ok-Some-clause-read
returns-in-Ok-Some-clause-read g c =
    λ root runs.
    let taken = rw c.in-Ok-Some.field-0-is at c.in-Ok-Some.ensures in
    ends_whole c.args.reader.now.ahead c.each_token.reader.ahead c.next_token.new.reader.ahead (token_of c.in-Ok.token)
    (seen_levels c.each_token.levels.items) (seen_value c.in-Ok-Some.value) root c.finish.result c.each_token.invariant.0 c.in-Ok.ensures.first
    taken.0 c.finish.ensures runs

pub returns-in-Ok-Some-clause-integers : goal.returns-in-Ok-Some-clause-integers
returns-in-Ok-Some-clause-integers g c =
    let taken = rw c.in-Ok-Some.field-0-is at c.in-Ok-Some.ensures in
    ends_integers c.args.reader.now.ahead c.each_token.reader.ahead c.next_token.new.reader.ahead (token_of c.in-Ok.token)
    (seen_levels c.each_token.levels.items) (seen_value c.in-Ok-Some.value) c.finish.result c.each_token.invariant.0 c.in-Ok.ensures.first
    taken.1 c.finish.ensures

pub returns-in-Ok-Some-clause-other : goal.returns-in-Ok-Some-clause-other
returns-in-Ok-Some-clause-other g c =
    ends_other c.args.reader.now.ahead c.next_token.new.reader.before c.next_token.new.reader.ahead (seen_value c.in-Ok-Some.value) c.finish.result
    c.finish.ensures

pub returns-in-Err-take_token-clause-read : goal.returns-in-Err-take_token-clause-read
returns-in-Err-take_token-clause-read g c =
    λ root runs.
    refused c.args.reader.now.ahead c.each_token.reader.ahead c.next_token.new.reader.ahead (token_of c.in-Ok.token) (seen_levels c.each_token.levels.items)
    c.take_token.new.levels.items root c.in-Err-take_token.stop c.each_token.invariant.0 c.in-Ok.ensures.first c.in-Err-take_token.ensures runs

pub returns-in-Err-take_token-clause-other : goal.returns-in-Err-take_token-clause-other
returns-in-Err-take_token-clause-other g c =
    other_first c.args.reader.now.ahead c.each_token.reader.ahead c.next_token.new.reader.ahead c.next_token.new.reader.before (token_of c.in-Ok.token)
    (seen_levels c.each_token.levels.items) c.take_token.new.levels.items c.in-Err-take_token.stop c.each_token.invariant.0 c.next_token.ensures.before
    c.in-Ok.ensures.first c.in-Err-take_token.ensures
