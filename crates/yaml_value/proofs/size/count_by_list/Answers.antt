use Rattle.yaml_value.proofs.Common.{◌≡◌, map, ap, false, true, rules, ◌∙◌, seen_value}
use Rattle.yaml_base.proofs.Common.{is_some, option_map}
use Rattle.yaml_value.proofs.CountLemmas.{counts_first, counts_none, counts_some, is_some-map}
use Rattle.yaml_value.proofs.WalkLemmas.{first_level, popped, step_smaller}
use Rattle.yaml_value.specs.Walk.{seen_rest}
use Rattle.yaml_value.proofs.size.count_by_list.Goals as goal

pub loop-rest-init : goal.loop-rest-init
loop-rest-init g c =
    let value = seen_value c.args.value.now in
    counts_first value (map seen_rest c.enter.new.levels.items)
    (first_level c.new-levels.result.items c.enter.new.levels.items value c.new-levels.ensures.items c.in_ok-enter.ensures)

pub loop-rest-smaller-then-is_some : goal.loop-rest-smaller-then-is_some
loop-rest-smaller-then-is_some g c =
    step_smaller (map seen_rest c.loop-rest.levels.items) (map seen_rest c.pop.new.self.items) (seen_rest c.in-Some.rest)
    (map seen_rest c.step.new.levels.items) (popped c.loop-rest.levels.items c.pop.new.self.items c.in-Some.rest c.in-Some.ensures.items)
    (ap (λ made. made.1) c.in_ok-entered.ensures)

pub loop-rest-preserved-then-is_some : goal.loop-rest-preserved-then-is_some
loop-rest-preserved-then-is_some g c =
    let some : is_some c.in_ok-entered.entered ≡ true = search rules in
    counts_some (map seen_rest c.loop-rest.levels.items) (map seen_rest c.pop.new.self.items) (map seen_rest c.step.new.levels.items)
    (seen_rest c.in-Some.rest) (option_map (λ value. seen_value value.now) c.in_ok-entered.entered) (seen_value c.args.value.now) c.loop-rest.count
    c.saturating_add-count.result (popped c.loop-rest.levels.items c.pop.new.self.items c.in-Some.rest c.in-Some.ensures.items) c.in_ok-entered.ensures
    (is_some-map (λ value. seen_value value.now) c.in_ok-entered.entered ∙ some) (search rules) c.loop-rest.invariant

pub loop-rest-smaller : goal.loop-rest-smaller
loop-rest-smaller g c =
    step_smaller (map seen_rest c.loop-rest.levels.items) (map seen_rest c.pop.new.self.items) (seen_rest c.in-Some.rest)
    (map seen_rest c.step.new.levels.items) (popped c.loop-rest.levels.items c.pop.new.self.items c.in-Some.rest c.in-Some.ensures.items)
    (ap (λ made. made.1) c.in_ok-entered.ensures)

pub loop-rest-preserved : goal.loop-rest-preserved
loop-rest-preserved g c =
    let none : is_some c.in_ok-entered.entered ≡ false = search rules in
    counts_none (map seen_rest c.loop-rest.levels.items) (map seen_rest c.pop.new.self.items) (map seen_rest c.step.new.levels.items)
    (seen_rest c.in-Some.rest) (option_map (λ value. seen_value value.now) c.in_ok-entered.entered) (seen_value c.args.value.now) c.loop-rest.count
    (popped c.loop-rest.levels.items c.pop.new.self.items c.in-Some.rest c.in-Some.ensures.items) c.in_ok-entered.ensures
    (is_some-map (λ value. seen_value value.now) c.in_ok-entered.entered ∙ none) c.loop-rest.invariant
