use Rattle.yaml_value.proofs.Common.{◌≡◌, ◌<◌, ◌++◌, List, map, nat_le, length, false, true, ap, refl, subst, sym, ◌∙◌, arith, rules, most_nested, seen_value}
use Rattle.std.proofs.lemmas.List.{length-map}
use Rattle.yaml_value.proofs.CountLemmas.{counts_first, counts_more, counts_same}
use Rattle.yaml_value.proofs.WalkLemmas.{deepest_entered, deepest_left, first_level, popped, step_ends, step_exceeds, step_fits, step_is, step_smaller}
use Rattle.yaml_value.specs.Walk.{Left, entered, seen_rest}
use Rattle.yaml_value.proofs.size.count_within.Goals as goal

pub loop-rest-init : goal.loop-rest-init
loop-rest-init g c =
    let value = seen_value c.args.value.now in
    let on : c.enter_within.result ≡ true = search rules in
    let is = first_level c.new-levels.result.items c.enter_within.new.levels.items value c.new-levels.ensures (c.enter_within.ensures.entered on) in (
      c.enter_within.ensures.fits,
      ap (λ levels. nat_le (deepest_left levels) most_nested) is ∙ ap (λ depth. nat_le depth most_nested) (deepest_entered value),
      counts_first value (map seen_rest c.enter_within.new.levels.items) is,
    )

pub returns-then-not-enter_within-2 : goal.returns-then-not-enter_within-2
returns-then-not-enter_within-2 g c =
    let off : c.enter_within-in-Some-split_first.result ≡ false = search rules in
    let fits = c.loop-rest.invariant.0 in
    let fewer = c.in-Some.ensures.len in
    let outer = map seen_rest c.pop.new.self.items in
    let left = seen_rest c.in-Some.rest in
    let value = seen_value c.in-Some-split_first.value.now in
    let pushed = map seen_rest c.push.new.self.items in
    let lengths = length-map c.pop.new.self.items seen_rest in
    let so = step_is outer pushed left (seen_rest c.in-Some-split_first.others) value (pushed ++ entered value)
    (popped c.push.new.self.items c.pop.new.self.items c.in-Some-split_first.others c.push.ensures.items) c.in-Some-split_first.ensures refl in
    sym c.loop-rest.invariant.1
    ∙ step_exceeds (map seen_rest c.loop-rest.levels.items) outer left most_nested
    (popped c.loop-rest.levels.items c.pop.new.self.items c.in-Some.rest c.in-Some.ensures.items) (omega (arith, fits, fewer, lengths))
    (subst (λ (levels : List Left). most_nested < length levels) (ap (λ made. made.1) so) (c.enter_within-in-Some-split_first.ensures.refused off))

pub loop-rest-smaller-in-Some-split_first : goal.loop-rest-smaller-in-Some-split_first
loop-rest-smaller-in-Some-split_first g c =
    let on : c.enter_within-in-Some-split_first.result ≡ true = search rules in
    let outer = map seen_rest c.pop.new.self.items in
    let left = seen_rest c.in-Some.rest in
    let value = seen_value c.in-Some-split_first.value.now in
    let after = map seen_rest c.enter_within-in-Some-split_first.new.levels.items in
    let so = step_is outer (map seen_rest c.push.new.self.items) left (seen_rest c.in-Some-split_first.others) value after
    (popped c.push.new.self.items c.pop.new.self.items c.in-Some-split_first.others c.push.ensures.items) c.in-Some-split_first.ensures
    (c.enter_within-in-Some-split_first.ensures.entered on) in
    step_smaller (map seen_rest c.loop-rest.levels.items) outer left after
    (popped c.loop-rest.levels.items c.pop.new.self.items c.in-Some.rest c.in-Some.ensures.items) (ap (λ made. made.1) so)

pub loop-rest-preserved-in-Some-split_first : goal.loop-rest-preserved-in-Some-split_first
loop-rest-preserved-in-Some-split_first g c =
    let on : c.enter_within-in-Some-split_first.result ≡ true = search rules in
    let fits = c.loop-rest.invariant.0 in
    let fewer = c.in-Some.ensures.len in
    let outer = map seen_rest c.pop.new.self.items in
    let left = seen_rest c.in-Some.rest in
    let value = seen_value c.in-Some-split_first.value.now in
    let after = map seen_rest c.enter_within-in-Some-split_first.new.levels.items in
    let lengths = length-map c.pop.new.self.items seen_rest in
    let so = step_is outer (map seen_rest c.push.new.self.items) left (seen_rest c.in-Some-split_first.others) value after
    (popped c.push.new.self.items c.pop.new.self.items c.in-Some-split_first.others c.push.ensures.items) c.in-Some-split_first.ensures
    (c.enter_within-in-Some-split_first.ensures.entered on) in
    let before = popped c.loop-rest.levels.items c.pop.new.self.items c.in-Some.rest c.in-Some.ensures.items in (
      c.enter_within-in-Some-split_first.ensures.fits,
      ap (λ made. nat_le (deepest_left made.1) most_nested) so
          ∙ step_fits (map seen_rest c.loop-rest.levels.items) outer left most_nested before (omega (arith, fits, fewer, lengths)) ∙ c.loop-rest.invariant.1,
      counts_more (map seen_rest c.loop-rest.levels.items) outer after left value (seen_value c.args.value.now) c.loop-rest.count
          c.saturating_add-count.result before so (search rules) c.loop-rest.invariant.2,
    )

pub loop-rest-smaller : goal.loop-rest-smaller
loop-rest-smaller g c =
    let outer = map seen_rest c.pop.new.self.items in
    let left = seen_rest c.in-Some.rest in
    step_smaller (map seen_rest c.loop-rest.levels.items) outer left outer
    (popped c.loop-rest.levels.items c.pop.new.self.items c.in-Some.rest c.in-Some.ensures.items)
    (ap (λ made. made.1) (step_ends outer left c.in_default-split_first.ensures))

pub loop-rest-preserved : goal.loop-rest-preserved
loop-rest-preserved g c =
    let fits = c.loop-rest.invariant.0 in
    let fewer = c.in-Some.ensures.len in
    let outer = map seen_rest c.pop.new.self.items in
    let left = seen_rest c.in-Some.rest in
    let lengths = length-map c.pop.new.self.items seen_rest in
    let so = step_ends outer left c.in_default-split_first.ensures in
    let before = popped c.loop-rest.levels.items c.pop.new.self.items c.in-Some.rest c.in-Some.ensures.items in (
      omega (arith, fits, fewer),
      ap (λ made. nat_le (deepest_left made.1) most_nested) so
          ∙ step_fits (map seen_rest c.loop-rest.levels.items) outer left most_nested before (omega (arith, fits, fewer, lengths)) ∙ c.loop-rest.invariant.1,
      counts_same (map seen_rest c.loop-rest.levels.items) outer outer left (seen_value c.args.value.now) c.loop-rest.count before so
          c.loop-rest.invariant.2,
    )
