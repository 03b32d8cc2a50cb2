use Rattle.yaml_value.proofs.Common.{codes, ◌++◌, ◌≡◌, [], map, ap, ◌∙◌, rules, seen_value}
use Rattle.yaml_value.{proofs.WalkLemmas.first_level, proofs.WalkLemmas.popped, proofs.TextSteps.writes_first, proofs.TextSteps.writes_more}
use Rattle.yaml_value.{proofs.TextSteps.writes_all, proofs.WalkLemmas.step_smaller, specs.Walk.seen_rest, specs.WalkTexts.line_if, specs.WalkTexts.opens}
use Rattle.yaml_value.proofs.texts.write_value.Goals as goal

pub loop-rest-init : goal.loop-rest-init
loop-rest-init g c =
    let value = seen_value c.args.value.now in
    writes_first c.args.bytes.now.items c.write_opening.new.bytes.items c.indent.new.line.items value c.in_ok-opened.opened
    (map seen_rest c.enter.new.levels.items)
    (first_level c.new-levels.result.items c.enter.new.levels.items value c.new-levels.ensures.items c.in_ok-enter.ensures)
    c.in_ok-write_opening.ensures.written
    (c.in_ok-opened.ensures.line ∙ ap (line_if (opens value)) (c.in_ok-append.ensures ∙ ap (λ line. line ++ codes "\n") c.new-line.ensures.items))
    c.in_ok-opened.ensures.opened c.in_ok-write_opening.ensures.holds

pub loop-rest-smaller : goal.loop-rest-smaller
loop-rest-smaller g c =
    step_smaller (map seen_rest c.loop-rest.levels.items) (map seen_rest c.pop.new.self.items) (seen_rest c.in-Some.rest)
    (map seen_rest c.step.new.levels.items) (popped c.loop-rest.levels.items c.pop.new.self.items c.in-Some.rest c.in-Some.ensures.items)
    (ap (λ made. made.1) c.in_ok-entered.ensures)

pub loop-rest-preserved : goal.loop-rest-preserved
loop-rest-preserved g c =
    writes_more c.args.bytes.now.items c.loop-rest.bytes.items c.write_step.new.bytes.items c.loop-rest.line.items c.write_step.new.line.items
    (seen_value c.args.value.now) c.loop-rest.opened c.in_ok-opened-2.opened (map seen_rest c.loop-rest.levels.items)
    (map seen_rest c.pop.new.self.items) (seen_rest c.in-Some.rest) _ (map seen_rest c.step.new.levels.items)
    (popped c.loop-rest.levels.items c.pop.new.self.items c.in-Some.rest c.in-Some.ensures.items) c.in_ok-entered.ensures
    c.in_ok-opened-2.ensures.written c.in_ok-opened-2.ensures.line c.in_ok-opened-2.ensures.opened c.in_ok-opened-2.ensures.holds
    c.loop-rest.invariant

pub returns-clause-written : goal.returns-clause-written
returns-clause-written g c =
    let none : c.loop-rest.levels.items ≡ [] = search rules in
    (writes_all c.args.bytes.now.items c.loop-rest.bytes.items c.loop-rest.line.items (seen_value c.args.value.now) c.loop-rest.opened
    (map seen_rest c.loop-rest.levels.items) (ap (map seen_rest) none) c.loop-rest.invariant).0

pub returns-clause-holds : goal.returns-clause-holds
returns-clause-holds g c =
    let none : c.loop-rest.levels.items ≡ [] = search rules in
    (writes_all c.args.bytes.now.items c.loop-rest.bytes.items c.loop-rest.line.items (seen_value c.args.value.now) c.loop-rest.opened
    (map seen_rest c.loop-rest.levels.items) (ap (map seen_rest) none) c.loop-rest.invariant).1
