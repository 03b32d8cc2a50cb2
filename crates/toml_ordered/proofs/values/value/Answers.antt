use Rattle.toml_ordered.proofs.Common.{ℕ, suc, ◌-◌, ◌≤◌, List, rules, ◌∙◌, ClashesIn, NestsPast}
use Rattle.toml_ordered.proofs.{Conflicts.reworded, values.value.Goals.After-len, values.value.Goals.After-go_on}
use Rattle.toml_ordered.proofs.Around.{Stands, stands_closed, stands_opened, stands_refused}
use Rattle.toml_ordered.specs.Inside.{IsNextInside, IsValueRead}
use Rattle.toml_ordered.proofs.values.value.Goals as goal

opened : (c : After-len)
    → (c.len.result ≤ c.args.depth) × Stands c.push.new.self.items c.args.depth c.args.s.now (c.args.depth - c.len.result) c.values.rest.now
opened c =
    let (utf8, inner, at, stands, found) = c.values.invariant in
    stands_opened _ _ _ _ _ at _ _ _ stands found c.in-Opened.is c.in_default.ensures.items _ (c.len.ensures ∙ c.push.new.self.ok.0)

pub overflow_sub-depth : goal.overflow_sub-depth
overflow_sub-depth c = (opened c).0

pub values-preserved-in-Ok-begin : goal.values-preserved-in-Ok-begin
values-preserved-in-Ok-begin c =
    let stands = (opened (goal.at.values-preserved-in-Ok-begin c).After-len).1 in
    (search rules, c.args.depth - c.len.result, c.values.rest.now, stands, c.in-Ok-begin.ensures.0)

pub returns-in-Err-begin : goal.returns-in-Err-begin
returns-in-Err-begin c =
    let stands = (opened (goal.at.returns-in-Err-begin c).After-len).1 in
    let pushed = c.push.new.self.items in
    let deep = c.args.depth - c.len.result in
    let at = c.values.rest.now in
    stands_refused pushed c.args.depth c.args.s.now deep at c.inside.result stands (reworded _ (λ key one two. ClashesIn deep key one two at)
    (λ left. NestsPast deep left at) c.in-Err-begin.fault c.inside.result c.inside.ensures c.in-Err-begin.ensures)

closed : (c : After-go_on)
    → (inner : ℕ) × (at : List ℕ) × (from : List ℕ) × Stands c.pop.new.self.items c.args.depth c.args.s.now (suc inner) from
    × IsNextInside inner from c.in-Some.outer at × IsValueRead inner at c.in-Value.node c.values.rest.now
closed c =
    let (utf8, inner, at, stands, found) = c.values.invariant in
    let (from, fewer, inside, read) = stands_closed _ _ _ _ _ at _ _ _ _ stands found c.in-Value.is c.in-Some.ensures.items in
    (inner, at, from, fewer, inside, read)

pub values-preserved : goal.values-preserved
values-preserved c =
    let (inner, at, from, stands, inside, read) = closed (goal.at.values-preserved c).After-go_on in
    (search rules, suc inner, from, stands, c.in-Ok-go_on.ensures.0 inner from at inside read)

pub returns-in-Err-go_on : goal.returns-in-Err-go_on
returns-in-Err-go_on c =
    let (inner, at, from, stands, inside, read) = closed (goal.at.returns-in-Err-go_on c).After-go_on in
    stands_refused _ _ _ _ _ _ stands (c.in-Err-go_on.ensures inner from at inside read)
