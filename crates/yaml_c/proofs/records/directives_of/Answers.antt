use Rattle.yaml_c.proofs.Common.{◌+◌, option_map, drop, List, [], map, ◌++◌, ◌∷◌, ◌≡◌, rules, ap, sym, ◌∙◌, TagDirective, seen_directive, directives_recorded}
use Rattle.std.proofs.{Common.arith, Common.refl, lemmas.List.map_push}
use Rattle.yaml_c.proofs.ReadingLemmas.{behind, read_all, read_bad, read_more, read_none}
use Rattle.yaml_c.specs.EventRecords.{directive_recorded}
use Rattle.yaml_c.proofs.records.directives_of.Goals as goal

pub loop-directive-preserved : goal.loop-directive-preserved
loop-directive-preserved g c =
    let now = c.loop-directive in
    let all = c.args.directives.now in
    let read : List TagDirective = map seen_directive now.all.items in
    let pushed : map seen_directive c.push.new.self.items ≡ read ++ seen_directive c.in-Ok-Some.directive ∷ [] =
    ap (map seen_directive) c.in_ok-push-in-Ok-Some.ensures.items ∙ map_push seen_directive now.all.items c.in-Ok-Some.directive in
    let more = read_more (directive_recorded c.args.arena.now) all now.directive-index _ read (seen_directive c.in-Ok-Some.directive) c.loop-directive-test.true
    (ap (option_map seen_directive) (sym c.in-Ok-Some.field-0-is) ∙ c.in-Ok-Some.ensures) now.invariant.2 in (
      search rules,
      search rules,
      more ∙ ap (λ (xs : List TagDirective). behind xs (directives_recorded c.args.arena.now (drop (now.directive-index + 1) all))) (sym pushed),
    )

pub loop-directive-init : goal.loop-directive-init
loop-directive-init g c = (
  omega arith,
  refl,
  read_none (directive_recorded c.args.arena.now) c.args.directives.now (map seen_directive c.new-all.result.items)
      (ap (map seen_directive) c.new-all.ensures.items),
)

pub loop-directive-smaller : goal.loop-directive-smaller
loop-directive-smaller g c = let more = c.loop-directive-test.true in omega (arith, more)

pub returns-in-Ok-None : goal.returns-in-Ok-None
returns-in-Ok-None g c =
    let now = c.loop-directive in
    read_bad (directive_recorded c.args.arena.now) c.args.directives.now now.directive-index _ (map seen_directive now.all.items) c.loop-directive-test.true
    (ap (option_map seen_directive) (sym c.in-Ok-None.field-0-is) ∙ c.in-Ok-None.ensures) now.invariant.2

pub returns : goal.returns
returns g c =
    let now = c.loop-directive in
    read_all (directive_recorded c.args.arena.now) c.args.directives.now now.directive-index (map seen_directive now.all.items)
    c.loop-directive-test.false now.invariant.2
