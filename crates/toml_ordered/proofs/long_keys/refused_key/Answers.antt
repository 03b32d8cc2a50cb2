use Rattle.toml_ordered.proofs.Common.{◌≡◌, ℕ, suc, ◌+◌, List, drop, rules, arith, ap, subst, ◌∙◌, first, skip_ws}
use Rattle.toml_ordered.proofs.Conflicts.{other_than}
use Rattle.toml_ordered.proofs.LongKeys.{UpToPart, key_long, key_short, part_more, part_none, tells_long, tells_short}
use Rattle.toml_ordered.proofs.long_keys.refused_key.Goals as goal

pub returns-in-Err : goal.returns-in-Err
returns-in-Err c =
    let l = c.parts in
    other_than _ _ _ (λ real. ((λ key one two clash. clash), part_none _ _ _ l.invariant.1 (c.in-Err.ensures.0 real))) c.in-Err.ensures.1

pub returns-then-dots-lt-RECURSION_LIMIT : goal.returns-then-dots-lt-RECURSION_LIMIT
returns-then-dots-lt-RECURSION_LIMIT c =
    let s = c.args.s.now in
    let l = c.parts in
    let (part, read) = c.in-Ok.ensures.0 in
    tells_short s c.not_toml.result _ _ c.not_toml.ensures (key_short s l.dots l.rest.now l.invariant.1 part c.in-Ok.after.now read c.in-Ok.ensures.1
    c.first.result (c.first.ensures ∙ ap (λ (t : List ℕ). first t) c.skip_ws-next.ensures.rest) c.if-first-ne46.true c.if-dots-lt-RECURSION_LIMIT.true)

pub returns-then-first-ne46 : goal.returns-then-first-ne46
returns-then-first-ne46 c =
    let s = c.args.s.now in
    let l = c.parts in
    let (part, read) = c.in-Ok.ensures.0 in
    tells_long s c.too_deep.result c.too_deep.ensures (key_long s l.dots l.rest.now l.invariant.1 part c.in-Ok.after.now read c.in-Ok.ensures.1 c.first.result
    (c.first.ensures ∙ ap (λ (t : List ℕ). first t) c.skip_ws-next.ensures.rest) c.if-first-ne46.true c.if-dots-lt-RECURSION_LIMIT.false)

pub parts-preserved : goal.parts-preserved
parts-preserved c =
    let s = c.args.s.now in
    let l = c.parts in
    let (part, read) = c.in-Ok.ensures.0 in
    let shorter = c.in-Ok.ensures.1 in
    let blank = c.skip_ws-next.ensures.within in
    let dot = c.skip.ensures.shorter in
    let more = c.skip_ws-rest.ensures.within in
    let before = l.invariant.2 in
    let one : suc l.dots ≡ l.dots + 1 = omega arith in
    let is = c.skip_ws-rest.ensures.rest ∙ ap skip_ws (c.skip.ensures.rest ∙ ap (λ (t : List ℕ). drop 1 t) c.skip_ws-next.ensures.rest) in (
      search rules,
      subst (λ (n : ℕ). UpToPart s n c.skip_ws-rest.result.now) one (part_more s _ _ l.invariant.1 _ _ read shorter _
          (c.first.ensures ∙ ap (λ (t : List ℕ). first t) c.skip_ws-next.ensures.rest) c.if-first-ne46.false _ is (omega (arith, blank, dot, more))),
      omega (arith, before, shorter, blank, dot, more),
    )
