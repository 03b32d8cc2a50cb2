use Rattle.toml_ordered.proofs.Common.{arith, inr, key_view, recursion_limit, node_view, ClashesIn, ExpressionNestsPast, NestsPast, PairClashes}
use Rattle.toml_ordered.proofs.{Conflicts.reason_in, Unblamed.valued_neither, Heads.pair_bad, Heads.pair_is, Heads.pair_keyless, Heads.pair_nameless}
use Rattle.toml_ordered.proofs.document.expression.Goals as goal

pub returns-in-Err : goal.returns-in-Err
returns-in-Err c = (
  λ real. pair_nameless c.args.s.now c.first.result c.first.ensures c.if-first-eq91.false (c.in-Err.ensures.0 real),
  pair_keyless c.args.s.now c.first.result c.first.ensures c.if-first-eq91.false c.in-Err.fault c.in-Err.ensures.0 c.in-Err.ensures.1,
)

pub returns-in-Ok-value : goal.returns-in-Ok-value
returns-in-Ok-value c =
    let at = c.in-Ok.read.1.now in
    let key = c.in-Ok.ensures.1 in
    let read = c.in-Ok-value.ensures.1 in (
      pair_is _ _ c.first.ensures c.if-first-eq91.false _ at c.in-Ok.ensures.0 _ _ c.in-Ok-value.ensures.0,
      omega (arith, key, read),
    )

pub returns-in-Err-value : goal.returns-in-Err-value
returns-in-Err-value c =
    let s = c.args.s.now in
    let at = c.in-Ok.read.1.now in (
      λ real. pair_bad s c.first.result c.first.ensures c.if-first-eq91.false (key_view c.in-Ok.read.0) at c.in-Ok.ensures.0 (c.in-Err-value.ensures.0 real),
      reason_in c.in-Err-value.fault (λ key one two. ClashesIn recursion_limit key one two at) (PairClashes s) (λ left. NestsPast recursion_limit left at)
          (ExpressionNestsPast s) (λ key one two clash. (_, at, c.in-Ok.ensures.0, clash)) (λ left deep. inr (_, at, c.in-Ok.ensures.0, deep))
          (λ real. valued_neither s (key_view c.in-Ok.read.0) at c.in-Ok.ensures.0) c.in-Err-value.ensures.1,
    )
