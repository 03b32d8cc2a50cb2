use Rattle.toml_ordered.proofs.Common.{ℕ, suc, List, subst, ◌∙◌, arith, ClashesIn, KeyTells, NestsPast, Closed}
use Rattle.toml_ordered.proofs.{Conflicts.reworded, Depths.ends_within, Heads.closes, Heads.closes_not, Trees.node_view-Table}
use Rattle.toml_ordered.proofs.Around.{braces_end, braces_keyless, braces_nameless, inside_ends}
use Rattle.toml_ordered.proofs.values.next_pair.Goals as goal

pub returns-then-first-eq125 : goal.returns-then-first-eq125
returns-then-first-eq125 c =
    let s = c.args.s.now in
    let blank = c.skip_blank-start.ensures.rest in
    let before = c.skip_blank-start.ensures.within in
    let shorter = c.skip.ensures.shorter in
    let closing = closes 125 s c.skip_blank-start.result.now blank c.first.result c.first.ensures c.if-first-eq125.true in (
      (λ depth text known.
          let within = ends_within text s (inside_ends text s known.ends) in (
            braces_end depth text c.args.table s known closing ∙ rw (c.skip.ensures.rest, blank, node_view-Table Closed c.args.table),
            omega arith,
          )),
      omega (arith, before, shorter),
    )

pub returns-in-Err : goal.returns-in-Err
returns-in-Err c depth text known =
    let s = c.args.s.now in
    let blank = c.skip_blank-start.ensures.rest in
    let other = closes_not 125 s c.skip_blank-start.result.now blank c.first.result c.first.ensures c.if-first-eq125.false in
    reworded _ (λ key one two. ClashesIn (suc depth) key one two text) (λ left. NestsPast (suc depth) left text) c.in-Err.fault c.in_braces.result
    c.in_braces.ensures (
      (λ real. braces_nameless depth text c.args.table s known other (rw blank at (c.in-Err.ensures.0 real))),
      braces_keyless depth text c.args.table s known c.in-Err.fault (λ real. rw blank at (c.in-Err.ensures.0 real))
          (subst (λ (t : List ℕ). KeyTells t c.in-Err.fault) blank c.in-Err.ensures.1),
    )
