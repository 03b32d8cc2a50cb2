use Rattle.std.proofs.Common.{arith, ◌∙◌}
use Rattle.toml_ordered.proofs.{Around.array_ends, Around.inside_ends, Depths.ends_within, Heads.closes, Trees.node_view-Array}
use Rattle.toml_ordered.proofs.values.next_item.Goals as goal

pub returns-then-first-eq93 : goal.returns-then-first-eq93
returns-then-first-eq93 c =
    let s = c.args.s.now in
    let blank = c.skip_blank-start.ensures.rest in
    let before = c.skip_blank-start.ensures.within in
    let shorter = c.skip.ensures.shorter in
    let closing = closes 93 s c.skip_blank-start.result.now blank c.first.result c.first.ensures c.if-first-eq93.true in (
      (λ depth text known.
          let within = ends_within text s (inside_ends text s known.ends) in
          (array_ends depth text _ s known closing ∙ rw (c.skip.ensures.rest, blank, node_view-Array c.args.items), omega arith)),
      omega (arith, before, shorter),
    )
