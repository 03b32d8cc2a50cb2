use Rattle.std.proofs.Common.{arith, length}
use Rattle.toml_ordered.proofs.Heads.{element_comma, element_ends, element_unended, no_text}
use Rattle.toml_ordered.proofs.values.past_element.Goals as goal

pub returns-then-next-eq44 : goal.returns-then-next-eq44
returns-then-next-eq44 c =
    let blank = c.skip_blank-rest.ensures.within in
    let comma = c.skip.ensures.shorter in (
      element_comma _ _ _ c.skip_blank-rest.ensures.rest _ c.first-next.ensures c.if-next-eq44.true _ c.skip.ensures.rest,
      omega (arith, blank, comma),
    )

pub returns-then-next-closing : goal.returns-then-next-closing
returns-then-next-closing c = (
  element_ends _ _ _ c.skip_blank-rest.ensures.rest _ c.first-next.ensures c.if-next-eq44.false c.if-next-closing.true,
  c.skip_blank-rest.ensures.within,
)

pub returns-then-closing-eq93 : goal.returns-then-closing-eq93
returns-then-closing-eq93 c =
    no_text (length c.skip_blank-rest.result.now) _ c.not_toml.result _ c.not_toml.ensures (element_unended c.args.closing c.args.s.now
    c.skip_blank-rest.result.now c.skip_blank-rest.ensures.rest c.first-next.result c.first-next.ensures c.if-next-eq44.false c.if-next-closing.false)

pub returns-else-closing-eq93 : goal.returns-else-closing-eq93
returns-else-closing-eq93 c =
    no_text _ _ _ _ c.not_toml-else-closing-eq93.ensures
    (element_unended _ _ _ c.skip_blank-rest.ensures.rest _ c.first-next.ensures c.if-next-eq44.false c.if-next-closing.false)
