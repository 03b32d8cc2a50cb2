use Rattle.toml_ordered.proofs.Common.{arith, length, key_view}
use Rattle.toml_ordered.proofs.Heads.{ends_text, header_bad, header_keyed, header_neither, header_one, header_open, header_two}
use Rattle.toml_ordered.proofs.document.header.Goals as goal

pub returns-in-Err : goal.returns-in-Err
returns-in-Err c =
    let brackets = c.bracket_count-brackets in
    let s = c.args.s.now in
    let start = c.skip_ws.result.now in (
      λ real. header_bad s c.requires _ brackets.ensures _ c.skip.ensures.rest _ c.skip_ws.ensures.rest (c.in-Err.ensures.0 real),
      header_keyed s c.requires _ brackets.ensures _ c.skip.ensures.rest _ c.skip_ws.ensures.rest _ c.in-Err.ensures.1,
    )

pub returns-then-brackets-eq1 : goal.returns-then-brackets-eq1
returns-then-brackets-eq1 c =
    let brackets = c.bracket_count-brackets in
    let opening = c.skip.ensures.shorter in
    let blank = c.skip_ws.ensures.within in
    let behind = c.in-Ok.ensures.1 in (
      header_one _ c.requires _ brackets.ensures _ c.skip.ensures.rest _ c.skip_ws.ensures.rest _ _ c.in-Ok.ensures.0 c.if-brackets-eq1.true,
      omega (arith, opening, blank, behind),
    )

pub returns-then-first-eq93 : goal.returns-then-first-eq93
returns-then-first-eq93 c =
    let brackets = c.bracket_count-brackets in
    let opening = c.skip.ensures.shorter in
    let blank = c.skip_ws.ensures.within in
    let behind = c.in-Ok.ensures.1 in
    let closing = c.skip-then-first-eq93.ensures.shorter in (
      header_two _ c.requires _ brackets.ensures _ c.skip.ensures.rest _ c.skip_ws.ensures.rest _ _ c.in-Ok.ensures.0 c.if-brackets-eq1.false _ c.first.ensures
          c.if-first-eq93.true _ c.skip-then-first-eq93.ensures.rest,
      omega (arith, opening, blank, behind, closing),
    )

pub returns-else-first-eq93 : goal.returns-else-first-eq93
returns-else-first-eq93 c =
    let brackets = c.bracket_count-brackets in
    ends_text _ _ _ _ _ _ c.not_toml.ensures (header_open _ c.requires _ brackets.ensures _ c.skip.ensures.rest _ c.skip_ws.ensures.rest _ _ c.in-Ok.ensures.0
    c.if-brackets-eq1.false _ c.first.ensures c.if-first-eq93.false)
    (header_neither _ c.requires _ brackets.ensures _ c.skip.ensures.rest _ c.skip_ws.ensures.rest _ _ c.in-Ok.ensures.0)
