use Rattle.std.proofs.Common.{◌∙◌}
use Rattle.toml_ordered.proofs.{Heads.no_token, LongKeys.empty_passed, LongKeys.quotes_differ}
use Rattle.toml_ordered.proofs.long_keys.past_string.Goals as goal

pub returns-then-byte_at-byte : goal.returns-then-byte_at-byte
returns-then-byte_at-byte c = (
  empty_passed _ _ c.first-byte.ensures _ c.byte_at.ensures c.if-byte_at-byte.true c.requires _ c.skip.ensures.rest,
  c.skip.ensures.shorter,
)

pub returns : goal.returns
returns c =
    let same = quotes_differ c.args.s.now c.first-byte.result c.first-byte.ensures c.byte_at.result c.byte_at.ensures c.if-byte_at-byte.false c.requires in
    ((_, same ∙ c.in-Ok.ensures.value), c.in-Ok.ensures.shorter)

pub returns-in-Err : goal.returns-in-Err
returns-in-Err c =
    let same = quotes_differ c.args.s.now c.first-byte.result c.first-byte.ensures c.byte_at.result c.byte_at.ensures c.if-byte_at-byte.false c.requires in
    no_token c.in-Err.error c.from.result _ c.from.ensures (λ real. same ∙ c.in-Err.ensures.value real)
