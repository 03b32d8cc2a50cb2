use Rattle.std.proofs.Common.{length, sym, ◌∙◌}
use Rattle.toml_ordered.proofs.{Heads.no_text, LongKeys.bare_passed, LongKeys.no_such_part, LongKeys.not_bare}
use Rattle.toml_ordered.proofs.long_keys.past_part.Goals as goal

pub returns-then-is_bare : goal.returns-then-is_bare
returns-then-is_bare c = (
  bare_passed c.args.s.now c.first-byte.result c.first-byte.ensures (sym c.is_bare.ensures ∙ c.if-is_bare.true) c.past_bare.result.now c.past_bare.ensures.rest,
  c.past_bare.ensures.shorter,
)

pub returns : goal.returns
returns c =
    no_text (length c.args.s.now) _ c.not_toml.result _ c.not_toml.ensures
    (no_such_part c.args.s.now (not_bare c.args.s.now c.first-byte.result c.first-byte.ensures (sym c.is_bare.ensures ∙ c.if-is_bare.false))
    (sym c.starts_string.ensures ∙ c.if-starts_string.false))
