use Rattle.toml_parser.specs.Reading.{key_view}
use Rattle.toml_ordered.proofs.LongKeys.{before_other, read_no_long, tells_short}
use Rattle.toml_ordered.proofs.values.key_before.Goals as goal

pub returns-else-first-byte : goal.returns-else-first-byte
returns-else-first-byte c =
    let s = c.args.s.now in
    let rest = c.in-Ok.rest.now in (
      λ real. before_other c.args.byte s (key_view c.in-Ok.key, rest) c.in-Ok.ensures.value c.first.result c.first.ensures c.if-first-byte.false,
      tells_short s c.not_toml.result _ _ c.not_toml.ensures (read_no_long s (key_view c.in-Ok.key, rest) c.in-Ok.ensures.value),
    )
