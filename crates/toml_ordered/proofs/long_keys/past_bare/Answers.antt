use Rattle.toml_ordered.proofs.Common.{◌≡◌, true, rules, arith, sym, ◌∙◌, first, is_bare}
use Rattle.toml_ordered.proofs.LongKeys.{bare_turn}
use Rattle.toml_ordered.proofs.long_keys.past_bare.Goals as goal

pub bytes-preserved : goal.bytes-preserved
bytes-preserved c =
    let rest = c.bytes.rest.now in
    let bare : is_bare (first rest) ≡ true = rw (← c.first.ensures) (sym c.is_bare.ensures ∙ c.bytes-test.true) in
    let shorter = c.skip-rest-in-bytes.ensures.shorter in
    let before = c.bytes.invariant.1 in
    (search rules, omega (arith, shorter, before), rw c.skip-rest-in-bytes.ensures.rest (c.bytes.invariant.2 ∙ bare_turn rest bare))
