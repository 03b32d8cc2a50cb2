use Rattle.yaml_tool.proofs.Common.{length, ap, arith, nat_tests, Passes, is_byte2}
use Rattle.yaml_tool.proofs.SearchLemmas.{delimiter_found, no_indicator}
use Rattle.yaml_tool.proofs.characters.skip_word.Goals.{then-byte-eq32-via-then-byte-eq32, then-byte-eq32-via-else-byte-eq32+then-byte-eq34}
use Rattle.yaml_tool.proofs.characters.skip_word.Goals as goal

pub returns-then-byte-eq32 : goal.returns-then-byte-eq32
returns-then-byte-eq32 c =
    let text = c.args.text.now in
    let place = c.loop-place.place in
    let same = c.as_bytes-byte-items.ensures.value in
    let passes : Passes (is_byte2 0x20 0x22) text place =
    elim c.then-byte-eq32.branch [
      | then-byte-eq32-via-then-byte-eq32 w ↦ grind (arith, nat_tests, same, w.if-byte-eq32.true)
      | then-byte-eq32-via-else-byte-eq32+then-byte-eq34 w ↦ grind (arith, nat_tests, same, w.if-byte-eq34.true)
    ] in
    delimiter_found 0x20 0x22 text c.range_from.result.now place c.utf8.text (omega arith) (omega arith)
    (record { low = omega arith; high = omega (arith, c.loop-place-test.true, ap length same); before = c.loop-place.invariant }, passes)
    c.range_from.ensures.value

pub returns : goal.returns
returns c =
    no_indicator 0x20 0x22 c.args.text.now c.utf8.text (omega arith) (omega arith)
    (λ k low high. c.loop-place.invariant k low (omega (arith, high, c.loop-place-test.false, ap length c.as_bytes-byte-items.ensures.value)))
