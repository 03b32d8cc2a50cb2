use Rattle.yaml_pen.proofs.Common.{ℕ, slice_index_or as get_or, Bool, List, ap, ◌∙◌, arith, is_char_start}
use Rattle.std.proofs.lemmas.List.{take_all}
use Rattle.yaml_pen.proofs.CharacterStarts.{starts, starts_step, bool_byte_most, starts-chars}
use Rattle.yaml_pen.proofs.counting.character_count.Goals as goal

pub loop-place-preserved : goal.loop-place-preserved
loop-place-preserved c =
    let so_far = c.loop-place.invariant in
    let first : Bool = is_char_start (get_or c.as_bytes-bytes.result.now c.loop-place.place 0) in
    let begins = ap (λ (l : List ℕ). is_char_start (get_or l c.loop-place.place 0)) c.as_bytes-bytes.ensures.value in
    record {
      within = omega (arith, c.loop-place-test.true);
      counted = starts_step c.args.text.now c.loop-place.place c.loop-place.count first
          (omega (arith, c.loop-place-test.true)) so_far.counted begins;
      few = omega (arith, so_far.few, bool_byte_most first);
    }

pub returns : goal.returns
returns c =
    c.loop-place.invariant.counted
    ∙ ap starts (take_all c.loop-place.place c.args.text.now (omega arith))
    ∙ starts-chars c.args.text.now c.utf8.text
