use Rattle.yaml_pen.proofs.Common.{ap, sym, ◌∙◌, arith, list_any, chars, is_break, render_text, has_bom}
use Rattle.std.proofs.lemmas.Str.{IsUtf8-drop}
use Rattle.yaml_pen.proofs.Composing.{wrote_exit}
use Rattle.yaml_pen.{proofs.Cuts.chars-cut, proofs.Cuts.cut-forward, proofs.Cuts.unbroken_parts, specs.Page.buffer_size}
use Rattle.yaml_pen.proofs.StillToWrite.{still_rest, still_failed, still_part}
use Rattle.yaml_pen.proofs.pen.Pen.write_pieces.Goals as goal

pub write_piece-requires-clause-no_break : goal.write_piece-requires-clause-no_break
write_piece-requires-clause-no_break g c =
    let so_far = c.loop-rest.invariant in
    let step = chars-cut _ _ _ _ so_far.is_text c.floor_char_boundary.ensures.boundary c.split_at.ensures.front c.split_at.ensures.back in
    (unbroken_parts (chars c.split_at.result.0.now) (chars c.split_at.result.1.now) (sym (ap (list_any is_break) step) ∙ so_far.no_break)).0

pub loop-rest-preserved : goal.loop-rest-preserved
loop-rest-preserved g c =
    let so_far = c.loop-rest.invariant in
    let step = chars-cut _ _ _ _ so_far.is_text c.floor_char_boundary.ensures.boundary c.split_at.ensures.front c.split_at.ensures.back in
    record {
      still = still_rest (still_part (chars c.split_at.result.0.now) _ step so_far.still) c.in_ok-write_piece.ensures.written;
      is_text = rw c.split_at.ensures.back (IsUtf8-drop _ _ so_far.is_text c.floor_char_boundary.ensures.boundary);
      no_break = (unbroken_parts (chars c.split_at.result.0.now) (chars c.split_at.result.1.now) (sym (ap (list_any is_break) step) ∙ so_far.no_break)).1;
      no_bom = ap has_bom c.in_ok-write_piece.ensures.written.settings.encoding ∙ so_far.no_bom;
    }

pub loop-rest-smaller : goal.loop-rest-smaller
loop-rest-smaller g c =
    let forward = cut-forward c.loop-rest.rest.now c.floor_char_boundary.result buffer_size c.loop-rest.invariant.is_text (omega arith)
    (omega arith) c.floor_char_boundary.ensures.nearest in
    let len = c.split_at.ensures.back_len in
    omega arith

pub returns-in_err-write_piece : goal.returns-in_err-write_piece
returns-in_err-write_piece g c = record {
  written =
      let so_far = c.loop-rest.invariant in
      let step = chars-cut _ _ _ _ so_far.is_text c.floor_char_boundary.ensures.boundary c.split_at.ensures.front c.split_at.ensures.back in
      wrote_exit c.from_residual-in_err-write_piece.ensures
      (still_failed (render_text (chars c.split_at.result.1.now)) (still_part (chars c.split_at.result.0.now) _ step so_far.still)
      c.in_err-write_piece.ensures.written);
}

pub returns : goal.returns
returns g c = record { written = c.loop-rest.invariant.still.writes _ _ c.write_piece-2.ensures.written }
