use Rattle.yaml_scalar.proofs.Common.{ℕ, chars, IsUtf8, List, ap, subst, sym, ◌∙◌, IsUtf8-drop, IsUtf8-past_char, chars_rest, Text, Cursor, Rendered}
use Rattle.yaml_scalar.proofs.Common.{wrote_exit, natural, is_folded, list_all, stays_at, place_after, render_step, lines_from, limit_of}
use Rattle.yaml_scalar.proofs.{blocks.BlockStays.block_alone, blocks.BlockWrites.LinesLeft}
use Rattle.yaml_pen.proofs.StillToWrite.{still_all, still_rest, still_failed, still_same, end_still}
use Rattle.yaml_scalar.proofs.RunsWritten.{character_still, run_more, run_failed}
use Rattle.yaml_scalar.specs.declared.block_lines.{Place.Place, Place.TheVariants.LineStart}
use Rattle.std.proofs.Common.{drop}
use Rattle.yaml_scalar.proofs.Shorter.{shorter_left, shorter_dropped}
use Rattle.yaml_scalar.proofs.block_lines.write_lines.Goals as goal

pub split_at-requires : goal.split_at-requires
split_at-requires g c = c.leading_verbatim_run-run.ensures.boundary

pub write_verbatim-requires-clause-stays : goal.write_verbatim-requires-clause-stays
write_verbatim-requires-clause-stays g c =
    ap (λ l. list_all (stays_at (limit_of c.args.lines.width) c.place_after-place.result) (chars l)) c.split_at.ensures.front
    ∙ c.leading_verbatim_run-run.ensures.all

pub returns-in_err-write_step : goal.returns-in_err-write_step
returns-in_err-write_step g c =
    let folded = is_folded c.args.lines.style in
    let lines : Place → Text → Cursor → Rendered = lines_from folded (limit_of c.args.lines.width) (natural c.args.lines.indent) in
    let rest : List ℕ = c.as_str-rest.result.now in
    let first = character_still (lines c.loop-character.place) c.in-Some.character _ _ rest c.loop-character.invariant.1 c.in-Some.ensures.steps.0
    c.as_str-rest.ensures c.loop-character.invariant.0 in
    wrote_exit c.from_residual.ensures
    (still_failed {first = render_step (limit_of c.args.lines.width) (natural c.args.lines.indent) c.loop-character.place c.in-Some.character (chars rest)}
    {whole = lines LineStart (chars c.args.value.now)}
    (lines (place_after folded c.loop-character.place c.in-Some.character) (chars rest)) first c.in_err-write_step.ensures)

pub returns-in_err-write_verbatim : goal.returns-in_err-write_verbatim
returns-in_err-write_verbatim g c =
    let folded = is_folded c.args.lines.style in
    let limit = limit_of c.args.lines.width in
    let n = natural c.args.lines.indent in
    let placed = c.place_after-place.result in
    let step = c.in_ok-write_step.ensures in
    let rest : List ℕ = c.as_str-rest.result.now in
    let is_text = subst IsUtf8 (sym c.as_str-rest.ensures) (IsUtf8-past_char _ _ c.in-Some.character c.loop-character.invariant.1 c.in-Some.ensures.steps.0) in
    let first = character_still (lines_from folded limit n c.loop-character.place) c.in-Some.character _ _ rest c.loop-character.invariant.1
    c.in-Some.ensures.steps.0 c.as_str-rest.ensures c.loop-character.invariant.0 in
    let still = subst (λ (p : Place). LinesLeft folded limit n (chars c.args.value.now) (chars rest) p c.args.pen.now c.write_step.new.pen)
    (sym c.place_after-place.ensures) (still_rest first step) in
    wrote_exit c.from_residual-in_err-write_verbatim.ensures
    (run_failed (λ before. lines_from folded limit n placed) c.split_at.result.1.now
    (block_alone folded limit n c.loop-character.place placed c.in-Some.character (chars rest) c.place_after-place.ensures step)
    is_text c.leading_verbatim_run-run.ensures c.split_at.ensures.front c.split_at.ensures.back still c.in_err-write_verbatim.ensures)

pub loop-character-preserved : goal.loop-character-preserved
loop-character-preserved g c =
    let folded = is_folded c.args.lines.style in
    let limit = limit_of c.args.lines.width in
    let n = natural c.args.lines.indent in
    let placed = c.place_after-place.result in
    let step = c.in_ok-write_step.ensures in
    let rest : List ℕ = c.as_str-rest.result.now in
    let is_text = subst IsUtf8 (sym c.as_str-rest.ensures) (IsUtf8-past_char _ _ c.in-Some.character c.loop-character.invariant.1 c.in-Some.ensures.steps.0) in
    let behind = c.chars-characters-in-Some.ensures.rest ∙ c.split_at.ensures.back in
    let first = character_still (lines_from folded limit n c.loop-character.place) c.in-Some.character _ _ rest c.loop-character.invariant.1
    c.in-Some.ensures.steps.0 c.as_str-rest.ensures c.loop-character.invariant.0 in
    let still = subst (λ (p : Place). LinesLeft folded limit n (chars c.args.value.now) (chars rest) p c.args.pen.now c.write_step.new.pen)
    (sym c.place_after-place.ensures) (still_rest first step) in
    let more : LinesLeft folded limit n (chars c.args.value.now)
    (chars (chars_rest c.chars-characters-in-Some.result)) placed c.args.pen.now c.write_verbatim.new.pen =
    run_more (λ before. lines_from folded limit n placed)
    (block_alone folded limit n c.loop-character.place placed c.in-Some.character (chars rest) c.place_after-place.ensures step)
    is_text c.leading_verbatim_run-run.ensures c.split_at.ensures.front behind still c.in_ok-write_verbatim.ensures in
    (more, subst IsUtf8 (sym behind) (IsUtf8-drop _ _ is_text c.leading_verbatim_run-run.ensures.boundary))

pub returns : goal.returns
returns g c =
    let lines = c.args.lines in
    (end_still (lines_from (is_folded lines.style) (limit_of lines.width) (natural lines.indent) c.loop-character.place) _
    c.in_default.ensures.steps.0.0 c.loop-character.invariant.0).writes _ _ c.write_nothing.ensures

pub loop-character-smaller : goal.loop-character-smaller
loop-character-smaller g c =
    let rest = c.as_str-rest.result.now in
    let place = c.leading_verbatim_run-run.result.length in
    shorter_left _ _ rest (drop place rest) _ c.in-Some.character c.in-Some.ensures.steps.0 c.as_str-rest.ensures (shorter_dropped place rest)
    (c.chars-characters-in-Some.ensures.rest ∙ c.split_at.ensures.back)

pub loop-character-init : goal.loop-character-init
loop-character-init g c =
    let lines = c.args.lines in
    let same = sym c.chars-characters.ensures.rest in (
      still_same (lines_from (is_folded lines.style) (limit_of lines.width) (natural lines.indent) LineStart) (ap chars same) (still_all c.requires.ready),
      subst IsUtf8 same c.utf8.value,
    )

pub write_step-requires-clause-ready : goal.write_step-requires-clause-ready
write_step-requires-clause-ready g c = c.loop-character.invariant.0.ready

pub write_step-requires-clause-not_negative : goal.write_step-requires-clause-not_negative
write_step-requires-clause-not_negative g c = c.requires.not_negative

pub write_verbatim-requires-clause-ready : goal.write_verbatim-requires-clause-ready
write_verbatim-requires-clause-ready g c = c.in_ok-write_step.ensures.ready

pub write_nothing-requires : goal.write_nothing-requires
write_nothing-requires g c = c.loop-character.invariant.0.ready
