use Rattle.yaml_scalar.proofs.Common.{IsCharBoundary, ◌≡◌, ℕ, chars, IsUtf8, List, ap, subst, sym, ◌∙◌, IsUtf8-drop, IsUtf8-past_char, chars_rest, CharacterKind, kind_of}
use Rattle.yaml_scalar.proofs.Common.{wrote_exit, written_as, render_steps, limit_where}
use Rattle.yaml_scalar.proofs.{LinesWritten.LinesLeft, StaysInLine.stays_unbroken, StaysInLine.lines_after, StaysInLine.line_stands, WholeRuns.run_unbroken}
use Rattle.yaml_pen.proofs.StillToWrite.{still_all, still_rest, still_failed, still_same, end_still}
use Rattle.yaml_scalar.proofs.Repeated.{after_repeats, repeats_boundary, repeats_failed, repeats_more}
use Rattle.yaml_scalar.proofs.RunsWritten.{character_still, standing_more, standing_failed}
use Rattle.std.proofs.Common.{drop}
use Rattle.yaml_scalar.proofs.Shorter.{shorter_left, shorter_dropped, shorter_after_run}
use Rattle.yaml_scalar.proofs.lines.write_from.Goals as goal

-- the end of the repeats
repeats_end : (rest others : List ℕ) (size length : ℕ) → others ≡ drop size rest → size ≡ length → others ≡ drop length rest
repeats_end rest others size length back is = back ∙ ap (λ n. drop n rest) is

pub split_at-requires : goal.split_at-requires
split_at-requires g c =
    let so_far = c.loop-character.invariant in
    let rest : List ℕ = c.as_str-rest.result.now in
    let is_text = subst IsUtf8 (sym c.as_str-rest.ensures) (IsUtf8-past_char _ _ c.in-Some.character so_far.is_text c.in-Some.ensures.steps.0) in
    subst (λ n. IsCharBoundary rest n) (sym c.length.ensures)
    (repeats_boundary c.args.lines.quoted c.in-Some.character c.repeats_after-repeats.result rest is_text c.repeats_after-repeats.ensures)

pub split_at-requires-in-Some : goal.split_at-requires-in-Some
split_at-requires-in-Some g c = c.leading_verbatim_run-run.ensures.run.boundary

pub write_run-requires-clause-no_break : goal.write_run-requires-clause-no_break
write_run-requires-clause-no_break g c =
    let run = c.leading_verbatim_run-run.ensures in
    run_unbroken _ (stays_unbroken run.folds c.args.lines.quoted) run.run c.split_at-in-Some.ensures.front

pub returns-in_err-write_step : goal.returns-in_err-write_step
returns-in_err-write_step g c =
    let so_far = c.loop-character.invariant in
    let lines = c.args.lines in
    let limit = limit_where lines.allow_breaks lines.width in
    let rest : List ℕ = c.as_str-rest.result.now in
    let left = render_steps (written_as lines.quoted) limit lines.indent in
    let first = character_still (left c.loop-character.before) c.in-Some.character _ _ rest so_far.is_text c.in-Some.ensures.steps.0
    c.as_str-rest.ensures so_far.still in
    wrote_exit c.from_residual.ensures (still_failed (left (kind_of c.in-Some.character) (chars rest)) first c.in_err-write_step.ensures)

pub returns-in_err-write_repeats : goal.returns-in_err-write_repeats
returns-in_err-write_repeats g c =
    let so_far = c.loop-character.invariant in
    let lines = c.args.lines in
    let limit = limit_where lines.allow_breaks lines.width in
    let rest : List ℕ = c.as_str-rest.result.now in
    let is_text = subst IsUtf8 (sym c.as_str-rest.ensures) (IsUtf8-past_char _ _ c.in-Some.character so_far.is_text c.in-Some.ensures.steps.0) in
    let left = render_steps (written_as lines.quoted) limit lines.indent in
    let first = character_still (left c.loop-character.before) c.in-Some.character _ _ rest so_far.is_text c.in-Some.ensures.steps.0
    c.as_str-rest.ensures so_far.still in
    wrote_exit c.from_residual-in_err-write_repeats.ensures
    (repeats_failed lines.quoted limit lines.indent c.in-Some.character c.repeats_after-repeats.result is_text c.repeats_after-repeats.ensures (still_rest first c.in_ok-write_step.ensures)
    c.in_err-write_repeats.ensures)

pub returns-in_err-write_run : goal.returns-in_err-write_run
returns-in_err-write_run g c =
    let so_far = c.loop-character.invariant in
    let lines = c.args.lines in
    let limit = limit_where lines.allow_breaks lines.width in
    let rest : List ℕ = c.as_str-rest.result.now in
    let is_text = subst IsUtf8 (sym c.as_str-rest.ensures) (IsUtf8-past_char _ _ c.in-Some.character so_far.is_text c.in-Some.ensures.steps.0) in
    let left = render_steps (written_as lines.quoted) limit lines.indent in
    let first = character_still (left c.loop-character.before) c.in-Some.character _ _ rest so_far.is_text c.in-Some.ensures.steps.0
    c.as_str-rest.ensures so_far.still in
    let end = repeats_end rest c.split_at.result.1.now _ _ c.split_at.ensures.back c.length.ensures in
    let others_text = after_repeats lines.quoted c.in-Some.character c.repeats_after-repeats.result is_text c.repeats_after-repeats.ensures end in
    let repeated = repeats_more lines.quoted limit lines.indent c.in-Some.character c.repeats_after-repeats.result is_text c.repeats_after-repeats.ensures end (still_rest first c.in_ok-write_step.ensures)
    c.in_ok-write_repeats.ensures in
    wrote_exit c.from_residual-in_err-write_run.ensures
    (standing_failed (lines_after lines.quoted limit lines.indent) c.split_at-in-Some.result.1.now
    (line_stands lines.quoted limit lines.indent c.write_repeats.new.pen.cursor others_text c.leading_verbatim_run-run.ensures c.split_at-in-Some.ensures.front)
    others_text c.leading_verbatim_run-run.ensures.run c.split_at-in-Some.ensures.front c.split_at-in-Some.ensures.back repeated c.in_err-write_run.ensures.written)

pub loop-character-preserved : goal.loop-character-preserved
loop-character-preserved g c =
    let so_far = c.loop-character.invariant in
    let lines = c.args.lines in
    let written = written_as lines.quoted in
    let limit = limit_where lines.allow_breaks lines.width in
    let rest : List ℕ = c.as_str-rest.result.now in
    let is_text = subst IsUtf8 (sym c.as_str-rest.ensures) (IsUtf8-past_char _ _ c.in-Some.character so_far.is_text c.in-Some.ensures.steps.0) in
    let behind = c.chars-characters-in-Some.ensures.rest ∙ c.split_at-in-Some.ensures.back in
    let first = character_still (render_steps written limit lines.indent c.loop-character.before) c.in-Some.character _ _ rest so_far.is_text
    c.in-Some.ensures.steps.0 c.as_str-rest.ensures so_far.still in
    let end = repeats_end rest c.split_at.result.1.now _ _ c.split_at.ensures.back c.length.ensures in
    let others_text = after_repeats lines.quoted c.in-Some.character c.repeats_after-repeats.result is_text c.repeats_after-repeats.ensures end in
    let repeated = repeats_more lines.quoted limit lines.indent c.in-Some.character c.repeats_after-repeats.result is_text c.repeats_after-repeats.ensures end (still_rest first c.in_ok-write_step.ensures)
    c.in_ok-write_repeats.ensures in
    record {
      is_text = subst IsUtf8 (sym behind) (IsUtf8-drop _ _ others_text c.leading_verbatim_run-run.ensures.run.boundary);
      still = subst (λ (kind : CharacterKind).
          LinesLeft written limit lines.indent c.args.start (chars c.args.value.now)
          (chars (chars_rest c.chars-characters-in-Some.result)) kind c.args.pen.now c.write_run.new.self)
          (sym c.kind_of-before.ensures)
          (standing_more (lines_after lines.quoted limit lines.indent)
          (line_stands lines.quoted limit lines.indent c.write_repeats.new.pen.cursor others_text c.leading_verbatim_run-run.ensures c.split_at-in-Some.ensures.front)
          others_text c.leading_verbatim_run-run.ensures.run c.split_at-in-Some.ensures.front behind repeated c.in_ok-write_run.ensures.written);
    }

pub returns : goal.returns
returns g c =
    let lines = c.args.lines in
    let limit = limit_where lines.allow_breaks lines.width in
    (end_still (render_steps (written_as lines.quoted) limit lines.indent c.loop-character.before) _
    c.in_default.ensures.steps.0.0 c.loop-character.invariant.still).writes _ _ c.write_nothing.ensures

pub loop-character-smaller : goal.loop-character-smaller
loop-character-smaller g c =
    let rest = c.as_str-rest.result.now in
    let others = c.split_at.result.1.now in
    let place = c.leading_verbatim_run-run.result.length in
    shorter_left _ _ rest (drop place others) _ c.in-Some.character c.in-Some.ensures.steps.0 c.as_str-rest.ensures
    (shorter_after_run c.length.result rest others (drop place others) c.split_at.ensures.back (shorter_dropped place others))
    (c.chars-characters-in-Some.ensures.rest ∙ c.split_at-in-Some.ensures.back)

pub loop-character-init : goal.loop-character-init
loop-character-init g c =
    let lines = c.args.lines in
    let same = sym c.chars-characters.ensures.rest in
    record {
      is_text = subst IsUtf8 same c.utf8.value;
      still = still_same (render_steps (written_as lines.quoted) (limit_where lines.allow_breaks lines.width) lines.indent c.args.start)
          (ap chars same) (still_all c.requires);
    }

pub write_step-requires : goal.write_step-requires
write_step-requires g c = c.loop-character.invariant.still.ready

pub write_run-requires-clause-ready : goal.write_run-requires-clause-ready
write_run-requires-clause-ready g c = c.in_ok-write_repeats.ensures.ready

pub write_nothing-requires : goal.write_nothing-requires
write_nothing-requires g c = c.loop-character.invariant.still.ready

pub write_repeats-requires : goal.write_repeats-requires
write_repeats-requires g c = c.in_ok-write_step.ensures.ready
