use Rattle.yaml_json.proofs.Common.{None, Some, between, sym, ℕ, List, ◌≡◌, ◌+◌, length, length-append, flat_map, rules, arith, ap, ◌∙◌, Json, writers_error}
use Rattle.yaml_json.proofs.Common.{bare_awaits_none}
use Rattle.yaml_json.proofs.TextStops.{placed_after, text_stopped}
use Rattle.yaml_json.proofs.Growing.{grew_itself, grew_then, grew_kept, grew_said, grew_passed, grew_failing}
use Rattle.yaml_json.proofs.TextsInTurn.{texts_begin, texts_go_on, next_failed, texts_done, texts_names, texts_read, no_more, is_more, some_more, texts_stopped}
use Rattle.yaml_json.proofs.several.write_json_texts.Goals as goal

pub texts-init : goal.texts-init
texts-init g c = (
  search rules,
  texts_begin c.args.settings.values.depth c.args.settings.values.flow c.args.settings.unique_names c.args.text.now c.args.writer.now c.requires,
  grew_itself c.args.writer.now,
)

pub write_text_by-requires : goal.write_text_by-requires
write_text_by-requires g c = c.texts.invariant.1.wrote.bare

pub returns-then-is_empty : goal.returns-then-is_empty
returns-then-is_empty g c =
    let s = c.args.settings in
    let text = c.args.text.now in
    let was = c.args.writer.now in
    let rest = c.texts.rest.now in
    let first = c.first_cut.result.0.now in
    let later = c.first_cut.result.1.now in
    let now = c.write_text_by.new.writer in
    let wrote = c.in_default.ensures in
    let last = no_more later c.is_empty.result c.is_empty.ensures c.if-is_empty.true in
    let so_far = c.texts.invariant.1 in
    let cut = c.first_cut.ensures in
    record {
      grows = (grew_then was c.texts.writer now None c.texts.invariant.2 (grew_kept c.texts.writer now wrote.kept)).grows;
      sound = wrote.kept.sound;
      written = texts_done s.values.depth s.values.flow s.unique_names text was rest first later c.texts.writer now cut so_far wrote.names wrote.written last;
      reads = texts_read _ _ _ _ _ _ _ _ _ _ cut so_far wrote.names wrote.written last c.promised.ensures.stands.texts;
      names = texts_names s.values.depth s.values.flow s.unique_names text was rest first later c.texts.writer now cut so_far wrote.names wrote.written last;
    }

pub texts-smaller : goal.texts-smaller
texts-smaller g c =
    some_more c.first_cut.result.0.now c.first_cut.result.1.now c.texts.rest.now c.is_empty.result c.first_cut.ensures c.is_empty.ensures c.if-is_empty.false

pub texts-preserved : goal.texts-preserved
texts-preserved g c = (
  search rules,
  texts_go_on _ _ _ _ _ _ _ _ _ _ c.first_cut.ensures c.texts.invariant.1 c.in_default.ensures.names c.in_default.ensures.written _ _
      (is_more _ _ c.is_empty.ensures c.if-is_empty.false)
      (c.next_document.ensures.passed (bare_awaits_none c.write_text_by.new.writer c.in_default.ensures.written.wrote.bare)),
  grew_then _ _ _ None c.texts.invariant.2 (grew_then _ _ _ None (grew_kept _ _ c.in_default.ensures.kept)
      (grew_passed _ _ _ (c.in_default-next_document.ensures.passed (bare_awaits_none c.write_text_by.new.writer c.in_default.ensures.written.wrote.bare)))),
)

pub returns-in-Err : goal.returns-in-Err
returns-in-Err g c =
    let s = c.args.settings in
    let first = c.first_cut.result.0.now in
    let now = c.write_text_by.new.writer in
    let error = c.error_of.result in
    let failed = c.in-Err.ensures in
    let grew = grew_then c.args.writer.now c.texts.writer now (writers_error error) c.texts.invariant.2
    (grew_said c.texts.writer now c.in-Err.stopped.0 (writers_error error) c.error_of.ensures.by_writer failed.kept) in
    let so_far = c.texts.invariant.1 in
    let before = flat_map (λ (part : List ℕ × Json). part.0) so_far.parts in
    let joined : length before + length c.texts.rest.now ≡ length c.args.text.now = sym (length-append before c.texts.rest.now) ∙ ap length so_far.joined in
    let cut : length first + length c.first_cut.result.1.now ≡ length c.texts.rest.now =
    sym (length-append first c.first_cut.result.1.now) ∙ ap length c.first_cut.ensures.0 in
    record {
      grows = grew.grows;
      sound = grew.sound;
      stopped = texts_stopped s.values.depth s.values.flow s.unique_names c.args.text.now c.args.writer.now c.texts.rest.now first c.first_cut.result.1.now
          c.texts.writer now c.first_cut.ensures c.texts.invariant.1 error
          (text_stopped s.values.depth s.unique_names s.values.flow first c.texts.writer now c.in-Err.stopped.0 error c.error_of.ensures.says failed.refused failed.failed)
          (placed_after s.values.depth c.args.text.now first before c.in-Err.stopped.1 c.saturating_sub-before.result (grind (arith, joined))
          (omega (arith, joined, cut)) c.in-Err.stopped.0 error c.error_of.ensures.says failed.place c.error_of.ensures.place c.error_of.ensures.fault);
    }

pub returns-in-Err-next_document : goal.returns-in-Err-next_document
returns-in-Err-next_document g c =
    let now = c.write_text_by.new.writer in
    let error = c.in-Err-next_document.error in
    let passed = c.in-Err-next_document.ensures.passed (bare_awaits_none now c.in_default.ensures.written.wrote.bare) in
    let grew = grew_then c.args.writer.now c.texts.writer c.next_document.new.self (Some error) c.texts.invariant.2
    (grew_then _ _ _ _ (grew_kept _ _ c.in_default.ensures.kept) (grew_failing _ _ _ _ passed)) in
    record {
      grows = grew.grows;
      sound = grew.sound;
      stopped = next_failed _ _ _ _ _ _ _ _ _ _ c.first_cut.ensures c.texts.invariant.1 c.in_default.ensures.names c.in_default.ensures.written _ _
          (is_more _ _ c.is_empty.ensures c.if-is_empty.false) passed;
    }
