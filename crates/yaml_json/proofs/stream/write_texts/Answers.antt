use Rattle.yaml_json.proofs.Common.{ℕ, ◌-◌, Option, None, drop, length, take, true, List, [], refl, ◌≡◌, ◌++◌, length-drop, take-append-drop, ap, subst, sym}
use Rattle.yaml_json.proofs.Common.{◌∙◌, arith, tokens, NamesOnce, HasScanned, WroteText, yaml_error_t, Grew, StopsInPart, emitter_error, IsPositionAfter}
use Rattle.std.specs.Prelude.{IsUtf8}
use Rattle.yaml_json.proofs.{SentParts.part_placed, Growing.grew_itself, Growing.grew_then, Growing.grew_kept}
use Rattle.yaml_json.proofs.SendingSteps.{whole_suffix, suffix_on, advances_none, advances_same, stops_at_first, advances_on, stops_next}
use Rattle.yaml_json.proofs.stream.write_texts.Goals as goal

pub texts-init : goal.texts-init
texts-init g c =
    let a = c.args in
    let suffix = whole_suffix a.held.now a.held.now refl in (
      c.requires.bare,
      c.requires.scanned,
      suffix.0,
      suffix.1,
      advances_none _ _ _ _ _ _ _ refl,
      c.new-room.ensures,
      grew_itself a.writer.now,
      refl,
    )

pub texts-smaller : goal.texts-smaller
texts-smaller g c =
    let cuts = c.in-Some.ensures in
    let some = cuts.some in
    let within = cuts.within in
    let left : length c.split_at.result.1.now ≡ length c.texts.rest.now - c.in-Some.end =
    ap length c.split_at.ensures.back ∙ length-drop c.in-Some.end c.texts.rest.now in
    omega (arith, some, within, left)

pub texts-preserved : goal.texts-preserved
texts-preserved g c =
    let a = c.args in
    let l = c.texts in
    let cuts = c.in-Some.ensures in
    let within = cuts.within in
    let next = c.in_default-begin_next.ensures.begun in
    let gave = c.in_default-write_bytes.ensures.gives in
    let named = subst (λ (t : List ℕ). a.settings.now.unique_names ≡ true → NamesOnce [] (tokens t)) c.split_at.ensures.front gave.given.names in
    let readable = subst IsUtf8 c.split_at.ensures.front gave.utf8 in
    let wrote = subst (λ (t : List ℕ). WroteText a.settings.now.values.depth a.settings.now.values.flow t l.writer c.write_bytes.new.writer) c.split_at.ensures.front
    gave.given.written in
    let suffix = suffix_on a.held.now l.rest.now c.split_at.result.1.now c.in-Some.end l.invariant.2 l.invariant.3 (omega (arith, within))
    c.split_at.ensures.back in (
      next.wrote.bare,
      c.new_cut-reading.ensures c.split_at.result.1.now,
      suffix.0,
      suffix.1,
      advances_same _ _ _ _ _ _ _ _ _ (advances_on _ _ _ _ _ _ _ _ _ l.invariant.4 _ cuts _ named readable wrote _ _ next) _ (sym c.split_at.ensures.back),
      c.in_default-write_bytes.ensures.ready,
      grew_then _ _ _ None l.invariant.6 (grew_then _ _ _ None (grew_kept _ _ gave.given.kept) c.in_default-begin_next.ensures.grew),
      l.invariant.7,
    )

pub returns-in-Err : goal.returns-in-Err
returns-in-Err g c =
    let a = c.args in
    let l = c.texts in
    let s = a.settings.now in
    let now = c.write_bytes.new.writer in
    let error = c.shifted_by.result in
    let rest = l.rest.now in
    let first = take c.in-Some.end rest in
    let done = take (length a.held.now - length rest) a.held.now in
    let parts : done ++ rest ≡ a.held.now =
    ap (λ (t : List ℕ). done ++ t) (sym l.invariant.3) ∙ take-append-drop (length a.held.now - length rest) a.held.now in
    record {
      place = l.invariant.7;
      gives = record {
        stops = stops_at_first _ _ _ _ _ _ _ _ _ l.invariant.4 _ c.in-Some.ensures _ _ _ _ parts (λ front follows. part_placed _ _ _ _ _ _ _ _ _
            c.shifted_by.ensures.says (c.shifted_by.ensures.place s.values.depth (front ++ done) first (c.position_after.ensures front
            (subst (IsPositionAfter front) (sym l.invariant.7) follows))) (subst (λ (t : List ℕ). StopsInPart s.values.depth s.unique_names s.values.flow [] t
            l.writer c.in-Err.error now) c.split_at.ensures.front c.in-Err.ensures.gives.stopped));
        grew = grew_then a.writer.now l.writer now (emitter_error error) l.invariant.6
            (subst (λ (found : Option yaml_error_t). Grew l.writer found now) (sym c.shifted_by.ensures.by_emitter) c.in-Err.ensures.gives.grew);
      };
    }

pub returns-in-Err-begin_next : goal.returns-in-Err-begin_next
returns-in-Err-begin_next g c =
    let a = c.args in
    let l = c.texts in
    let s = a.settings.now in
    let given = c.write_bytes.new.writer in
    let gave = c.in_default-write_bytes.ensures.gives in
    let named = subst (λ (t : List ℕ). s.unique_names ≡ true → NamesOnce [] (tokens t)) c.split_at.ensures.front gave.given.names in
    let readable = subst IsUtf8 c.split_at.ensures.front gave.utf8 in
    let wrote = subst (λ (t : List ℕ). WroteText s.values.depth s.values.flow t l.writer given) c.split_at.ensures.front gave.given.written in
    record {
      place = l.invariant.7;
      gives = record {
        stops = stops_next _ _ _ _ _ _ _ _ _ l.invariant.4 _ c.in-Some.ensures _ named readable wrote _ _ _ _ c.in-Err-begin_next.ensures.failed;
        grew = grew_then _ _ _ _ l.invariant.6 (grew_then _ _ _ _ (grew_kept _ _ gave.given.kept) c.in-Err-begin_next.ensures.grew);
      };
    }

pub returns-clause-gives : goal.returns-clause-gives
returns-clause-gives g c =
    let l = c.texts in
    record {
      bare = l.invariant.0;
      left = record {
        within = l.invariant.2;
        scanned = subst (λ (t : List ℕ). HasScanned t c.find_end.new.cut) (sym l.invariant.3) c.in_default.ensures.0;
        all = c.in_default.ensures.1 ∙ ap length (sym l.invariant.3);
      };
      advances = advances_same _ _ _ _ _ _ _ _ _ l.invariant.4 _ (sym l.invariant.3);
      grew = l.invariant.6;
    }

pub returns-clause-place : goal.returns-clause-place
returns-clause-place g c = c.texts.invariant.7

pub find_end-requires : goal.find_end-requires
find_end-requires g c = c.texts.invariant.1

pub write_bytes-requires-clause-bare : goal.write_bytes-requires-clause-bare
write_bytes-requires-clause-bare g c = c.texts.invariant.0

pub write_bytes-requires-clause-ready : goal.write_bytes-requires-clause-ready
write_bytes-requires-clause-ready g c = c.texts.invariant.5

pub begin_next-requires : goal.begin_next-requires
begin_next-requires g c = c.in_default-write_bytes.ensures.gives.given.written.wrote.bare

pub split_at-requires : goal.split_at-requires
split_at-requires g c =
    let within = c.in-Some.ensures.within in
    omega (arith, within)
