use Rattle.yaml_json.proofs.Common.{yaml_error_t, ℕ, List, [], Option, subst, sym, Grew, StopsInPart}
use Rattle.yaml_json.{proofs.SentParts.part_placed, specs.SendingCalls.BytesGiven}
use Rattle.yaml_json.proofs.stream.write_last.Goals as goal

pub returns-in-Err : goal.returns-in-Err
returns-in-Err g c =
    let s = c.args.settings.now in
    let was = c.args.writer.now in
    let now = c.write_bytes.new.writer in
    let held = c.args.incoming.now.held.items in
    let failed = c.in-Err.ensures.gives in
    record {
      stopped = λ front follows. part_placed _ _ _ _ _ _ _ _ _ c.shifted_by.ensures.says (c.shifted_by.ensures.place s.values.depth front held follows) (subst
          (λ (t : List ℕ). StopsInPart s.values.depth s.unique_names s.values.flow [] t was c.in-Err.error now) c.as_slice-text.ensures.value failed.stopped);
      grew = subst (λ (found : Option yaml_error_t). Grew was found now) (sym c.shifted_by.ensures.by_emitter) failed.grew;
    }

pub returns : goal.returns
returns g c =
    subst (λ (t : List ℕ). BytesGiven c.args.settings.now t c.args.writer.now c.write_bytes.new.writer) c.as_slice-text.ensures.value c.in_default.ensures.gives
