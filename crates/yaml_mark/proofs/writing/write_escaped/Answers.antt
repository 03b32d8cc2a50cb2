use Rattle.yaml_mark.proofs.Common.{ℕ, eqb-true, subst, sym, ◌∙◌, arith, IsCharBoundary, chars, Text, render_text, byte_escaped, suffix_escaped, are_escaped}
use Rattle.yaml_mark.proofs.Common.{wrote_exit}
use Rattle.std.specs.List.{flat_map}
use Rattle.yaml_mark.proofs.EscapingLemmas.{run_boundary, next_boundary, run_cut, forms_cut, moves_on}
use Rattle.yaml_pen.proofs.StillToWrite.{still_rest, still_failed, still_part, end_still, unfailed_after}
use Rattle.yaml_mark.proofs.writing.write_escaped.Goals as goal

pub split_at-requires : goal.split_at-requires
split_at-requires g c =
    subst (λ (n : ℕ). IsCharBoundary c.loop-rest.rest.now n) (sym c.run_length.ensures)
    (run_boundary (are_escaped c.args.indicators) c.loop-rest.rest.now c.loop-rest.invariant.is_text)

pub write_run-requires-clause-no_break : goal.write_run-requires-clause-no_break
write_run-requires-clause-no_break g c =
    (run_cut (are_escaped c.args.indicators) c.loop-rest.rest.now c.split_at.result.0.now c.split_at.result.1.now c.run_length.result
    c.loop-rest.invariant.is_text c.run_length.ensures c.split_at.ensures.front c.split_at.ensures.back).unbroken

pub split_at-requires-in-loop-rest : goal.split_at-requires-in-loop-rest
split_at-requires-in-loop-rest g c =
    subst (λ (n : ℕ). IsCharBoundary c.split_at.result.1.now n) (sym c.escaped_length.ensures)
    (next_boundary (are_escaped c.args.indicators) c.split_at.result.1.now)

pub returns-in_err-write_run : goal.returns-in_err-write_run
returns-in_err-write_run g c =
    let escaped = are_escaped c.args.indicators in
    let run = run_cut escaped c.loop-rest.rest.now c.split_at.result.0.now c.split_at.result.1.now c.run_length.result
    c.loop-rest.invariant.is_text c.run_length.ensures c.split_at.ensures.front c.split_at.ensures.back in
    wrote_exit c.from_residual-in_err-write_run.ensures
    (still_failed (render_text (suffix_escaped escaped (chars c.split_at.result.1.now)))
    (still_part (chars c.split_at.result.0.now) _ run.parts c.loop-rest.invariant.still) c.in_err-write_run.ensures.written)

pub returns-in_err-write_forms : goal.returns-in_err-write_forms
returns-in_err-write_forms g c =
    let escaped = are_escaped c.args.indicators in
    let others = c.split_at.result.1.now in
    let first = c.split_at-in-loop-rest.result.0.now in
    let behind = c.split_at-in-loop-rest.result.1.now in
    let run = run_cut escaped c.loop-rest.rest.now c.split_at.result.0.now others c.run_length.result
    c.loop-rest.invariant.is_text c.run_length.ensures c.split_at.ensures.front c.split_at.ensures.back in
    let forms = forms_cut escaped others first behind c.escaped_length.result run.is_text c.escaped_length.ensures
    c.split_at-in-loop-rest.ensures.front c.split_at-in-loop-rest.ensures.back in
    let more = still_rest (still_part (chars c.split_at.result.0.now) _ run.parts c.loop-rest.invariant.still)
    c.in_ok-write_run.ensures.written in
    wrote_exit c.from_residual-in_err-write_forms.ensures
    (still_failed (render_text (suffix_escaped escaped (chars behind))) (still_part (flat_map byte_escaped first) _ forms.parts more)
    c.in_err-write_forms.ensures)

pub loop-rest-preserved : goal.loop-rest-preserved
loop-rest-preserved g c =
    let escaped = are_escaped c.args.indicators in
    let others = c.split_at.result.1.now in
    let first = c.split_at-in-loop-rest.result.0.now in
    let behind = c.split_at-in-loop-rest.result.1.now in
    let run = run_cut escaped c.loop-rest.rest.now c.split_at.result.0.now others c.run_length.result
    c.loop-rest.invariant.is_text c.run_length.ensures c.split_at.ensures.front c.split_at.ensures.back in
    let forms = forms_cut escaped others first behind c.escaped_length.result run.is_text c.escaped_length.ensures
    c.split_at-in-loop-rest.ensures.front c.split_at-in-loop-rest.ensures.back in
    let more = still_rest (still_part (chars c.split_at.result.0.now) _ run.parts c.loop-rest.invariant.still)
    c.in_ok-write_run.ensures.written in
    record {
      still = still_rest (still_part (flat_map byte_escaped first) _ forms.parts more) c.in_ok-write_forms.ensures;
      unfailed = unfailed_after c.in_ok-write_forms.ensures;
      is_text = forms.is_text;
    }

pub loop-rest-smaller : goal.loop-rest-smaller
loop-rest-smaller g c =
    let moves = moves_on (are_escaped c.args.indicators) c.loop-rest.rest.now c.split_at.result.1.now c.run_length.result c.escaped_length.result
    (sym c.loop-rest-test.ensures) c.run_length.ensures c.split_at.ensures.back c.escaped_length.ensures in
    omega (arith, moves, c.split_at.ensures.back_len, c.split_at-in-loop-rest.ensures.back_len)

pub returns : goal.returns
returns g c =
    (end_still (λ (t : Text). render_text (suffix_escaped (are_escaped c.args.indicators) t)) c.loop-rest.rest.now
    (eqb-true _ 0 (sym c.is_empty.ensures ∙ c.loop-rest-test.false)) c.loop-rest.invariant.still).writes _ _ c.loop-rest.invariant.unfailed
