use Rattle.yaml_scalar.proofs.Common.{◌&&◌, eqb-true, le-leb, ap, sym, ◌∙◌, arith, list_all, is_free}
use Rattle.yaml_scalar.proofs.{ByteRuns.whole_free, ShortRuns.whole_run}
use Rattle.yaml_scalar.proofs.short_runs.is_short_run.Goals as goal

pub returns-then-text-le-MOST_BYTES-clause-value : goal.returns-then-text-le-MOST_BYTES-clause-value
returns-then-text-le-MOST_BYTES-clause-value c =
    whole_free c.free_length.ensures
    ∙ ap (λ b. b && list_all (is_free c.args.classes) c.args.text.now) (sym (le-leb _ _ c.if-text-le-MOST_BYTES.true))

pub returns-then-text-le-MOST_BYTES-clause-run : goal.returns-then-text-le-MOST_BYTES-clause-run
returns-then-text-le-MOST_BYTES-clause-run c is test plain tells =
    let whole = eqb-true _ _ is in
    whole_run test c.utf8.text c.free_length.ensures (omega (arith, whole)) c.if-text-le-MOST_BYTES.true plain tells
