use Rattle.yaml_scalar.proofs.Common.{ℕ, false, ◌||◌, List, refl, ◌≡◌, ap, ◌∙◌, list_any-append, list_any, is_break, chars-cut, stays_in_line}
use Rattle.yaml_base.proofs.Common.{chars}
use Rattle.yaml_scalar.proofs.{ByteRuns.run_boundary, ByteRuns.free_run, ByteRuns.line_tells, StaysInLine.stays_unbroken, WholeRuns.run_unbroken}
use Rattle.yaml_scalar.proofs.analysis.skip_unbroken.Goals as goal

pub split_at-requires : goal.split_at-requires
split_at-requires c = run_boundary c.free_length.ensures

pub returns-clause-same : goal.returns-clause-same
returns-clause-same c =
    let prefix : List ℕ = c.split_at.result.0.now in
    let rest : List ℕ = c.split_at.result.1.now in
    let free : list_any is_break (chars prefix) ≡ false =
    run_unbroken (stays_in_line false false) (stays_unbroken false false)
    (free_run {before = 0} (line_tells 1 false false refl refl refl) c.utf8.text c.free_length.ensures refl) c.split_at.ensures.front in
    ap (list_any is_break) (chars-cut c.args.text.now prefix rest c.free_length.result c.utf8.text
    (run_boundary c.free_length.ensures) c.split_at.ensures.front c.split_at.ensures.back)
    ∙ list_any-append is_break (chars prefix) (chars rest)
    ∙ ap (λ b. b || list_any is_break (chars rest)) free
