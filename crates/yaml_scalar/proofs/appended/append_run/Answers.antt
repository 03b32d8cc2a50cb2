use Rattle.yaml_scalar.proofs.Common.{length, ◌≤◌, ◌++◌, ap, subst, sym, ◌∙◌, List, ℕ}
use Rattle.yaml_scalar.proofs.AppendedTexts.{run_appended}
use Rattle.yaml_scalar.proofs.Shorter.{shorter_dropped}
use Rattle.yaml_scalar.proofs.appended.append_run.Goals as goal

pub split_at-requires : goal.split_at-requires
split_at-requires g c = c.verbatim_length.ensures.boundary

pub returns-clause-appended : goal.returns-clause-appended
returns-clause-appended g c =
    run_appended c.args.bytes.now.items c.extend_from_slice.new.self.items c.args.text.now c.split_at.result.0.now c.split_at.result.1.now
    c.verbatim_length.result c.utf8.text c.verbatim_length.ensures.boundary c.split_at.ensures.front c.split_at.ensures.back
    c.verbatim_length.ensures.all
    (c.in_ok-extend_from_slice.ensures.items ∙ ap (λ (l : List ℕ). c.args.bytes.now.items ++ l) c.as_bytes.ensures.value)

pub returns-clause-shorter : goal.returns-clause-shorter
returns-clause-shorter g c =
    subst (λ (l : List ℕ). length l ≤ length c.args.text.now) (sym c.split_at.ensures.back) (shorter_dropped c.verbatim_length.result c.args.text.now)
