use Rattle.yaml_base.proofs.Common.{ap, ◌∙◌, chars}
use Rattle.yaml_scalar.{proofs.ByteRuns.run_boundary, proofs.ByteRuns.free_run}
use Rattle.yaml_base.specs.Tags.{last_from}
use Rattle.yaml_scalar.proofs.runs.run_up_to.Goals as goal

pub split_at-requires : goal.split_at-requires
split_at-requires c = run_boundary c.free_length-length.ensures

pub returns : goal.returns
returns c test tells =
    free_run tells c.utf8.text c.free_length-length.ensures (c.last_of.ensures ∙ ap (λ l. last_from c.args.before (chars l)) c.split_at.ensures.front)
