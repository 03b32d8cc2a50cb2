use Rattle.yaml_scalar.proofs.Common.{false, refl, chars, take}
use Rattle.yaml_base.specs.Tags.{last_from}
use Rattle.yaml_scalar.proofs.ByteRuns.{free_run, run_boundary, unicode_tells}
use Rattle.yaml_scalar.proofs.appended.verbatim_length.Goals as goal

pub returns-clause-boundary : goal.returns-clause-boundary
returns-clause-boundary c = run_boundary c.free_length.ensures

pub returns-clause-all : goal.returns-clause-all
returns-clause-all c =
    let run = free_run {before = 0} {last = last_from 0 (chars (take c.free_length.result c.args.text.now))} (unicode_tells 73 false refl refl refl refl) c.utf8.text c.free_length.ensures refl in
    run.all
