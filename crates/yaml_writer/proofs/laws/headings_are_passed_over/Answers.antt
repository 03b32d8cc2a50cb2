use Rattle.yaml_writer.proofs.HeadingLemmas.{headings_passed}
use Rattle.yaml_writer.proofs.laws.headings_are_passed_over.Goals as goal

pub returns : goal.returns
returns c = headings_passed
