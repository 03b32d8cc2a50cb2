use Rattle.yaml_dump.proofs.ComposingLemmas.{none_other}
use Rattle.yaml_dump.proofs.composing.document_of.Goals as goal

pub returns-in-Err : goal.returns-in-Err
returns-in-Err g c graph whole start nodes end = absurd (none_other graph c.args.nodes.items c.in-Err.field-0.0 whole nodes c.in-Err.ensures.whole)
