use Rattle.yaml_scalar.proofs.Common.{sym}
use Rattle.yaml_scalar.proofs.block_header.write_indentation_hint.Goals as goal

pub returns-else-begins_blank : goal.returns-else-begins_blank
returns-else-begins_blank g c = rw (sym c.if-begins_blank.ensures) c.write_nothing.ensures
