use Rattle.yaml_scalar.proofs.Common.{false, true, refl, is_unbroken_ascii, stays_in_line}
use Rattle.yaml_scalar.proofs.ByteRuns.{ascii_only_tells}
use Rattle.yaml_scalar.proofs.runs.short_classes.Goals as goal

pub returns-then-quote-clause-plain : goal.returns-then-quote-clause-plain
returns-then-quote-clause-plain c = ascii_only_tells 21 is_unbroken_ascii refl refl

pub returns-then-quote-clause-line : goal.returns-then-quote-clause-line
returns-then-quote-clause-line c = rw c.if-quote.true (ascii_only_tells 21 (stays_in_line false true) refl refl)

pub returns-else-quote-clause-plain : goal.returns-else-quote-clause-plain
returns-else-quote-clause-plain c = ascii_only_tells 17 is_unbroken_ascii refl refl

pub returns-else-quote-clause-line : goal.returns-else-quote-clause-line
returns-else-quote-clause-line c = rw c.if-quote.false (ascii_only_tells 17 (stays_in_line false false) refl refl)
