use Rattle.yaml_scalar.proofs.Common.{Bool, false, true, refl, is_quiet, ImpliesTest}
use Rattle.yaml_scalar.proofs.ByteRuns.{ascii_only_tells, quiet_tells}
use Rattle.yaml_scalar.proofs.analysis.significant_classes.Goals as goal

unicode_is_quiet : (breaks12 : Bool) → ImpliesTest 41 (is_quiet (record { unicode = true; breaks12 = breaks12 }))
unicode_is_quiet true = quiet_tells 41 true refl refl refl refl
unicode_is_quiet false = quiet_tells 41 false refl refl refl refl

ascii_is_quiet : (breaks12 : Bool) → ImpliesTest 57 (is_quiet (record { unicode = false; breaks12 = breaks12 }))
ascii_is_quiet true = ascii_only_tells 57 (is_quiet (record { unicode = false; breaks12 = true })) refl refl
ascii_is_quiet false = ascii_only_tells 57 (is_quiet (record { unicode = false; breaks12 = false })) refl refl

pub returns-then-charset : goal.returns-then-charset
returns-then-charset c = rw c.if-charset.true (unicode_is_quiet c.args.charset.breaks12)

pub returns-else-charset : goal.returns-else-charset
returns-else-charset c = rw c.if-charset.false (ascii_is_quiet c.args.charset.breaks12)
