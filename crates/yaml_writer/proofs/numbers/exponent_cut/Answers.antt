use Rattle.yaml_writer.proofs.Common.{sym, ◌∙◌}
use Rattle.yaml_writer.proofs.PlaceCuts.{no_letter_uncut}
use Rattle.yaml_writer.proofs.numbers.exponent_cut.Goals as goal

pub returns-then-lacks_letters : goal.returns-then-lacks_letters
returns-then-lacks_letters c = sym (no_letter_uncut c.args.text.now (sym c.lacks_letters.ensures ∙ c.if-lacks_letters.true))
