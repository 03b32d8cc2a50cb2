use Rattle.yaml_writer.proofs.Common.{sym, ◌∙◌}
use Rattle.yaml_writer.proofs.ShapeCuts.{no_point_cut, point_cut}
use Rattle.yaml_writer.proofs.plain_numbers.is_pointed.Goals as goal

pub returns-in-None : goal.returns-in-None
returns-in-None c = sym (no_point_cut c.args.text.now c.in-None.ensures)

pub returns-in-Some : goal.returns-in-Some
returns-in-Some c = c.are_digits_together.ensures ∙ sym (point_cut c.args.text.now c.in-Some.whole.now c.in-Some.fraction.now c.in-Some.ensures)
