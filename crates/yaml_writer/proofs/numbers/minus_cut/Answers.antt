use Rattle.yaml_writer.proofs.Common.{None, lit<, sym, strip_prefix_char}
use Rattle.yaml_writer.proofs.PartLemmas.{no_minus}
use Rattle.yaml_writer.proofs.numbers.minus_cut.Goals as goal

pub returns-in-None-clause-negative : goal.returns-in-None-clause-negative
returns-in-None-clause-negative c = sym (no_minus c.args.text.now (strip_prefix_char 0x2D c.args.text.now None c.in-None.ensures.cases (lit< tt))).0

pub returns-in-None-clause-rest : goal.returns-in-None-clause-rest
returns-in-None-clause-rest c = sym (no_minus c.args.text.now (strip_prefix_char 0x2D c.args.text.now None c.in-None.ensures.cases (lit< tt))).1
