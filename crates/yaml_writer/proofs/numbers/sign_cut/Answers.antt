use Rattle.yaml_writer.proofs.Common.{None, lit<, sym, strip_prefix_char}
use Rattle.yaml_writer.proofs.PartLemmas.{no_indicator}
use Rattle.yaml_writer.proofs.numbers.sign_cut.Goals as goal

pub returns-in-None-strip_prefix-clause-sign : goal.returns-in-None-strip_prefix-clause-sign
returns-in-None-strip_prefix-clause-sign c =
    sym (no_indicator c.args.text.now (strip_prefix_char 0x2D c.args.text.now None c.in-None.ensures.cases (lit< tt))
    (strip_prefix_char 0x2B c.args.text.now None c.in-None-strip_prefix.ensures.cases (lit< tt))).0

pub returns-in-None-strip_prefix-clause-digits : goal.returns-in-None-strip_prefix-clause-digits
returns-in-None-strip_prefix-clause-digits c =
    sym (no_indicator c.args.text.now (strip_prefix_char 0x2D c.args.text.now None c.in-None.ensures.cases (lit< tt))
    (strip_prefix_char 0x2B c.args.text.now None c.in-None-strip_prefix.ensures.cases (lit< tt))).1
