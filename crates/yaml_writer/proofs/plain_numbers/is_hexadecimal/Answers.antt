use Rattle.yaml_writer.proofs.Common.{None, Some, lit<, sym, ap, ◌∙◌, strip_prefix_char}
use Rattle.yaml_writer.proofs.ShapeCuts.{no_zero_begins, no_letter_behind}
use Rattle.yaml_writer.specs.PlainTags.{is_hexadecimal}
use Rattle.yaml_writer.proofs.plain_numbers.is_hexadecimal.Goals as goal

pub returns-in-None : goal.returns-in-None
returns-in-None c = sym (no_zero_begins c.args.text.now (strip_prefix_char 0x30 c.args.text.now None c.in-None.ensures.cases (lit< tt)))

pub returns-in-None-strip_prefix : goal.returns-in-None-strip_prefix
returns-in-None-strip_prefix c =
    let zero = strip_prefix_char 0x30 c.args.text.now (Some c.in-Some.rest) c.in-Some.ensures.cases (lit< tt) in
    let other = strip_prefix_char 0x78 c.in-Some.rest.now None c.in-None-strip_prefix.ensures.cases (lit< tt) in
    sym (ap is_hexadecimal zero ∙ no_letter_behind c.in-Some.rest.now other)
