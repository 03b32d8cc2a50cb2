use Rattle.yaml_mark.proofs.Common.{lit<, strip_prefix_char}
use Rattle.yaml_mark.proofs.EscapingLemmas.{prefix_answer}
use Rattle.yaml_mark.proofs.writing.after_raw_exclamation.Goals as goal

pub returns-then-portable : goal.returns-then-portable
returns-then-portable c =
    prefix_answer c.args.prefix.now c.args.portable c.strip_prefix.result c.if-portable.true c.utf8.prefix
    (strip_prefix_char 33 c.args.prefix.now c.strip_prefix.result c.strip_prefix.ensures.cases (lit< tt))
