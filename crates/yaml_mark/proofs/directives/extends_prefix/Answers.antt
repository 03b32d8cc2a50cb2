use Rattle.std.proofs.lemmas.Str.Pattern.{starts_text}
use Rattle.yaml_mark.proofs.TagLemmas.{goes_on}
use Rattle.yaml_mark.proofs.directives.extends_prefix.Goals as goal

pub returns-then-prefix-tag : goal.returns-then-prefix-tag
returns-then-prefix-tag c =
    goes_on c.args.prefix.now c.args.tag.now c.starts_with.result c.if-prefix-tag.true
    (starts_text c.starts_with.result c.args.prefix.now c.args.tag.now c.starts_with.ensures.cases)
