use Rattle.yaml_scalar.proofs.Common.{not, ap, ◌∙◌}
use Rattle.yaml_scalar.proofs.EscapedBytes.{escaped_below}
use Rattle.yaml_scalar.proofs.escapes.is_escaped_byte.Goals as goal

pub returns : goal.returns
returns c unicode = ap not c.is_free.ensures ∙ escaped_below unicode c.args.byte c.requires
