use Rattle.std.proofs.Common.{ap, sym, ◌∙◌, [], option_map, unwrap_or}
use Rattle.std.specs.Str.{chars}
use Rattle.yaml_base.specs.Seen.{seen_text}
use Rattle.yaml_dump.proofs.composer.copied_tag.Goals as goal

pub returns-in-None : goal.returns-in-None
unfolding chars
returns-in-None g c = ap chars c.new.ensures.bytes ∙ sym (ap (λ tag. unwrap_or (option_map seen_text tag) []) c.in-None.is)
