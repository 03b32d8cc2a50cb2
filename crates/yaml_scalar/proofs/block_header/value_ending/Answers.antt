use Rattle.yaml_scalar.proofs.Common.{ap, sym, ◌∙◌, nil_from_length, chars-nil, ending}
use Rattle.yaml_base.proofs.Common.{chars}
use Rattle.yaml_scalar.proofs.block_header.value_ending.Goals as goal

pub returns-in-None : goal.returns-in-None
returns-in-None c = sym (ap ending
    (ap chars (sym c.chars-characters.ensures.rest ∙ nil_from_length c.chars-characters.result.rest.now c.in-None.ensures.steps.0) ∙ chars-nil))
