use Rattle.std.{proofs.Common.ap, proofs.Common.sym, proofs.Common.◌∙◌, proofs.lemmas.List.nil_from_length, proofs.lemmas.Str.chars-nil, specs.Str.chars}
use Rattle.yaml_scalar.proofs.LastCharacters.{other-ends, break-ends}
use Rattle.yaml_scalar.proofs.block_header.last_ending.Goals as goal

pub returns-then-not-is_break : goal.returns-then-not-is_break
returns-then-not-is_break c = sym (other-ends c.args.prefix.now c.args.last c.utf8.prefix c.ranges.last.0 (sym c.if-not-is_break.ensures))

pub returns-in-None : goal.returns-in-None
returns-in-None c =
    let none = ap chars (sym c.chars-characters.ensures.rest ∙ nil_from_length c.chars-characters.result.rest.now c.in-None.ensures.steps.0) ∙ chars-nil in
    sym (break-ends c.args.prefix.now c.args.last c.utf8.prefix c.ranges.last.0 (sym c.if-not-is_break.ensures) none)
