use Rattle.std.{proofs.Common.ap, proofs.Common.sym, proofs.Common.◌∙◌, proofs.lemmas.List.nil_from_length, proofs.lemmas.Str.chars-nil, specs.Str.chars}
use Rattle.yaml_scalar.{proofs.LastCharacters.last-is}
use Rattle.yaml_base.specs.Tags.{last_from}
use Rattle.yaml_scalar.proofs.classes.last_of.Goals as goal

pub returns-in-Some : goal.returns-in-Some
returns-in-Some c =
    last-is c.args.before c.args.text.now _ c.in-Some.last c.utf8.text (rw c.in-Some.is at c.next_back.type_inv).1.1.1.1.0.1
    (sym c.chars-characters.ensures.rest ∙ c.in-Some.ensures.steps)

pub returns-in-None : goal.returns-in-None
returns-in-None c =
    let none = ap chars (sym c.chars-characters.ensures.rest ∙ nil_from_length c.chars-characters.result.rest.now c.in-None.ensures.steps.0) ∙ chars-nil in
    sym (ap (last_from c.args.before) none)
