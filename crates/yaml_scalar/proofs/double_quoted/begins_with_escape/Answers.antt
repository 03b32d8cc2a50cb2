use Rattle.yaml_scalar.proofs.Common.{◌∷◌, ◌≡◌, chars, nil_from_length, chars-nil, chars_past_char, ap, sym, ◌∙◌, begins_with, needs_escape}
use Rattle.yaml_scalar.proofs.double_quoted.begins_with_escape.Goals as goal

pub returns-in-Some : goal.returns-in-Some
returns-in-Some c =
    let text = c.args.text.now in
    let rest = c.next.new.self.rest.now in
    let parts : chars text ≡ c.in-Some.c ∷ chars rest =
    chars_past_char text rest c.in-Some.c c.utf8.text (sym c.chars.ensures.rest ∙ c.in-Some.ensures.steps.0) in
    c.needs_escape.ensures ∙ sym (ap (begins_with (needs_escape c.args.unicode)) parts)

pub returns-in-None : goal.returns-in-None
returns-in-None c =
    sym (ap (begins_with (needs_escape c.args.unicode))
    (ap chars (sym c.chars.ensures.rest ∙ nil_from_length c.chars.result.rest.now c.in-None.ensures.steps.0.0) ∙ chars-nil))
