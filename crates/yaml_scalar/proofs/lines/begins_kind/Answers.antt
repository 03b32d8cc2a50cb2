use Rattle.yaml_scalar.proofs.Common.{◌∷◌, ◌≡◌, chars, nil_from_length, chars-nil, chars_past_char, ap, sym, ◌∙◌, is_same_kind}
use Rattle.yaml_scalar.specs.LineSteps.{begins_kind}
use Rattle.yaml_scalar.proofs.lines.begins_kind.Goals as goal

pub returns-in-Some : goal.returns-in-Some
returns-in-Some c =
    let kind = c.args.kind in
    let rest = c.next.new.self.rest.now in
    let parts : chars c.args.rest.now ≡ c.in-Some.c ∷ chars rest =
    chars_past_char c.args.rest.now rest c.in-Some.c c.utf8.rest (sym c.chars.ensures.rest ∙ c.in-Some.ensures.steps.0) in
    c.is_same_kind.ensures ∙ ap (is_same_kind kind) c.kind_of.ensures ∙ sym (ap (begins_kind kind) parts)

pub returns-in-None : goal.returns-in-None
returns-in-None c =
    sym (ap (begins_kind c.args.kind)
    (ap chars (sym c.chars.ensures.rest ∙ nil_from_length c.chars.result.rest.now c.in-None.ensures.steps.0.0) ∙ chars-nil))
