use Rattle.yaml_scalar.proofs.Common.{Bool, ◌&&◌, ◌∷◌, ◌≡◌, chars, nil_from_length, chars-nil, chars_past_char, ap, sym, ◌∙◌, begins_with, is_break}
use Rattle.yaml_scalar.proofs.analysis.is_trailing_space.Goals as goal

pub returns-in-Some : goal.returns-in-Some
returns-in-Some c =
    let rest = c.next.new.self.rest.now in
    let parts : chars c.args.rest.now ≡ c.in-Some.next ∷ chars rest =
    chars_past_char c.args.rest.now rest c.in-Some.next c.utf8.rest (sym c.chars.ensures.rest ∙ c.in-Some.ensures.steps.0) in
    c.is_break.ensures ∙ sym (ap (begins_with is_break) parts)
    ∙ ap (λ (b : Bool). b && begins_with is_break (chars c.args.rest.now)) c.if-is_space.ensures

pub returns-in-None : goal.returns-in-None
returns-in-None c =
    sym (ap (begins_with is_break)
    (ap chars (sym c.chars.ensures.rest ∙ nil_from_length c.chars.result.rest.now c.in-None.ensures.steps.0.0) ∙ chars-nil))
    ∙ ap (λ (b : Bool). b && begins_with is_break (chars c.args.rest.now)) c.if-is_space.ensures
