use Rattle.yaml_scalar.proofs.Common.{ℕ, Bool, ◌&&◌, List, ◌∷◌, ◌≡◌, ap, sym, ◌∙◌, chars, chars_past_char, is_blank_to_line_end, begins_with_blanks_alone}
use Rattle.yaml_scalar.proofs.blanks.begins_with_blanks_alone.Goals as goal

pub returns-then-is_blank : goal.returns-then-is_blank
returns-then-is_blank c =
    let first = c.in-Some.c in
    let rest : List ℕ = c.next.new.self.rest.now in
    let parts : chars c.args.text.now ≡ first ∷ chars rest =
    chars_past_char c.args.text.now rest first c.utf8.text (sym c.chars-chars.ensures.rest ∙ c.in-Some.ensures.steps.0) in
    c.is_blank_to_line_end.ensures
    ∙ ap (λ (l : List ℕ). is_blank_to_line_end (chars l)) c.as_str.ensures
    ∙ ap (λ (b : Bool). b && is_blank_to_line_end (chars rest)) c.if-is_blank.ensures
    ∙ sym (ap begins_with_blanks_alone parts)
