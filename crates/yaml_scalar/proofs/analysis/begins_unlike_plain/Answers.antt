use Rattle.yaml_scalar.proofs.Common.{ℕ, chars, codes, ◌&&◌, ◌||◌, List, ◌∷◌, ◌≡◌, ap, sym, ◌∙◌, chars_past_char, Text, is_among, is_space, ends_word}
use Rattle.yaml_scalar.proofs.Common.{begins_like_marker, begins_unlike_plain}
use Rattle.yaml_base.specs.scalars.Analysis.{is_indicator}
use Rattle.yaml_scalar.proofs.FirstCharacters.{ordinary_plain}
use Rattle.yaml_scalar.proofs.analysis.begins_unlike_plain.Goals as goal

pub returns-in-Some : goal.returns-in-Some
returns-in-Some c =
    let first = c.in-Some.c in
    let rest : List ℕ = c.next.new.self.rest.now in
    let parts : chars c.args.value.now ≡ first ∷ chars rest =
    chars_past_char c.args.value.now rest first c.utf8.value (sym c.chars-chars.ensures.rest ∙ c.in-Some.ensures.steps.0) in
    sym (ap begins_unlike_plain parts ∙ ordinary_plain first (chars rest) (sym c.if-is_ordinary.ensures))

pub returns-in-Some-2 : goal.returns-in-Some-2
returns-in-Some-2 c =
    let first = c.in-Some.c in
    let rest : List ℕ = c.next.new.self.rest.now in
    let parts : chars c.args.value.now ≡ first ∷ chars rest =
    chars_past_char c.args.value.now rest first c.utf8.value (sym c.chars-chars.ensures.rest ∙ c.in-Some.ensures.steps.0) in
    c.first_bars_plain.ensures
    ∙ ap (λ (t : Text). is_space first || begins_like_marker t || is_indicator first || (is_among (codes "?:-") first && ends_word (chars c.as_str.result.now)))
    parts
    ∙ ap (λ (l : List ℕ). is_space first || begins_like_marker (first ∷ chars rest) || is_indicator first
    || (is_among (codes "?:-") first && ends_word (chars l))) c.as_str.ensures
    ∙ sym (ap begins_unlike_plain parts)
