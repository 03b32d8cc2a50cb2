use Rattle.yaml_read.proofs.Common.{◌∷◌, [], Some, ℕ, ◌≤◌, true, ap, subst, sym, ◌∙◌, all_scalars, letter_among, needs_escape, short_escapes}
use Rattle.yaml_read.proofs.quoted.read_number.Goals as goal

pub returns-in-Some-character_of : goal.returns-in-Some-character_of
returns-in-Some-character_of c =
    let found = c.in-Some-character_of.ensures.sound in (
      c.in-Some.is ∙ ap (λ (n : ℕ). Some (n, c.in-Some.read.1)) (sym found.0),
      subst (λ n. c.args.least ≤ n) (sym found.0) found.1,
      ap (needs_escape true) found.0 ∙ found.2,
      ap (letter_among short_escapes) found.0 ∙ found.3,
      ap (λ n. all_scalars (n ∷ [])) found.0 ∙ found.4,
    )
