-- Portable mode, as the options ask for it.
use Rattle.std.proofs.Common.{ℕ, Option, List, Bool, false, true, ◌≡◌, refl, ap, ◌∙◌, ◌&&◌, not}
use Rattle.yaml_program.specs.Options.{IsOff, IsOn}

and_true : (b : Bool) → (b && true) ≡ b
and_true true = refl
and_true false = refl

and_false : (b : Bool) → (b && false) ≡ false
and_false true = refl
and_false false = refl

pub portable_unless : (value : Option (List ℕ)) (flag leaves portable : Bool) → IsOn value flag → portable ≡ (not flag && not leaves)
    → leaves ≡ false → IsOff value portable
portable_unless value flag leaves portable on is stays =
    let same : portable ≡ not flag = is ∙ ap (λ (b : Bool). not flag && not b) stays ∙ and_true (not flag) in (
      λ none. same ∙ ap not (on.0 none),
      λ off. same ∙ ap not (on.1 off),
      λ given. same ∙ ap not (on.2 given),
    )

pub portable_left : (flag leaves portable : Bool) → portable ≡ (not flag && not leaves) → leaves ≡ true → portable ≡ false
portable_left flag leaves portable is left = is ∙ ap (λ (b : Bool). not flag && not b) left ∙ and_false (not flag)
