-- Texts that are appended one after another.
use Rattle.yaml_writer.proofs.Common.{ℕ, List, ◌++◌, ◌≡◌, append_assoc, ap, ◌∙◌}

-- Two texts, one after the other.
pub pushed : (old before after first second : List ℕ) → before ≡ old ++ first → after ≡ before ++ second → after ≡ old ++ (first ++ second)
pushed old before after first second was is = is ∙ ap (λ (text : List ℕ). text ++ second) was ∙ append_assoc old first second
