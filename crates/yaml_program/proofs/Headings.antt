-- A stream after a heading.
use Rattle.std.{proofs.Common.ℕ, proofs.Common.Option, proofs.Common.List, proofs.Common.◌++◌, proofs.Common.refl, specs.Io.KnownBytes.Appends}
use Rattle.std.{proofs.KnownBytes.Appends-trans}
use Rattle.yaml_program.specs.Conversions.{WroteFiles, WroteStream, heading_bytes}

pub behind_heading : (IsYaml : List (List ℕ) → List ℕ → Type 0) (heading : Option (List ℕ)) (files : List (List ℕ)) (start before after : Option (List ℕ))
    → Appends start before (heading_bytes heading) → WroteStream IsYaml files before after → WroteFiles IsYaml heading files start after
behind_heading IsYaml heading files start before after first (yaml, sends, is) = (
  heading_bytes heading ++ yaml,
  Appends-trans start before after (heading_bytes heading) yaml first sends,
  (yaml, refl, is),
)
