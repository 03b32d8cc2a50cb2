use Rattle.std.proofs.Common.{ℕ, List, [], ◌∷◌, subst, sym, ◌∙◌}
use Rattle.yaml_program.specs.Conversions.{HaveNoYaml}
use Rattle.json2yaml.specs.Conversions.{IsCanonicalOfJsonFiles}
use Rattle.json2yaml.proofs.CanonicalTexts.{refused_none}
use Rattle.json2yaml.proofs.deterministic.canonical_bytes.Goals as goal

pub returns-in-Err-canonical_from_json-clause-refused : goal.returns-in-Err-canonical_from_json-clause-refused
returns-in-Err-canonical_from_json-clause-refused c = λ status.
    subst (λ (text : List ℕ). HaveNoYaml (IsCanonicalOfJsonFiles c.args.keys) (text ∷ [])) c.in-Ok.ensures.cases.0
    (refused_none c.args.keys c.in-Ok.text.now c.in-Err-canonical_from_json.error (sym c.failure_of_value.ensures ∙ status)
    c.in-Err-canonical_from_json.ensures.why)
