-- Canonical bytes: the one file that is read, and texts that have none, since they are refused.
use Rattle.std.proofs.Common.{ℕ, List, [], ◌∷◌, ◌++◌, Bool, true, false, true≢false, ◌≡◌, ap, subst, sym, ◌∙◌, append-nil, append_assoc, arith}
use Rattle.std.proofs.Common.{Bor, Option, Some, codes, length, map}
use Rattle.std.specs.List.{All}
use Rattle.json.specs.Json.{Json, value}
use Rattle.json.specs.Lex.{tokens}
use Rattle.json.specs.Strict.{HasUniqueKeys}
use Rattle.json.specs.Token.{Token, key, number}
use Rattle.json.specs.Tree.{json_tokens}
use Rattle.json.proofs.Unique.Spelling.{value-json_tokens_back}
use Rattle.yaml_base.specs.values.TypedValues.{TypedValue, most_nested}
use Rattle.yaml_base.specs.declared.places.Position.{Position}
use Rattle.yaml_json.specs.Refused.{NamesTwice}
use Rattle.yaml_json.specs.declared.error.JsonError.TheVariants as errors
use Rattle.yaml_value.specs.declared.keys.Keys.{Keys}
use Rattle.yaml_value.specs.declared.keys.Keys.TheVariants as keys
use Rattle.yaml_json_value.specs.Typed.{ExplainsValueError, HasOtherNumber, IsCanonicalOf, IsIntegerToken, IsValueOf, NamesAllow, names_differ}
use Rattle.yaml_json_value.specs.declared.error.ValueError.{ValueError}
use Rattle.yaml_json_value.specs.declared.error.ValueError.TheVariants as values
use Rattle.yaml_json.specs.declared.settings.JsonSettings.{JsonSettings}
use Rattle.yaml_program.specs.Conversions.{AreBytesOf, HaveNoYaml, OfNames}
use Rattle.json2yaml.specs.Conversions.{IsCanonicalOfJsonFiles, IsOutputOfJsonFiles, IsYamlOfJsonFiles, keys_of}
use Rattle.json2yaml.specs.Statuses.{value_status}
use Rattle.json2yaml.proofs.Parts.{all_at, first_same}

unique_names : (mode : Keys) → names_differ mode ≡ true → (json : Json) → NamesAllow mode json → HasUniqueKeys json
unique_names keys.Unique is json names = names
unique_names keys.MayRepeat is json names = absurd (true≢false (sym is))

module _ (mode : Keys) (text : List ℕ) where
  named_once : NamesTwice most_nested (names_differ mode) (tokens text) → (json : Json) → value most_nested (tokens text) ≡ Some (json, [])
      → NamesAllow mode json → ⊥
  named_once why json read names =
      why.twice json
      (record {
        rest = why.left;
        parts = append_assoc why.taken (key why.name ∷ []) why.left ∙ why.parts ∙ value-json_tokens_back most_nested (tokens text) [] json read
            ∙ append-nil (json_tokens json);
      })
      (unique_names mode why.wanted json names)

  all_integers : (position : Position) → HasOtherNumber mode text position → All IsIntegerToken (tokens text) → ⊥
  all_integers position why integers =
      let other = why.number in
      other.none
      (all_at IsIntegerToken other.before (number other.digits) other.after
      (subst (All IsIntegerToken) (sym (ap (λ (ts : List Token). other.before ++ ts) (sym other.first) ∙ other.parts)) integers))

  never_refused : (error : ValueError) → value_status error ≡ 1 → ExplainsValueError mode text error → (found : TypedValue) → IsValueOf mode text found → ⊥
  never_refused (values.Json (errors.NotJson position says)) status why found is = why.refused tt is.json is.read
  never_refused (values.Json (errors.Marked position)) status why found is = why.refused tt is.json is.read
  never_refused (values.Json (errors.TooDeep position)) status why found is = why.refused tt is.json is.read
  never_refused (values.Json (errors.DuplicateName position)) status why found is = named_once why.why is.json is.read is.names
  never_refused (values.Json (errors.Emitter error)) status why found is = absurd (omega (arith, status))
  never_refused (values.NotInteger position) status why found is = all_integers position why is.integers

  same_file : (bytes : List ℕ) (whole : IsCanonicalOfJsonFiles mode (text ∷ []) bytes) → whole.file ≡ text
  same_file bytes whole = sym (first_same text whole.file [] [] whole.one)

  pub refused_none : (error : ValueError) → value_status error ≡ 1 → ExplainsValueError mode text error → HaveNoYaml (IsCanonicalOfJsonFiles mode) (text ∷ [])
  refused_none error status why (bytes, whole) =
      let canonical = subst (λ (t : List ℕ). IsCanonicalOf mode t bytes) (same_file bytes whole) whole.canonical in
      never_refused error status why canonical.value canonical.of_text

-- ---- the one file that is read

module _ (bytes_of : List ℕ → Option (List ℕ)) (holds : List (List ℕ) → Type 0) where
  one_file : (name : List ℕ) → ((file : List ℕ) → bytes_of name ≡ Some file → holds (file ∷ [])) → (files : List (List ℕ))
      → AreBytesOf bytes_of (name ∷ []) files → holds files
  one_file name one [] are = absurd are
  one_file name one (file ∷ []) are = one file are.0
  one_file name one (file ∷ second ∷ files) are = absurd are.1

  -- Standard input.
  pub of_stream : (names : List (Bor (List ℕ))) → length names ≡ 0 → ((file : List ℕ) → bytes_of (codes "-") ≡ Some file → holds (file ∷ []))
      → OfNames bytes_of (map (λ n. n.now) names) holds
  of_stream [] none one = one_file (codes "-") one
  of_stream (name ∷ names) none one = absurd (omega (arith, none))

  -- The one that is named.
  pub of_name : (names : List (Bor (List ℕ))) (name : Bor (List ℕ)) (others : List (Bor (List ℕ))) → names ≡ name ∷ others → length others ≡ 0
      → ((file : List ℕ) → bytes_of name.now ≡ Some file → holds (file ∷ [])) → OfNames bytes_of (map (λ n. n.now) names) holds
  of_name names name [] is none one =
      subst (λ (all : List (Bor (List ℕ))). OfNames bytes_of (map (λ n. n.now) all) holds) (sym is) (one_file name.now one)
  of_name names name (second ∷ others) is none one = absurd (omega (arith, none))

-- ---- the output of a format

module _ (deterministic : Bool) (settings : JsonSettings) (holds : (List (List ℕ) → List ℕ → Type 0) → Type 0) where
  pub as_canonical : (mode : Keys) → deterministic ≡ true → mode ≡ keys_of settings.unique_names → holds (IsCanonicalOfJsonFiles mode)
      → holds (IsOutputOfJsonFiles deterministic settings)
  as_canonical mode is same held =
      subst (λ (on : Bool). holds (IsOutputOfJsonFiles on settings)) (sym is) (subst (λ (m : Keys). holds (IsCanonicalOfJsonFiles m)) same held)

  pub as_stream : deterministic ≡ false → holds (IsYamlOfJsonFiles settings) → holds (IsOutputOfJsonFiles deterministic settings)
  as_stream is held = subst (λ (on : Bool). holds (IsOutputOfJsonFiles on settings)) (sym is) held
