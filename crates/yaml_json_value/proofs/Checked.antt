-- The nature of a text that was checked, and the reason why one is refused.
use Rattle.yaml_base.proofs.Common.{ℕ, ◌<◌, Bool, true, List, [], refl, ◌≡◌, ap, subst, ◌∙◌, inl, arith, Some, Settings}
use Rattle.json.specs.Json.{Json, value}
use Rattle.json.specs.Lex.{tokens}
use Rattle.json.specs.Strict.{HasUniqueKeys}
use Rattle.json.specs.Token.{Token}
use Rattle.yaml_base.specs.declared.errors.yaml_error_t.TheVariants.{Memory}
use Rattle.yaml_base.specs.values.TypedValues.{TypedValue, most_nested, nesting}
use Rattle.yaml_emitter.specs.Given.{seen_settings}
use Rattle.yaml_value.specs.declared.keys.Keys.{Keys}
use Rattle.yaml_value.specs.declared.keys.Keys.TheVariants as keys
use Rattle.yaml_base.specs.Positions.{IsPositionOf}
use Rattle.yaml_base.specs.declared.places.Position.{Position}
use Rattle.yaml_json.specs.Reached.{AreFrom}
use Rattle.yaml_json.specs.WritingCalls.{HasNoYaml, HasYaml}
use Rattle.yaml_json.specs.declared.error.JsonError.{JsonError}
use Rattle.yaml_json.specs.declared.error.JsonError.TheVariants as errors
use Rattle.yaml_json.specs.declared.settings.JsonSettings.{JsonSettings}
use Rattle.yaml_json_value.specs.Standing.{run, whole, within}
use Rattle.yaml_json_value.specs.Typed.{AreIntegers, HasOtherNumber, IsFromOtherNumber, IsJson, IsJsonErrorOf, IsValueOf, NamesAllow, names_differ}
use Rattle.yaml_json_value.specs.Typed.{typed_value}
use Rattle.yaml_json_value.specs.Walked.{IsForValues}
use Rattle.yaml_json_value.proofs.Depths.{nests_below}
use Rattle.yaml_json_value.proofs.Running.{runs_whole}

names_allowed : (mode : Keys) (json : Json) → (names_differ mode ≡ true → HasUniqueKeys json) → NamesAllow mode json
names_allowed keys.Unique json names = names refl
names_allowed keys.MayRepeat json names = tt

-- a text that has YAML under these settings
pub is_json : (mode : Keys) (settings : JsonSettings) (text bytes : List ℕ) → IsForValues mode settings
    → HasYaml (seen_settings settings.values.emitter) settings.values.flow settings.values.depth settings.unique_names text bytes → IsJson mode text
is_json mode settings text bytes by yaml =
    let json = yaml.stream.json in
    let read : value most_nested (tokens text) ≡ Some (json, []) =
    subst (λ (depth : ℕ). value depth (tokens text) ≡ Some (json, [])) by.depth yaml.stream.read in
    (json, read, names_allowed mode json (λ differ. yaml.names (by.names ∙ differ) most_nested json read))

-- it is JSON if names may repeat, too
pub is_any_json : (mode : Keys) (text : List ℕ) → IsJson mode text → IsJson keys.MayRepeat text
is_any_json mode text json = (json.0, json.1, tt)

-- one that is refused under them
pub json_error : (mode : Keys) (settings : JsonSettings) (text : List ℕ) (error : JsonError) → IsForValues mode settings
    → HasNoYaml (seen_settings settings.values.emitter) settings.values.flow settings.values.depth settings.unique_names text error → IsJsonErrorOf mode text error
json_error mode settings text error by none =
    let given = seen_settings settings.values.emitter in
    let differ = names_differ mode in
    subst (λ (x : Settings). HasNoYaml x true most_nested differ text error) by.emitter
    (subst (λ (flow : Bool). HasNoYaml given flow most_nested differ text error) by.flow
    (subst (λ (depth : ℕ). HasNoYaml given settings.values.flow depth differ text error) by.depth
    (subst (λ (unique : Bool). HasNoYaml given settings.values.flow settings.values.depth unique text error) by.names none)))

pub no_memory : (mode : Keys) (text : List ℕ) → IsJsonErrorOf mode text (errors.Emitter Memory)
no_memory mode text = record { refused = λ denied. absurd denied; why = tt; failed = inl refl; place = (0, (tt, tt)) }

-- the walk over the tokens of such a text ends with its value
pub root_of : (mode : Keys) (text : List ℕ) (ahead : List Token) (json : IsJson mode text) → ahead ≡ tokens text
    → run ahead (within []) ≡ Some (whole (typed_value json.0))
root_of mode text ahead json is = ap (λ (ts : List Token). run ts (within [])) is ∙ runs_whole most_nested (tokens text) json.0 json.1

pub is_value : (mode : Keys) (text : List ℕ) (ahead : List Token) (found : TypedValue) → IsJson mode text → ahead ≡ tokens text
    → ((root : TypedValue) → run ahead (within []) ≡ Some (whole root) → found ≡ root) → AreIntegers ahead → IsValueOf mode text found
is_value mode text ahead found json is rooted integers =
    record {
      json = json.0;
      read = json.1;
      names = json.2;
      integers = subst AreIntegers is integers;
      is = rooted (typed_value json.0) (root_of mode text ahead json is);
    }

pub other_number : (mode : Keys) (text read_text : List ℕ) (ahead from : List Token) (at : ℕ) (position : Position) → IsJson mode text → ahead ≡ tokens text
    → read_text ≡ text → IsFromOtherNumber ahead from → AreFrom read_text from at → IsPositionOf text at position
    → HasOtherNumber mode text position
other_number mode text read_text ahead from at position json is same number begins place =
    record {
      json = json;
      from = from;
      number = subst (λ (ts : List Token). IsFromOtherNumber ts from) is number;
      at = at;
      begins = subst (λ (t : List ℕ). AreFrom t from at) same begins;
      place = place;
    }

pub not_too_deep : (mode : Keys) (text : List ℕ) (found : TypedValue) → IsValueOf mode text found → most_nested < nesting found → ⊥
not_too_deep mode text found value deep =
    let below = nests_below most_nested (tokens text) value.json value.read in
    absurd (omega (arith, below, subst (λ (v : TypedValue). most_nested < nesting v) value.is deep))
