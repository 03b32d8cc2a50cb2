-- A walk over the tokens of a value gives the value.
use Rattle.yaml_base.proofs.Common.{List, [], ◌∷◌, ◌++◌, refl, ◌≡◌, ap, ◌∙◌, append_assoc, option_and_then, Some, ℕ}
use Rattle.std.specs.Str.{chars}
use Rattle.json.specs.Json.{Json, array, object, Items, no_items, item, Members, no_members, member, value}
use Rattle.json.specs.Token.{Token}
use Rattle.json.specs.Tree.{json_tokens, items_tokens, members_tokens}
use Rattle.yaml_base.specs.values.TypedValues.{text_value, list_value, map_value, TypedValues, no_values, values_and, TypedPairs, no_value_pairs}
use Rattle.yaml_base.specs.values.TypedValues.{value_pairs_and}
use Rattle.json.proofs.Unique.Spelling.{value-json_tokens_back}
use Rattle.yaml_value.specs.OpenLevels.{OpenLevel, items_open, pairs_open, value_due}
use Rattle.yaml_json_value.specs.Standing.{whole, within, give, run}
use Rattle.yaml_json_value.specs.Typed.{typed_value, typed_items, typed_members}

mutual
  runs_value : (json : Json) (rest : List Token) (levels : List OpenLevel)
      → run (json_tokens json ++ rest) (within levels) ≡ option_and_then (run rest) (give levels (typed_value json))
  runs_value (array items) rest levels = runs_items items no_values rest levels
  runs_value (object members) rest levels = runs_members members no_value_pairs rest levels
  runs_value _ rest levels = refl

  runs_items : (items : Items) (before : TypedValues) (rest : List Token) (levels : List OpenLevel)
      → run (items_tokens items ++ rest) (within (items_open before ∷ levels))
      ≡ option_and_then (run rest) (give levels (list_value (typed_items items before)))
  runs_items no_items before rest levels = refl
  runs_items (item json items) before rest levels =
      ap (λ (ts : List Token). run ts (within (items_open before ∷ levels))) (append_assoc (json_tokens json) (items_tokens items) rest)
      ∙ runs_value json (items_tokens items ++ rest) (items_open before ∷ levels)
      ∙ runs_items items (values_and before (typed_value json)) rest levels

  runs_members : (members : Members) (before : TypedPairs) (rest : List Token) (levels : List OpenLevel)
      → run (members_tokens members ++ rest) (within (pairs_open before ∷ levels))
      ≡ option_and_then (run rest) (give levels (map_value (typed_members members before)))
  runs_members no_members before rest levels = refl
  runs_members (member name json members) before rest levels =
      let due = value_due before (text_value (chars name)) in
      ap (λ (ts : List Token). run ts (within (due ∷ levels))) (append_assoc (json_tokens json) (members_tokens members) rest)
      ∙ runs_value json (members_tokens members ++ rest) (due ∷ levels)
      ∙ runs_members members (value_pairs_and before (text_value (chars name)) (typed_value json)) rest levels

-- the walk over the tokens of one value ends with it
pub runs_whole : (depth : ℕ) (tokens : List Token) (json : Json) → value depth tokens ≡ Some (json, [])
    → run tokens (within []) ≡ Some (whole (typed_value json))
runs_whole depth tokens json read =
    ap (λ (ts : List Token). run ts (within [])) (value-json_tokens_back depth tokens [] json read) ∙ runs_value json [] []
