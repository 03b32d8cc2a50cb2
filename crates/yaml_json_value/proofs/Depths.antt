-- A typed value nests as deep as its value of JSON.
use Rattle.yaml_base.proofs.Common.{ℕ, zero, ◌≤◌, suc, List, [], ◌≡◌, Some, arith}
use Rattle.std.proofs.Math.Nat.{le-max_left, le-max_right}
use Rattle.std.specs.Prelude.{max}
use Rattle.std.specs.Str.{chars}
use Rattle.json.specs.Json.{Json, array, object, Items, no_items, item, Members, no_members, member, value}
use Rattle.json.specs.Tree.{depth, items_depth, members_depth}
use Rattle.json.specs.Token.{Token}
use Rattle.json.proofs.Nesting.{value-depth}
use Rattle.yaml_base.specs.values.TypedValues.{text_value, TypedValues, no_values, values_and, TypedPairs, no_value_pairs, value_pairs_and}
use Rattle.yaml_base.specs.values.TypedValues.{nesting, values_nesting, value_pairs_nesting}
use Rattle.yaml_json_value.specs.Typed.{typed_value, typed_items, typed_members}

max_below : (a b d : ℕ) → a ≤ d → b ≤ d → max a b ≤ d
max_below a b d first second = omega (arith, first, second)

left_below : (a b d : ℕ) → max a b ≤ d → a ≤ d
left_below a b d below = omega (arith, below, le-max_left a b)

right_below : (a b d : ℕ) → max a b ≤ d → b ≤ d
right_below a b d below = omega (arith, below, le-max_right a b)

one : (n d : ℕ) → n ≤ d → suc n ≤ suc d
one n d below = omega (arith, below)

mutual
  value_below : (json : Json) (d : ℕ) → depth json ≤ d → nesting (typed_value json) ≤ d
  value_below (array items) zero below = absurd (omega (arith, below))
  value_below (array items) (suc d) below =
      one (values_nesting (typed_items items no_values)) d (items_below items no_values d (omega arith) (omega (arith, below)))
  value_below (object entries) zero below = absurd (omega (arith, below))
  value_below (object entries) (suc d) below =
      one (value_pairs_nesting (typed_members entries no_value_pairs)) d (members_below entries no_value_pairs d (omega arith) (omega (arith, below)))
  value_below _ d below = below

  items_below : (items : Items) (before : TypedValues) (d : ℕ) → values_nesting before ≤ d → items_depth items ≤ d
      → values_nesting (typed_items items before) ≤ d
  items_below no_items before d first below = first
  items_below (item json items) before d first below =
      items_below items (values_and before (typed_value json)) d
      (max_below (values_nesting before) (nesting (typed_value json)) d first (value_below json d (left_below (depth json) (items_depth items) d below)))
      (right_below (depth json) (items_depth items) d below)

  members_below : (members : Members) (before : TypedPairs) (d : ℕ) → value_pairs_nesting before ≤ d → members_depth members ≤ d
      → value_pairs_nesting (typed_members members before) ≤ d
  members_below no_members before d first below = first
  members_below (member name json members) before d first below =
      let inner = value_below json d (left_below (depth json) (members_depth members) d below) in
      members_below members (value_pairs_and before (text_value (chars name)) (typed_value json)) d
      (max_below (value_pairs_nesting before) (max 0 (nesting (typed_value json))) d first (max_below 0 (nesting (typed_value json)) d (omega arith) inner))
      (right_below (depth json) (members_depth members) d below)

-- no deeper than the text may nest
pub nests_below : (most : ℕ) (tokens : List Token) (json : Json) → value most tokens ≡ Some (json, []) → nesting (typed_value json) ≤ most
nests_below most tokens json read = value_below json most (value-depth most tokens [] json read)
