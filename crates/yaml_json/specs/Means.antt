-- When the meaning of a tree by a schema is a value of JSON. No writer and no event is named here.
use Rattle.std.specs.Prelude.{◌≡◌, ℕ, Bool, None, Some, List, [], ◌∷◌, map}
use Rattle.json.specs.Json.{Json, null, boolean, number, string, array, object, Items, no_items, item, Members, no_members, member}
use Rattle.yaml_base.specs.values.Resolved.{meant_null, meant_boolean}
use Rattle.yaml_base.specs.values.SchemaCore.{resolved_by_core}
use Rattle.yaml_base.specs.values.SchemaOf11.{resolved_by_11}
use Rattle.yaml_base.specs.streams.StreamContent.{Tree, scalar_tree, sequence_tree, mapping_tree}
use Rattle.yaml_base.specs.streams.StreamReader.{stream_trees}
use Rattle.yaml_writer.specs.Means.{MeansNumber, MeansText, Schema, pairs_in_order, plain_document, scalar_meant, trees_in_order}

-- a tree means this value: nothing, this boolean, exactly this number, this text; an array's items and an object's keys and
-- values, all of them in order
abbrev mutual
  pub Means : Schema → Json → Tree → Type 0
  Means schema null (scalar_tree anchor tagging value) = scalar_meant schema tagging value ≡ meant_null
  Means schema (boolean flag) (scalar_tree anchor tagging value) = scalar_meant schema tagging value ≡ meant_boolean flag
  Means schema (number text) (scalar_tree anchor tagging value) = MeansNumber text (scalar_meant schema tagging value)
  Means schema (string text) tree = MeansText schema text tree
  Means schema (array items) (sequence_tree anchor None trees) = ItemsMean schema items (trees_in_order trees)
  Means schema (object members) (mapping_tree anchor None pairs) = MembersMean schema members (pairs_in_order pairs)
  Means schema _ _ = ⊥

  pub ItemsMean : Schema → Items → List Tree → Type 0
  ItemsMean schema no_items [] = Unit {0}
  ItemsMean schema (item json items) (tree ∷ trees) = Means schema json tree × ItemsMean schema items trees
  ItemsMean schema _ _ = ⊥

  pub MembersMean : Schema → Members → List (Tree × Tree) → Type 0
  MembersMean schema no_members [] = Unit {0}
  MembersMean schema (member key json members) (pair ∷ pairs) =
      MeansText schema key pair.0 × Means schema json pair.1 × MembersMean schema members pairs
  MembersMean schema _ _ = ⊥

-- trees mean some values, each its own, in order
abbrev pub AllMean : Schema → List Json → List Tree → Type 0
AllMean schema [] [] = Unit {0}
AllMean schema (json ∷ values) (tree ∷ trees) = Means schema json tree × AllMean schema values trees
AllMean schema _ _ = ⊥

-- A reader of whole streams finds in some bytes one document without directives for each of these values, in order, whose root means the
-- value by the type repository of YAML 1.1 and by the core schema of YAML 1.2.
pub record ReadsAsValues (breaks12 : Bool) (bytes : List ℕ) (values : List Json) : Type 0 where
  pub roots : List Tree
  pub read : stream_trees breaks12 bytes ≡ Some (map plain_document roots)
  pub by_11 : AllMean resolved_by_11 values roots
  pub by_core : AllMean resolved_by_core values roots

-- A reader of whole streams finds in some bytes one document without directives, whose root means this value by the type repository of
-- YAML 1.1 and by the core schema of YAML 1.2.
pub record ReadsAsJson (breaks12 : Bool) (bytes : List ℕ) (json : Json) : Type 0 where
  pub root : Tree
  pub read : stream_trees breaks12 bytes ≡ Some (plain_document root ∷ [])
  pub by_11 : Means resolved_by_11 json root
  pub by_core : Means resolved_by_core json root
