-- The meaning of a tree that was read, by a schema. No writer and no event is named here.
pub use Rattle.yaml_base.specs.values.CanonicalTags.{Schema, canonical_tag, scalar_meant}
use Rattle.std.specs.Prelude.{◌≡◌, ℕ, true, None, List, [], ◌∷◌, ◌++◌}
use Rattle.std.specs.Str.{chars}
use Rattle.yaml_base.specs.values.JsonNumbers.{JsonNumber, json_value, means_number}
use Rattle.yaml_base.specs.values.Resolved.{Resolved, meant_text}
use Rattle.yaml_base.specs.streams.StreamContent.{DocumentTree, Tree, scalar_tree}
use Rattle.yaml_base.specs.streams.StreamContent.{Trees, no_trees, trees_and, TreePairs, no_tree_pairs, tree_pairs_and}
use Rattle.yaml_writer.specs.NumberParts.{IsNumber}

-- trees and pairs of trees, in order
abbrev pub trees_in_order : Trees → List Tree
trees_in_order no_trees = []
trees_in_order (trees_and trees tree) = trees_in_order trees ++ tree ∷ []

abbrev pub pairs_in_order : TreePairs → List (Tree × Tree)
pairs_in_order no_tree_pairs = []
pairs_in_order (tree_pairs_and pairs key value) = pairs_in_order pairs ++ (key, value) ∷ []

-- a scalar means this number
pub record MeansNumber (text : List ℕ) (meant : Resolved) : Type 0 where
  pub parts : JsonNumber
  pub is_number : IsNumber text parts
  pub means : means_number (json_value parts) meant ≡ true

-- a tree means this text
abbrev pub MeansText : Schema → List ℕ → Tree → Type 0
MeansText schema text (scalar_tree anchor tagging value) = (scalar_meant schema tagging value ≡ meant_text) × (value ≡ chars text)
MeansText schema text _ = ⊥

-- a document without directives
abbrev pub plain_document : Tree → DocumentTree
plain_document root = record { version = None; directives = []; root = root }
