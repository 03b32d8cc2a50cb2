-- Trees of streams for worked rows, in short.
use Rattle.yaml_base.proofs.Common.{Option, None, Some, List, [], ◌∷◌, Text, stood_plain, stood_quoted, with_tag, without_tag, Tree, scalar_tree, Trees}
use Rattle.yaml_base.proofs.Common.{sequence_tree, TreePairs, mapping_tree, no_trees, trees_and, no_tree_pairs, tree_pairs_and, DocumentTree}

-- a document without version and directives
abbrev pub document : Tree → DocumentTree
document root = record { version = None; directives = []; root = root }

-- one such document
abbrev pub only : Tree → Option (List DocumentTree)
only root = Some (document root ∷ [])

-- a plain scalar without anchor and tag
abbrev pub bare_word : Text → Tree
bare_word value = scalar_tree None (without_tag stood_plain) value

-- a scalar in quotes or a block style, without anchor and tag
abbrev pub in_quotes : Text → Tree
in_quotes value = scalar_tree None (without_tag stood_quoted) value

-- a scalar with a tag
abbrev pub of_tag : Text → Text → Tree
of_tag tag value = scalar_tree None (with_tag tag) value

-- trees in order
abbrev pub trees_after : Trees → List Tree → Trees
trees_after before [] = before
trees_after before (tree ∷ rest) = trees_after (trees_and before tree) rest

-- a sequence without anchor and tag
abbrev pub items : List Tree → Tree
items list = sequence_tree None None (trees_after no_trees list)

-- a key and its value
pub record Pair : Type 0 where
  pub key : Tree
  pub value : Tree

-- a pair
abbrev pub pair : Tree → Tree → Pair
pair key value = record { key = key; value = value }

-- pairs in order
abbrev pub pairs_after : TreePairs → List Pair → TreePairs
pairs_after before [] = before
pairs_after before (next ∷ rest) = pairs_after (tree_pairs_and before next.key next.value) rest

-- a mapping without anchor and tag
abbrev pub pairs : List Pair → Tree
pairs list = mapping_tree None None (pairs_after no_tree_pairs list)
