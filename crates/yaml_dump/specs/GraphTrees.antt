-- The trees that the reader of whole streams finds in dumped graphs, in every mode. A tag is written only if it isn't that of the
-- node's kind, or in canonical mode; a node that is read without a tag has that of its kind, as libyaml's loader gives it.
use Rattle.std.specs.Prelude.{◌≡◌, Bool, true, false, None, Some, List, [], ◌∷◌, ℕ, ⊤, unwrap_or}
use Rattle.yaml_base.specs.Characters.{Text}
use Rattle.yaml_base.specs.Event.{Event}
use Rattle.yaml_base.specs.graphs.Meetings.{Graph, string_tag, sequence_tag, mapping_tag}
use Rattle.yaml_base.specs.graphs.Unfolding.{scalar_kind, sequence_kind, mapping_kind, Shape, alias_shape, node_shape, Shapes, no_shapes, shapes_and, Unfolds}
use Rattle.yaml_base.specs.graphs.Dumped.{IsDumpOf}
use Rattle.yaml_base.specs.streams.StreamContent.{Tagging, with_tag, without_tag, Tree, alias_tree, scalar_tree, sequence_tree, mapping_tree, Trees, no_trees}
use Rattle.yaml_base.specs.streams.StreamContent.{trees_and, TreePairs, no_tree_pairs, tree_pairs_and, DocumentTree, agrees}
use Rattle.yaml_base.specs.StreamLaw.{reads_alike}
use Rattle.yaml_base.specs.streams.StreamReader.{stream_trees}
use Rattle.yaml_emitter.specs.State.{State}

-- the tag of a scalar that was read; that of strings if it has none
abbrev pub tag_or_string : Tagging → Text
tag_or_string (with_tag tag) = tag
tag_or_string (without_tag standing) = string_tag

-- the shape of a tree that was read, without styles
abbrev mutual
  pub tree_shape : Tree → Shape
  tree_shape (alias_tree name) = alias_shape name
  tree_shape (scalar_tree anchor tagging value) =
      node_shape anchor (record { tag = Some (tag_or_string tagging); kind = scalar_kind value None }) no_shapes
  tree_shape (sequence_tree anchor tag trees) =
      node_shape anchor (record { tag = Some (unwrap_or tag sequence_tag); kind = sequence_kind None }) (trees_shapes trees)
  tree_shape (mapping_tree anchor tag pairs) =
      node_shape anchor (record { tag = Some (unwrap_or tag mapping_tag); kind = mapping_kind None }) (tree_pairs_shapes pairs)

  pub trees_shapes : Trees → Shapes
  trees_shapes no_trees = no_shapes
  trees_shapes (trees_and trees tree) = shapes_and (trees_shapes trees) (tree_shape tree)

  pub tree_pairs_shapes : TreePairs → Shapes
  tree_pairs_shapes no_tree_pairs = no_shapes
  tree_pairs_shapes (tree_pairs_and pairs key value) =
      shapes_and (shapes_and (tree_pairs_shapes pairs) (tree_shape key)) (tree_shape value)

-- a document that was read unfolds a graph except for its styles, and has its version and directives
pub record DocumentTreeUnfolds (graph : Graph) (document : DocumentTree) : Type 0 where
  pub version : document.version ≡ graph.start.version
  pub directives : document.directives ≡ graph.start.directives
  pub unfolds : Unfolds false graph (tree_shape document.root)

-- documents that were read unfold graphs, each its own
abbrev pub TreesUnfold : List Graph → List DocumentTree → Type 0
TreesUnfold [] [] = ⊤
TreesUnfold (graph ∷ graphs) (document ∷ documents) = DocumentTreeUnfolds graph document × TreesUnfold graphs documents
TreesUnfold _ _ = ⊥

-- the reader of whole streams finds documents in these bytes that unfold the graphs
pub record GraphsReadBack (breaks12 : Bool) (graphs : List Graph) (bytes : List ℕ) : Type 0 where
  pub documents : List DocumentTree
  pub read : stream_trees breaks12 bytes ≡ Some documents
  pub unfolds : TreesUnfold graphs documents

-- if the events are dumps of graphs, the reader of whole streams finds documents in their output that unfold the graphs: in portable
-- mode for all events, in other modes for those that lose no document and have no flow indicator in a tag
abbrev pub ReadsTrees : State → Type 0
ReadsTrees after =
    (graphs : List Graph) → reads_alike after.given.portable after.given.canonical after.events ≡ true → IsDumpOf graphs after.events
    → GraphsReadBack after.given.breaks12 graphs after.page.output

-- documents that agree with the events of dumped graphs unfold the graphs
abbrev pub DumpedTreesUnfold : Type 0
DumpedTreesUnfold =
    (canonical : Bool) (graphs : List Graph) (events : List Event) (documents : List DocumentTree) → IsDumpOf graphs events
    → agrees canonical events (Some documents) ≡ true → TreesUnfold graphs documents
