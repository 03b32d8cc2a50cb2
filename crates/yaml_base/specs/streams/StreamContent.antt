-- The content of a list of events, which a stream in any mode keeps: versions, directives, and the trees of kinds, anchors, tags, values
-- and aliases; and when such trees agree with the events.
-- Source, unless a definition names its own: this project.
use Rattle.std.specs.Prelude.{Bool, true, false, Option, None, Some, List, [], ◌∷◌, ◌++◌, ◌&&◌, not, bytes_eq, option_map, unwrap_or}
use Rattle.std.specs.Ordering.{int_eq}
use Rattle.yaml_base.specs.Characters.{Text}
use Rattle.yaml_base.specs.Event.{Version, TagDirective, Scalar, Event}
use Rattle.yaml_base.specs.Grammar.{Node, alias_node, scalar_node, sequence_node, mapping_node, Nodes, no_nodes, nodes_and, Pairs, no_pairs, pairs_and}
use Rattle.yaml_base.specs.Grammar.{Document, Documents, no_documents, documents_and, tree_of}
use Rattle.yaml_base.specs.Event.{scalar_tag, collection_tag}

-- the form in which a scalar without a tag was written: plain, in quotes or a block style, or so after the bare tag `!`
pub data Stood : Type 0 where
  stood_plain : Stood
  stood_quoted : Stood
  stood_bare : Stood

-- the tag of a scalar, or the form in which it was written without one
pub data Tagging : Type 0 where
  with_tag : Text → Tagging
  without_tag : Stood → Tagging

-- a node's tree: its kind, anchor, tag, and value or entries; lists grow at their end (YAML 1.1, section 3.2.2 Serialization Tree, no production)
mutual
  pub data Tree : Type 0 where
    alias_tree : Text → Tree
    scalar_tree : Option Text → Tagging → Text → Tree
    sequence_tree : Option Text → Option Text → Trees → Tree
    mapping_tree : Option Text → Option Text → TreePairs → Tree

  pub data Trees : Type 0 where
    no_trees : Trees
    trees_and : Trees → Tree → Trees

  pub data TreePairs : Type 0 where
    no_tree_pairs : TreePairs
    tree_pairs_and : TreePairs → Tree → Tree → TreePairs

-- a document's version, directives and tree (YAML 1.1, section 7.3 Documents, l-explicit-document)
pub record DocumentTree : Type 0 where
  pub version : Option Version
  pub directives : List TagDirective
  pub root : Tree

-- true if the flags of a scalar allow this form without a tag (libyaml's flags)
abbrev pub may_stand : Scalar → Stood → Bool
may_stand content stood_plain = content.plain_implicit
may_stand content stood_quoted = content.quoted_implicit
may_stand content stood_bare = content.plain_implicit && not content.quoted_implicit

-- true if two texts are the same, or both are missing
abbrev pub is_same_text : Option Text → Option Text → Bool
is_same_text None None = true
is_same_text (Some a) (Some b) = bytes_eq a b
is_same_text _ _ = false

-- true if the tag read is the written one; without one the scalar has an allowed form
abbrev pub tagging_agrees : Scalar → Option Text → Tagging → Bool
tagging_agrees content None (without_tag standing) = may_stand content standing
tagging_agrees content (Some tag) (with_tag read) = bytes_eq tag read
tagging_agrees content _ _ = false

-- true if a tree agrees with a node: the same kind, anchor, written tag, value and entries
abbrev mutual
  pub tree_agrees : Bool → Node → Tree → Bool
  tree_agrees canonical (alias_node name) (alias_tree read) = bytes_eq name read
  tree_agrees canonical (scalar_node content) (scalar_tree anchor tagging value) =
      is_same_text content.anchor anchor && tagging_agrees content (scalar_tag canonical content) tagging && bytes_eq content.value value
  tree_agrees canonical (sequence_node start items) (sequence_tree anchor tag trees) =
      is_same_text start.anchor anchor && is_same_text (collection_tag canonical start) tag && trees_agree canonical items trees
  tree_agrees canonical (mapping_node start pairs) (mapping_tree anchor tag trees) =
      is_same_text start.anchor anchor && is_same_text (collection_tag canonical start) tag && tree_pairs_agree canonical pairs trees
  tree_agrees canonical _ _ = false

  pub trees_agree : Bool → Nodes → Trees → Bool
  trees_agree canonical no_nodes no_trees = true
  trees_agree canonical (nodes_and items item) (trees_and trees tree) = trees_agree canonical items trees && tree_agrees canonical item tree
  trees_agree canonical _ _ = false

  pub tree_pairs_agree : Bool → Pairs → TreePairs → Bool
  tree_pairs_agree canonical no_pairs no_tree_pairs = true
  tree_pairs_agree canonical (pairs_and pairs key value) (tree_pairs_and trees key_tree value_tree) =
      tree_pairs_agree canonical pairs trees && tree_agrees canonical key key_tree && tree_agrees canonical value value_tree
  tree_pairs_agree canonical _ _ = false

-- true if two versions are equal, or both are missing
abbrev pub is_same_version : Option Version → Option Version → Bool
is_same_version None None = true
is_same_version (Some a) (Some b) = int_eq a.major b.major && int_eq a.minor b.minor
is_same_version _ _ = false

-- true if two lists have equal directives in one order
abbrev pub are_same_directives : List TagDirective → List TagDirective → Bool
are_same_directives [] [] = true
are_same_directives (a ∷ rest) (b ∷ others) = bytes_eq a.handle b.handle && bytes_eq a.prefix b.prefix && are_same_directives rest others
are_same_directives _ _ = false

-- true if a document agrees in its version, directives and root
abbrev pub document_agrees : Bool → Document → DocumentTree → Bool
document_agrees canonical document read =
    is_same_version document.start.version read.version
    && are_same_directives document.start.directives read.directives
    && tree_agrees canonical document.root read.root

-- the documents of a stream, in order
abbrev pub documents_in_order : Documents → List Document
documents_in_order no_documents = []
documents_in_order (documents_and documents document) = documents_in_order documents ++ document ∷ []

-- true if documents agree one by one, in order and as many
abbrev pub documents_agree : Bool → List Document → List DocumentTree → Bool
documents_agree canonical [] [] = true
documents_agree canonical (document ∷ rest) (read ∷ others) = document_agrees canonical document read && documents_agree canonical rest others
documents_agree canonical _ _ = false

-- true if the documents that were read agree with a whole list of events; no reading agrees with none
abbrev pub agrees : Bool → List Event → Option (List DocumentTree) → Bool
agrees canonical events None = false
agrees canonical events (Some documents) =
    unwrap_or (option_map (λ stream. documents_agree canonical (documents_in_order stream.documents) documents) (tree_of events)) false
