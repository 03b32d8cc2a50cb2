-- The content of a list of events, which canonical bytes keep: versions, directives, and the trees of kinds, anchors, tags, values and
-- aliases. Styles, other flags and document markers are dropped.
-- Source, unless a definition names its own: YAML 1.1, section 3.2.2 Serialization Tree, no production.
use Rattle.std.specs.Prelude.{Bool, Option, None, Some, List, [], ◌∷◌, ◌++◌, option_map}
use Rattle.yaml_base.specs.Characters.{Text}
use Rattle.yaml_base.specs.Event.{Version, TagDirective, Event}
use Rattle.yaml_base.specs.Grammar.{Node, alias_node, scalar_node, sequence_node, mapping_node, Nodes, no_nodes, nodes_and, Pairs, no_pairs, pairs_and}
use Rattle.yaml_base.specs.Grammar.{Document, Documents, no_documents, documents_and, tree_of}

-- the tag of a scalar, or without one the flag that says whether it may go without a tag in any style but plain (this project, from
-- libyaml's flags)
pub data ScalarTag : Type 0 where
  tagged : Text → ScalarTag
  untagged : (quoted_implicit : Bool) → ScalarTag

-- a node's content, with its anchor and tag; lists grow at their end
mutual
  pub data Content : Type 0 where
    alias_content : Text → Content
    scalar_content : Option Text → ScalarTag → Text → Content
    sequence_content : Option Text → Option Text → Contents → Content
    mapping_content : Option Text → Option Text → ContentPairs → Content

  pub data Contents : Type 0 where
    no_contents : Contents
    contents_and : Contents → Content → Contents

  pub data ContentPairs : Type 0 where
    no_content_pairs : ContentPairs
    content_pairs_and : ContentPairs → Content → Content → ContentPairs

-- a document's version, directives and tree (YAML 1.1, section 7.3 Documents, l-explicit-document)
pub record DocumentContent : Type 0 where
  pub version : Option Version
  pub directives : List TagDirective
  pub root : Content

-- a scalar's tag; without one, its flag for quoted styles, which tells whether the bare tag precedes it (this project, from libyaml's
-- flags)
abbrev pub content_tag : Option Text → Bool → ScalarTag
content_tag (Some tag) quoted_implicit = tagged tag
content_tag None quoted_implicit = untagged quoted_implicit

-- the content of a tree
abbrev mutual
  pub node_content : Node → Content
  node_content (alias_node name) = alias_content name
  node_content (scalar_node content) = scalar_content content.anchor (content_tag content.tag content.quoted_implicit) content.value
  node_content (sequence_node start items) = sequence_content start.anchor start.tag (nodes_content items)
  node_content (mapping_node start pairs) = mapping_content start.anchor start.tag (pairs_content pairs)

  pub nodes_content : Nodes → Contents
  nodes_content no_nodes = no_contents
  nodes_content (nodes_and items item) = contents_and (nodes_content items) (node_content item)

  pub pairs_content : Pairs → ContentPairs
  pairs_content no_pairs = no_content_pairs
  pairs_content (pairs_and pairs key value) = content_pairs_and (pairs_content pairs) (node_content key) (node_content value)

-- the content of a document (YAML 1.1, section 7.3 Documents, l-explicit-document)
abbrev pub document_content : Document → DocumentContent
document_content document =
    record { version = document.start.version; directives = document.start.directives; root = node_content document.root }

-- the contents of some documents, in order
abbrev pub documents_content : Documents → List DocumentContent
documents_content no_documents = []
documents_content (documents_and documents document) = documents_content documents ++ document_content document ∷ []

-- the content of a whole list of events
abbrev pub content_of : List Event → Option (List DocumentContent)
content_of events = option_map (λ stream. documents_content stream.documents) (tree_of events)
