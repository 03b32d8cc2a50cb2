-- When a tree unfolds a document's graph (YAML 1.1, section 3.2.2, from the graph's side: each alias means the node that carries its
-- anchor).
--
-- For example, the graph of three nodes on the left is unfolded by the tree on the right, since its occurrences can be numbered:
--     1  a sequence of 2 and 3              &id002 [ &id001 a, { *id001 : *id002 } ]
--     2  the scalar `a`                     1        2         3   2       1
--     3  a mapping of 2 to 1
-- Each of the nodes occurs once as a node; each alias has the number of the one node that carries its anchor, which begins
-- before it; and at each place that isn't an alias the label and the numbers below are those of the graph's node.
use Rattle.std.specs.Prelude.{◌≡◌, ℕ, Bool, true, false, Option, None, Some, List, [], ◌∷◌, ◌++◌, ◌==◌, Contains, count_by, bytes_eq, option_map, length, ⊤}
use Rattle.std.specs.Prelude.{if◌then◌else◌}
use Rattle.yaml_base.specs.Characters.{Text}
use Rattle.yaml_base.specs.Event.{ScalarStyle, CollectionStyle, Event}
use Rattle.yaml_base.specs.Grammar.{Node, alias_node, scalar_node, sequence_node, mapping_node, Nodes, no_nodes, nodes_and, Pairs, no_pairs, pairs_and}
use Rattle.yaml_base.specs.Grammar.{Document, document_events}
use Rattle.yaml_base.specs.reading.Content.{ScalarTag, tagged, untagged, Content, alias_content, scalar_content, sequence_content, mapping_content, Contents}
use Rattle.yaml_base.specs.reading.Content.{no_contents, contents_and, ContentPairs, no_content_pairs, content_pairs_and}
use Rattle.yaml_base.specs.graphs.Meetings.{Held, scalar_held, sequence_held, mapping_held, GraphNode, Graph, is_whole, node_numbered, children}
use Rattle.yaml_base.specs.graphs.Meetings.{document_event_list}

-- ---- the common form of trees of events and contents

-- a kind, with its style if styles count
pub data StyledKind : Type 0 where
  scalar_kind : Text → Option ScalarStyle → StyledKind
  sequence_kind : Option CollectionStyle → StyledKind
  mapping_kind : Option CollectionStyle → StyledKind

-- the label of a node: its tag and its kind
pub record Label : Type 0 where
  pub tag : Option Text
  pub kind : StyledKind

-- an alias, or a node with its anchor, its label and its children in order; in a mapping a key comes before its value
mutual
  pub data Shape : Type 0 where
    alias_shape : Text → Shape
    node_shape : Option Text → Label → Shapes → Shape

  pub data Shapes : Type 0 where
    no_shapes : Shapes
    shapes_and : Shapes → Shape → Shapes

-- the shape of a tree of events, with its styles
abbrev mutual
  pub node_shape_of : Node → Shape
  node_shape_of (alias_node name) = alias_shape name
  node_shape_of (scalar_node content) =
      node_shape content.anchor (record { tag = content.tag; kind = scalar_kind content.value (Some content.style) }) no_shapes
  node_shape_of (sequence_node start items) =
      node_shape start.anchor (record { tag = start.tag; kind = sequence_kind (Some start.style) }) (nodes_shapes items)
  node_shape_of (mapping_node start pairs) =
      node_shape start.anchor (record { tag = start.tag; kind = mapping_kind (Some start.style) }) (pairs_shapes pairs)

  pub nodes_shapes : Nodes → Shapes
  nodes_shapes no_nodes = no_shapes
  nodes_shapes (nodes_and items item) = shapes_and (nodes_shapes items) (node_shape_of item)

  pub pairs_shapes : Pairs → Shapes
  pairs_shapes no_pairs = no_shapes
  pairs_shapes (pairs_and pairs key value) = shapes_and (shapes_and (pairs_shapes pairs) (node_shape_of key)) (node_shape_of value)

-- the tag, if one was written
abbrev pub explicit_tag : ScalarTag → Option Text
explicit_tag (tagged tag) = Some tag
explicit_tag (untagged quoted_implicit) = None

-- the shape of a content, without styles
abbrev mutual
  pub content_shape : Content → Shape
  content_shape (alias_content name) = alias_shape name
  content_shape (scalar_content anchor tag value) =
      node_shape anchor (record { tag = explicit_tag tag; kind = scalar_kind value None }) no_shapes
  content_shape (sequence_content anchor tag items) =
      node_shape anchor (record { tag = tag; kind = sequence_kind None }) (contents_shapes items)
  content_shape (mapping_content anchor tag pairs) =
      node_shape anchor (record { tag = tag; kind = mapping_kind None }) (content_pairs_shapes pairs)

  pub contents_shapes : Contents → Shapes
  contents_shapes no_contents = no_shapes
  contents_shapes (contents_and items item) = shapes_and (contents_shapes items) (content_shape item)

  pub content_pairs_shapes : ContentPairs → Shapes
  content_pairs_shapes no_content_pairs = no_shapes
  content_pairs_shapes (content_pairs_and pairs key value) =
      shapes_and (shapes_and (content_pairs_shapes pairs) (content_shape key)) (content_shape value)

-- ---- a node's number at each place of a tree

mutual
  pub data Placed : Type 0 where
    alias_placed : Text → ℕ → Placed
    node_placed : Option Text → ℕ → PlacedNodes → Placed

  pub data PlacedNodes : Type 0 where
    none_placed : PlacedNodes
    placed_and : PlacedNodes → Placed → PlacedNodes

-- the number of the node at a place
abbrev pub number_at : Placed → ℕ
number_at (alias_placed name number) = number
number_at (node_placed anchor number below) = number

-- the numbers of the nodes at some occurrences, in order
abbrev pub numbers_at : PlacedNodes → List ℕ
numbers_at none_placed = []
numbers_at (placed_and before last) = numbers_at before ++ number_at last ∷ []

-- the kind of a node's contents, with its style or without
abbrev pub kind_held : Bool → Held → StyledKind
kind_held styled (scalar_held value style) = scalar_kind value (if styled then Some style else None)
kind_held styled (sequence_held items style) = sequence_kind (if styled then Some style else None)
kind_held styled (mapping_held pairs style) = mapping_kind (if styled then Some style else None)

-- a graph node's label, with its style or without
abbrev pub label_of : Bool → GraphNode → Label
label_of styled node = record { tag = Some node.tag; kind = kind_held styled node.held }

-- the numbers fit a shape: at each place that isn't an alias the node has that label, and its children are
-- those of the occurrences below, in order
abbrev mutual
  pub HasShape : Bool → Graph → Placed → Shape → Type 0
  HasShape styled graph (alias_placed name number) (alias_shape stated) = name ≡ stated
  HasShape styled graph (node_placed anchor number below) (node_shape stated label shapes) =
      (anchor ≡ stated)
      × (option_map (label_of styled) (node_numbered graph number) ≡ Some label)
      × (numbers_at below ≡ children graph number)
      × HaveShapes styled graph below shapes
  HasShape styled graph _ _ = ⊥

  pub HaveShapes : Bool → Graph → PlacedNodes → Shapes → Type 0
  HaveShapes styled graph none_placed no_shapes = ⊤
  HaveShapes styled graph (placed_and before last) (shapes_and shapes shape) =
      HaveShapes styled graph before shapes × HasShape styled graph last shape
  HaveShapes styled graph _ _ = ⊥

-- ---- occurrences in order

-- an occurrence is an alias, or a node with its anchor, and the number of the graph's node
pub data Occurrence : Type 0 where
  alias_occurrence : Text → ℕ → Occurrence
  node_occurrence : Option Text → ℕ → Occurrence

-- the occurrences in a tree, in the order in which they begin
abbrev mutual
  pub occurrences : Placed → List Occurrence
  occurrences (alias_placed name number) = alias_occurrence name number ∷ []
  occurrences (node_placed anchor number below) = node_occurrence anchor number ∷ occurrences_below below

  pub occurrences_below : PlacedNodes → List Occurrence
  occurrences_below none_placed = []
  occurrences_below (placed_and before last) = occurrences_below before ++ occurrences last

-- true of a node that carries this anchor
abbrev pub has_anchor : Text → Occurrence → Bool
has_anchor name (node_occurrence (Some anchor) number) = bytes_eq name anchor
has_anchor name _ = false

-- true of the node with this number, and of no alias
abbrev pub is_occurrence_of : ℕ → Occurrence → Bool
is_occurrence_of number (node_occurrence anchor other) = number == other
is_occurrence_of number (alias_occurrence name other) = false

-- an alias has the number of the one node that carries its anchor, which begins before it
abbrev pub NamesItsNode : List Occurrence → List Occurrence → Occurrence → Type 0
NamesItsNode all before (alias_occurrence name number) =
    (count_by (has_anchor name) all ≡ 1) × Contains before (node_occurrence (Some name) number)
NamesItsNode all before (node_occurrence anchor number) = ⊤

-- each of some occurrences that is an alias names its node so; the occurrences before them are given
abbrev pub NameTheirNodes : List Occurrence → List Occurrence → List Occurrence → Type 0
NameTheirNodes all before [] = ⊤
NameTheirNodes all before (first ∷ rest) = NamesItsNode all before first × NameTheirNodes all (before ++ first ∷ []) rest

-- ---- unfolding

-- node 1 is reached, and so are the children of each reached node
pub data IsReached (graph : Graph) : ℕ → Type 0 where
  first_reached : IsReached graph 1
  child_reached : {number child : ℕ} → IsReached graph number → Contains (children graph number) child → IsReached graph child

-- a shape unfolds a graph: its occurrences are numbered; the root has 1; each reached node occurs exactly once apart from its aliases, and
-- no other node occurs
pub record Unfolds (styled : Bool) (graph : Graph) (shape : Shape) : Type 0 where
  pub placed : Placed
  pub root : number_at placed ≡ 1
  pub fits : HasShape styled graph placed shape
  pub named : NameTheirNodes (occurrences placed) [] (occurrences placed)
  pub once : (number : ℕ) → IsReached graph number → count_by (is_occurrence_of number) (occurrences placed) ≡ 1
  pub no_other : (number : ℕ) → (IsReached graph number → ⊥) → count_by (is_occurrence_of number) (occurrences placed) ≡ 0

-- a tree of events unfolds a graph, styles and all
abbrev pub TreeUnfolds : Graph → Node → Type 0
TreeUnfolds graph tree = Unfolds true graph (node_shape_of tree)

-- a content unfolds a graph apart from its styles
abbrev pub ContentUnfolds : Graph → Content → Type 0
ContentUnfolds graph content = Unfolds false graph (content_shape content)

-- ---- documents

-- events are those of a document with the graph's markers, version and directives, whose tree unfolds the graph
pub record EventsUnfold (graph : Graph) (events : List Event) : Type 0 where
  pub document : Document
  pub is_document : document_events document ≡ events
  pub start : document.start ≡ graph.start
  pub end_implicit : document.end_implicit ≡ graph.end_implicit
  pub unfolds : TreeUnfolds graph document.root

-- a graph has nodes, and each number that a node contains names one of them
pub record IsWholeGraph (graph : Graph) : Type 0 where
  pub whole : is_whole graph ≡ true
  pub has_nodes : (length graph.nodes == 0) ≡ false

-- the events of each such graph are those of a document that unfolds it
abbrev pub DocumentsUnfold : Type 0
DocumentsUnfold = (graph : Graph) → IsWholeGraph graph → EventsUnfold graph (document_event_list graph)
