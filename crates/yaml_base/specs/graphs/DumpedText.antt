-- The canonical text of a dumped document or of a value: one document without directives, each node with its anchor and its tag, and two
-- spaces for each level.
use Rattle.std.specs.Prelude.{◌≡◌, ℕ, ◌+◌, Bool, true, false, not, Option, None, Some, List, [], ◌∷◌, ◌++◌, codes, replicate}
use Rattle.std.specs.List.{flat_map}
use Rattle.yaml_base.specs.Characters.{Text, line_feed, space}
use Rattle.yaml_base.specs.Event.{Scalar, Collection, DocumentStart, Event}
use Rattle.yaml_base.specs.Grammar.{Node, alias_node, scalar_node, sequence_node, mapping_node, Nodes, no_nodes, nodes_and, Pairs, no_pairs, pairs_and}
use Rattle.yaml_base.specs.Grammar.{Document, document_events}
use Rattle.yaml_base.specs.Places.{has_no_nodes, has_no_pairs}
use Rattle.yaml_base.specs.Tags.{default_directives, spelled, spelling}
use Rattle.yaml_base.specs.graphs.Meetings.{Graph, document_event_list}
use Rattle.yaml_base.specs.graphs.Unfolding.{TreeUnfolds}
use Rattle.yaml_base.specs.scalars.DoubleQuoted.{character_text, quote}
use Rattle.yaml_base.specs.values.TypedValues.{TypedValue, value_node}

-- a text between double quotes, each character as itself or as its escape
abbrev pub in_quotes : Text → Text
in_quotes text = quote ∷ (flat_map (character_text true) text ++ quote ∷ [])

-- a new line, whose text begins at a column
abbrev pub line_at : ℕ → Text
line_at column = line_feed ∷ replicate column space

-- `&` and the anchor, if there is one
abbrev pub anchor_text : Option Text → Text
anchor_text None = []
anchor_text (Some name) = codes "&" ++ (name ++ space ∷ [])

-- the tag after `!!` or `!`, or else verbatim; without a tag the bare one, or nothing
abbrev pub tag_text : Option Text → (bare : Bool) → Text
tag_text (Some tag) bare = spelled false (spelling default_directives tag) ++ space ∷ []
tag_text None true = codes "! "
tag_text None false = []

-- the text before a scalar's value; a scalar that has no tag and may not be quoted without one has the bare tag
abbrev pub scalar_properties : Scalar → Text
scalar_properties content = anchor_text content.anchor ++ tag_text content.tag (not content.quoted_implicit)

-- the text before a collection's bracket
abbrev pub collection_properties : Collection → Text
collection_properties start = anchor_text start.anchor ++ tag_text start.tag false

-- the line of the closing bracket; none if nothing is between the brackets
abbrev pub closing_line : ℕ → (empty : Bool) → Text
closing_line column true = []
closing_line column false = line_at column

-- a node in a line that begins at a column; items and pairs begin two columns further in, and a comma follows each
abbrev mutual
  pub node_text : ℕ → Node → Text
  node_text column (alias_node name) = codes "*" ++ name
  node_text column (scalar_node content) = scalar_properties content ++ in_quotes content.value
  node_text column (sequence_node start items) =
      collection_properties start
      ++ (codes "[" ++ (nodes_text (column + 2) items ++ (closing_line column (has_no_nodes items) ++ codes "]")))
  node_text column (mapping_node start pairs) =
      collection_properties start
      ++ (codes "{" ++ (node_pairs_text (column + 2) pairs ++ (closing_line column (has_no_pairs pairs) ++ codes "}")))

  pub nodes_text : ℕ → Nodes → Text
  nodes_text column no_nodes = []
  nodes_text column (nodes_and items item) = nodes_text column items ++ (line_at column ++ (node_text column item ++ codes ","))

  pub node_pairs_text : ℕ → Pairs → Text
  node_pairs_text column no_pairs = []
  node_pairs_text column (pairs_and pairs key value) =
      node_pairs_text column pairs
      ++ (line_at column ++ (codes "? " ++ (node_text column key ++ (line_at column ++ (codes ": " ++ (node_text column value ++ codes ","))))))

-- the text of a document, by its root
abbrev pub dumped_text : Node → Text
dumped_text root = codes "---\n" ++ (node_text 0 root ++ line_feed ∷ [])

-- a value in a line that begins at a column, and the document that holds it
abbrev pub value_text : ℕ → TypedValue → Text
value_text column value = node_text column (value_node value)

abbrev pub document_text : TypedValue → Text
document_text value = dumped_text (value_node value)

-- a document without version and directives, whose end isn't written
pub record IsBareDocument (start : DocumentStart) (end_implicit : Bool) : Type 0 where
  pub version : start.version ≡ None
  pub directives : start.directives ≡ []
  pub implicit : end_implicit ≡ true

-- events are those of a document, and this is its text
pub record HaveText (events : List Event) (text : Text) : Type 0 where
  pub document : Document
  pub is_document : document_events document ≡ events
  pub is_text : text ≡ dumped_text document.root

-- the events of a graph's dump have this text, and their tree unfolds it
pub record HasDumpedText (graph : Graph) (text : Text) : Type 0 where
  pub events : HaveText (document_event_list graph) text
  pub unfolds : TreeUnfolds graph events.document.root
