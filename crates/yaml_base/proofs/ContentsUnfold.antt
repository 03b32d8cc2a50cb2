-- The content of a tree that unfolds a graph unfolds it but for its styles; graphs dumped one after another are a stream
-- of such documents.
use Rattle.yaml_base.proofs.Common.{arith, All, option_map, Option, None, Some, Bool, false, true, List, [], ◌++◌, ◌∷◌, refl, ◌≡◌, append-nil, append_assoc, ap}
use Rattle.yaml_base.proofs.Common.{sym, ◌∙◌, All-head, All-tail, Text, Event, stream_start, stream_end, Node, alias_node, scalar_node, Nodes, sequence_node}
use Rattle.yaml_base.proofs.Common.{Pairs, mapping_node, no_nodes, nodes_and, no_pairs, pairs_and, Documents, no_documents, documents_and, Stream, IsDumpOf}
use Rattle.yaml_base.proofs.Common.{documents_events, stream_events, Held, GraphNode, Graph, document_event_list, scalar_kind, sequence_kind, mapping_kind}
use Rattle.yaml_base.proofs.Common.{Label, node_shape_of, nodes_shapes, pairs_shapes, Placed, alias_placed, PlacedNodes, node_placed, none_placed, placed_and}
use Rattle.yaml_base.proofs.Common.{label_of, HasShape, HaveShapes, TreeUnfolds, ContentUnfolds, IsWholeGraph, DocumentContent, node_content, nat_tests}
use Rattle.std.specs.Prelude.{flat_map}
use Rattle.yaml_base.{proofs.DocumentsUnfold.document_unfolds, proofs.Trees.tree_of-stream_events, specs.graphs.Dumped.ContentsUnfold}
use Rattle.yaml_base.specs.graphs.Unfolding.{StyledKind, explicit_tag, content_shape, contents_shapes, content_pairs_shapes, kind_held}
use Rattle.yaml_base.specs.reading.Content.{content_tag, nodes_content, pairs_content, documents_content, content_of}

-- ---- without styles

abbrev unstyled_kind : StyledKind → StyledKind
unstyled_kind (scalar_kind value style) = scalar_kind value None
unstyled_kind (sequence_kind style) = sequence_kind None
unstyled_kind (mapping_kind style) = mapping_kind None

abbrev unstyled : Label → Label
unstyled label = record { tag = label.tag; kind = unstyled_kind label.kind }

kind_unstyled : (held : Held) → kind_held false held ≡ unstyled_kind (kind_held true held)
kind_unstyled held = grind (arith, nat_tests)

label_unstyled : (found : Option GraphNode) → option_map (label_of false) found ≡ option_map unstyled (option_map (label_of true) found)
label_unstyled None = refl
label_unstyled (Some node) = ap (λ (kind : StyledKind). Some (record { tag = Some node.tag; kind = kind })) (kind_unstyled node.held)

-- a label without its style, from the label
labels_same : (found : Option GraphNode) (label : Label) → option_map (label_of true) found ≡ Some label
    → option_map (label_of false) found ≡ Some (unstyled label)
labels_same found label is = label_unstyled found ∙ ap (option_map unstyled) is

-- a node of a graph has a tag, so its event states one
tag_in : Option Label → Option Text
tag_in None = None
tag_in (Some label) = label.tag

stated_some : (tag : Option Text) (text : Text) (implicit : Bool) → Some text ≡ tag → tag ≡ explicit_tag (content_tag tag implicit)
stated_some tag text implicit is = grind (arith, nat_tests)

tag_kept : (found : Option GraphNode) (label : Label) (implicit : Bool) → option_map (label_of true) found ≡ Some label
    → label.tag ≡ explicit_tag (content_tag label.tag implicit)
unfolding tag_in
tag_kept None label implicit is = cc
tag_kept (Some node) label implicit is = stated_some label.tag node.tag implicit (ap tag_in is)

scalar_label : (found : Option GraphNode) (label : Label) (implicit : Bool) → option_map (label_of true) found ≡ Some label
    → option_map (label_of false) found ≡ Some (record { tag = explicit_tag (content_tag label.tag implicit); kind = unstyled_kind label.kind })
scalar_label found label implicit is =
    labels_same found label is ∙ ap (λ (tag : Option Text). Some (record { tag = tag; kind = unstyled_kind label.kind })) (tag_kept found label implicit is)

mutual
  content_fits : (graph : Graph) (tree : Node) (placed : Placed) → HasShape true graph placed (node_shape_of tree)
      → HasShape false graph placed (content_shape (node_content tree))
  content_fits graph (alias_node name) (alias_placed stated number) fits = fits
  content_fits graph (alias_node name) (node_placed anchor number below) fits = fits
  content_fits graph (scalar_node content) (alias_placed stated number) fits = fits
  content_fits graph (scalar_node content) (node_placed anchor number none_placed) fits = grind (arith, scalar_label)
  content_fits graph (scalar_node content) (node_placed anchor number (placed_and before last)) fits = absurd fits.3
  content_fits graph (sequence_node start items) (alias_placed stated number) fits = fits
  content_fits graph (sequence_node start items) (node_placed anchor number below) fits = grind (arith, labels_same, contents_fit graph items below fits.3)
  content_fits graph (mapping_node start pairs) (alias_placed stated number) fits = fits
  content_fits graph (mapping_node start pairs) (node_placed anchor number below) fits = grind (arith, labels_same, content_pairs_fit graph pairs below fits.3)

  contents_fit : (graph : Graph) (items : Nodes) (below : PlacedNodes) → HaveShapes true graph below (nodes_shapes items)
      → HaveShapes false graph below (contents_shapes (nodes_content items))
  contents_fit graph no_nodes none_placed fit = fit
  contents_fit graph no_nodes (placed_and before last) fit = fit
  contents_fit graph (nodes_and items item) none_placed fit = fit
  contents_fit graph (nodes_and items item) (placed_and before last) fit = (contents_fit graph items before fit.0, content_fits graph item last fit.1)

  content_pairs_fit : (graph : Graph) (pairs : Pairs) (below : PlacedNodes) → HaveShapes true graph below (pairs_shapes pairs)
      → HaveShapes false graph below (content_pairs_shapes (pairs_content pairs))
  content_pairs_fit graph no_pairs none_placed fit = fit
  content_pairs_fit graph no_pairs (placed_and before last) fit = fit
  content_pairs_fit graph (pairs_and pairs key value) none_placed fit = fit
  content_pairs_fit graph (pairs_and pairs key value) (placed_and none_placed last) fit = absurd fit.0
  content_pairs_fit graph (pairs_and pairs key value) (placed_and (placed_and before other) last) fit =
      ((content_pairs_fit graph pairs before fit.0.0, content_fits graph key other fit.0.1), content_fits graph value last fit.1)

-- a tree's content unfolds the graph that the tree unfolds
pub content_unfolds : (graph : Graph) (tree : Node) → TreeUnfolds graph tree → ContentUnfolds graph (node_content tree)
content_unfolds graph tree unfolds = grind (arith, content_fits)

-- ---- documents one after another

-- documents after others; their events follow, and their contents unfold the graphs
record Follow (graphs : List Graph) (before : Documents) : Type 0 where
  all : Documents
  contents : List DocumentContent
  events : documents_events all ≡ documents_events before ++ flat_map document_event_list graphs
  content : documents_content all ≡ documents_content before ++ contents
  unfolds : ContentsUnfold graphs contents

follow : (graphs : List Graph) (before : Documents) → All IsWholeGraph graphs → Follow graphs before
follow [] before are =
    record {
      all = before;
      contents = [];
      events = sym (append-nil (documents_events before));
      content = sym (append-nil (documents_content before));
      unfolds = tt;
    }
follow (graph ∷ graphs) before are =
    let first = document_unfolds graph (All-head IsWholeGraph graph graphs are) in
    let each = follow graphs (documents_and before first.document) (All-tail IsWholeGraph graph graphs are) in
    grind (arith, document_unfolds, All-head, All-tail, append_assoc, content_unfolds, each)

-- the events of dumped graphs are a stream's, whose contents unfold them
pub record DumpedStream (graphs : List Graph) (events : List Event) : Type 0 where
  pub stream : Stream
  pub is : stream_events stream ≡ events
  pub contents : List DocumentContent
  pub content : content_of events ≡ Some contents
  pub unfolds : ContentsUnfold graphs contents

pub dumped_stream : (graphs : List Graph) (events : List Event) → IsDumpOf graphs events → DumpedStream graphs events
dumped_stream graphs events dumped =
    let documents = follow graphs no_documents dumped.documents in
    let stream : Stream = record { encoding = dumped.encoding; documents = documents.all } in
    let is : stream_events stream ≡ events =
    ap (λ (inside : List Event). stream_start dumped.encoding ∷ (inside ++ stream_end ∷ [])) documents.events ∙ dumped.parts in
    record {
      stream = stream;
      is = is;
      contents = documents.contents;
      content =
          ap content_of (sym is)
          ∙ ap (option_map (λ (tree : Stream). documents_content tree.documents)) (tree_of-stream_events stream)
          ∙ ap (λ (contents : List DocumentContent). Some contents) documents.content;
      unfolds = documents.unfolds;
    }
