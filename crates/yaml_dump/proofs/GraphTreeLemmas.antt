-- Documents that agree with the events of dumped graphs unfold the graphs.
use Rattle.yaml_dump.proofs.Common.{if◌then◌else◌, ◌==◌, flat_map, unwrap_or, option_map, Option, None, Some, length, Bool, false, not, true, ◌&&◌, ◌||◌}
use Rattle.yaml_dump.proofs.Common.{List, [], map, ◌++◌, ◌∷◌, refl, ◌≡◌, ap, subst, sym, ◌∙◌, false≢true, map-append, list_all, dumped_stream, Text, Event}
use Rattle.yaml_dump.proofs.Common.{stream_end, document_start, IsDumpOf, ContentsUnfold, GraphNode, Graph, Step, enters, leaves, meets_again, graph_steps}
use Rattle.yaml_dump.proofs.Common.{opening_events, step_events, document_event_list, content_shape, DocumentTree, tree_shape, TreesUnfold, arith, nat_tests}
use Rattle.yaml_base.proofs.Common.{⊤, bytes_eq, and_parts, and_from, list_all-append, bytes_eq-Decides, Version, TagDirective, Scalar}
use Rattle.yaml_base.proofs.Common.{document_end, scalar, sequence_start, sequence_end, mapping_start, mapping_end, scalar_tag, collection_tag, Node}
use Rattle.yaml_base.proofs.Common.{alias_node, scalar_node, Nodes, sequence_node, Pairs, mapping_node, no_nodes, nodes_and, no_pairs, pairs_and, Document}
use Rattle.yaml_base.proofs.Common.{Documents, no_documents, documents_and, Stream, node_events, nodes_events, pairs_events, document_events}
use Rattle.yaml_base.proofs.Common.{documents_events, tree_of, Held, scalar_held, string_tag, sequence_tag, mapping_tag}
use Rattle.yaml_base.proofs.Common.{opening_event_of, closing_event_of, closing_events, scalar_kind, sequence_kind, mapping_kind, Shape, no_shapes}
use Rattle.yaml_base.proofs.Common.{node_content, Tagging, with_tag, without_tag, Tree, alias_tree, scalar_tree, Trees, sequence_tree, TreePairs}
use Rattle.yaml_base.proofs.Common.{mapping_tree, no_trees, trees_and, no_tree_pairs, tree_pairs_and, document_agrees, documents_in_order}
use Rattle.std.specs.Ordering.{int_eq}
use Rattle.yaml_base.proofs.Trees.{tree_of-stream_events}
use Rattle.yaml_base.specs.graphs.Unfolding.{StyledKind, alias_shape, Shapes, node_shape, shapes_and, explicit_tag, contents_shapes, content_pairs_shapes}
use Rattle.yaml_base.specs.graphs.Unfolding.{Unfolds}
use Rattle.yaml_base.specs.reading.Content.{content_tag, nodes_content, pairs_content, document_content, documents_content}
use Rattle.yaml_base.specs.streams.StreamContent.{is_same_text, tagging_agrees, tree_agrees, trees_agree, tree_pairs_agree, is_same_version}
use Rattle.yaml_base.specs.streams.StreamContent.{are_same_directives, documents_agree}
use Rattle.yaml_dump.specs.GraphTrees.{tag_or_string, trees_shapes, tree_pairs_shapes, DumpedTreesUnfold}

-- ---- a dumped node has its tag, or that of its kind if none is written

-- true if the tag is the one that is written, or that of the kind if none is
abbrev keeps_tag : Option Text → Text → Option Text → Bool
keeps_tag written own tag = is_same_text (Some (unwrap_or written own)) tag

-- so of an event
abbrev pub has_kept_tag : Bool → Event → Bool
has_kept_tag canonical (scalar content) = keeps_tag (scalar_tag canonical content) string_tag content.tag
has_kept_tag canonical (sequence_start start) = keeps_tag (collection_tag canonical start) sequence_tag start.tag
has_kept_tag canonical (mapping_start start) = keeps_tag (collection_tag canonical start) mapping_tag start.tag
has_kept_tag canonical event = true

same_bytes : (text : Text) → bytes_eq text text ≡ true
same_bytes text = (bytes_eq-Decides text text).1 refl

from_bytes : (a b : Text) → bytes_eq a b ≡ true → a ≡ b
from_bytes a b is = (bytes_eq-Decides a b).0 is

-- a tag whose flag is on exactly if it is that of the kind
own_flag : (own tag : Text) (canonical flag : Bool) → flag ≡ bytes_eq tag own
    → keeps_tag (if canonical || not flag then Some tag else None) own (Some tag) ≡ true
own_flag own tag false true is = ap (λ text. bytes_eq text tag) (sym (from_bytes tag own (sym is))) ∙ same_bytes tag
own_flag own tag _ _ is = same_bytes tag

own_flags : (own tag : Text) (canonical flag : Bool) → flag ≡ bytes_eq tag own
    → keeps_tag (if canonical || (not flag && not flag) then Some tag else None) own (Some tag) ≡ true
own_flags own tag false true is = ap (λ text. bytes_eq text tag) (sym (from_bytes tag own (sym is))) ∙ same_bytes tag
own_flags own tag _ _ is = same_bytes tag

prefix_keeps : (canonical : Bool) (anchor : Option Text) (tag : Text) (held : Held) → has_kept_tag canonical (opening_event_of anchor tag held) ≡ true
prefix_keeps canonical anchor tag held = grind (arith, nat_tests, own_flags, string_tag, bytes_eq, own_flag, sequence_tag, mapping_tag)

-- ---- so of all events of dumped graphs

abbrev all_keep : Bool → List Event → Type 0
all_keep canonical events = list_all (has_kept_tag canonical) events ≡ true

keep_both : (canonical : Bool) (first second : List Event) → all_keep canonical first → all_keep canonical second
    → all_keep canonical (first ++ second)
keep_both canonical first second one other = grind (arith, nat_tests, list_all-append, has_kept_tag, and_from)

keep_parts : (canonical : Bool) (first second : List Event) → all_keep canonical (first ++ second) → all_keep canonical first × all_keep canonical second
keep_parts canonical first second both = grind (arith, nat_tests, and_parts, list_all, has_kept_tag, list_all-append)

keep_each : {A : Type 0} (canonical : Bool) (events_of : A → List Event) → ((item : A) → all_keep canonical (events_of item)) → (items : List A)
    → all_keep canonical (flat_map events_of items)
keep_each canonical events_of each [] = refl
keep_each canonical events_of each (item ∷ items) =
    keep_both canonical (events_of item) (flat_map events_of items) (each item) (keep_each canonical events_of each items)

prefixes_keep : (canonical : Bool) (anchor : Option Text) (found : Option GraphNode) → all_keep canonical (opening_events anchor found)
prefixes_keep canonical anchor found = grind (arith, nat_tests, and_from, prefix_keeps)

endings_keep : (canonical : Bool) (found : Option GraphNode) → all_keep canonical (closing_events found)
endings_keep canonical None = refl
endings_keep canonical (Some node) = by node.held
  where
    by : (held : Held) → all_keep canonical (closing_event_of held)
    by (scalar_held value style) = refl
    by _ = refl

step_keeps : (canonical : Bool) (graph : Graph) (walk : List Step) (step : Step) → all_keep canonical (step_events graph walk step)
step_keeps canonical graph walk (enters number) = prefixes_keep canonical _ _
step_keeps canonical graph walk (leaves number) = endings_keep canonical _
step_keeps canonical graph walk (meets_again number) = refl

graph_keeps : (canonical : Bool) (graph : Graph) → all_keep canonical (document_event_list graph)
graph_keeps canonical graph = by (length graph.nodes == 0)
  where
    inside_keeps : all_keep canonical (flat_map (step_events graph (graph_steps graph)) (graph_steps graph))
    inside_keeps = keep_each canonical (step_events graph (graph_steps graph)) (step_keeps canonical graph (graph_steps graph)) (graph_steps graph)

    by : (none : Bool)
        → all_keep canonical
        (if none then []
        else document_start graph.start ∷ (flat_map (step_events graph (graph_steps graph)) (graph_steps graph) ++ document_end graph.end_implicit ∷ []))
    by true = refl
    by false =
        keep_both canonical (flat_map (step_events graph (graph_steps graph)) (graph_steps graph)) (document_end graph.end_implicit ∷ []) inside_keeps refl

pub dumped_keep : (canonical : Bool) (graphs : List Graph) (events : List Event) → IsDumpOf graphs events → all_keep canonical events
dumped_keep canonical graphs events dumped =
    subst (all_keep canonical) dumped.parts
    (keep_both canonical (flat_map document_event_list graphs) (stream_end ∷ [])
    (keep_each canonical document_event_list (graph_keeps canonical) graphs) refl)

-- ---- a tree that agrees with a node has the shape of its content

abbrev shape_with : Option Text → Option Text → StyledKind → Shapes → Shape
shape_with anchor tag kind shapes = node_shape anchor (record { tag = tag; kind = kind }) shapes

same_option : (a b : Option Text) → is_same_text a b ≡ true → a ≡ b
same_option None None is = refl
same_option (Some a) (Some b) is = ap (λ text. Some text) (from_bytes a b is)
same_option _ _ is = absurd (false≢true is)

-- the tag that was read, or that of the kind
scalar_tag_is : (content : Scalar) (written : Option Text) (tagging : Tagging) → tagging_agrees content written tagging ≡ true
    → tag_or_string tagging ≡ unwrap_or written string_tag
scalar_tag_is content None (without_tag standing) is = refl
scalar_tag_is content (Some tag) (with_tag read) is = sym (from_bytes tag read is)
scalar_tag_is content _ _ is = absurd (false≢true is)

-- the tag that a scalar's event states is the scalar's
stated_tag_is : (tag : Option Text) (text : Text) (implicit : Bool) → Some text ≡ tag → Some text ≡ explicit_tag (content_tag tag implicit)
stated_tag_is tag text implicit is = grind (arith, nat_tests)

-- equal parts make equal shapes
shapes_same : (a b : Option Text) (s t : Option Text) (k l : StyledKind) (x y : Shapes) → a ≡ b → s ≡ t → k ≡ l → x ≡ y
    → shape_with a s k x ≡ shape_with b t l y
shapes_same a b s t k l x y anchors tags kinds below = grind (arith, nat_tests, shape_with)

-- a collection's tag is that of its start
collection_tag_is : (written read : Option Text) (own : Text) (tag : Option Text) → is_same_text written read ≡ true → keeps_tag written own tag ≡ true
    → Some (unwrap_or read own) ≡ tag
collection_tag_is written read own tag same kept =
    ap (λ t. Some (unwrap_or t own)) (sym (same_option written read same)) ∙ same_option (Some (unwrap_or written own)) tag kept

mutual
  tree_is : (canonical : Bool) (node : Node) (tree : Tree) → all_keep canonical (node_events node) → tree_agrees canonical node tree ≡ true
      → tree_shape tree ≡ content_shape (node_content node)
  tree_is canonical (alias_node name) (alias_tree read) keep agree = ap alias_shape (sym (from_bytes name read agree))
  tree_is canonical (scalar_node content) (scalar_tree anchor tagging value) keep agree =
      let written = scalar_tag canonical content in
      let value_too = and_parts (is_same_text content.anchor anchor && tagging_agrees content written tagging) (bytes_eq content.value value) agree in
      let anchor_too = and_parts (is_same_text content.anchor anchor) (tagging_agrees content written tagging) value_too.0 in
      let kept = same_option (Some (unwrap_or written string_tag)) content.tag (and_parts (keeps_tag written string_tag content.tag) true keep).0 in
      shapes_same anchor content.anchor (Some (tag_or_string tagging)) (explicit_tag (content_tag content.tag content.quoted_implicit))
      (scalar_kind value None) (scalar_kind content.value None) no_shapes no_shapes
      (sym (same_option content.anchor anchor anchor_too.0))
      (ap (λ tag. Some tag) (scalar_tag_is content written tagging anchor_too.1)
      ∙ stated_tag_is content.tag (unwrap_or written string_tag) content.quoted_implicit kept)
      (ap (λ text. scalar_kind text None) (sym (from_bytes content.value value value_too.1)))
      refl
  tree_is canonical (sequence_node start items) (sequence_tree anchor tag trees) keep agree =
      let written = collection_tag canonical start in
      let below = and_parts (is_same_text start.anchor anchor && is_same_text written tag) (trees_agree canonical items trees) agree in
      let own = and_parts (is_same_text start.anchor anchor) (is_same_text written tag) below.0 in
      let kept = and_parts (keeps_tag written sequence_tag start.tag) (list_all (has_kept_tag canonical) (nodes_events items ++ sequence_end ∷ [])) keep in
      shapes_same anchor start.anchor (Some (unwrap_or tag sequence_tag)) start.tag (sequence_kind None) (sequence_kind None)
      (trees_shapes trees) (contents_shapes (nodes_content items))
      (sym (same_option start.anchor anchor own.0)) (collection_tag_is written tag sequence_tag start.tag own.1 kept.0) refl
      (trees_are canonical items trees (keep_parts canonical (nodes_events items) (sequence_end ∷ []) kept.1).0 below.1)
  tree_is canonical (mapping_node start pairs) (mapping_tree anchor tag trees) keep agree =
      let written = collection_tag canonical start in
      let below = and_parts (is_same_text start.anchor anchor && is_same_text written tag) (tree_pairs_agree canonical pairs trees) agree in
      let own = and_parts (is_same_text start.anchor anchor) (is_same_text written tag) below.0 in
      let kept = and_parts (keeps_tag written mapping_tag start.tag) (list_all (has_kept_tag canonical) (pairs_events pairs ++ mapping_end ∷ [])) keep in
      shapes_same anchor start.anchor (Some (unwrap_or tag mapping_tag)) start.tag (mapping_kind None) (mapping_kind None)
      (tree_pairs_shapes trees) (content_pairs_shapes (pairs_content pairs))
      (sym (same_option start.anchor anchor own.0)) (collection_tag_is written tag mapping_tag start.tag own.1 kept.0) refl
      (pairs_are canonical pairs trees (keep_parts canonical (pairs_events pairs) (mapping_end ∷ []) kept.1).0 below.1)
  tree_is canonical _ _ keep agree = absurd (false≢true agree)

  trees_are : (canonical : Bool) (items : Nodes) (trees : Trees) → all_keep canonical (nodes_events items) → trees_agree canonical items trees ≡ true
      → trees_shapes trees ≡ contents_shapes (nodes_content items)
  trees_are canonical no_nodes no_trees keep agree = refl
  trees_are canonical (nodes_and items item) (trees_and trees tree) keep agree =
      let kept = keep_parts canonical (nodes_events items) (node_events item) keep in
      let both = and_parts (trees_agree canonical items trees) (tree_agrees canonical item tree) agree in
      ap (λ shapes. shapes_and shapes (tree_shape tree)) (trees_are canonical items trees kept.0 both.0)
      ∙ ap (shapes_and (contents_shapes (nodes_content items))) (tree_is canonical item tree kept.1 both.1)
  trees_are canonical _ _ keep agree = absurd (false≢true agree)

  pairs_are : (canonical : Bool) (pairs : Pairs) (trees : TreePairs) → all_keep canonical (pairs_events pairs)
      → tree_pairs_agree canonical pairs trees ≡ true → tree_pairs_shapes trees ≡ content_pairs_shapes (pairs_content pairs)
  pairs_are canonical no_pairs no_tree_pairs keep agree = refl
  pairs_are canonical (pairs_and pairs key value) (tree_pairs_and trees key_tree value_tree) keep agree =
      let kept = keep_parts canonical (pairs_events pairs) (node_events key ++ node_events value) keep in
      let last = keep_parts canonical (node_events key) (node_events value) kept.1 in
      let value_too =
      and_parts (tree_pairs_agree canonical pairs trees && tree_agrees canonical key key_tree) (tree_agrees canonical value value_tree) agree
      in
      let key_too = and_parts (tree_pairs_agree canonical pairs trees) (tree_agrees canonical key key_tree) value_too.0 in
      ap (λ shapes. shapes_and (shapes_and shapes (tree_shape key_tree)) (tree_shape value_tree))
      (pairs_are canonical pairs trees kept.0 key_too.0)
      ∙ ap (λ shape. shapes_and (shapes_and (content_pairs_shapes (pairs_content pairs)) shape) (tree_shape value_tree))
      (tree_is canonical key key_tree last.0 key_too.1)
      ∙ ap (shapes_and (shapes_and (content_pairs_shapes (pairs_content pairs)) (content_shape (node_content key))))
      (tree_is canonical value value_tree last.1 value_too.1)
  pairs_are canonical _ _ keep agree = absurd (false≢true agree)

-- ---- documents

same_version : (a b : Option Version) → is_same_version a b ≡ true → a ≡ b
same_version a b is = grind (arith, nat_tests, false≢true, and_parts, int_eq)

same_directives : (all others : List TagDirective) → are_same_directives all others ≡ true → all ≡ others
same_directives [] [] is = refl
same_directives (a ∷ rest) (b ∷ others) is =
    let rest_too = and_parts (bytes_eq a.handle b.handle && bytes_eq a.prefix b.prefix) (are_same_directives rest others) is in
    let both = and_parts (bytes_eq a.handle b.handle) (bytes_eq a.prefix b.prefix) rest_too.0 in
    ap (λ (handle : Text). record { handle = handle; prefix = a.prefix } ∷ rest) (from_bytes a.handle b.handle both.0)
    ∙ ap (λ (prefix : Text). record { handle = b.handle; prefix = prefix } ∷ rest) (from_bytes a.prefix b.prefix both.1)
    ∙ ap (λ rest. b ∷ rest) (same_directives rest others rest_too.1)
same_directives _ _ is = absurd (false≢true is)

-- documents whose events keep their tags
abbrev all_kept : Bool → List Document → Type 0
all_kept canonical [] = ⊤
all_kept canonical (document ∷ rest) = all_keep canonical (node_events document.root) × all_kept canonical rest

kept_both : (canonical : Bool) (first second : List Document) → all_kept canonical first → all_kept canonical second
    → all_kept canonical (first ++ second)
kept_both canonical [] second one other = other
kept_both canonical (document ∷ rest) second one other = (one.0, kept_both canonical rest second one.1 other)

documents_kept : (canonical : Bool) (documents : Documents) → all_keep canonical (documents_events documents)
    → all_kept canonical (documents_in_order documents)
documents_kept canonical no_documents keep = tt
documents_kept canonical (documents_and documents document) keep =
    let parts = keep_parts canonical (documents_events documents) (document_events document) keep in
    kept_both canonical (documents_in_order documents) (document ∷ []) (documents_kept canonical documents parts.0)
    ((keep_parts canonical (node_events document.root) (document_end document.end_implicit ∷ []) parts.1).0, tt)

-- contents in order are those of documents in order
contents_in_order : (documents : Documents) → documents_content documents ≡ map document_content (documents_in_order documents)
contents_in_order no_documents = refl
contents_in_order (documents_and documents document) = grind (arith, nat_tests, document_content, map-append, documents_in_order, contents_in_order documents)

trees_unfold : (canonical : Bool) (graphs : List Graph) (documents : List Document) (read : List DocumentTree) → all_kept canonical documents
    → documents_agree canonical documents read ≡ true → ContentsUnfold graphs (map document_content documents) → TreesUnfold graphs read
trees_unfold canonical [] [] [] keep agree unfolds = tt
trees_unfold canonical [] (document ∷ rest) read keep agree unfolds = absurd unfolds
trees_unfold canonical (graph ∷ graphs) [] read keep agree unfolds = absurd unfolds
trees_unfold canonical (graph ∷ graphs) (document ∷ rest) (tree ∷ others) keep agree unfolds =
    let both = and_parts (document_agrees canonical document tree) (documents_agree canonical rest others) agree in
    let root = and_parts (is_same_version document.start.version tree.version && are_same_directives document.start.directives tree.directives)
    (tree_agrees canonical document.root tree.root) both.0
    in
    let start = and_parts (is_same_version document.start.version tree.version) (are_same_directives document.start.directives tree.directives) root.0 in (
      record {
        version = sym (same_version document.start.version tree.version start.0) ∙ unfolds.0.version;
        directives = sym (same_directives document.start.directives tree.directives start.1) ∙ unfolds.0.directives;
        unfolds = subst (Unfolds false graph) (sym (tree_is canonical document.root tree.root keep.0 root.1)) unfolds.0.unfolds;
      },
      trees_unfold canonical graphs rest others keep.1 both.1 unfolds.1,
    )
trees_unfold canonical _ _ _ keep agree unfolds = absurd (false≢true agree)

-- the documents that were read of dumped graphs
pub dumped_trees_unfold : DumpedTreesUnfold
dumped_trees_unfold canonical graphs events documents dumped agree =
    let read = dumped_stream graphs events dumped in
    let tree = ap tree_of (sym read.is) ∙ tree_of-stream_events read.stream in
    let inside = documents_in_order read.stream.documents in
    let contents : documents_content read.stream.documents ≡ read.contents =
    some_same (sym (ap (option_map (λ (stream : Stream). documents_content stream.documents)) tree) ∙ read.content)
    in
    trees_unfold canonical graphs inside documents
    (documents_kept canonical read.stream.documents
    (keep_parts canonical (documents_events read.stream.documents) (stream_end ∷ [])
    (subst (all_keep canonical) (sym read.is) (dumped_keep canonical graphs events dumped))).0)
    (sym
    (ap (λ found. unwrap_or (option_map (λ (stream : Stream). documents_agree canonical (documents_in_order stream.documents) documents) found) false) tree)
    ∙ agree)
    (subst (ContentsUnfold graphs) (sym contents ∙ contents_in_order read.stream.documents) read.unfolds)
  where
    some_same : {A : Type 0} {a b : A} → Some a ≡ Some b → a ≡ b
    some_same h = cc
