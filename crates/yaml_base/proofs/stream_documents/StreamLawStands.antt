-- The law of whole streams, if each document is readable and the layout's text is printable and read from its bytes.
use Rattle.yaml_base.proofs.Common.{or_from, or_parts}
use Rattle.yaml_base.proofs.Common.{◌≤◌, is_some, unwrap_or, option_map, Option, Some, ℤ, Bool, false, not, true, List, [], ◌++◌, ◌∷◌, refl, ◌≡◌, leb-true}
use Rattle.yaml_base.proofs.Common.{true≢false, ap, sym, ◌∙◌, arith, and_parts, and_from, false≢true, list_all, list_any, Scalar, Event, stream_start}
use Rattle.yaml_base.proofs.Common.{stream_end, document_start, document_end, scalar, sequence_start, sequence_end, mapping_start, mapping_end, scalar_tag}
use Rattle.yaml_base.proofs.Common.{Node, alias_node, scalar_node, Nodes, sequence_node, Pairs, mapping_node, no_nodes, nodes_and, no_pairs, pairs_and}
use Rattle.yaml_base.proofs.Common.{Document, Documents, no_documents, documents_and, Stream, node_events, nodes_events, pairs_events, documents_events}
use Rattle.yaml_base.proofs.Common.{stream_events, tree_of, layout, Piece, text_of, with_breaks_written, bytes_written, list_layout, is_sound, IsAccepted}
use Rattle.yaml_base.proofs.Common.{Encoding, Settings, Effective, effective_indent, effective, loses_document, document_has_flow_indicator, all_read_alike}
use Rattle.yaml_base.proofs.Common.{reads_alike, characters_read, lacks_tag_and_flags, DocumentTree, document_agrees, documents_in_order, agrees, not-true}
use Rattle.yaml_base.{proofs.Trees.tree_of-stream_events, specs.streams.StreamContent.documents_agree, proofs.stream_documents.StreamRootsStand.DocumentsStand}
use Rattle.yaml_base.proofs.Common.{documents_of, stream_trees, nat_tests}
use Rattle.yaml_base.proofs.stream_lines.StreamBytes.{trees_of_bytes, is_shown}
use Rattle.yaml_base.proofs.stream_documents.StreamEachDocument.{AllDocuments, all_of_both, each_document}
use Rattle.yaml_base.proofs.stream_documents.StreamWholeReads.{FirstWritten, document_trees, stream_reads}
use Rattle.yaml_base.proofs.stream_nodes.StreamAgrees.{document_tree, node_is_tagged, nodes_are_tagged, pairs_are_tagged, document_tree_agrees}

-- Tags

-- a scalar that is accepted has a tag that is written, or a flag
sound_scalar : (canonical : Bool) (content : Scalar) → is_sound canonical (scalar content) ≡ true
    → not (lacks_tag_and_flags (is_some (scalar_tag canonical content)) content.plain_implicit content.quoted_implicit) ≡ true
sound_scalar canonical content h = grind (arith, false≢true)

-- a test on the events after the first
after_first : (test : Event → Bool) (event : Event) (rest : List Event) → list_all test (event ∷ rest) ≡ true → list_all test rest ≡ true
after_first test event rest h = (and_parts (test event) (list_all test rest) h).1

-- each scalar of an accepted node has one
mutual
  sound_node : (n : Node) (canonical : Bool) → list_all (is_sound canonical) (node_events n) ≡ true → node_is_tagged canonical n ≡ true
  sound_node (alias_node name) canonical h = refl
  sound_node (scalar_node content) canonical h = sound_scalar _ content (and_parts _ true h).0
  sound_node (sequence_node start items) canonical h =
      sound_nodes items canonical (all_of_both (is_sound canonical) (nodes_events items) (sequence_end ∷ [])
      (after_first (is_sound canonical) (sequence_start start) (nodes_events items ++ (sequence_end ∷ [])) h)).0
  sound_node (mapping_node start pairs) canonical h =
      sound_pairs pairs canonical (all_of_both (is_sound canonical) (pairs_events pairs) (mapping_end ∷ [])
      (after_first (is_sound canonical) (mapping_start start) (pairs_events pairs ++ (mapping_end ∷ [])) h)).0

  sound_nodes : (items : Nodes) (canonical : Bool) → list_all (is_sound canonical) (nodes_events items) ≡ true → nodes_are_tagged canonical items ≡ true
  sound_nodes no_nodes canonical h = refl
  sound_nodes (nodes_and items last) canonical h =
      let parts = all_of_both (is_sound canonical) (nodes_events items) (node_events last) h in
      and_from (nodes_are_tagged canonical items) (node_is_tagged canonical last) (sound_nodes items canonical parts.0) (sound_node last canonical parts.1)

  sound_pairs : (pairs : Pairs) (canonical : Bool) → list_all (is_sound canonical) (pairs_events pairs) ≡ true → pairs_are_tagged canonical pairs ≡ true
  sound_pairs no_pairs canonical h = refl
  sound_pairs (pairs_and pairs key value) canonical h =
      let parts = all_of_both (is_sound canonical) (pairs_events pairs) (node_events key ++ node_events value) h in
      let both = all_of_both (is_sound canonical) (node_events key) (node_events value) parts.1 in
      grind (arith, all_of_both, and_from, sound_node key canonical both.0, sound_node value canonical both.1, sound_pairs pairs canonical parts.0)

-- so has each of each document
abbrev IsTaggedRoot : Bool → Document → Type 0
IsTaggedRoot canonical document = node_is_tagged canonical document.root ≡ true

sound_documents : (canonical : Bool) (stream : Stream) → list_all (is_sound canonical) (stream_events stream) ≡ true
    → AllDocuments (IsTaggedRoot canonical) (documents_in_order stream.documents)
sound_documents canonical stream h =
    each_document (IsTaggedRoot canonical) (is_sound canonical)
    (λ document each. sound_node document.root canonical
    (all_of_both (is_sound canonical) (node_events document.root) (document_end document.end_implicit ∷ [])
    (after_first (is_sound canonical) (document_start document.start) (node_events document.root ++ (document_end document.end_implicit ∷ [])) each)).0)
    stream.documents
    (all_of_both (is_sound canonical) (documents_events stream.documents) (stream_end ∷ [])
    (after_first (is_sound canonical) (stream_start stream.encoding) (documents_events stream.documents ++ (stream_end ∷ [])) h)).0

-- facts about each of two lists' documents
pub documents_parts : (P : Document → Type 0) (some others : List Document) → AllDocuments P (some ++ others) → AllDocuments P some × AllDocuments P others
documents_parts P [] others h = (tt, h)
documents_parts P (document ∷ rest) others h = let parts = documents_parts P rest others h.1 in ((h.0, parts.0), parts.1)

-- Agreement

-- one document more agrees
pub agree_more : (canonical : Bool) (some : List Document) (trees : List DocumentTree) (document : Document) (tree : DocumentTree)
    → documents_agree canonical some trees ≡ true
    → document_agrees canonical document tree ≡ true → documents_agree canonical (some ++ document ∷ []) (trees ++ tree ∷ []) ≡ true
agree_more canonical [] [] document tree h k = and_from _ true k refl
agree_more canonical [] (other ∷ others) document tree h k = absurd (false≢true h)
agree_more canonical (one ∷ rest) [] document tree h k = absurd (false≢true h)
agree_more canonical (one ∷ rest) (other ∷ others) document tree h k =
    grind (arith, and_parts, and_from, or_parts, or_from, agree_more canonical rest others document tree)

-- the trees of documents agree with them
trees_agree : (s : Effective) (documents : Documents) → AllDocuments (IsTaggedRoot s.canonical) (documents_in_order documents)
    → documents_agree s.canonical (documents_in_order documents) (document_trees s documents) ≡ true
trees_agree s no_documents tagged = refl
trees_agree s (documents_and before document) tagged =
    let parts = documents_parts (IsTaggedRoot s.canonical) (documents_in_order before) (document ∷ []) tagged in
    agree_more s.canonical (documents_in_order before) (document_trees s before) document (document_tree s document) (trees_agree s before parts.0)
    (document_tree_agrees s document parts.1.0)

-- Settings

-- an indent is at least 2
pub indent_deep : (indent : Option ℤ) → 2 ≤ effective_indent indent
indent_deep indent = grind (arith, nat_tests, leb-true)

-- no document is lost if all is read alike
first_written : (s : Effective) (documents : List Document) → (s.portable ≡ false → loses_document s.canonical documents ≡ false) → FirstWritten s documents
first_written s documents kept = grind (arith, nat_tests, false≢true)

-- The law

-- the conditions besides the events: each document of the stream is readable, the layout's text consists of printable characters and tabs, and its
-- characters are read from its bytes
pub record StreamStands (s : Effective) (events : List Event) (stream : Stream) : Type 0 where
  pub documents : DocumentsStand s stream.documents
  pub shown : list_all is_shown (text_of (list_layout s events)) ≡ true
  pub characters : characters_read (bytes_written s (list_layout s events)) ≡ Some (with_breaks_written s.line_break (text_of (list_layout s events)))

-- the layout of a whole stream's events
pub stream_layout : (s : Effective) (events : List Event) (stream : Stream) → stream_events stream ≡ events → list_layout s events ≡ layout s stream
stream_layout s events stream is = ap (list_layout s) (sym is) ∙ ap (λ found. unwrap_or (option_map (layout s) found) []) (tree_of-stream_events stream)

-- a readable stream is read as its documents' trees
pub stream_read_back : (given : Settings) (encoding : Option Encoding) (events : List Event) (accepted : IsAccepted given.canonical events)
    → reads_alike given.portable given.canonical events ≡ true → StreamStands (effective given encoding) events accepted.stream
    → stream_trees given.breaks12 (bytes_written (effective given encoding) (list_layout (effective given encoding) events))
    ≡ Some (document_trees (effective given encoding) accepted.stream.documents)
stream_read_back given encoding events accepted portable stands =
    let s : Effective = effective given encoding in
    let text = text_of (list_layout s events) in
    trees_of_bytes given.breaks12 s.line_break text (bytes_written s (list_layout s events)) (document_trees s accepted.stream.documents)
    stands.shown stands.characters
    (ap (λ (pieces : List Piece). documents_of given.breaks12 (text_of pieces)) (stream_layout s events accepted.stream accepted.is_stream)
    ∙ stream_reads s accepted.stream (indent_deep given.indent) stands.documents
    (first_written s (documents_in_order accepted.stream.documents) (kept given.portable portable)))
  where
    found : tree_of events ≡ Some accepted.stream
    found = ap tree_of (sym accepted.is_stream) ∙ tree_of-stream_events accepted.stream

    kept : (x : Bool) → reads_alike x given.canonical events ≡ true → x ≡ false
        → loses_document given.canonical (documents_in_order accepted.stream.documents) ≡ false
    kept true h e = absurd (true≢false e)
    kept false h e =
        not-true (loses_document given.canonical (documents_in_order accepted.stream.documents))
        (and_parts (not (loses_document given.canonical (documents_in_order accepted.stream.documents)))
        (not (list_any (document_has_flow_indicator given.canonical) (documents_in_order accepted.stream.documents)))
        (sym (ap (λ found.
        unwrap_or (option_map (λ (stream : Stream). all_read_alike given.canonical (documents_in_order stream.documents)) found) false) found)
        ∙ h)).0

-- and these agree with its events
pub stream_agrees : (given : Settings) (encoding : Option Encoding) (events : List Event) (accepted : IsAccepted given.canonical events)
    → reads_alike given.portable given.canonical events ≡ true → StreamStands (effective given encoding) events accepted.stream
    → agrees given.canonical events (stream_trees given.breaks12 (bytes_written (effective given encoding) (list_layout (effective given encoding) events)))
    ≡ true
stream_agrees given encoding events accepted portable stands =
    ap (agrees given.canonical events) (stream_read_back given encoding events accepted portable stands)
    ∙ ap (λ found. unwrap_or
    (option_map (λ (stream : Stream). documents_agree given.canonical (documents_in_order stream.documents)
    (document_trees (effective given encoding) accepted.stream.documents)) found) false)
    (ap tree_of (sym accepted.is_stream) ∙ tree_of-stream_events accepted.stream)
    ∙ trees_agree (effective given encoding) accepted.stream.documents
    (sound_documents given.canonical accepted.stream (ap (list_all (is_sound given.canonical)) accepted.is_stream ∙ accepted.sound))
