-- A list of events has at most one tree: pushing a tree's events gives the tree back.
use Rattle.yaml_base.proofs.Common.{arith, option_and_then, Option, Some, List, [], ◌++◌, ◌∷◌, refl, ◌≡◌, append_assoc, ap, sym, ◌∙◌, DocumentStart, Collection}
use Rattle.yaml_base.proofs.Common.{Event, stream_end, sequence_end, mapping_end, Node, Nodes, sequence_node, Pairs, mapping_node}
use Rattle.yaml_base.proofs.Common.{no_nodes, nodes_and, no_pairs, pairs_and, Documents, no_documents, documents_and, Stream, node_events}
use Rattle.yaml_base.proofs.Common.{nodes_events, pairs_events, document_events, documents_events, stream_events, Level, at_item, at_key, at_value}
use Rattle.yaml_base.proofs.Common.{between_documents, within_document, after_stream, with_node, pushed, partial_of, finish_stream, tree_of, Encoding}

-- Pushing a node's events appends the node.
mutual
  pub node_pushed : (node : Node) (e : Option Encoding) (d : Documents) (s : DocumentStart) (levels : List Level) (rest : List Event)
      → pushed (within_document e d s levels) (node_events node ++ rest) ≡ pushed (with_node e d s levels node) rest
  node_pushed (sequence_node c items) e d s levels rest = grind (arith, append_assoc, nodes_pushed items c e d s levels (sequence_end ∷ rest))
  node_pushed (mapping_node c pairs) e d s levels rest = grind (arith, append_assoc, pairs_pushed pairs c e d s levels (mapping_end ∷ rest))
  node_pushed _ e d s levels rest = refl

  pub nodes_pushed : (items : Nodes) (c : Collection) (e : Option Encoding) (d : Documents) (s : DocumentStart) (levels : List Level) (rest : List Event)
      → pushed (within_document e d s (at_item c no_nodes ∷ levels)) (nodes_events items ++ rest)
      ≡ pushed (within_document e d s (at_item c items ∷ levels)) rest
  nodes_pushed no_nodes c e d s levels rest = refl
  nodes_pushed (nodes_and items item) c e d s levels rest =
      grind (arith, append_assoc, node_pushed item e d s (at_item c items ∷ levels) rest, nodes_pushed items c e d s levels (node_events item ++ rest))

  pub pairs_pushed : (pairs : Pairs) (c : Collection) (e : Option Encoding) (d : Documents) (s : DocumentStart) (levels : List Level) (rest : List Event)
      → pushed (within_document e d s (at_key c no_pairs ∷ levels)) (pairs_events pairs ++ rest) ≡ pushed (within_document e d s (at_key c pairs ∷ levels)) rest
  pairs_pushed no_pairs c e d s levels rest = refl
  pairs_pushed (pairs_and pairs key value) c e d s levels rest =
      let each = node_pushed key e d s (at_key c pairs ∷ levels) (node_events value ++ rest) in
      let one = node_pushed value e d s (at_value c pairs key ∷ levels) rest in
      let other = pairs_pushed pairs c e d s levels (node_events key ++ (node_events value ++ rest)) in
      grind (arith, append_assoc, each, one, other)

pub documents_pushed : (d : Documents) (e : Option Encoding) (rest : List Event)
    → pushed (between_documents e no_documents) (documents_events d ++ rest) ≡ pushed (between_documents e d) rest
documents_pushed no_documents e rest = refl
documents_pushed (documents_and d x) e rest = grind (arith, append_assoc, node_pushed, documents_pushed d e (document_events x ++ rest))

-- Pushing a stream's events gives the stream.
pub stream_pushed : (t : Stream) → partial_of (stream_events t) ≡ Some (after_stream t)
stream_pushed t = documents_pushed t.documents t.encoding (stream_end ∷ [])

pub tree_of-stream_events : (t : Stream) → tree_of (stream_events t) ≡ Some t
tree_of-stream_events t = ap (option_and_then finish_stream) (stream_pushed t)

-- Two trees with the same events are the same tree.
pub one_tree : (t u : Stream) → stream_events t ≡ stream_events u → t ≡ u
one_tree t u same =
    let joined : Some t ≡ Some u = sym (tree_of-stream_events t) ∙ ap tree_of same ∙ tree_of-stream_events u in
    cc
