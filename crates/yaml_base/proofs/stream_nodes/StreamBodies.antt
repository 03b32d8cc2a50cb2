-- A fact about each body in the layout of a list holds for the bodies of each document's root, from its own cursor on.
use Rattle.yaml_base.proofs.Common.{ℕ, unwrap_or, option_map, Option, None, Some, slice_index_or, Bool, false, true, List, [], ◌++◌, ◌∷◌, ◌≡◌, ap, subst, ◌∙◌}
use Rattle.yaml_base.proofs.Common.{and_parts, All-head, All-tail, list_all, TagDirective, collection_tag, Node, alias_node, scalar_node, Nodes, sequence_node}
use Rattle.yaml_base.proofs.Common.{Pairs, mapping_node, no_nodes, nodes_and, no_pairs, pairs_and, Documents, no_documents, documents_and, Stream}
use Rattle.yaml_base.proofs.Common.{stream_events, render_document_start, document_start_piece, root_place, render_document, has_no_documents}
use Rattle.yaml_base.proofs.Common.{render_documents, first_standing, layout, Body, Piece, bodies_of, Standing, render_properties, is_written_in_flow}
use Rattle.yaml_base.proofs.Common.{entry_place, render_node, render_nodes, render_pairs, as_item, as_key, as_value, Place, is_undented, entries_column}
use Rattle.yaml_base.proofs.Common.{has_no_nodes, has_no_pairs, is_simple, is_simple_at, render_place, has_scalar_values, MeaningIsKept, list_layout}
use Rattle.yaml_base.proofs.Common.{IsAccepted, Encoding, Settings, Effective, effective, directives_in_force, BodyIsTidy, BodiesAreTidy, arith}
use Rattle.std.specs.List.{All}
use Rattle.yaml_base.{proofs.BreakLaws.breaks-round, proofs.Trees.tree_of-stream_events, specs.Meaning.BodyReads, specs.Meaning.BodyMeans}
use Rattle.yaml_base.proofs.stream_lines.StreamBytes.{tidy_rendered}
use Rattle.yaml_base.proofs.stream_nodes.StreamStands.{BodyStands, BodiesHold, ItemsHold, PairsHold}
use Rattle.yaml_base.proofs.stream_nodes.StreamTexts.{node_own, node_joined, items_joined, pairs_joined}

-- Pieces

-- it holds of a body, if there is one
abbrev pub BodyHolds : (Body → Type 0) → Option Body → Type 0
BodyHolds P None = Unit {0}
BodyHolds P (Some body) = P body

-- it holds of the bodies of some pieces
abbrev pub PiecesHold : (Body → Type 0) → List Piece → Type 0
PiecesHold P [] = Unit {0}
PiecesHold P (piece ∷ rest) = BodyHolds P piece.body × PiecesHold P rest

-- a fact about all bodies of pieces
pub pieces_hold : (P : Body → Type 0) (pieces : List Piece) → All P (bodies_of pieces) → PiecesHold P pieces
pieces_hold P [] all = tt
pieces_hold P (piece ∷ rest) all = by piece.body all (pieces_hold P rest)
  where
    by : (body : Option Body) → All P (bodies_of (record { lead = piece.lead; body = body } ∷ rest)) → (All P (bodies_of rest) → PiecesHold P rest)
        → BodyHolds P body × PiecesHold P rest
    by None all more = (tt, more all)
    by (Some body) all more = (All-head P body (bodies_of rest) all, more (All-tail P body (bodies_of rest) all))

-- it holds of the first of them and of the others
hold_both : (P : Body → Type 0) (a b : List Piece) → PiecesHold P (a ++ b) → PiecesHold P a × PiecesHold P b
hold_both P [] b all = (tt, all)
hold_both P (piece ∷ a) b all = let both = hold_both P a b all.1 in ((all.0, both.0), both.1)

-- Nodes

-- a fact about the pieces of a node holds for its bodies; with it, for those of items and of pairs
mutual
  pub node_bodies : (P : Body → Type 0) (n : Node) (s : Effective) (directives : List TagDirective) (place : Place) (standing : Standing)
      → PiecesHold P (render_node n s directives place standing).pieces
      → BodiesHold P n s directives place (render_place s place (is_simple_at place s.canonical directives n) standing.cursor).cursor
  node_bodies P (alias_node name) s directives place standing all = tt
  node_bodies P (scalar_node content) s directives place standing all = all.0
  node_bodies P (sequence_node start items) s directives place standing all =
      let in_flow = is_written_in_flow s place start (has_no_nodes items) in
      let symbols = render_place s place (is_simple_at place s.canonical directives (sequence_node start items)) standing.cursor in
      let begun = render_properties s.portable directives start.anchor (collection_tag s.canonical start) false symbols.cursor in
      let column = entries_column in_flow (is_undented s place.role) s.indent place.column begun.cursor in
      let before : Standing = record { cursor = begun.cursor; open_ended = standing.open_ended } in
      items_bodies P items s directives in_flow column before (hold_both P (render_nodes items s directives in_flow column before).pieces _ all.1).0
  node_bodies P (mapping_node start pairs) s directives place standing all =
      let in_flow = is_written_in_flow s place start (has_no_pairs pairs) in
      let symbols = render_place s place (is_simple_at place s.canonical directives (mapping_node start pairs)) standing.cursor in
      let begun = render_properties s.portable directives start.anchor (collection_tag s.canonical start) false symbols.cursor in
      let column = entries_column in_flow false s.indent place.column begun.cursor in
      let before : Standing = record { cursor = begun.cursor; open_ended = standing.open_ended } in
      pairs_bodies P pairs s directives in_flow column before (hold_both P (render_pairs pairs s directives in_flow column before).pieces _ all.1).0

  pub items_bodies : (P : Body → Type 0) (items : Nodes) (s : Effective) (directives : List TagDirective) (in_flow : Bool) (column : ℕ) (standing : Standing)
      → PiecesHold P (render_nodes items s directives in_flow column standing).pieces → ItemsHold P items s directives in_flow column standing.cursor
  items_bodies P no_nodes s directives in_flow column standing all = tt
  items_bodies P (nodes_and items last) s directives in_flow column standing all =
      let place = entry_place in_flow (as_item (has_no_nodes items)) column in
      let before = render_nodes items s directives in_flow column standing in
      let both = hold_both P before.pieces (render_node last s directives place before.standing).pieces all in (
        items_bodies P items s directives in_flow column standing both.0,
        subst (λ c. BodiesHold P last s directives place (render_place s place false c).cursor) (items_joined items s directives in_flow column standing).1
            (node_bodies P last s directives place before.standing both.1),
      )

  pub pairs_bodies : (P : Body → Type 0) (pairs : Pairs) (s : Effective) (directives : List TagDirective) (in_flow : Bool) (column : ℕ) (standing : Standing)
      → PiecesHold P (render_pairs pairs s directives in_flow column standing).pieces → PairsHold P pairs s directives in_flow column standing.cursor
  pairs_bodies P no_pairs s directives in_flow column standing all = tt
  pairs_bodies P (pairs_and pairs key value) s directives in_flow column standing all =
      let key_place = entry_place in_flow (as_key (has_no_pairs pairs)) column in
      let value_place = entry_place in_flow (as_value (is_simple s.canonical directives key)) column in
      let simple = is_simple s.canonical directives key in
      let before = render_pairs pairs s directives in_flow column standing in
      let keyed = render_node key s directives key_place before.standing in
      let both = hold_both P (before.pieces ++ keyed.pieces) (render_node value s directives value_place keyed.standing).pieces all in
      let first = hold_both P before.pieces keyed.pieces both.0 in
      let at = (pairs_joined pairs s directives in_flow column standing).1 in (
        pairs_bodies P pairs s directives in_flow column standing first.0,
        subst (λ c. BodiesHold P key s directives key_place (render_place s key_place simple c).cursor) at
            (node_bodies P key s directives key_place before.standing first.1),
        subst (λ c. BodiesHold P value s directives value_place (render_place s value_place false c).cursor)
            ((node_joined key s directives key_place before.standing).1
            ∙ ap (λ c. (node_own key s directives key_place (render_place s key_place simple c).cursor).cursor) at)
            (node_bodies P value s directives value_place keyed.standing both.1),
      )

-- Documents

-- it holds of the bodies of each document's root, from the cursor after the document's start on
abbrev pub DocumentsHold : (Body → Type 0) → Documents → Effective → Type 0
DocumentsHold P no_documents s = Unit {0}
DocumentsHold P (documents_and before document) s =
    let start = render_document_start s (has_no_documents before) document.start (render_documents s before first_standing).standing in
    DocumentsHold P before s × BodiesHold P document.root s (directives_in_force document.start.directives) root_place start.cursor

-- a fact about all pieces of some documents
pub documents_bodies : (P : Body → Type 0) (documents : Documents) (s : Effective)
    → PiecesHold P (render_documents s documents first_standing).pieces → DocumentsHold P documents s
documents_bodies P no_documents s all = tt
documents_bodies P (documents_and before document) s all =
    let earlier = render_documents s before first_standing in
    let start = document_start_piece s (has_no_documents before) document.start earlier.standing in
    let root = render_node document.root s (directives_in_force document.start.directives) root_place start.standing in
    let both = hold_both P earlier.pieces (render_document s (has_no_documents before) document earlier.standing).pieces all in (
      documents_bodies P before s both.0,
      node_bodies P document.root s (directives_in_force document.start.directives) root_place start.standing (hold_both P root.pieces _ both.1.1).0,
    )

-- a fact about all bodies of a list's layout holds for those of its documents' roots
pub stream_bodies : (P : Body → Type 0) (stream : Stream) (s : Effective)
    → All P (bodies_of (list_layout s (stream_events stream))) → DocumentsHold P stream.documents s
stream_bodies P stream s all =
    let of_stream : list_layout s (stream_events stream) ≡ layout s stream =
    ap (λ (tree : Option Stream). unwrap_or (option_map (layout s) tree) []) (tree_of-stream_events stream) in
    let whole = pieces_hold P (layout s stream) (subst (λ (pieces : List Piece). All P (bodies_of pieces)) of_stream all) in
    documents_bodies P stream.documents s (hold_both P (render_documents s stream.documents first_standing).pieces _ whole.1).0

-- Readable bodies

-- a tidy body that reads as its value, as it is written, is readable
body_stands : (s : Effective) (body : Body) → BodyIsTidy s body → BodyReads s body → BodyStands s body
body_stands s body tidy reads = grind (arith, and_parts, tidy_rendered, breaks-round)

-- so bodies that are tidy and keep their meaning are all readable
pub bodies_stand : (s : Effective) (bodies : List Body) → All (BodyIsTidy s) bodies → All (BodyMeans s) bodies → All (BodyStands s) bodies
bodies_stand s bodies tidy mean = λ k d less. body_stands s (slice_index_or bodies k d) (tidy k d less) (mean k d less).reads

-- the bodies of the roots of an accepted list's documents are readable
pub roots_stand : (given : Settings) (encoding : Option Encoding) (stream : Stream) → BodiesAreTidy → MeaningIsKept
    → IsAccepted given.canonical (stream_events stream)
    → list_all has_scalar_values (stream_events stream) ≡ true
    → DocumentsHold (BodyStands (effective given encoding)) stream.documents (effective given encoding)
roots_stand given encoding stream tidy kept accepted scalars =
    let s = effective given encoding in
    let events = stream_events stream in
    stream_bodies (BodyStands s) stream s
    (bodies_stand s (bodies_of (list_layout s events)) (tidy given encoding events accepted) (kept given encoding events accepted scalars))
