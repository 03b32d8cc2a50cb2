-- The pieces of a list, event by event, are those of its tree's layout.
use Rattle.yaml_base.proofs.Common.{arith, ℕ, Bool, false, true, List, ◌++◌, ◌∷◌, refl, ◌≡◌, append-nil, append_assoc, ap, TagDirective, Event}
use Rattle.yaml_base.proofs.Common.{sequence_end, mapping_end, Node, alias_node, Nodes, sequence_node, Pairs, mapping_node, no_nodes, nodes_and}
use Rattle.yaml_base.proofs.Common.{no_pairs, pairs_and, Documents, no_documents, documents_and, Stream, node_events, nodes_events, pairs_events}
use Rattle.yaml_base.proofs.Common.{document_events, documents_events, stream_events, has_no_documents, render_documents, first_standing}
use Rattle.yaml_base.proofs.Common.{layout, Standing, RenderedPieces, then_pieces, start_piece, is_written_in_flow, entry_place, render_node, render_nodes}
use Rattle.yaml_base.proofs.Common.{render_pairs, Role, as_item, as_key, as_value, is_undented, entries_column, has_no_nodes, has_no_pairs, is_simple}
use Rattle.yaml_base.proofs.Common.{is_simple_at, Effective, Frame, at_stream, at_document, at_node, next_place, stage_after, ends_next, Steps, steps}

-- pieces of a tree, and then steps from the state after them
abbrev after_pieces : RenderedPieces → (Standing → Steps) → Steps
after_pieces rendered next =
    let after = next rendered.standing in
    record { pieces = rendered.pieces ++ after.pieces; standing = after.standing; stage = after.stage }

-- Steps that agree after the pieces.
after_pieces-same : (a : RenderedPieces) (f g : Standing → Steps) → f a.standing ≡ g a.standing → after_pieces a f ≡ after_pieces a g
after_pieces-same a f g same =
    ap (λ (after : Steps). let made : Steps = record { pieces = a.pieces ++ after.pieces; standing = after.standing; stage = after.stage } in made) same

-- No node begins with a collection's end.
node_begins : (n : Node) (rest : List Event) (follows : Bool) → ends_next (node_events n ++ rest) follows ≡ false
node_begins (alias_node name) rest follows = refl
node_begins _ rest follows = refl

nodes_begin : (items : Nodes) (rest : List Event) (follows : Bool) → ends_next rest follows ≡ false → ends_next (nodes_events items ++ rest) follows ≡ false
nodes_begin no_nodes rest follows opens = opens
nodes_begin (nodes_and items last) rest follows opens =
    grind (arith, append_assoc, node_begins, nodes_begin items (node_events last ++ rest) follows (node_begins last rest follows))

pairs_begin : (pairs : Pairs) (rest : List Event) (follows : Bool) → ends_next rest follows ≡ false → ends_next (pairs_events pairs ++ rest) follows ≡ false
pairs_begin no_pairs rest follows opens = opens
pairs_begin (pairs_and pairs key value) rest follows opens =
    let each = pairs_begin pairs (node_events key ++ (node_events value ++ rest)) follows (node_begins key (node_events value ++ rest) follows) in
    grind (arith, append_assoc, node_begins, each)

abbrev frame_at : (in_flow : Bool) → Role → ℕ → (simple : Bool) → Frame
frame_at in_flow role column simple = record { place = entry_place in_flow role column; simple = simple }

-- Steps over a tree's events give its pieces and go on.
mutual
  pub node_steps : (n : Node) (s : Effective) (follows : Bool) (rest : List Event) (d : List TagDirective) (frames : List Frame) (standing : Standing)
      → steps s follows (node_events n ++ rest) (at_node d frames) standing
      ≡ after_pieces (render_node n s d (next_place frames) standing)
      (steps s follows rest (stage_after d frames (is_simple_at (next_place frames) s.canonical d n)))
  node_steps (sequence_node c items) s follows rest d frames standing =
      let place = next_place frames in
      let empty = has_no_nodes items in
      let simple = is_simple_at place s.canonical d (sequence_node c items) in
      let in_flow = is_written_in_flow s place c empty in
      let start = start_piece s d place simple c standing in
      let column = entries_column in_flow (is_undented s place.role) s.indent place.column start.standing.cursor in
      let each = nodes_steps items s follows (sequence_end ∷ rest) d in_flow column simple frames start.standing in
      grind (arith, append_assoc, nodes_begin, node_begins, after_pieces-same, each)
  node_steps (mapping_node c pairs) s follows rest d frames standing =
      let place = next_place frames in
      let empty = has_no_pairs pairs in
      let simple = is_simple_at place s.canonical d (mapping_node c pairs) in
      let in_flow = is_written_in_flow s place c empty in
      let start = start_piece s d place simple c standing in
      let column = entries_column in_flow false s.indent place.column start.standing.cursor in
      let each = pairs_steps pairs s follows (mapping_end ∷ rest) d in_flow column simple frames start.standing in
      grind (arith, append_assoc, pairs_begin, node_begins, after_pieces-same, each)
  node_steps _ s follows rest d frames standing = refl

  pub nodes_steps : (items : Nodes) (s : Effective) (follows : Bool) (rest : List Event) (d : List TagDirective) (in_flow : Bool) (column : ℕ) (simple : Bool)
      (frames : List Frame) (standing : Standing)
      → steps s follows (nodes_events items ++ rest) (at_node d (frame_at in_flow (as_item true) column simple ∷ frames)) standing
      ≡ after_pieces (render_nodes items s d in_flow column standing)
      (steps s follows rest (at_node d (frame_at in_flow (as_item (has_no_nodes items)) column simple ∷ frames)))
  nodes_steps no_nodes s follows rest d in_flow column simple frames standing = refl
  nodes_steps (nodes_and items last) s follows rest d in_flow column simple frames standing =
      let before = render_nodes items s d in_flow column standing in
      let each = node_steps last s follows rest d (frame_at in_flow (as_item (has_no_nodes items)) column simple ∷ frames) before.standing in
      let one = nodes_steps items s follows (node_events last ++ rest) d in_flow column simple frames standing in
      grind (arith, append_assoc, after_pieces-same, each, one)

  pub pairs_steps : (pairs : Pairs) (s : Effective) (follows : Bool) (rest : List Event) (d : List TagDirective) (in_flow : Bool) (column : ℕ) (simple : Bool)
      (frames : List Frame) (standing : Standing)
      → steps s follows (pairs_events pairs ++ rest) (at_node d (frame_at in_flow (as_key true) column simple ∷ frames)) standing
      ≡ after_pieces (render_pairs pairs s d in_flow column standing)
      (steps s follows rest (at_node d (frame_at in_flow (as_key (has_no_pairs pairs)) column simple ∷ frames)))
  pairs_steps no_pairs s follows rest d in_flow column simple frames standing = refl
  pairs_steps (pairs_and pairs last_key last_value) s follows rest d in_flow column simple frames standing =
      let key_place = entry_place in_flow (as_key (has_no_pairs pairs)) column in
      let key_simple = is_simple s.canonical d last_key in
      let before = render_pairs pairs s d in_flow column standing in
      let keyed = then_pieces before (render_node last_key s d key_place) in
      let at_the_key = frame_at in_flow (as_key (has_no_pairs pairs)) column simple ∷ frames in
      let at_the_value = frame_at in_flow (as_value key_simple) column simple ∷ frames in
      let each = node_steps last_key s follows (node_events last_value ++ rest) d at_the_key before.standing in
      let one = node_steps last_value s follows rest d at_the_value keyed.standing in
      let other = pairs_steps pairs s follows (node_events last_key ++ (node_events last_value ++ rest)) d in_flow column simple frames standing in
      grind (arith, append_assoc, after_pieces-same, each, one, other)

pub documents_steps : (x : Documents) (s : Effective) (follows : Bool) (rest : List Event) (standing : Standing)
    → steps s follows (documents_events x ++ rest) (at_document true) standing
    ≡ after_pieces (render_documents s x standing) (steps s follows rest (at_document (has_no_documents x)))
documents_steps no_documents s follows rest standing = refl
documents_steps (documents_and x last) s follows rest standing =
    let before = documents_steps x s follows (document_events last ++ rest) standing in
    grind (arith, append_assoc, after_pieces-same, node_steps, before)

-- The layout of a stream is the pieces of its events, one after another.
pub stream_steps : (t : Stream) (s : Effective) → (steps s false (stream_events t) at_stream first_standing).pieces ≡ layout s t
stream_steps t s = grind (arith, after_pieces-same, documents_steps, append_assoc, append-nil)
