-- The steps of the events of a node with comments write its pieces.
use Rattle.yaml_base.proofs.Common.{ℕ, Bool, false, true, List, [], ◌∷◌, ◌++◌, refl, ◌≡◌, append-nil, append_assoc, ap, sym, ◌∙◌, map-append, TagDirective}
use Rattle.yaml_base.proofs.Common.{sequence_start, sequence_end, mapping_start, mapping_end, entry_place, Role, as_item, as_key, as_value}
use Rattle.yaml_base.proofs.Common.{sequence_node, mapping_node, entries_column, has_no_nodes, has_no_pairs, is_simple, is_simple_at, is_undented}
use Rattle.yaml_base.proofs.Common.{is_written_in_flow, square, curly, start_piece}
use Rattle.yaml_base.proofs.Common.{Effective, Frame, at_node, next_place, stage_after, ends_next, node_events, nodes_events, pairs_events}
use Rattle.yaml_base.specs.Comments.{Commented, events_of}
use Rattle.yaml_base.specs.CommentedSteps.{CommentedStanding, CommentedSteps, commented_step, commented_steps, then_commented}
use Rattle.yaml_base.specs.CommentedNodes.{CommentedNode, CommentedNodes, CommentedPairs, RenderedCommentedPieces, commented_alias, commented_event}
use Rattle.yaml_base.specs.CommentedNodes.{commented_mapping, commented_node_events, commented_nodes_and, commented_nodes_events, commented_pairs_and}
use Rattle.yaml_base.specs.CommentedNodes.{commented_pairs_events, commented_scalar, commented_sequence, no_commented_nodes, no_commented_pairs, node_of}
use Rattle.yaml_base.specs.CommentedNodes.{nodes_of, pairs_of, render_commented, render_commented_nodes, render_commented_pairs, then_commented_pieces}
use Rattle.yaml_base.specs.CommentedNodes.{CollectionForm, end_form, piece_after_head, render_event, start_form}
use Rattle.yaml_base.specs.CommentLaws.{CommentedNodeHasEvents, CommentedNodeHasPieces, steps_of_node}

-- Events

-- the events of two lists in a row
events_both : (a b : List Commented) → events_of (a ++ b) ≡ events_of a ++ events_of b
events_both a b = map-append (λ (commented : Commented). commented.event) a b

mutual
  pub node_has_events : CommentedNodeHasEvents
  node_has_events (commented_alias comments name) = refl
  node_has_events (commented_scalar comments content) = refl
  node_has_events (commented_sequence at_start start items at_end) =
      ap (λ events. sequence_start start ∷ events)
      (events_both (commented_nodes_events items) (commented_event at_end sequence_end ∷ [])
      ∙ ap (λ events. events ++ sequence_end ∷ []) (nodes_have_events items))
  node_has_events (commented_mapping at_start start pairs at_end) =
      ap (λ events. mapping_start start ∷ events)
      (events_both (commented_pairs_events pairs) (commented_event at_end mapping_end ∷ [])
      ∙ ap (λ events. events ++ mapping_end ∷ []) (pairs_have_events pairs))

  pub nodes_have_events : (items : CommentedNodes) → events_of (commented_nodes_events items) ≡ nodes_events (nodes_of items)
  nodes_have_events no_commented_nodes = refl
  nodes_have_events (commented_nodes_and items last) =
      events_both (commented_nodes_events items) (commented_node_events last)
      ∙ ap (λ events. events ++ events_of (commented_node_events last)) (nodes_have_events items)
      ∙ ap (λ events. nodes_events (nodes_of items) ++ events) (node_has_events last)

  pub pairs_have_events : (pairs : CommentedPairs) → events_of (commented_pairs_events pairs) ≡ pairs_events (pairs_of pairs)
  pairs_have_events no_commented_pairs = refl
  pairs_have_events (commented_pairs_and pairs key value) =
      events_both (commented_pairs_events pairs) (commented_node_events key ++ commented_node_events value)
      ∙ ap (λ events. events ++ events_of (commented_node_events key ++ commented_node_events value)) (pairs_have_events pairs)
      ∙ ap (λ events. pairs_events (pairs_of pairs) ++ events)
      (events_both (commented_node_events key) (commented_node_events value)
      ∙ ap (λ events. events ++ events_of (commented_node_events value)) (node_has_events key)
      ∙ ap (λ events. node_events (node_of key) ++ events) (node_has_events value))

-- No node begins with a collection's end.
node_opens : (n : CommentedNode) (rest : List Commented) (follows : Bool) → ends_next (events_of (commented_node_events n ++ rest)) follows ≡ false
node_opens (commented_alias comments name) rest follows = refl
node_opens (commented_scalar comments content) rest follows = refl
node_opens (commented_sequence at_start start items at_end) rest follows = refl
node_opens (commented_mapping at_start start pairs at_end) rest follows = refl

-- so items before a collection's end begin with it only if there are none
items_open : (items : CommentedNodes) (rest : List Commented) (follows : Bool) → ends_next (events_of rest) follows ≡ false
    → ends_next (events_of (commented_nodes_events items ++ rest)) follows ≡ false
items_open no_commented_nodes rest follows opens = opens
items_open (commented_nodes_and items last) rest follows opens =
    ap (λ all. ends_next (events_of all) follows) (append_assoc (commented_nodes_events items) (commented_node_events last) rest)
    ∙ items_open items (commented_node_events last ++ rest) follows (node_opens last rest follows)

items_end : (items : CommentedNodes) (rest : List Commented) (follows : Bool) → ends_next (events_of rest) follows ≡ true
    → ends_next (events_of (commented_nodes_events items ++ rest)) follows ≡ has_no_nodes (nodes_of items)
items_end no_commented_nodes rest follows ends = ends
items_end (commented_nodes_and items last) rest follows ends =
    ap (λ all. ends_next (events_of all) follows) (append_assoc (commented_nodes_events items) (commented_node_events last) rest)
    ∙ items_open items (commented_node_events last ++ rest) follows (node_opens last rest follows)

-- the events of a pair after others, and those after it
pair_parts : (before key value rest : List Commented) → (before ++ (key ++ value)) ++ rest ≡ before ++ (key ++ (value ++ rest))
pair_parts before key value rest = append_assoc before (key ++ value) rest ∙ ap (λ all. before ++ all) (append_assoc key value rest)

pairs_open : (pairs : CommentedPairs) (rest : List Commented) (follows : Bool) → ends_next (events_of rest) follows ≡ false
    → ends_next (events_of (commented_pairs_events pairs ++ rest)) follows ≡ false
pairs_open no_commented_pairs rest follows opens = opens
pairs_open (commented_pairs_and pairs key value) rest follows opens =
    let others = commented_node_events value ++ rest in
    ap (λ all. ends_next (events_of all) follows)
    (pair_parts (commented_pairs_events pairs) (commented_node_events key) (commented_node_events value) rest)
    ∙ pairs_open pairs (commented_node_events key ++ others) follows (node_opens key others follows)

pairs_end : (pairs : CommentedPairs) (rest : List Commented) (follows : Bool) → ends_next (events_of rest) follows ≡ true
    → ends_next (events_of (commented_pairs_events pairs ++ rest)) follows ≡ has_no_pairs (pairs_of pairs)
pairs_end no_commented_pairs rest follows ends = ends
pairs_end (commented_pairs_and pairs key value) rest follows ends =
    let others = commented_node_events value ++ rest in
    ap (λ all. ends_next (events_of all) follows)
    (pair_parts (commented_pairs_events pairs) (commented_node_events key) (commented_node_events value) rest)
    ∙ pairs_open pairs (commented_node_events key ++ others) follows (node_opens key others follows)

-- Steps

-- pieces of a tree, and then steps from the state after them
abbrev after_commented : RenderedCommentedPieces → (CommentedStanding → CommentedSteps) → CommentedSteps
after_commented rendered next =
    let after = next rendered.standing in
    record { pieces = rendered.pieces ++ after.pieces; standing = after.standing; stage = after.stage }

-- pieces of two trees in a row
after_both : (a : RenderedCommentedPieces) (b : CommentedStanding → RenderedCommentedPieces) (next : CommentedStanding → CommentedSteps)
    → after_commented a (λ standing. after_commented (b standing) next) ≡ after_commented (then_commented_pieces a b) next
after_both a b next =
    let second = b a.standing in
    let after = next second.standing in
    ap (λ pieces. record { pieces = pieces; standing = after.standing; stage = after.stage }) (sym (append_assoc a.pieces second.pieces after.pieces))

-- steps that agree from the state after them
after_same : (a : RenderedCommentedPieces) (f g : CommentedStanding → CommentedSteps) → f a.standing ≡ g a.standing
    → after_commented a f ≡ after_commented a g
after_same a f g same =
    ap (λ (after : CommentedSteps). let made : CommentedSteps =
    record { pieces = a.pieces ++ after.pieces; standing = after.standing; stage = after.stage } in made) same

abbrev frame_at : (in_flow : Bool) → Role → ℕ → (simple : Bool) → Frame
frame_at in_flow role column simple = record { place = entry_place in_flow role column; simple = simple }

-- Steps over the events of a tree with comments write its pieces and go on.
mutual
  pub commented_node_steps : (n : CommentedNode) (s : Effective) (follows : Bool) (rest : List Commented) (d : List TagDirective) (frames : List Frame)
      (before : CommentedStanding)
      → commented_steps s follows (commented_node_events n ++ rest) (at_node d frames) before
      ≡ after_commented (render_commented n s d (next_place frames) before)
      (commented_steps s follows rest (stage_after d frames (is_simple_at (next_place frames) s.canonical d (node_of n))))
  commented_node_steps (commented_alias comments name) s follows rest d frames before = refl
  commented_node_steps (commented_scalar comments content) s follows rest d frames before = refl
  commented_node_steps (commented_sequence at_start c items at_end) s follows rest d frames before =
      let place = next_place frames in
      let empty = has_no_nodes (nodes_of items) in
      let simple = is_simple_at place s.canonical d (sequence_node c (nodes_of items)) in
      let in_flow = is_written_in_flow s place c empty in
      let start = commented_event at_start (sequence_start c) in
      let ends = commented_event at_end sequence_end in
      let others = commented_nodes_events items ++ ends ∷ rest in
      let form : CollectionForm = record { brackets = square; in_flow = in_flow; undented = is_undented s place.role; empty = empty } in
      let begins = start_form s place form (start_piece s d place simple c) in
      let column = entries_column in_flow (is_undented s place.role) s.indent place.column (piece_after_head start begins before).standing.cursor in
      let first = render_event start begins before in
      let entries = render_commented_nodes items s d in_flow column in
      let last = render_event ends (end_form s place form column) in
      let next = commented_steps s follows rest (stage_after d frames simple) in
      ap (λ all. commented_steps s follows (start ∷ all) (at_node d frames) before) (append_assoc (commented_nodes_events items) (ends ∷ []) rest)
      ∙ ap (λ empty. then_commented (commented_step s (at_node d frames) start empty before) (commented_steps s follows others))
      (items_end items (ends ∷ rest) follows refl)
      ∙ after_same first (commented_steps s follows others (at_node d (frame_at in_flow (as_item true) column simple ∷ frames)))
      (λ standing. after_commented (entries standing) (λ standing. after_commented (last standing) next))
      (commented_nodes_steps items s follows (ends ∷ rest) d in_flow column simple frames first.standing)
      ∙ after_both first entries (λ standing. after_commented (last standing) next)
      ∙ after_both (then_commented_pieces first entries) last next
  commented_node_steps (commented_mapping at_start c pairs at_end) s follows rest d frames before =
      let place = next_place frames in
      let empty = has_no_pairs (pairs_of pairs) in
      let simple = is_simple_at place s.canonical d (mapping_node c (pairs_of pairs)) in
      let in_flow = is_written_in_flow s place c empty in
      let start = commented_event at_start (mapping_start c) in
      let ends = commented_event at_end mapping_end in
      let others = commented_pairs_events pairs ++ ends ∷ rest in
      let form : CollectionForm = record { brackets = curly; in_flow = in_flow; undented = false; empty = empty } in
      let begins = start_form s place form (start_piece s d place simple c) in
      let column = entries_column in_flow false s.indent place.column (piece_after_head start begins before).standing.cursor in
      let first = render_event start begins before in
      let entries = render_commented_pairs pairs s d in_flow column in
      let last = render_event ends (end_form s place form column) in
      let next = commented_steps s follows rest (stage_after d frames simple) in
      ap (λ all. commented_steps s follows (start ∷ all) (at_node d frames) before) (append_assoc (commented_pairs_events pairs) (ends ∷ []) rest)
      ∙ ap (λ empty. then_commented (commented_step s (at_node d frames) start empty before) (commented_steps s follows others))
      (pairs_end pairs (ends ∷ rest) follows refl)
      ∙ after_same first (commented_steps s follows others (at_node d (frame_at in_flow (as_key true) column simple ∷ frames)))
      (λ standing. after_commented (entries standing) (λ standing. after_commented (last standing) next))
      (commented_pairs_steps pairs s follows (ends ∷ rest) d in_flow column simple frames first.standing)
      ∙ after_both first entries (λ standing. after_commented (last standing) next)
      ∙ after_both (then_commented_pieces first entries) last next

  pub commented_nodes_steps : (items : CommentedNodes) (s : Effective) (follows : Bool) (rest : List Commented) (d : List TagDirective) (in_flow : Bool)
      (column : ℕ) (simple : Bool) (frames : List Frame) (before : CommentedStanding)
      → commented_steps s follows (commented_nodes_events items ++ rest) (at_node d (frame_at in_flow (as_item true) column simple ∷ frames)) before
      ≡ after_commented (render_commented_nodes items s d in_flow column before)
      (commented_steps s follows rest (at_node d (frame_at in_flow (as_item (has_no_nodes (nodes_of items))) column simple ∷ frames)))
  commented_nodes_steps no_commented_nodes s follows rest d in_flow column simple frames before = refl
  commented_nodes_steps (commented_nodes_and items last) s follows rest d in_flow column simple frames before =
      let first = as_item true in
      let at = frame_at in_flow (as_item (has_no_nodes (nodes_of items))) column simple ∷ frames in
      let items_before = render_commented_nodes items s d in_flow column before in
      let next = commented_steps s follows rest (at_node d (frame_at in_flow (as_item false) column simple ∷ frames)) in
      ap (λ all. commented_steps s follows all (at_node d (frame_at in_flow first column simple ∷ frames)) before)
      (append_assoc (commented_nodes_events items) (commented_node_events last) rest)
      ∙ commented_nodes_steps items s follows (commented_node_events last ++ rest) d in_flow column simple frames before
      ∙ after_same items_before (commented_steps s follows (commented_node_events last ++ rest) (at_node d at))
      (λ standing. after_commented (render_commented last s d (next_place at) standing) next)
      (commented_node_steps last s follows rest d at items_before.standing)
      ∙ after_both items_before (render_commented last s d (next_place at)) next

  pub commented_pairs_steps : (pairs : CommentedPairs) (s : Effective) (follows : Bool) (rest : List Commented) (d : List TagDirective) (in_flow : Bool)
      (column : ℕ) (simple : Bool) (frames : List Frame) (before : CommentedStanding)
      → commented_steps s follows (commented_pairs_events pairs ++ rest) (at_node d (frame_at in_flow (as_key true) column simple ∷ frames)) before
      ≡ after_commented (render_commented_pairs pairs s d in_flow column before)
      (commented_steps s follows rest (at_node d (frame_at in_flow (as_key (has_no_pairs (pairs_of pairs))) column simple ∷ frames)))
  commented_pairs_steps no_commented_pairs s follows rest d in_flow column simple frames before = refl
  commented_pairs_steps (commented_pairs_and pairs key value) s follows rest d in_flow column simple frames before =
      let at_the_key = frame_at in_flow (as_key (has_no_pairs (pairs_of pairs))) column simple ∷ frames in
      let at_the_value = frame_at in_flow (as_value (is_simple s.canonical d (node_of key))) column simple ∷ frames in
      let pairs_before = render_commented_pairs pairs s d in_flow column before in
      let write_key = render_commented key s d (next_place at_the_key) in
      let write_value = render_commented value s d (next_place at_the_value) in
      let keyed = then_commented_pieces pairs_before write_key in
      let next = commented_steps s follows rest (at_node d (frame_at in_flow (as_key false) column simple ∷ frames)) in
      let others = commented_node_events value ++ rest in
      ap (λ all. commented_steps s follows all (at_node d (frame_at in_flow (as_key true) column simple ∷ frames)) before)
      (pair_parts (commented_pairs_events pairs) (commented_node_events key) (commented_node_events value) rest)
      ∙ commented_pairs_steps pairs s follows (commented_node_events key ++ others) d in_flow column simple frames before
      ∙ after_same pairs_before (commented_steps s follows (commented_node_events key ++ others) (at_node d at_the_key))
      (λ standing. after_commented (write_key standing) (commented_steps s follows others (at_node d at_the_value)))
      (commented_node_steps key s follows others d at_the_key pairs_before.standing)
      ∙ after_both pairs_before write_key (commented_steps s follows others (at_node d at_the_value))
      ∙ after_same keyed (commented_steps s follows others (at_node d at_the_value)) (λ standing. after_commented (write_value standing) next)
      (commented_node_steps value s follows rest d at_the_value keyed.standing)
      ∙ after_both keyed write_value next

pub node_has_pieces : CommentedNodeHasPieces
node_has_pieces s follows directives frames node before =
    let made = steps_of_node s directives frames node before in
    ap (λ all. commented_steps s follows all (at_node directives frames) before) (sym (append-nil (commented_node_events node)))
    ∙ commented_node_steps node s follows [] directives frames before
    ∙ ap (λ pieces. record { pieces = pieces; standing = made.standing; stage = made.stage }) (append-nil made.pieces)
