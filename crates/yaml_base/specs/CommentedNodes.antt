-- Nodes with comments: a tree that has the comments of each of its events beside it, and its pieces by recursion over the tree (this project).
use Rattle.std.specs.Prelude.{ℕ, Bool, false, Some, List, [], ◌∷◌, ◌++◌, ◌&&◌, not, if◌then◌else◌}
use Rattle.yaml_base.specs.Characters.{Text}
use Rattle.yaml_base.specs.Settings.{Effective}
use Rattle.yaml_base.specs.Event.{Collection, Event, Scalar, TagDirective, alias, mapping_end, mapping_start, scalar, sequence_end, sequence_start}
use Rattle.yaml_base.specs.Grammar.{Node, alias_node, scalar_node, sequence_node, mapping_node, Nodes, no_nodes, nodes_and, Pairs, no_pairs, pairs_and}
use Rattle.yaml_base.specs.Layout.{Brackets, Place, RenderedPiece, Standing, alias_piece, as_item, as_key, as_value, curly, end_piece, entries_column}
use Rattle.yaml_base.specs.Layout.{entry_place, has_no_nodes, has_no_pairs, is_simple, is_simple_at, is_undented, is_written_in_flow, scalar_piece}
use Rattle.yaml_base.specs.Layout.{square, start_piece}
use Rattle.yaml_base.specs.Comments.{Commented, CommentedPiece, Comments}
use Rattle.yaml_base.specs.CommentedSteps.{CommentedStanding, HeadPlace, Headed, RenderedCommentedPiece, collection_end_place, ends_line, left_out}
use Rattle.yaml_base.specs.CommentedSteps.{node_place, render_before, still_waiting, with_comments}

-- a node and the comments of its events; a collection has those of its start and those of its end
mutual
  pub data CommentedNode : Type 0 where
    commented_alias : Comments → Text → CommentedNode
    commented_scalar : Comments → Scalar → CommentedNode
    commented_sequence : (at_start : Comments) → Collection → CommentedNodes → (at_end : Comments) → CommentedNode
    commented_mapping : (at_start : Comments) → Collection → CommentedPairs → (at_end : Comments) → CommentedNode

  pub data CommentedNodes : Type 0 where
    no_commented_nodes : CommentedNodes
    commented_nodes_and : CommentedNodes → CommentedNode → CommentedNodes

  pub data CommentedPairs : Type 0 where
    no_commented_pairs : CommentedPairs
    commented_pairs_and : CommentedPairs → CommentedNode → CommentedNode → CommentedPairs

-- the node, without its comments
abbrev mutual
  pub node_of : CommentedNode → Node
  node_of (commented_alias comments name) = alias_node name
  node_of (commented_scalar comments content) = scalar_node content
  node_of (commented_sequence at_start start items at_end) = sequence_node start (nodes_of items)
  node_of (commented_mapping at_start start pairs at_end) = mapping_node start (pairs_of pairs)

  pub nodes_of : CommentedNodes → Nodes
  nodes_of no_commented_nodes = no_nodes
  nodes_of (commented_nodes_and items item) = nodes_and (nodes_of items) (node_of item)

  pub pairs_of : CommentedPairs → Pairs
  pairs_of no_commented_pairs = no_pairs
  pairs_of (commented_pairs_and pairs key value) = pairs_and (pairs_of pairs) (node_of key) (node_of value)

-- an event and its comments
abbrev pub commented_event : Comments → Event → Commented
commented_event comments event = record { comments = comments; event = event }

-- the events of a node with their comments, in order
abbrev mutual
  pub commented_node_events : CommentedNode → List Commented
  commented_node_events (commented_alias comments name) = commented_event comments (alias name) ∷ []
  commented_node_events (commented_scalar comments content) = commented_event comments (scalar content) ∷ []
  commented_node_events (commented_sequence at_start start items at_end) =
      commented_event at_start (sequence_start start) ∷ (commented_nodes_events items ++ commented_event at_end sequence_end ∷ [])
  commented_node_events (commented_mapping at_start start pairs at_end) =
      commented_event at_start (mapping_start start) ∷ (commented_pairs_events pairs ++ commented_event at_end mapping_end ∷ [])

  pub commented_nodes_events : CommentedNodes → List Commented
  commented_nodes_events no_commented_nodes = []
  commented_nodes_events (commented_nodes_and items item) = commented_nodes_events items ++ commented_node_events item

  pub commented_pairs_events : CommentedPairs → List Commented
  commented_pairs_events no_commented_pairs = []
  commented_pairs_events (commented_pairs_and pairs key value) =
      commented_pairs_events pairs ++ (commented_node_events key ++ commented_node_events value)

-- Pieces

-- several events' pieces with their comments, and the state after them
pub record RenderedCommentedPieces : Type 0 where
  pub pieces : List CommentedPiece
  pub standing : CommentedStanding

-- no pieces
abbrev pub no_commented_pieces : CommentedStanding → RenderedCommentedPieces
no_commented_pieces before = record { pieces = []; standing = before }

-- a piece alone
abbrev pub one_commented_piece : RenderedCommentedPiece → RenderedCommentedPieces
one_commented_piece rendered = record { pieces = rendered.piece ∷ []; standing = rendered.standing }

-- pieces, and then those that are written from the state after them
abbrev pub then_commented_pieces : RenderedCommentedPieces → (CommentedStanding → RenderedCommentedPieces) → RenderedCommentedPieces
then_commented_pieces first next =
    let second = next first.standing in
    record { pieces = first.pieces ++ second.pieces; standing = second.standing }

-- Events

-- the place and the form of an event's comments, and its own piece
pub record EventForm : Type 0 where
  pub place : HeadPlace
  pub takes_line : Bool
  pub piece : Standing → RenderedPiece

-- the form under the settings: comments are left out in canonical mode
abbrev pub event_form : Effective → HeadPlace → (takes_line : Bool) → (Standing → RenderedPiece) → EventForm
event_form s place takes_line piece =
    record { place = if s.canonical then left_out else place; takes_line = not s.canonical && takes_line; piece = piece }

-- the head lines before an event, and those that waited for it
abbrev pub head_before : Commented → EventForm → CommentedStanding → Headed
head_before commented form before = render_before (before.waiting ++ commented.comments.head) form.place commented.event before.standing

-- the piece of an event after its head lines, without its line comment
abbrev pub piece_after_head : Commented → EventForm → CommentedStanding → RenderedPiece
piece_after_head commented form before = form.piece (head_before commented form before).standing

-- the piece of an event with its comments
abbrev pub render_event : Commented → EventForm → CommentedStanding → RenderedCommentedPieces
render_event commented form before =
    one_commented_piece
    (with_comments commented (still_waiting (before.waiting ++ commented.comments.head) form.place) form.takes_line
    (head_before commented form before).text (piece_after_head commented form before))

-- Nodes

-- an alias or a scalar at its place
abbrev pub leaf_form : Effective → Place → (Standing → RenderedPiece) → EventForm
leaf_form s place piece = event_form s (node_place place false) (ends_line place) piece

-- the kind of a collection and where it is written
pub record CollectionForm : Type 0 where
  pub brackets : Brackets
  pub in_flow : Bool
  pub undented : Bool
  pub empty : Bool

-- the start of a collection: the head lines of one in a block are its first entry's
abbrev pub start_form : Effective → Place → CollectionForm → (Standing → RenderedPiece) → EventForm
start_form s place form piece = event_form s (node_place place (not form.in_flow)) (not form.in_flow) piece

-- the end of a collection whose entries are at a column
abbrev pub end_form : Effective → Place → CollectionForm → (column : ℕ) → EventForm
end_form s place form column =
    event_form s (collection_end_place form.in_flow (Some column) place.column) (form.in_flow && ends_line place)
    (end_piece s form.brackets form.in_flow form.empty place.column)

-- a collection's start, its entries at their column, and its end
abbrev pub render_commented_collection :
    Effective → Place → CollectionForm → (at_start at_end : Commented) → (start : Standing → RenderedPiece)
    → (ℕ → CommentedStanding → RenderedCommentedPieces) → CommentedStanding → RenderedCommentedPieces
render_commented_collection s place form at_start at_end start entries before =
    let begins = start_form s place form start in
    let cursor = (piece_after_head at_start begins before).standing.cursor in
    let column = entries_column form.in_flow form.undented s.indent place.column cursor in
    then_commented_pieces
    (then_commented_pieces (render_event at_start begins before) (entries column))
    (render_event at_end (end_form s place form column))

-- a node at its place: the pieces of its events with their comments, in order; with it, the items of a sequence and the pairs of a mapping
abbrev mutual
  pub render_commented : CommentedNode → Effective → List TagDirective → Place → CommentedStanding → RenderedCommentedPieces
  render_commented (commented_alias comments name) s directives place before =
      render_event (commented_event comments (alias name))
      (leaf_form s place (alias_piece s place (is_simple_at place s.canonical directives (alias_node name)) name)) before
  render_commented (commented_scalar comments content) s directives place before =
      render_event (commented_event comments (scalar content))
      (leaf_form s place (scalar_piece s directives place (is_simple_at place s.canonical directives (scalar_node content)) content)) before
  render_commented (commented_sequence at_start start items at_end) s directives place before =
      let empty = has_no_nodes (nodes_of items) in
      let in_flow = is_written_in_flow s place start empty in
      render_commented_collection s place
      (record { brackets = square; in_flow = in_flow; undented = is_undented s place.role; empty = empty })
      (commented_event at_start (sequence_start start)) (commented_event at_end sequence_end)
      (start_piece s directives place (is_simple_at place s.canonical directives (sequence_node start (nodes_of items))) start)
      (render_commented_nodes items s directives in_flow) before
  render_commented (commented_mapping at_start start pairs at_end) s directives place before =
      let empty = has_no_pairs (pairs_of pairs) in
      let in_flow = is_written_in_flow s place start empty in
      render_commented_collection s place
      (record { brackets = curly; in_flow = in_flow; undented = false; empty = empty })
      (commented_event at_start (mapping_start start)) (commented_event at_end mapping_end)
      (start_piece s directives place (is_simple_at place s.canonical directives (mapping_node start (pairs_of pairs))) start)
      (render_commented_pairs pairs s directives in_flow) before

  pub render_commented_nodes :
      CommentedNodes → Effective → List TagDirective → (in_flow : Bool) → ℕ → CommentedStanding → RenderedCommentedPieces
  render_commented_nodes no_commented_nodes s directives in_flow column before = no_commented_pieces before
  render_commented_nodes (commented_nodes_and items last) s directives in_flow column before =
      then_commented_pieces (render_commented_nodes items s directives in_flow column before)
      (render_commented last s directives (entry_place in_flow (as_item (has_no_nodes (nodes_of items))) column))

  pub render_commented_pairs :
      CommentedPairs → Effective → List TagDirective → (in_flow : Bool) → ℕ → CommentedStanding → RenderedCommentedPieces
  render_commented_pairs no_commented_pairs s directives in_flow column before = no_commented_pieces before
  render_commented_pairs (commented_pairs_and pairs last_key last_value) s directives in_flow column before =
      then_commented_pieces
      (then_commented_pieces (render_commented_pairs pairs s directives in_flow column before)
      (render_commented last_key s directives (entry_place in_flow (as_key (has_no_pairs (pairs_of pairs))) column)))
      (render_commented last_value s directives
      (entry_place in_flow (as_value (is_simple s.canonical directives (node_of last_key))) column))
