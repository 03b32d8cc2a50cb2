-- A node that is written in one (an alias, a scalar, a collection in flow) has its own pieces after its head lines: no other head lines have a place.
use Rattle.yaml_base.proofs.Common.{ℕ, Bool, false, true, Option, None, List, [], ◌∷◌, ◌++◌, ◌≡◌, ◌==◌, ◌&&◌, refl, ap, sym, ◌∙◌, if◌then◌else◌}
use Rattle.yaml_base.proofs.Common.{append-nil, append_assoc, map, map-append, not, Text, TagDirective, Event, alias, scalar, sequence_start, sequence_end}
use Rattle.yaml_base.proofs.Common.{mapping_start, mapping_end, Piece, Standing, RenderedPiece, RenderedPieces, one_piece}
use Rattle.yaml_base.proofs.Common.{then_pieces, text_of, piece_text, entry_place}
use Rattle.yaml_base.proofs.Common.{entries_column, Role, as_root, as_item, as_key, as_value, Place, has_no_nodes}
use Rattle.yaml_base.proofs.Common.{has_no_pairs, is_simple, is_simple_at, is_undented}
use Rattle.yaml_base.proofs.Common.{is_written_in_flow, Brackets, square, curly, start_piece, render_node, render_nodes, render_pairs, Effective}
use Rattle.yaml_base.specs.Grammar.{alias_node, scalar_node, sequence_node, mapping_node}
use Rattle.yaml_base.specs.Layout.{alias_piece, scalar_piece, end_piece}
use Rattle.yaml_base.proofs.CommentedPieces.{text_bare, texts_bare}
use Rattle.yaml_base.specs.Comments.{Commented, CommentedPiece, HeadLine, commented_text_of, piece_alone, text_with_line}
use Rattle.yaml_base.specs.CommentedSteps.{CommentedStanding, HeadPlace, Headed, ends_line, left_out, line_taken, line_waiting, no_head}
use Rattle.yaml_base.specs.CommentedSteps.{line_written, node_place, render_before, still_waiting}
use Rattle.yaml_base.specs.Comments.{standing_with_line}
use Rattle.yaml_base.specs.{Refusal.begins_collection, NodeLayout.render_collection}
use Rattle.yaml_base.specs.CommentedNodes.{CollectionForm, CommentedNode, CommentedNodes, CommentedPairs, EventForm, RenderedCommentedPieces}
use Rattle.yaml_base.specs.CommentedNodes.{commented_alias, commented_event, commented_mapping, commented_nodes_and, commented_pairs_and, commented_scalar}
use Rattle.yaml_base.specs.CommentedNodes.{commented_sequence, end_form, no_commented_nodes, no_commented_pairs, node_of, nodes_of, pairs_of, render_commented}
use Rattle.yaml_base.specs.CommentedNodes.{render_commented_nodes, render_commented_pairs, render_event, then_commented_pieces}
use Rattle.yaml_base.specs.CommentedNodes.{render_commented_collection}

-- Nodes without line comments

abbrev mutual
  pub HeadsOnly : CommentedNode → Type 0
  HeadsOnly (commented_alias comments name) = comments.line ≡ None
  HeadsOnly (commented_scalar comments content) = comments.line ≡ None
  HeadsOnly (commented_sequence at_start start items at_end) = (at_start.line ≡ None) × (ItemHeadsOnly items × (at_end.line ≡ None))
  HeadsOnly (commented_mapping at_start start pairs at_end) = (at_start.line ≡ None) × (PairHeadsOnly pairs × (at_end.line ≡ None))

  pub ItemHeadsOnly : CommentedNodes → Type 0
  ItemHeadsOnly no_commented_nodes = Unit {0}
  ItemHeadsOnly (commented_nodes_and items item) = ItemHeadsOnly items × HeadsOnly item

  pub PairHeadsOnly : CommentedPairs → Type 0
  PairHeadsOnly no_commented_pairs = Unit {0}
  PairHeadsOnly (commented_pairs_and pairs key value) = PairHeadsOnly pairs × (HeadsOnly key × HeadsOnly value)

-- Pieces

-- a state in which no lines wait
abbrev pub none_wait : Standing → CommentedStanding
none_wait standing = record { standing = standing; waiting = [] }

-- pieces after a text
abbrev pub headed_pieces : Text → List Piece → List CommentedPiece
headed_pieces head [] = []
headed_pieces head (piece ∷ rest) = record { head = head; piece = piece; line = [] } ∷ map piece_alone rest

abbrev pub headed_all : Text → RenderedPieces → RenderedCommentedPieces
headed_all head rendered = record { pieces = headed_pieces head rendered.pieces; standing = none_wait rendered.standing }

-- pieces alone
abbrev pub alone_all : RenderedPieces → RenderedCommentedPieces
alone_all rendered = record { pieces = map piece_alone rendered.pieces; standing = none_wait rendered.standing }

alone_headed : (pieces : List Piece) → headed_pieces [] pieces ≡ map piece_alone pieces
alone_headed [] = refl
alone_headed (piece ∷ rest) = refl

-- pieces alone after others
then_alone : (head : Text) (a : RenderedPiece) (more : RenderedPieces) (next : CommentedStanding → RenderedCommentedPieces) (plain : Standing → RenderedPieces)
    → next (none_wait more.standing) ≡ alone_all (plain more.standing)
    → then_commented_pieces (headed_all head (record { pieces = a.piece ∷ more.pieces; standing = more.standing })) next
    ≡ headed_all head (then_pieces (record { pieces = a.piece ∷ more.pieces; standing = more.standing }) plain)
then_alone head a more next plain same =
    let second = plain more.standing in
    let first : CommentedPiece = record { head = head; piece = a.piece; line = [] } in
    ap (λ (other : RenderedCommentedPieces). let made : RenderedCommentedPieces =
    record { pieces = (first ∷ map piece_alone more.pieces) ++ other.pieces; standing = other.standing } in made) same
    ∙ ap (λ pieces. let made : RenderedCommentedPieces = record { pieces = first ∷ pieces; standing = none_wait second.standing } in made)
    (sym (map-append piece_alone more.pieces second.pieces))

alone_then : (first : RenderedPieces) (next : CommentedStanding → RenderedCommentedPieces) (plain : Standing → RenderedPieces)
    → next (none_wait first.standing) ≡ alone_all (plain first.standing)
    → then_commented_pieces (alone_all first) next ≡ alone_all (then_pieces first plain)
alone_then first next plain same =
    let second = plain first.standing in
    ap (λ (other : RenderedCommentedPieces). let made : RenderedCommentedPieces =
    record { pieces = map piece_alone first.pieces ++ other.pieces; standing = other.standing } in made) same
    ∙ ap (λ pieces. let made : RenderedCommentedPieces = record { pieces = pieces; standing = none_wait second.standing } in made)
    (sym (map-append piece_alone first.pieces second.pieces))

-- Events

-- an event's piece after its head lines
abbrev pub event_headed : List HeadLine → HeadPlace → Event → (Standing → RenderedPiece) → Standing → RenderedCommentedPieces
event_headed lines place event piece before =
    let head = render_before lines place event before in
    let rendered = piece head.standing in
    record {
      pieces = record { head = head.text; piece = rendered.piece; line = [] } ∷ [];
      standing = record { standing = rendered.standing; waiting = still_waiting lines place };
    }

-- an event's piece with a line comment or without
abbrev with_line : (waiting : List HeadLine) → (takes alone : Bool) → (head : Text) → RenderedPiece → Option Text → RenderedCommentedPieces
with_line waiting takes alone head rendered line =
    let taken = line_taken line takes in
    record {
      pieces = record { head = head; piece = rendered.piece; line = line_written taken alone } ∷ [];
      standing =
          record {
            standing = standing_with_line (line_written taken alone) rendered;
            waiting = waiting ++ line_waiting taken alone;
          };
    }

pub without_line : (commented : Commented) (form : EventForm) (before : CommentedStanding) → commented.comments.line ≡ None
    → render_event commented form before
    ≡ event_headed (before.waiting ++ commented.comments.head) form.place commented.event form.piece before.standing
without_line commented form before none =
    let lines = before.waiting ++ commented.comments.head in
    let head = render_before lines form.place commented.event before.standing in
    let rendered = form.piece head.standing in
    let alone = begins_collection commented.event && rendered.standing.cursor.column == 0 in
    ap (with_line (still_waiting lines form.place) form.takes_line alone head.text rendered) none
    ∙ ap (λ waiting. let made : RenderedCommentedPieces = record {
      pieces = record { head = head.text; piece = rendered.piece; line = [] } ∷ [];
      standing = record { standing = rendered.standing; waiting = waiting };
    } in made) (append-nil (still_waiting lines form.place))

-- without a place no head lines are written, and none wait
none_left : (lines : List HeadLine) (event : Event) (piece : Standing → RenderedPiece) (before : Standing)
    → event_headed lines left_out event piece before ≡ alone_all (one_piece (piece before))
none_left [] event piece before = refl
none_left (line ∷ rest) event piece before = refl

same_place : (x : Bool) → (if x then left_out else left_out) ≡ left_out
same_place true = refl
same_place false = refl

event_alone : (commented : Commented) (form : EventForm) (before : CommentedStanding) → commented.comments.line ≡ None → form.place ≡ left_out
    → render_event commented form before ≡ alone_all (one_piece (form.piece before.standing))
event_alone commented form before none place =
    let lines = before.waiting ++ commented.comments.head in
    without_line commented form before none
    ∙ ap (λ place. event_headed lines place commented.event form.piece before.standing) place ∙ none_left lines commented.event form.piece before.standing

-- Nodes

-- the first event of a node
abbrev pub first_event : CommentedNode → Commented
first_event (commented_alias comments name) = commented_event comments (alias name)
first_event (commented_scalar comments content) = commented_event comments (scalar content)
first_event (commented_sequence at_start start items at_end) = commented_event at_start (sequence_start start)
first_event (commented_mapping at_start start pairs at_end) = commented_event at_start (mapping_start start)

-- the place of its head lines if it is written in one
abbrev pub one_place : Effective → Place → HeadPlace
one_place s place = if s.canonical then left_out else node_place place false

-- its head lines there
abbrev pub head_of : Effective → Place → Commented → CommentedStanding → Headed
head_of s place commented before =
    render_before (before.waiting ++ commented.comments.head) (one_place s place) commented.event before.standing

-- no lines wait after them
none_wait_after : (lines : List HeadLine) (s : Effective) (place : Place) → still_waiting lines (one_place s place) ≡ []
none_wait_after [] s place = refl
none_wait_after (line ∷ rest) s place = by s.canonical place.in_flow place.role
  where
    by : (canonical in_flow : Bool) (role : Role)
        → still_waiting (line ∷ rest) (if canonical then left_out else node_place (record { in_flow = in_flow; role = role; column = place.column }) false) ≡ []
    by true in_flow role = refl
    by false true role = refl
    by false false (as_item first) = refl
    by false false (as_key first) = refl
    by false false (as_value simple) = refl
    by false false as_root = refl

-- true of a node that is written in one at a place
abbrev pub is_in_one : Effective → Place → CommentedNode → Bool
is_in_one s place (commented_alias comments name) = true
is_in_one s place (commented_scalar comments content) = true
is_in_one s place (commented_sequence at_start start items at_end) = is_written_in_flow s place start (has_no_nodes (nodes_of items))
is_in_one s place (commented_mapping at_start start pairs at_end) = is_written_in_flow s place start (has_no_pairs (pairs_of pairs))

-- an alias or a scalar
leaf_headed : (s : Effective) (place : Place) (commented : Commented) (takes : Bool) (piece : Standing → RenderedPiece) (before : CommentedStanding)
    → commented.comments.line ≡ None
    → render_event commented (record { place = one_place s place; takes_line = takes; piece = piece }) before
    ≡ (let head = head_of s place commented before in headed_all head.text (one_piece (piece head.standing)))
leaf_headed s place commented takes piece before none =
    let head = head_of s place commented before in
    let lines = before.waiting ++ commented.comments.head in
    without_line commented (record { place = one_place s place; takes_line = takes; piece = piece }) before none
    ∙ ap (λ waiting. let made : RenderedCommentedPieces = record {
      pieces = record { head = head.text; piece = (piece head.standing).piece; line = [] } ∷ [];
      standing = record { standing = (piece head.standing).standing; waiting = waiting };
    } in made) (none_wait_after lines s place)

-- a collection in flow
abbrev flow_form : Brackets → (undented empty : Bool) → CollectionForm
flow_form brackets undented empty = record { brackets = brackets; in_flow = true; undented = undented; empty = empty }

-- such a collection whose entries have their own pieces
flow_headed : (s : Effective) (place : Place) (brackets : Brackets) (undented empty : Bool) (at_start at_end : Commented) (start : Standing → RenderedPiece)
    (entries : ℕ → CommentedStanding → RenderedCommentedPieces) (plain : ℕ → Standing → RenderedPieces) (before : CommentedStanding)
    → at_start.comments.line ≡ None → at_end.comments.line ≡ None
    → ((column : ℕ) (standing : Standing) → entries column (none_wait standing) ≡ alone_all (plain column standing))
    → render_commented_collection s place (flow_form brackets undented empty) at_start at_end start entries before
    ≡ (let head = head_of s place at_start before in
    headed_all head.text (render_collection s brackets true undented empty place.column (start head.standing) plain))
flow_headed s place brackets undented empty at_start at_end start entries plain before start_none end_none each =
    let head = head_of s place at_start before in
    let form = flow_form brackets undented empty in
    let begun = start head.standing in
    let column = entries_column true undented s.indent place.column begun.standing.cursor in
    let all = plain column begun.standing in
    let last = render_event at_end (end_form s place form column) in
    ap (λ first. then_commented_pieces (then_commented_pieces first (entries column)) last)
    (leaf_headed s place at_start (not s.canonical && false) start before start_none)
    ∙ ap (λ first. then_commented_pieces first last)
    (then_alone head.text begun (record { pieces = []; standing = begun.standing }) (entries column) (plain column) (each column begun.standing))
    ∙ then_alone head.text begun all last (λ standing. one_piece (end_piece s brackets true empty place.column standing))
    (event_alone at_end (end_form s place form column) (none_wait all.standing) end_none (same_place s.canonical))

-- each node within flow is written in one
within_flow : (n : CommentedNode) (s : Effective) (role : Role) (column : ℕ) → is_in_one s (entry_place true role column) n ≡ true
within_flow (commented_alias comments name) s role column = refl
within_flow (commented_scalar comments content) s role column = refl
within_flow (commented_sequence at_start start items at_end) s role column = refl
within_flow (commented_mapping at_start start pairs at_end) s role column = refl

-- no head lines are written there
no_lines : (lines : List HeadLine) (event : Event) (standing : Standing) → render_before lines left_out event standing ≡ no_head standing
no_lines [] event standing = refl
no_lines (line ∷ rest) event standing = refl

-- a node is written alone within flow if it is so after its head lines
alone_of : (n : CommentedNode) (s : Effective) (d : List TagDirective) (role : Role) (column : ℕ) (standing : Standing)
    → (let place = entry_place true role column in
    let head = head_of s place (first_event n) (none_wait standing) in
    render_commented n s d place (none_wait standing) ≡ headed_all head.text (render_node (node_of n) s d place head.standing)
    → render_commented n s d place (none_wait standing) ≡ alone_all (render_node (node_of n) s d place standing))
alone_of n s d role column standing headed =
    let place = entry_place true role column in
    let event = first_event n in
    let after = λ (head : Headed). headed_all head.text (render_node (node_of n) s d place head.standing) in
    let rendered = render_node (node_of n) s d place standing in
    headed ∙ ap (λ at. after (render_before event.comments.head at event.event standing)) (same_place s.canonical)
    ∙ ap after (no_lines event.comments.head event.event standing)
    ∙ ap (λ pieces. let made : RenderedCommentedPieces = record { pieces = pieces; standing = none_wait rendered.standing } in made)
    (alone_headed rendered.pieces)

mutual
  -- a node that is written in one has its own pieces after its head lines
  pub node_headed : (n : CommentedNode) (s : Effective) (d : List TagDirective) (place : Place) (before : CommentedStanding) → HeadsOnly n
      → is_in_one s place n ≡ true
      → render_commented n s d place before
      ≡ (let head = head_of s place (first_event n) before in headed_all head.text (render_node (node_of n) s d place head.standing))
  node_headed (commented_alias comments name) s d place before none one =
      leaf_headed s place (commented_event comments (alias name)) (not s.canonical && ends_line place)
      (alias_piece s place (is_simple_at place s.canonical d (alias_node name)) name) before none
  node_headed (commented_scalar comments content) s d place before none one =
      leaf_headed s place (commented_event comments (scalar content)) (not s.canonical && ends_line place)
      (scalar_piece s d place (is_simple_at place s.canonical d (scalar_node content)) content) before none
  node_headed (commented_sequence at_start c items at_end) s d place before none one =
      let empty = has_no_nodes (nodes_of items) in
      let undented = is_undented s place.role in
      let start = commented_event at_start (sequence_start c) in
      let ends = commented_event at_end sequence_end in
      let begun = start_piece s d place (is_simple_at place s.canonical d (sequence_node c (nodes_of items))) c in
      let head = head_of s place start before in
      ap (λ in_flow. render_commented_collection s place
      (record { brackets = square; in_flow = in_flow; undented = undented; empty = empty }) start ends begun
      (render_commented_nodes items s d in_flow) before) one
      ∙ flow_headed s place square undented empty start ends begun (render_commented_nodes items s d true) (render_nodes (nodes_of items) s d true) before
      none.0 none.1.1 (λ column standing. items_alone items s d column standing none.1.0)
      ∙ ap (λ in_flow. headed_all head.text (render_collection s square in_flow undented empty place.column (begun head.standing)
      (render_nodes (nodes_of items) s d in_flow))) (sym one)
  node_headed (commented_mapping at_start c pairs at_end) s d place before none one =
      let empty = has_no_pairs (pairs_of pairs) in
      let start = commented_event at_start (mapping_start c) in
      let ends = commented_event at_end mapping_end in
      let begun = start_piece s d place (is_simple_at place s.canonical d (mapping_node c (pairs_of pairs))) c in
      let head = head_of s place start before in
      ap (λ in_flow. render_commented_collection s place
      (record { brackets = curly; in_flow = in_flow; undented = false; empty = empty }) start ends begun
      (render_commented_pairs pairs s d in_flow) before) one
      ∙ flow_headed s place curly false empty start ends begun (render_commented_pairs pairs s d true) (render_pairs (pairs_of pairs) s d true) before
      none.0 none.1.1 (λ column standing. pairs_alone pairs s d column standing none.1.0)
      ∙ ap (λ in_flow. headed_all head.text (render_collection s curly in_flow false empty place.column (begun head.standing)
      (render_pairs (pairs_of pairs) s d in_flow))) (sym one)

  items_alone : (items : CommentedNodes) (s : Effective) (d : List TagDirective) (column : ℕ) (standing : Standing) → ItemHeadsOnly items
      → render_commented_nodes items s d true column (none_wait standing) ≡ alone_all (render_nodes (nodes_of items) s d true column standing)
  items_alone no_commented_nodes s d column standing none = refl
  items_alone (commented_nodes_and items last) s d column standing none =
      let role = as_item (has_no_nodes (nodes_of items)) in
      let place = entry_place true role column in
      let before = render_nodes (nodes_of items) s d true column standing in
      ap (λ first. then_commented_pieces first (render_commented last s d place)) (items_alone items s d column standing none.0)
      ∙ alone_then before (render_commented last s d place) (render_node (node_of last) s d place)
      (alone_of last s d role column before.standing
      (node_headed last s d place (none_wait before.standing) none.1 (within_flow last s role column)))

  pairs_alone : (pairs : CommentedPairs) (s : Effective) (d : List TagDirective) (column : ℕ) (standing : Standing) → PairHeadsOnly pairs
      → render_commented_pairs pairs s d true column (none_wait standing) ≡ alone_all (render_pairs (pairs_of pairs) s d true column standing)
  pairs_alone no_commented_pairs s d column standing none = refl
  pairs_alone (commented_pairs_and pairs key value) s d column standing none =
      let key_role = as_key (has_no_pairs (pairs_of pairs)) in
      let value_role = as_value (is_simple s.canonical d (node_of key)) in
      let at_key = entry_place true key_role column in
      let at_value = entry_place true value_role column in
      let before = render_pairs (pairs_of pairs) s d true column standing in
      let keyed = then_pieces before (render_node (node_of key) s d at_key) in
      ap (λ first. then_commented_pieces (then_commented_pieces first (render_commented key s d at_key)) (render_commented value s d at_value))
      (pairs_alone pairs s d column standing none.0)
      ∙ ap (λ first. then_commented_pieces first (render_commented value s d at_value))
      (alone_then before (render_commented key s d at_key) (render_node (node_of key) s d at_key)
      (alone_of key s d key_role column before.standing
      (node_headed key s d at_key (none_wait before.standing) none.1.0 (within_flow key s key_role column))))
      ∙ alone_then keyed (render_commented value s d at_value) (render_node (node_of value) s d at_value)
      (alone_of value s d value_role column keyed.standing
      (node_headed value s d at_value (none_wait keyed.standing) none.1.1 (within_flow value s value_role column)))

-- Text

-- pieces that begin with one
record Begun (pieces : List Piece) : Type 0 where
  pub first : Piece
  pub rest : List Piece
  pub is : pieces ≡ first ∷ rest

node_begun : (n : CommentedNode) (s : Effective) (d : List TagDirective) (place : Place) (standing : Standing)
    → Begun (render_node (node_of n) s d place standing).pieces
node_begun (commented_alias comments name) s d place standing = record { first = _; rest = _; is = refl }
node_begun (commented_scalar comments content) s d place standing = record { first = _; rest = _; is = refl }
node_begun (commented_sequence at_start start items at_end) s d place standing = record { first = _; rest = _; is = refl }
node_begun (commented_mapping at_start start pairs at_end) s d place standing = record { first = _; rest = _; is = refl }

-- the text of pieces after a head
headed_text : (head : Text) (pieces : List Piece) → Begun pieces → commented_text_of (headed_pieces head pieces) ≡ head ++ text_of pieces
headed_text head pieces begun =
    let others = commented_text_of (map piece_alone begun.rest) in
    let own = text_with_line [] begun.first in
    ap (λ pieces. commented_text_of (headed_pieces head pieces)) begun.is ∙ append_assoc head own others
    ∙ ap (λ t. head ++ (t ++ others)) (text_bare begun.first)
    ∙ ap (λ t. head ++ (piece_text begun.first ++ t)) (texts_bare begun.rest) ∙ sym (ap (λ pieces. head ++ text_of pieces) begun.is)

-- so is that of a node that is written in one
pub node_headed_text : (n : CommentedNode) (s : Effective) (d : List TagDirective) (place : Place) (before : CommentedStanding) → HeadsOnly n
    → is_in_one s place n ≡ true
    → commented_text_of (render_commented n s d place before).pieces
    ≡ (let head = head_of s place (first_event n) before in head.text ++ text_of (render_node (node_of n) s d place head.standing).pieces)
node_headed_text n s d place before none one =
    let head = head_of s place (first_event n) before in
    ap (λ (made : RenderedCommentedPieces). commented_text_of made.pieces) (node_headed n s d place before none one)
    ∙ headed_text head.text (render_node (node_of n) s d place head.standing).pieces (node_begun n s d place head.standing)
