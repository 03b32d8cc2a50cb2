-- The items of a sequence in a block, each after its head lines, are laid out if each of them fits.
use Rattle.yaml_base.proofs.Common.{ℕ, ◌+◌, Bool, false, true, List, [], ◌∷◌, ◌++◌, ◌≡◌, ◌==◌, refl, ap, sym, ◌∙◌, subst, append_assoc}
use Rattle.yaml_base.proofs.Common.{flat_map-append, if◌then◌else◌, Cursor, Rendered, Rules, TagDirective, Effective, Standing, as_item}
use Rattle.yaml_base.proofs.Common.{has_no_nodes, no_trees, trees_and, render_place, render_then}
use Rattle.yaml_base.proofs.CommentedLeaves.{first_event}
use Rattle.yaml_base.proofs.stream_nodes.{StreamAgrees.node_tree, StreamAgrees.nodes_tree, StreamFits.size, StreamFits.items_size, StreamFits.tree_anywhere}
use Rattle.yaml_base.proofs.stream_nodes.StreamCommentedEntries.{HeadedLaid, first_headed, next_headed, next_item}
use Rattle.yaml_base.proofs.stream_nodes.StreamCommentedLeaves.{CommentedFits, head_lines_of}
use Rattle.yaml_base.proofs.stream_nodes.{StreamItems.dash_place, StreamLaid.Content, StreamTexts.placed_own}
use Rattle.yaml_base.specs.Comments.{HeadLine, allowed_lines, bars_blank, commented_text, commented_text_of, render_head, render_lines}
use Rattle.yaml_base.specs.CommentedNodes.{CommentedNode, CommentedNodes, RenderedCommentedPieces, commented_alias, commented_mapping, commented_nodes_and}
use Rattle.yaml_base.specs.CommentedNodes.{commented_scalar, commented_sequence, no_commented_nodes, node_of, nodes_of, render_commented}
use Rattle.yaml_base.specs.CommentedNodes.{render_commented_nodes, then_commented_pieces}
use Rattle.yaml_base.specs.CommentedSteps.{CommentedStanding, Headed, at_column, head_at, left_out, render_before}

-- pieces with comments as one text
abbrev pub written_of : RenderedCommentedPieces → Rendered
written_of made = record { text = commented_text_of made.pieces; cursor = made.standing.standing.cursor }

-- that of pieces after others
pub written_then : (first : RenderedCommentedPieces) (next : CommentedStanding → RenderedCommentedPieces)
    → written_of (then_commented_pieces first next) ≡ render_then (written_of first) (λ at. written_of (next first.standing))
written_then first next =
    let second = next first.standing in
    ap (λ t. record { text = t; cursor = second.standing.standing.cursor }) (flat_map-append commented_text first.pieces second.pieces)

-- Heads

-- no head lines are no text
pub no_lines : (bars : Bool) → allowed_lines bars [] ≡ []
no_lines true = refl
no_lines false = refl

-- head lines at a column, as they are given; nothing else precedes a node
pub lines_at : (n : CommentedNode) (column : ℕ) (lines : List HeadLine) (standing : Standing)
    → render_before lines (at_column column) (first_event n).event standing ≡ head_at column lines standing
lines_at n column [] standing =
    ap (λ lines. let rendered = render_lines column lines standing.cursor in
    let made : Headed = record { text = rendered.text; standing = record { cursor = rendered.cursor; open_ended = standing.open_ended } } in made)
    (sym (no_lines (bars_blank (standing.open_ended == 2) standing.cursor)))
lines_at (commented_alias comments name) column (line ∷ rest) standing = refl
lines_at (commented_scalar comments content) column (line ∷ rest) standing = refl
lines_at (commented_sequence at_start start items at_end) column (line ∷ rest) standing = refl
lines_at (commented_mapping at_start start pairs at_end) column (line ∷ rest) standing = refl

-- so it is for an item
item_head : (s : Effective) (x : Bool) (e : ℕ) (n : CommentedNode) (before : CommentedStanding) → s.canonical ≡ false
    → head_lines_of s (dash_place x e) n before ≡ head_at e (before.waiting ++ (first_event n).comments.head) before.standing
item_head s x e n before plain =
    let first = first_event n in
    let lines = before.waiting ++ first.comments.head in
    ap (λ b. render_before lines (if b then left_out else at_column e) first.event before.standing) plain ∙ lines_at n e lines before.standing

-- Items

-- entries with comments from a cursor on, after which the writer bars blank lines wherever these are barred
pub record CommentedLaid (q : Bool) (rules : Rules) (e : ℕ) (cursor : Cursor) (made : RenderedCommentedPieces) (size : ℕ) (content : Content q) : Type 0 where
  pub bars : Bool
  pub laid : HeadedLaid q rules e cursor (written_of made) size content bars
  pub less : bars_blank (made.standing.standing.open_ended == 2) made.standing.standing.cursor ≡ false → bars ≡ false

-- an item as it is written after other text
item_written : (s : Effective) (d : List TagDirective) (x : Bool) (e : ℕ) (n : CommentedNode) (rules : Rules) (first : RenderedCommentedPieces)
    → s.canonical ≡ false → (fit : CommentedFits rules s d n (dash_place x e) first.standing)
    → written_of (then_commented_pieces first (render_commented n s d (dash_place x e)))
    ≡ placed_own s (dash_place x e) false
    (render_then (written_of first) (render_head e (first.standing.standing.open_ended == 2) (first.standing.waiting ++ (first_event n).comments.head)))
    (λ at. fit.own)
item_written s d x e n rules first plain fit =
    let place = dash_place x e in
    let lines = first.standing.waiting ++ (first_event n).comments.head in
    let head = render_head e (first.standing.standing.open_ended == 2) lines first.standing.standing.cursor in
    let text = commented_text_of first.pieces in
    written_then first (render_commented n s d place)
    ∙ ap (λ t. record { text = text ++ t; cursor = (render_commented n s d place first.standing).standing.standing.cursor })
    (fit.text ∙ ap (λ (h : Headed). h.text ++ ((render_place s place false h.standing.cursor).text ++ fit.own.text)) (item_head s x e n first.standing plain))
    ∙ ap (λ c. record { text = text ++ (head.text ++ ((render_place s place false head.cursor).text ++ fit.own.text)); cursor = c }) fit.ends
    ∙ ap (λ t. record { text = t; cursor = fit.own.cursor })
    (sym (append_assoc text head.text ((render_place s place false head.cursor).text ++ fit.own.text)))

-- the first item after its head lines, or one more after others
headed_item : (items : CommentedNodes) (last : CommentedNode) (rules : Rules) (s : Effective) (d : List TagDirective) (e : ℕ) (before : CommentedStanding)
    → (let x = has_no_nodes (nodes_of items) in
    let first = render_commented_nodes items s d false e before in
    let trees = nodes_tree (nodes_of items) s d false in
    let lines = first.standing.waiting ++ (first_event last).comments.head in
    let tree = node_tree (node_of last) s d (dash_place x e) in
    (x ≡ false → CommentedLaid true rules e before.standing.cursor first (items_size (nodes_of items)) trees)
    → (fit : CommentedFits rules s d last (dash_place x e) first.standing)
    → HeadedLaid true rules e before.standing.cursor
    (placed_own s (dash_place x e) false (render_then (written_of first) (render_head e (first.standing.standing.open_ended == 2) lines)) (λ at. fit.own))
    (items_size (nodes_of items) + size (node_of last)) (trees_and trees tree) fit.bars)
headed_item no_commented_nodes last rules s d e before all fit =
    let tree = node_tree (node_of last) s d (dash_place true e) in
    first_headed true rules e before.standing.cursor (before.standing.open_ended == 2) (before.waiting ++ (first_event last).comments.head)
    (λ first. placed_own s (dash_place true e) false first (λ at. fit.own)) (size (node_of last)) (trees_and no_trees tree) fit.bars
    (next_item rules s true e (size (node_of last)) (λ at. fit.own) no_trees tree fit.bars fit.fit)
headed_item (commented_nodes_and items item) last rules s d e before all fit =
    let others = commented_nodes_and items item in
    let first = render_commented_nodes others s d false e before in
    let trees = nodes_tree (nodes_of others) s d false in
    let tree = node_tree (node_of last) s d (dash_place false e) in
    let laid = all refl in
    next_headed true rules e before.standing.cursor (first.standing.standing.open_ended == 2)
    (first.standing.waiting ++ (first_event last).comments.head) (written_of first)
    (λ first. placed_own s (dash_place false e) false first (λ at. fit.own)) (items_size (nodes_of others)) (size (node_of last)) trees
    (trees_and trees tree) laid.bars fit.bars laid.laid laid.less
    (next_item rules s false e (size (node_of last)) (λ at. fit.own) trees tree fit.bars fit.fit)

-- so are items if those before the last are, and the last fits
pub item_commented : (items : CommentedNodes) (last : CommentedNode) (rules : Rules) (s : Effective) (d : List TagDirective) (e : ℕ)
    (before : CommentedStanding) → s.canonical ≡ false
    → (has_no_nodes (nodes_of items) ≡ false
    → CommentedLaid true rules e before.standing.cursor (render_commented_nodes items s d false e before) (items_size (nodes_of items))
    (nodes_tree (nodes_of items) s d false))
    → CommentedFits rules s d last (dash_place (has_no_nodes (nodes_of items)) e) (render_commented_nodes items s d false e before).standing
    → CommentedLaid true rules e before.standing.cursor (render_commented_nodes (commented_nodes_and items last) s d false e before)
    (items_size (nodes_of (commented_nodes_and items last))) (nodes_tree (nodes_of (commented_nodes_and items last)) s d false)
item_commented items last rules s d e before plain all fit =
    let x = has_no_nodes (nodes_of items) in
    let first = render_commented_nodes items s d false e before in
    let ended = (render_commented last s d (dash_place x e) first.standing).standing in
    let whole = written_of (render_commented_nodes (commented_nodes_and items last) s d false e before) in
    let trees = nodes_tree (nodes_of items) s d false in
    let tree = node_tree (node_of last) s d (dash_place x e) in
    let sizes = items_size (nodes_of items) + size (node_of last) in
    record {
      bars = fit.bars;
      laid =
          subst (λ t. HeadedLaid true rules e before.standing.cursor whole sizes (trees_and trees t) fit.bars)
          (tree_anywhere (node_of last) s d false (as_item x) e 0)
          (subst (λ own. HeadedLaid true rules e before.standing.cursor own sizes (trees_and trees tree) fit.bars)
          (sym (item_written s d x e last rules first plain fit)) (headed_item items last rules s d e before all fit));
      less = λ allowed. fit.less (ap (λ c. bars_blank (ended.standing.open_ended == 2) c) (sym fit.ends) ∙ allowed);
    }
