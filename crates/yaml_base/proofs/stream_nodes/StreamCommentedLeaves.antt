-- A node with comments in a block that is written in one fits after its head lines and the indicators of its place.
use Rattle.yaml_base.proofs.Common.{arith, ℕ, Bool, false, true, Option, List, ◌++◌, ◌≡◌, ◌==◌, ◌&&◌, refl, ap, sym, ◌∙◌, if◌then◌else◌}
use Rattle.yaml_base.proofs.Common.{not, Cursor, Rendered, TagDirective, Node, alias_node, scalar_node, sequence_node, mapping_node, Standing, Effective}
use Rattle.yaml_base.proofs.Common.{text_of, Brackets, Place, Rules, Tree, choice_of, curly, deeper, is_simple_at, render_end, render_node}
use Rattle.yaml_base.proofs.Common.{render_place, square, has_no_nodes}
use Rattle.yaml_base.proofs.Common.{has_no_pairs, is_written_in_flow, None}
use Rattle.yaml_base.specs.NodeLayout.{scalar_lead}
use Rattle.yaml_base.proofs.CommentedLeaves.{HeadsOnly, first_event, head_of, is_in_one, node_headed, node_headed_text}
use Rattle.yaml_base.proofs.stream_nodes.{StreamAgrees.node_tree, StreamFits.Fits, StreamFits.FitsOr, StreamFits.size, StreamScalarLeaves.blank_allowed}
use Rattle.yaml_base.proofs.stream_nodes.StreamNodesFit.{LeafFits, keeps_last}
use Rattle.yaml_base.proofs.stream_nodes.StreamTexts.{node_joined, node_own}
use Rattle.yaml_base.specs.Comments.{bars_blank, commented_text_of}
use Rattle.yaml_base.specs.CommentedNodes.{CommentedNode, RenderedCommentedPieces, commented_alias, commented_mapping, commented_scalar}
use Rattle.yaml_base.specs.CommentedNodes.{commented_sequence, node_of, nodes_of, pairs_of, render_commented}
use Rattle.yaml_base.specs.CommentedSteps.{CommentedStanding, Headed, left_out, node_place, render_before}

-- the head lines of a node in a block
abbrev pub head_lines_of : Effective → Place → CommentedNode → CommentedStanding → Headed
head_lines_of s place n before =
    let first = first_event n in
    render_before (before.waiting ++ first.comments.head)
    (if s.canonical then left_out else node_place place (not (is_in_one s place n))) first.event before.standing

-- the indicators of its place after them
abbrev pub symbols_of : Effective → List TagDirective → Place → CommentedNode → CommentedStanding → Rendered
symbols_of s directives place n before =
    render_place s place (is_simple_at place s.canonical directives (node_of n)) (head_lines_of s place n before).standing.cursor

-- pieces with comments are a head, indicators and a text that fits, also with any number of blank lines after it, unless the writer bars these
pub record HeadedFits (rules : Rules) (made : RenderedCommentedPieces) (head : Headed) (symbols : Rendered) (size : ℕ) (tree : Tree) (place : Place)
    : Type 0 where
  pub own : Rendered
  pub bars : Bool
  pub text : commented_text_of made.pieces ≡ head.text ++ (symbols.text ++ own.text)
  pub ends : made.standing.standing.cursor ≡ own.cursor
  pub fit : FitsOr rules size own tree place symbols.cursor bars
  pub less : bars_blank (made.standing.standing.open_ended == 2) own.cursor ≡ false → bars ≡ false

-- so are those of a node with comments in a block, from a state on
abbrev pub CommentedFits : Rules → Effective → List TagDirective → CommentedNode → Place → CommentedStanding → Type 0
CommentedFits rules s directives n place before =
    HeadedFits rules (render_commented n s directives place before) (head_lines_of s place n before) (symbols_of s directives place n before)
    (size (node_of n)) (node_tree (node_of n) s directives place) place

-- Blank lines

-- a collection in flow ends in a line
flow_ends : (s : Effective) (brackets : Brackets) (x empty keeps : Bool) (column : Option ℕ) (cursor : Cursor) → x ≡ true
    → ((render_end s brackets x empty column cursor).cursor.indention && keeps) ≡ false
flow_ends s brackets x empty keeps column cursor flow =
    ap (λ x. (render_end s brackets x empty column cursor).cursor.indention && keeps) flow ∙ by _
  where
    by : (y : Bool) → ((y && false) && keeps) ≡ false
    by true = refl
    by false = refl

-- if the writer bars no blank line after a node that is written in one, none is barred
allowed_after : (n : CommentedNode) (s : Effective) (d : List TagDirective) (place : Place) (standing : Standing) → is_in_one s place n ≡ true
    → (let after = (render_node (node_of n) s d place standing).standing in
    bars_blank (after.open_ended == 2) after.cursor ≡ false → (after.cursor.indention && keeps_last (node_of n)) ≡ false)
allowed_after (commented_alias comments name) s d place standing one h = refl
allowed_after (commented_scalar comments content) s d place standing one h =
    let simple = is_simple_at place s.canonical d (scalar_node content) in
    let choice = choice_of s place simple content in
    blank_allowed s choice.style (if simple then None else s.width) (deeper s.indent place.column) content.value
    (scalar_lead s d place simple choice content standing.cursor).cursor standing.open_ended h
allowed_after (commented_sequence at_start start items at_end) s d place standing one h =
    flow_ends s square (is_written_in_flow s place start (has_no_nodes (nodes_of items))) (has_no_nodes (nodes_of items))
    (keeps_last (sequence_node start (nodes_of items))) place.column _ one
allowed_after (commented_mapping at_start start pairs at_end) s d place standing one h =
    flow_ends s curly (is_written_in_flow s place start (has_no_pairs (pairs_of pairs))) (has_no_pairs (pairs_of pairs))
    (keeps_last (mapping_node start (pairs_of pairs))) place.column _ one

-- Nodes

-- a node is read at each depth from its size on if it is so from 1 on
larger_fits : (n : Node) (rules : Rules) (own : Rendered) (tree : Tree) (place : Place) (cursor : Cursor) → Fits rules 1 own tree place cursor
    → Fits rules (size n) own tree place cursor
larger_fits (alias_node name) rules own tree place cursor fit = fit
larger_fits (scalar_node content) rules own tree place cursor fit = fit
larger_fits (sequence_node start items) rules own tree place cursor fit = grind (arith)
larger_fits (mapping_node start pairs) rules own tree place cursor fit = grind (arith)

-- a node that is written in one fits
pub in_one_fits : (n : CommentedNode) (rules : Rules) (s : Effective) (d : List TagDirective) (place : Place) (before : CommentedStanding) → HeadsOnly n
    → is_in_one s place n ≡ true → LeafFits rules s d (node_of n) place (symbols_of s d place n before).cursor
    → CommentedFits rules s d n place before
in_one_fits n rules s d place before none one fit =
    let node = node_of n in
    let first = first_event n in
    let made = render_commented n s d place before in
    let head = head_lines_of s place n before in
    let same : head ≡ head_of s place first before =
    ap (λ x. render_before (before.waiting ++ first.comments.head) (if s.canonical then left_out else node_place place (not x)) first.event before.standing)
    one in
    let cursor = (symbols_of s d place n before).cursor in
    let own = node_own node s d place cursor in
    let rendered = render_node node s d place head.standing in
    let joined = node_joined node s d place head.standing in
    let is = ap (λ (made : RenderedCommentedPieces). made.standing.standing) (node_headed n s d place before none one)
    ∙ sym (ap (λ (head : Headed). (render_node node s d place head.standing).standing) same) in
    record {
      own = own;
      bars = own.cursor.indention && keeps_last node;
      text =
          node_headed_text n s d place before none one
          ∙ sym (ap (λ (head : Headed). head.text ++ text_of (render_node node s d place head.standing).pieces) same)
          ∙ ap (λ t. head.text ++ t) joined.0;
      ends = ap (λ (standing : Standing). standing.cursor) is ∙ joined.1;
      fit = record {
        fits = larger_fits node rules own (node_tree node s d place) place cursor fit.fits;
        spares = λ allowed count. larger_fits node rules _ (node_tree node s d place) place cursor (fit.spares allowed count);
      };
      less = λ allowed.
          ap (λ (c : Cursor). c.indention && keeps_last node) (sym joined.1)
          ∙ allowed_after n s d place head.standing one
          (ap (λ (c : Cursor). bars_blank (rendered.standing.open_ended == 2) c) joined.1
          ∙ ap (λ (standing : Standing). bars_blank (standing.open_ended == 2) own.cursor) (sym is) ∙ allowed);
    }
