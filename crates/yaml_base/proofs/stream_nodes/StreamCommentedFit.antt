-- The central law with comments: a node in a block inside a collection fits with head lines wherever they have a place, if its leaves, its simple keys and
-- the properties of its collections do.
use Rattle.yaml_base.proofs.Common.{ℕ, suc, ◌+◌, ◌≤◌, Bool, false, true, Some, List, [], ◌∷◌, ◌++◌, ◌≡◌, ◌==◌, refl, ap, sym, ◌∙◌, subst}
use Rattle.yaml_base.proofs.Common.{arith, true≢false, if◌then◌else◌, not, and_parts, or-true, Rendered, Rules, TagDirective, Effective, Standing, Place, Role}
use Rattle.yaml_base.proofs.Common.{entry_place, as_item, as_key, as_value}
use Rattle.yaml_base.proofs.Common.{has_no_nodes, has_no_pairs, is_simple, is_simple_at, is_undented, is_written_in_flow, square}
use Rattle.yaml_base.proofs.Common.{curly, start_piece, collection_tag}
use Rattle.yaml_base.proofs.Common.{entries_column, render_node, render_place, sequence_end, mapping_end, sequence_start, mapping_start, text_of, sequence_tree}
use Rattle.yaml_base.proofs.Common.{mapping_tree}
use Rattle.yaml_base.proofs.CommentedLeaves.{HeadsOnly, ItemHeadsOnly, PairHeadsOnly, first_event, head_of, is_in_one, node_headed, node_headed_text}
use Rattle.yaml_base.proofs.stream_lines.StreamClosed.{indicator_cursor, margin_cursor}
use Rattle.yaml_base.proofs.stream_nodes.{StreamAgrees.node_tree, StreamAgrees.nodes_tree}
use Rattle.yaml_base.proofs.stream_nodes.{StreamAgrees.pairs_tree, StreamFits.items_size, StreamFits.pairs_size}
use Rattle.yaml_base.proofs.stream_nodes.StreamFits.{Fits, size}
use Rattle.yaml_base.proofs.stream_nodes.StreamCommentedBlocks.{block_commented}
use Rattle.yaml_base.proofs.stream_nodes.StreamCommentedItems.{CommentedLaid, item_commented}
use Rattle.yaml_base.proofs.stream_nodes.StreamCommentedLeaves.{CommentedFits, HeadedFits, head_lines_of, in_one_fits, symbols_of}
use Rattle.yaml_base.proofs.stream_nodes.StreamNodesFit.{BegunReads, EitherType, ItemLeaves, LeafFits, Leaves, PairLeaves, Stands, not_empty, render_begun}
use Rattle.yaml_base.specs.Comments.{HeadLine, render_lines, bars_blank}
use Rattle.yaml_base.specs.CommentedNodes.{CommentedNode, CommentedNodes, CommentedPairs, RenderedCommentedPieces, commented_alias, commented_event}
use Rattle.yaml_base.specs.CommentedNodes.{commented_mapping, commented_nodes_and, commented_pairs_and}
use Rattle.yaml_base.specs.CommentedNodes.{commented_scalar, commented_sequence, no_commented_nodes}
use Rattle.yaml_base.specs.CommentedNodes.{no_commented_pairs, node_of, nodes_of, pairs_of, render_commented, render_commented_collection}
use Rattle.yaml_base.specs.CommentedNodes.{render_commented_nodes, render_commented_pairs}
use Rattle.yaml_base.specs.CommentedSteps.{CommentedStanding, Headed, at_column, head_at, left_out, node_place, render_before}
use Rattle.yaml_base.proofs.stream_nodes.StreamCommentedPairs.{KeyMade, key_at, pair_commented, value_head, value_symbols}
use Rattle.yaml_base.proofs.stream_nodes.StreamPairs.{KeyFits, colon_cursor, value_cursor, value_place}
use Rattle.yaml_base.proofs.stream_nodes.StreamPairReads.{colon_ends}
use Rattle.yaml_base.proofs.stream_nodes.StreamTexts.{node_joined, node_own}
use Rattle.yaml_base.proofs.stream_nodes.StreamCommentedItems.{no_lines}

-- Ends

-- head lines at a column before a collection's end
sequence_lines : (column : ℕ) (lines : List HeadLine) (standing : Standing)
    → render_before lines (at_column column) sequence_end standing ≡ head_at column lines standing
sequence_lines column [] standing =
    ap (λ lines. let rendered = render_lines column lines standing.cursor in
    let made : Headed = record { text = rendered.text; standing = record { cursor = rendered.cursor; open_ended = standing.open_ended } } in made)
    (sym (no_lines (bars_blank (standing.open_ended == 2) standing.cursor)))
sequence_lines column (line ∷ rest) standing = refl

mapping_lines : (column : ℕ) (lines : List HeadLine) (standing : Standing)
    → render_before lines (at_column column) mapping_end standing ≡ head_at column lines standing
mapping_lines column [] standing = sequence_lines column [] standing
mapping_lines column (line ∷ rest) standing = refl

-- Simple keys

-- a simple key is written in one
simple_in_one : (n : CommentedNode) (s : Effective) (d : List TagDirective) (place : Place) → is_simple s.canonical d (node_of n) ≡ true
    → is_in_one s place n ≡ true
simple_in_one (commented_alias comments name) s d place h = refl
simple_in_one (commented_scalar comments content) s d place h = refl
simple_in_one (commented_sequence at_start start items at_end) s d place h = grind (arith, and_parts, or-true)
simple_in_one (commented_mapping at_start start pairs at_end) s d place h = grind (arith, and_parts, or-true)

-- its text is its own from the column on
abbrev simple_made : (n : CommentedNode) (rules : Rules) (s : Effective) (d : List TagDirective) (first : Bool) (e : ℕ) (before : CommentedStanding)
    → HeadsOnly n → is_simple s.canonical d (node_of n) ≡ true
    → KeyFits rules (node_own (node_of n) s d (key_at first e) (margin_cursor e)).text (node_tree (node_of n) s d (key_at first e))
    → KeyMade true rules s d n first e before
simple_made n rules s d first e before none simple fits =
    let place = key_at first e in
    let node = node_of n in
    let event = first_event n in
    let one = simple_in_one n s d place simple in
    let head = head_lines_of s place n before in
    let same : head ≡ head_of s place event before =
    ap (λ x. render_before (before.waiting ++ event.comments.head) (if s.canonical then left_out else node_place place (not x)) event.event before.standing)
    one in
    let own = node_own node s d place (margin_cursor e) in
    let placed = λ (x : Bool). let symbols = render_place s place x head.standing.cursor in
    let after = node_own node s d place symbols.cursor in
    let made : Rendered = record { text = symbols.text ++ after.text; cursor = after.cursor } in
    made in
    let joined = node_joined node s d place head.standing in
    record {
      own = own;
      text =
          node_headed_text n s d place before none one
          ∙ sym (ap (λ (head : Headed). head.text ++ text_of (render_node node s d place head.standing).pieces) same)
          ∙ ap (λ t. head.text ++ t) (joined.0 ∙ ap (λ x. (placed x).text) simple);
      ends =
          ap (λ (made : RenderedCommentedPieces). made.standing.standing.cursor) (node_headed n s d place before none one)
          ∙ sym (ap (λ (head : Headed). (render_node node s d place head.standing).standing.cursor) same)
          ∙ joined.1 ∙ ap (λ x. (placed x).cursor) simple;
      fits = fits;
    }

-- a key and its value fit if they do at the cursors where they are written
pair_parts : (key value : CommentedNode) (rules : Rules) (s : Effective) (d : List TagDirective) → s.canonical ≡ false → (first : Bool) (e : ℕ)
    (before : CommentedStanding) → HeadsOnly key → (x : Bool) → is_simple s.canonical d (node_of key) ≡ x
    → (let keyed = (render_commented key s d (key_at first e) before).standing in
    let key_cursor = (symbols_of s d (key_at first e) key before).cursor in
    (Stands (Some e) key_cursor → Leaves (node_of key) rules s d (key_at first e) key_cursor → CommentedFits rules s d key (key_at first e) before)
    → ((x : Bool) → Stands (Some e) (symbols_of s d (value_place x e) value keyed).cursor
    → Leaves (node_of value) rules s d (value_place x e) (symbols_of s d (value_place x e) value keyed).cursor
    → CommentedFits rules s d value (value_place x e) keyed)
    → (let own = node_own (node_of key) s d (key_at first e) (margin_cursor e) in
    EitherType x
    (KeyFits rules own.text (node_tree (node_of key) s d (key_at first e)) × Leaves (node_of value) rules s d (value_place true e) (colon_cursor own.cursor))
    (Leaves (node_of key) rules s d (key_at first e) (indicator_cursor e) × Leaves (node_of value) rules s d (value_place false e) (indicator_cursor e))
    → KeyMade x rules s d key first e before × CommentedFits rules s d value (value_place x e) keyed))
pair_parts key value rules s d plain first e before none x h key_fits value_fits leaves = by x h leaves
  where
    keyed : CommentedStanding
    keyed = (render_commented key s d (key_at first e) before).standing

    own : Rendered
    own = node_own (node_of key) s d (key_at first e) (margin_cursor e)

    symbols_are : (x : Bool) (k : Rendered) → keyed.standing.cursor ≡ k.cursor
        → value_cursor x e k ≡ (symbols_of s d (value_place x e) value keyed).cursor
    symbols_are x k same =
        sym (ap (λ (h : Headed). (render_place s (value_place x e) false h.standing.cursor).cursor) (value_head s x e value keyed plain)
        ∙ value_symbols x s e keyed.standing.cursor k same)

    held : (x : Bool) (k : Rendered) → keyed.standing.cursor ≡ k.cursor → Stands (Some e) (value_cursor x e k)
        → Leaves (node_of value) rules s d (value_place x e) (value_cursor x e k) → CommentedFits rules s d value (value_place x e) keyed
    held x k same stands each =
        value_fits x (subst (Stands (Some e)) (symbols_are x k same) stands)
        (subst (Leaves (node_of value) rules s d (value_place x e)) (symbols_are x k same) each)

    complex : is_simple s.canonical d (node_of key) ≡ false → Leaves (node_of key) rules s d (key_at first e) (indicator_cursor e)
        → KeyMade false rules s d key first e before
    complex h each =
        let head = head_lines_of s (key_at first e) key before in
        let cursor_is : indicator_cursor e ≡ (symbols_of s d (key_at first e) key before).cursor =
        sym (ap (λ x. (render_place s (key_at first e) x head.standing.cursor).cursor) h) in
        let fit = key_fits (subst (Stands (Some e)) cursor_is (refl, λ i. refl))
        (subst (Leaves (node_of key) rules s d (key_at first e)) cursor_is each) in
        record {
          own = fit.own;
          text = fit.text ∙ ap (λ x. head.text ++ ((render_place s (key_at first e) x head.standing.cursor).text ++ fit.own.text)) h;
          ends = fit.ends;
          fits = subst (λ c. Fits rules (size (node_of key)) fit.own (node_tree (node_of key) s d (key_at first e)) (key_at first e) c)
              (sym cursor_is) fit.fit.fits;
        }

    by : (x : Bool) → is_simple s.canonical d (node_of key) ≡ x
        → EitherType x
        (KeyFits rules own.text (node_tree (node_of key) s d (key_at first e))
        × Leaves (node_of value) rules s d (value_place true e) (colon_cursor own.cursor))
        (Leaves (node_of key) rules s d (key_at first e) (indicator_cursor e) × Leaves (node_of value) rules s d (value_place false e) (indicator_cursor e))
        → KeyMade x rules s d key first e before × CommentedFits rules s d value (value_place x e) keyed
    by true h leaves =
        let k = simple_made key rules s d first e before none h leaves.0 in
        (k, held true own k.ends (refl, λ i. absurd (true≢false (sym i ∙ colon_ends own.cursor))) leaves.1)
    by false h leaves =
        let k = complex h leaves.0 in
        (k, held false k.own k.ends (refl, λ i. refl) leaves.1)

-- The law

module _ (rules : Rules) (s : Effective) (d : List TagDirective) (deep : 2 ≤ s.indent) (plain : s.canonical ≡ false) where
  -- a node fits if its leaves do; so do the items of a sequence and the pairs of a mapping
  mutual
    pub commented_fits : (n : CommentedNode) (role : Role) (c : ℕ) (before : CommentedStanding) → HeadsOnly n
        → (let place = entry_place false role c in
        let cursor = (symbols_of s d place n before).cursor in
        Stands (Some c) cursor → Leaves (node_of n) rules s d place cursor → CommentedFits rules s d n place before)
    commented_fits (commented_alias comments name) role c before none stands leaves =
        in_one_fits (commented_alias comments name) rules s d (entry_place false role c) before none refl leaves
    commented_fits (commented_scalar comments content) role c before none stands leaves =
        in_one_fits (commented_scalar comments content) rules s d (entry_place false role c) before none refl leaves
    commented_fits (commented_sequence at_start start items at_end) role c before none stands leaves =
        by in_flow refl stands leaves (λ e before leaves some. items_commented items e before none.1.0 leaves some)
      where
        n : CommentedNode
        n = commented_sequence at_start start items at_end

        place : Place
        place = entry_place false role c

        empty : Bool
        empty = has_no_nodes (nodes_of items)

        in_flow : Bool
        in_flow = is_written_in_flow s place start empty

        simple : Bool
        simple = is_simple_at place s.canonical d (node_of n)

        head_at_form : Bool → Headed
        head_at_form x =
            render_before (before.waiting ++ at_start.head) (if s.canonical then left_out else node_place place (not x)) (sequence_start start) before.standing

        symbols : Bool → Rendered
        symbols x = render_place s place simple (head_at_form x).standing.cursor

        column : Bool → ℕ
        column x = entries_column false (is_undented s role) s.indent (Some c) (render_begun s d start (symbols x).cursor).cursor

        Goal : Bool → Type 0
        Goal x = HeadedFits rules
            (render_commented_collection s place (record { brackets = square; in_flow = x; undented = is_undented s role; empty = empty })
            (commented_event at_start (sequence_start start)) (commented_event at_end sequence_end) (start_piece s d place simple start)
            (render_commented_nodes items s d x) before)
            (head_at_form x) (symbols x) (suc (items_size (nodes_of items)))
            (sequence_tree start.anchor (collection_tag s.canonical start) (nodes_tree (nodes_of items) s d x)) place

        by : (x : Bool) → in_flow ≡ x → Stands (Some c) (symbols x).cursor
            → EitherType x (LeafFits rules s d (node_of n) place (symbols x).cursor)
            (BegunReads rules s d start (symbols x).cursor × ItemLeaves (nodes_of items) rules s d (column x))
            → ((e : ℕ) (before : CommentedStanding) → ItemLeaves (nodes_of items) rules s d e → has_no_nodes (nodes_of items) ≡ false
            → CommentedLaid true rules e before.standing.cursor (render_commented_nodes items s d false e before) (items_size (nodes_of items))
            (nodes_tree (nodes_of items) s d false))
            → Goal x
        by true h stands leaf laid =
            subst Goal h
            (in_one_fits n rules s d place before none h (subst (λ x. LeafFits rules s d (node_of n) place (symbols x).cursor) (sym h) leaf))
        by false h stands each laid =
            block_commented true rules s d start square empty simple role c before (commented_event at_start (sequence_start start))
            (commented_event at_end sequence_end) (render_commented_nodes items s d false) (items_size (nodes_of items))
            (nodes_tree (nodes_of items) s d false) deep plain none.0 none.1.1 sequence_lines stands each.0
            (laid (column false) _ each.1 (not_empty s place start empty h))
    commented_fits (commented_mapping at_start start pairs at_end) role c before none stands leaves =
        by in_flow refl stands leaves (λ e before leaves some. pairs_commented pairs e before none.1.0 leaves some)
      where
        n : CommentedNode
        n = commented_mapping at_start start pairs at_end

        place : Place
        place = entry_place false role c

        empty : Bool
        empty = has_no_pairs (pairs_of pairs)

        in_flow : Bool
        in_flow = is_written_in_flow s place start empty

        simple : Bool
        simple = is_simple_at place s.canonical d (node_of n)

        head_at_form : Bool → Headed
        head_at_form x =
            render_before (before.waiting ++ at_start.head) (if s.canonical then left_out else node_place place (not x)) (mapping_start start) before.standing

        symbols : Bool → Rendered
        symbols x = render_place s place simple (head_at_form x).standing.cursor

        column : Bool → ℕ
        column x = entries_column false false s.indent (Some c) (render_begun s d start (symbols x).cursor).cursor

        Goal : Bool → Type 0
        Goal x = HeadedFits rules
            (render_commented_collection s place (record { brackets = curly; in_flow = x; undented = false; empty = empty })
            (commented_event at_start (mapping_start start)) (commented_event at_end mapping_end) (start_piece s d place simple start)
            (render_commented_pairs pairs s d x) before)
            (head_at_form x) (symbols x) (suc (pairs_size (pairs_of pairs)))
            (mapping_tree start.anchor (collection_tag s.canonical start) (pairs_tree (pairs_of pairs) s d x)) place

        by : (x : Bool) → in_flow ≡ x → Stands (Some c) (symbols x).cursor
            → EitherType x (LeafFits rules s d (node_of n) place (symbols x).cursor)
            (BegunReads rules s d start (symbols x).cursor × PairLeaves (pairs_of pairs) rules s d (column x))
            → ((e : ℕ) (before : CommentedStanding) → PairLeaves (pairs_of pairs) rules s d e → has_no_pairs (pairs_of pairs) ≡ false
            → CommentedLaid false rules e before.standing.cursor (render_commented_pairs pairs s d false e before) (pairs_size (pairs_of pairs))
            (pairs_tree (pairs_of pairs) s d false))
            → Goal x
        by true h stands leaf laid =
            subst Goal h
            (in_one_fits n rules s d place before none h (subst (λ x. LeafFits rules s d (node_of n) place (symbols x).cursor) (sym h) leaf))
        by false h stands each laid =
            block_commented false rules s d start curly empty simple role c before (commented_event at_start (mapping_start start))
            (commented_event at_end mapping_end) (render_commented_pairs pairs s d false) (pairs_size (pairs_of pairs))
            (pairs_tree (pairs_of pairs) s d false) deep plain none.0 none.1.1 mapping_lines stands each.0
            (laid (column false) _ each.1 (not_empty s place start empty h))

    pub items_commented : (items : CommentedNodes) (e : ℕ) (before : CommentedStanding) → ItemHeadsOnly items → ItemLeaves (nodes_of items) rules s d e
        → has_no_nodes (nodes_of items) ≡ false
        → CommentedLaid true rules e before.standing.cursor (render_commented_nodes items s d false e before) (items_size (nodes_of items))
        (nodes_tree (nodes_of items) s d false)
    items_commented no_commented_nodes e before none leaves some = absurd (true≢false some)
    items_commented (commented_nodes_and items last) e before none leaves some =
        item_commented items last rules s d e before plain (λ some. items_commented items e before none.0 leaves.0 some)
        (commented_fits last (as_item (has_no_nodes (nodes_of items))) e (render_commented_nodes items s d false e before).standing none.1
        (refl, λ h. refl) leaves.1)

    pub pairs_commented : (pairs : CommentedPairs) (e : ℕ) (before : CommentedStanding) → PairHeadsOnly pairs → PairLeaves (pairs_of pairs) rules s d e
        → has_no_pairs (pairs_of pairs) ≡ false
        → CommentedLaid false rules e before.standing.cursor (render_commented_pairs pairs s d false e before) (pairs_size (pairs_of pairs))
        (pairs_tree (pairs_of pairs) s d false)
    pairs_commented no_commented_pairs e before none leaves some = absurd (true≢false some)
    pairs_commented (commented_pairs_and pairs key value) e before none leaves some =
        let first = has_no_pairs (pairs_of pairs) in
        let made = render_commented_pairs pairs s d false e before in
        let keyed = (render_commented key s d (key_at first e) made.standing).standing in
        let parts = pair_parts key value rules s d plain first e made.standing none.1.0 (is_simple s.canonical d (node_of key)) refl
        (λ stands each. commented_fits key (as_key first) e made.standing none.1.0 stands each)
        (λ x stands each. commented_fits value (as_value x) e keyed none.1.1 stands each) leaves.1 in
        pair_commented pairs key value rules s d e before plain (λ some. pairs_commented pairs e before none.0 leaves.0 some) parts.0 parts.1
