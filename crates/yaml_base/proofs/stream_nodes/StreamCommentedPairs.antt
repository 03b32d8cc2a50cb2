-- The pairs of a mapping in a block, each after the head lines of its key, are laid out if each key and each value fits.
use Rattle.yaml_base.proofs.Common.{ℕ, ◌+◌, Bool, false, true, List, [], ◌∷◌, ◌++◌, ◌≡◌, ◌==◌, refl, ap, sym, ◌∙◌, subst, append_assoc, not, if◌then◌else◌}
use Rattle.yaml_base.proofs.Common.{Cursor, Rendered, Rules, TagDirective, Effective, Place, entry_place, as_key, as_value, has_no_pairs, is_simple}
use Rattle.yaml_base.proofs.Common.{no_tree_pairs, tree_pairs_and, render_place, render_then, Event, TreePairs}
use Rattle.yaml_base.proofs.CommentedLeaves.{first_event, is_in_one}
use Rattle.yaml_base.proofs.stream_nodes.{StreamAgrees.node_tree, StreamAgrees.pairs_tree, StreamFits.FitsOr, StreamFits.pairs_size, StreamFits.size}
use Rattle.yaml_base.proofs.stream_nodes.StreamFits.{tree_anywhere}
use Rattle.yaml_base.proofs.stream_nodes.StreamCommentedEntries.{HeadedLaid, NextEntry, first_headed, next_headed, next_pair}
use Rattle.yaml_base.proofs.stream_nodes.StreamCommentedItems.{CommentedLaid, lines_at, written_of, written_then}
use Rattle.yaml_base.proofs.stream_nodes.StreamCommentedLeaves.{CommentedFits, head_lines_of}
use Rattle.yaml_base.proofs.stream_nodes.StreamPairReads.{pair_own}
use Rattle.yaml_base.proofs.stream_nodes.StreamPairs.{KeyFitsAt, colon_cursor, value_cursor, value_place}
use Rattle.yaml_base.specs.Comments.{HeadLine, bars_blank, commented_text_of, render_head}
use Rattle.yaml_base.specs.CommentedNodes.{CommentedNode, CommentedPairs, RenderedCommentedPieces, commented_pairs_and, no_commented_pairs, node_of, pairs_of}
use Rattle.yaml_base.specs.CommentedNodes.{render_commented, render_commented_pairs, then_commented_pieces}
use Rattle.yaml_base.specs.CommentedSteps.{CommentedStanding, HeadPlace, Headed, at_column, head_at, left_out, no_head, node_place, render_before}

-- the place of a key
abbrev pub key_at : (first : Bool) → ℕ → Place
key_at first e = entry_place false (as_key first) e

-- a key as it is written after its head lines, a simple one or another
pub record KeyMade (x : Bool) (rules : Rules) (s : Effective) (d : List TagDirective) (n : CommentedNode) (first : Bool) (e : ℕ)
    (before : CommentedStanding) : Type 0 where
  pub own : Rendered
  pub text : commented_text_of (render_commented n s d (key_at first e) before).pieces
      ≡ (head_lines_of s (key_at first e) n before).text
      ++ ((render_place s (key_at first e) x (head_lines_of s (key_at first e) n before).standing.cursor).text ++ own.text)
  pub ends : (render_commented n s d (key_at first e) before).standing.standing.cursor ≡ own.cursor
  pub fits : KeyFitsAt x rules e first (size (node_of n)) own (node_tree (node_of n) s d (key_at first e))

-- Heads

-- the head lines of a key
key_head : (s : Effective) (first : Bool) (e : ℕ) (n : CommentedNode) (before : CommentedStanding) → s.canonical ≡ false
    → head_lines_of s (key_at first e) n before ≡ head_at e (before.waiting ++ (first_event n).comments.head) before.standing
key_head s first e n before plain =
    let event = first_event n in
    let lines = before.waiting ++ event.comments.head in
    ap (λ b. render_before lines (if b then left_out else at_column e) event.event before.standing) plain ∙ lines_at n e lines before.standing

-- a value has none
pub value_head : (s : Effective) (x : Bool) (e : ℕ) (n : CommentedNode) (before : CommentedStanding) → s.canonical ≡ false
    → head_lines_of s (value_place x e) n before ≡ no_head before.standing
value_head s x e n before plain =
    let event = first_event n in
    let lines = before.waiting ++ event.comments.head in
    ap (λ b. render_before lines (if b then left_out else value_lines (is_in_one s (value_place x e) n)) event.event before.standing) plain
    ∙ none lines (is_in_one s (value_place x e) n) event.event
  where
    value_lines : Bool → HeadPlace
    value_lines one = node_place (value_place x e) (not one)

    none : (lines : List HeadLine) (one : Bool) (event : Event) → render_before lines (value_lines one) event before.standing ≡ no_head before.standing
    none [] one event = refl
    none (line ∷ rest) true event = refl
    none (line ∷ rest) false event = refl

-- Pairs

-- the cursor after the indicator of a value
pub value_symbols : (x : Bool) (s : Effective) (e : ℕ) (cursor : Cursor) (key : Rendered) → cursor ≡ key.cursor
    → (render_place s (value_place x e) false cursor).cursor ≡ value_cursor x e key
value_symbols true s e cursor key same = ap colon_cursor same
value_symbols false s e cursor key same = refl

-- a pair as it is written after other text
pair_written : (s : Effective) (d : List TagDirective) (x first : Bool) (e : ℕ) (key value : CommentedNode) (rules : Rules) (made : RenderedCommentedPieces)
    → s.canonical ≡ false → (k : KeyMade x rules s d key first e made.standing)
    → (v : CommentedFits rules s d value (value_place x e) (render_commented key s d (key_at first e) made.standing).standing)
    → written_of (then_commented_pieces (then_commented_pieces made (render_commented key s d (key_at first e))) (render_commented value s d (value_place x e)))
    ≡ pair_own x s e first
    (render_then (written_of made) (render_head e (made.standing.standing.open_ended == 2) (made.standing.waiting ++ (first_event key).comments.head)))
    (λ at. k.own) (λ at. v.own)
pair_written s d x first e key value rules made plain k v =
    let lines = made.standing.waiting ++ (first_event key).comments.head in
    let head = render_head e (made.standing.standing.open_ended == 2) lines made.standing.standing.cursor in
    let text = commented_text_of made.pieces in
    let keyed = render_commented key s d (key_at first e) made.standing in
    let valued = render_commented value s d (value_place x e) keyed.standing in
    let both = then_commented_pieces made (render_commented key s d (key_at first e)) in
    let symbols = render_place s (key_at first e) x head.cursor in
    let key_text : commented_text_of keyed.pieces ≡ head.text ++ (symbols.text ++ k.own.text) =
    k.text
    ∙ ap (λ (h : Headed). h.text ++ ((render_place s (key_at first e) x h.standing.cursor).text ++ k.own.text)) (key_head s first e key made.standing plain) in
    let value_text : commented_text_of valued.pieces ≡ (render_place s (value_place x e) false k.own.cursor).text ++ v.own.text =
    v.text
    ∙ ap (λ (h : Headed). h.text ++ ((render_place s (value_place x e) false h.standing.cursor).text ++ v.own.text))
    (value_head s x e value keyed.standing plain)
    ∙ ap (λ c. (render_place s (value_place x e) false c).text ++ v.own.text) k.ends in
    written_then both (render_commented value s d (value_place x e))
    ∙ ap (λ (r : Rendered). record { text = r.text ++ commented_text_of valued.pieces; cursor = valued.standing.standing.cursor })
    (written_then made (render_commented key s d (key_at first e)))
    ∙ ap (λ t. record { text = (text ++ t) ++ commented_text_of valued.pieces; cursor = valued.standing.standing.cursor }) key_text
    ∙ ap (λ t. record { text = t ++ commented_text_of valued.pieces; cursor = valued.standing.standing.cursor })
    (sym (append_assoc text head.text (symbols.text ++ k.own.text)))
    ∙ ap (λ t. record { text = ((text ++ head.text) ++ (symbols.text ++ k.own.text)) ++ t; cursor = valued.standing.standing.cursor }) value_text
    ∙ ap (λ c. record {
      text = ((text ++ head.text) ++ (symbols.text ++ k.own.text)) ++ ((render_place s (value_place x e) false k.own.cursor).text ++ v.own.text);
      cursor = c;
    }) v.ends

-- the first pair after the head lines of its key, or one more after others
headed_pair : (pairs : CommentedPairs) (key value : CommentedNode) (rules : Rules) (s : Effective) (d : List TagDirective) (x : Bool) (e : ℕ)
    (before : CommentedStanding) → s.canonical ≡ false
    → (let first = has_no_pairs (pairs_of pairs) in
    let made = render_commented_pairs pairs s d false e before in
    let trees = pairs_tree (pairs_of pairs) s d false in
    let lines = made.standing.waiting ++ (first_event key).comments.head in
    let key_tree = node_tree (node_of key) s d (key_at first e) in
    let value_tree = node_tree (node_of value) s d (value_place x e) in
    (first ≡ false → CommentedLaid false rules e before.standing.cursor made (pairs_size (pairs_of pairs)) trees)
    → (k : KeyMade x rules s d key first e made.standing)
    → (v : CommentedFits rules s d value (value_place x e) (render_commented key s d (key_at first e) made.standing).standing)
    → HeadedLaid false rules e before.standing.cursor
    (pair_own x s e first (render_then (written_of made) (render_head e (made.standing.standing.open_ended == 2) lines)) (λ at. k.own) (λ at. v.own))
    (pairs_size (pairs_of pairs) + (size (node_of key) + size (node_of value))) (tree_pairs_and trees key_tree value_tree) v.bars)
headed_pair pairs key value rules s d x e before plain all k v = by pairs all k v
  where
    next : (first : Bool) (made : RenderedCommentedPieces) (trees : TreePairs) (k : KeyMade x rules s d key first e made.standing)
        (v : CommentedFits rules s d value (value_place x e) (render_commented key s d (key_at first e) made.standing).standing)
        → NextEntry false rules e (λ before. pair_own x s e first before (λ at. k.own) (λ at. v.own)) (size (node_of key) + size (node_of value)) trees
        (tree_pairs_and trees (node_tree (node_of key) s d (key_at first e)) (node_tree (node_of value) s d (value_place x e))) v.bars
    next first made trees k v =
        let keyed = (render_commented key s d (key_at first e) made.standing).standing in
        let value_tree = node_tree (node_of value) s d (value_place x e) in
        next_pair x rules s e (size (node_of key)) (size (node_of value)) first (λ at. k.own) (λ at. v.own) trees
        (node_tree (node_of key) s d (key_at first e)) value_tree v.bars k.fits
        (subst (λ c. FitsOr rules (size (node_of value)) v.own value_tree (value_place x e) c v.bars)
        (ap (λ (h : Headed). (render_place s (value_place x e) false h.standing.cursor).cursor) (value_head s x e value keyed plain)
        ∙ value_symbols x s e keyed.standing.cursor k.own k.ends) v.fit)

    by : (pairs : CommentedPairs)
        → (let first = has_no_pairs (pairs_of pairs) in
        let made = render_commented_pairs pairs s d false e before in
        let trees = pairs_tree (pairs_of pairs) s d false in
        let lines = made.standing.waiting ++ (first_event key).comments.head in
        (first ≡ false → CommentedLaid false rules e before.standing.cursor made (pairs_size (pairs_of pairs)) trees)
        → (k : KeyMade x rules s d key first e made.standing)
        → (v : CommentedFits rules s d value (value_place x e) (render_commented key s d (key_at first e) made.standing).standing)
        → HeadedLaid false rules e before.standing.cursor
        (pair_own x s e first (render_then (written_of made) (render_head e (made.standing.standing.open_ended == 2) lines)) (λ at. k.own) (λ at. v.own))
        (pairs_size (pairs_of pairs) + (size (node_of key) + size (node_of value)))
        (tree_pairs_and trees (node_tree (node_of key) s d (key_at first e)) (node_tree (node_of value) s d (value_place x e))) v.bars)
    by no_commented_pairs all k v =
        let one = next true (render_commented_pairs no_commented_pairs s d false e before) no_tree_pairs k v in
        first_headed false rules e before.standing.cursor (before.standing.open_ended == 2) (before.waiting ++ (first_event key).comments.head) _ _ _ v.bars one
    by (commented_pairs_and pairs other held) all k v =
        let others = commented_pairs_and pairs other held in
        let made = render_commented_pairs others s d false e before in
        let trees = pairs_tree (pairs_of others) s d false in
        let laid = all refl in
        next_headed false rules e before.standing.cursor (made.standing.standing.open_ended == 2)
        (made.standing.waiting ++ (first_event key).comments.head) (written_of made) _ (pairs_size
        (pairs_of others)) _ trees _ laid.bars v.bars laid.laid laid.less
        (next false made trees k v)

-- so are pairs if those before the last are, and the last key and value fit
pub pair_commented : (pairs : CommentedPairs) (key value : CommentedNode) (rules : Rules) (s : Effective) (d : List TagDirective) (e : ℕ)
    (before : CommentedStanding) → s.canonical ≡ false
    → (let x = is_simple s.canonical d (node_of key) in
    let first = has_no_pairs (pairs_of pairs) in
    let made = render_commented_pairs pairs s d false e before in
    let whole = commented_pairs_and pairs key value in
    (first ≡ false → CommentedLaid false rules e before.standing.cursor made (pairs_size (pairs_of pairs)) (pairs_tree (pairs_of pairs) s d false))
    → KeyMade x rules s d key first e made.standing
    → CommentedFits rules s d value (value_place x e) (render_commented key s d (key_at first e) made.standing).standing
    → CommentedLaid false rules e before.standing.cursor (render_commented_pairs whole s d false e before) (pairs_size (pairs_of whole))
    (pairs_tree (pairs_of whole) s d false))
pair_commented pairs key value rules s d e before plain all k v =
    let x = is_simple s.canonical d (node_of key) in
    let first = has_no_pairs (pairs_of pairs) in
    let made = render_commented_pairs pairs s d false e before in
    let keyed = (render_commented key s d (key_at first e) made.standing).standing in
    let ended = (render_commented value s d (value_place x e) keyed).standing in
    let whole = written_of (render_commented_pairs (commented_pairs_and pairs key value) s d false e before) in
    let trees = pairs_tree (pairs_of pairs) s d false in
    let key_tree = node_tree (node_of key) s d (key_at first e) in
    let value_tree = node_tree (node_of value) s d (value_place x e) in
    let sizes = pairs_size (pairs_of pairs) + (size (node_of key) + size (node_of value)) in
    record {
      bars = v.bars;
      laid =
          subst (λ t. HeadedLaid false rules e before.standing.cursor whole sizes
          (tree_pairs_and trees t (node_tree (node_of value) s d (value_place x 0))) v.bars)
          (tree_anywhere (node_of key) s d false (as_key first) e 0)
          (subst (λ t. HeadedLaid false rules e before.standing.cursor whole sizes (tree_pairs_and trees key_tree t) v.bars)
          (tree_anywhere (node_of value) s d false (as_value x) e 0)
          (subst (λ own. HeadedLaid false rules e before.standing.cursor own sizes (tree_pairs_and trees key_tree value_tree) v.bars)
          (sym (pair_written s d x first e key value rules made plain k v)) (headed_pair pairs key value rules s d x e before plain all k v)));
      less = λ allowed. v.less (ap (λ c. bars_blank (ended.standing.open_ended == 2) c) (sym v.ends) ∙ allowed);
    }
