-- The central law: a node in a block fits if its leaves, its simple keys and the properties of its collections do.
use Rattle.yaml_base.proofs.Common.{suc, zero, ℕ, ◌+◌, ◌-◌, ◌<◌, ◌≤◌, if◌then◌else◌, ◌==◌, Option, None, Some, nat_lt, Bool, false, not, true, ◌&&◌, ◌||◌}
use Rattle.yaml_base.proofs.Common.{List, ◌∷◌, refl, ◌≡◌, eqb-true, le-ltb, true≢false, ap, ◌∙◌, arith, or_parts, false≢true, Text, line_feed, Cursor}
use Rattle.yaml_base.proofs.Common.{Rendered, TagDirective, Collection, collection_tag, Node, alias_node, scalar_node, Nodes, sequence_node, Pairs}
use Rattle.yaml_base.proofs.Common.{mapping_node, no_nodes, nodes_and, no_pairs, pairs_and, render_properties, asks_flow, is_written_in_flow, square}
use Rattle.yaml_base.proofs.Common.{curly, Role, Place, is_undented, entries_column, has_no_nodes, has_no_pairs, is_simple, Effective, spaces, Rules}
use Rattle.yaml_base.proofs.stream_lines.StreamClosed.{Settled, new_line_closes, indicator_cursor}
use Rattle.yaml_base.proofs.stream_nodes.{StreamAgrees.node_tree, StreamAgrees.nodes_tree, StreamAgrees.pairs_tree, StreamCentral.laid_block}
use Rattle.yaml_base.proofs.stream_nodes.{StreamPairReads.colon_ends, StreamPairReads.pair_cursor, StreamPairReads.pair_laid}
use Rattle.yaml_base.proofs.stream_nodes.StreamBlocks.{Compact, BegunKind, block_fits, block_own, blanks_after_block}
use Rattle.yaml_base.proofs.stream_nodes.StreamFits.{size, items_size, pairs_size, WithinColumn, Fits, FitsOr, with_blanks, tree_anywhere}
use Rattle.yaml_base.specs.scalars.BlockHeader.{header_open_ended}
use Rattle.yaml_base.proofs.Common.{Tree, subst, sym, as_item, as_key, as_value, trees_and, tree_pairs_and}
use Rattle.yaml_base.proofs.stream_nodes.StreamItems.{item_place, item_laid}
use Rattle.yaml_base.proofs.stream_nodes.StreamLaid.{Content, tree_of, margin, Laid, LaidOr, laid_none}
use Rattle.yaml_base.proofs.stream_nodes.StreamPairs.{KeyFits, key_place, value_place, colon_cursor, simple_key, key_cursor, value_cursor, KeyFitsAt}
use Rattle.yaml_base.proofs.stream_nodes.StreamTexts.{collection_own, node_own, items_own, pairs_own}

-- Premises

-- one type or another
abbrev pub EitherType : Bool → Type 0 → Type 0 → Type 0
EitherType true a b = a
EitherType false a b = b

-- one by either case
pub either_of : (A B : Type 0) (x : Bool) → (x ≡ true → A) → (x ≡ false → B) → EitherType x A B
either_of A B true a b = a refl
either_of A B false a b = b refl

-- true if the last scalar of a node keeps its final breaks where it is a block scalar
abbrev mutual
  pub keeps_last : Node → Bool
  keeps_last (alias_node name) = false
  keeps_last (scalar_node content) = header_open_ended content.value == 2
  keeps_last (sequence_node start items) = items_keep items
  keeps_last (mapping_node start pairs) = pairs_keep pairs

  pub items_keep : Nodes → Bool
  items_keep no_nodes = false
  items_keep (nodes_and items last) = keeps_last last

  pub pairs_keep : Pairs → Bool
  pairs_keep no_pairs = false
  pairs_keep (pairs_and pairs key value) = keeps_last value

-- true if a blank line is barred after a node whose text ends at a cursor: it ends with a block scalar that keeps its final breaks
abbrev pub bars_after : Node → Cursor → Bool
bars_after n cursor = cursor.indention && keeps_last n

-- a node fits by itself, with nothing in it that is read alone
abbrev pub LeafFits : Rules → Effective → List TagDirective → Node → Place → Cursor → Type 0
LeafFits rules s directives n place cursor =
    let own = node_own n s directives place cursor in
    FitsOr rules 1 own (node_tree n s directives place) place cursor (bars_after n own.cursor)

-- a node fits, also with any number of blank lines after it, unless these are barred
abbrev pub NodeFits : Rules → Effective → List TagDirective → Node → Place → Cursor → Type 0
NodeFits rules s directives n place cursor =
    let own = node_own n s directives place cursor in
    FitsOr rules (size n) own (node_tree n s directives place) place cursor (bars_after n own.cursor)

-- the properties of a collection, rendered from a cursor on
abbrev pub render_begun : Effective → List TagDirective → Collection → Cursor → Rendered
render_begun s directives start cursor = render_properties s.portable directives start.anchor (collection_tag s.canonical start) false cursor

-- they are read
abbrev pub BegunReads : Rules → Effective → List TagDirective → Collection → Cursor → Type 0
BegunReads rules s directives start cursor =
    BegunKind rules start.anchor (collection_tag s.canonical start) cursor (render_begun s directives start cursor)

-- the conditions for the parts of a node in a block: each alias, scalar and flow collection fits, each simple key is cut off, and the properties of
-- each block collection are read
abbrev mutual
  pub Leaves : Node → Rules → Effective → List TagDirective → Place → Cursor → Type 0
  Leaves (alias_node name) rules s directives place cursor = LeafFits rules s directives (alias_node name) place cursor
  Leaves (scalar_node content) rules s directives place cursor = LeafFits rules s directives (scalar_node content) place cursor
  Leaves (sequence_node start items) rules s directives place cursor =
      EitherType (is_written_in_flow s place start (has_no_nodes items))
      (LeafFits rules s directives (sequence_node start items) place cursor)
      (BegunReads rules s directives start cursor
      × ItemLeaves items rules s directives
      (entries_column false (is_undented s place.role) s.indent place.column (render_begun s directives start cursor).cursor))
  Leaves (mapping_node start pairs) rules s directives place cursor =
      EitherType (is_written_in_flow s place start (has_no_pairs pairs))
      (LeafFits rules s directives (mapping_node start pairs) place cursor)
      (BegunReads rules s directives start cursor
      × PairLeaves pairs rules s directives (entries_column false false s.indent place.column (render_begun s directives start cursor).cursor))

  pub ItemLeaves : Nodes → Rules → Effective → List TagDirective → ℕ → Type 0
  ItemLeaves no_nodes rules s directives e = Unit {0}
  ItemLeaves (nodes_and items last) rules s directives e =
      ItemLeaves items rules s directives e × Leaves last rules s directives (item_place items e) (indicator_cursor e)

  pub PairLeaves : Pairs → Rules → Effective → List TagDirective → ℕ → Type 0
  PairLeaves no_pairs rules s directives e = Unit {0}
  PairLeaves (pairs_and pairs key value) rules s directives e =
      PairLeaves pairs rules s directives e
      × EitherType (is_simple s.canonical directives key)
      (KeyFits rules (simple_key pairs key s directives e).text (node_tree key s directives (key_place pairs e))
      × Leaves value rules s directives (value_place true e) (colon_cursor (simple_key pairs key s directives e).cursor))
      (Leaves key rules s directives (key_place pairs e) (indicator_cursor e) × Leaves value rules s directives (value_place false e) (indicator_cursor e))

-- Places

-- a cursor is after the indicators of a place in a block at a column, or at the beginning of the root
abbrev pub Stands : Option ℕ → Cursor → Type 0
Stands None cursor = Settled cursor
Stands (Some c) cursor = (cursor.whitespace ≡ false) × (cursor.indention ≡ true → cursor.column ≡ c + 1)

-- a number is none that is less
less_not : (a b : ℕ) → a < b → (a == b) ≡ false
less_not a b h = grind (arith, eqb-true)

-- after an indicator a new line one indent deeper is spaces
compact_behind : (c k : ℕ) (cursor : Cursor) → 1 ≤ k → cursor.column ≡ c + 1 → cursor.indention ≡ true → Compact (c + suc k) cursor
compact_behind c k cursor deep at h =
    let more : cursor.column < c + suc k = omega arith in
    let less : c + suc k - cursor.column ≡ k = omega arith in
    record {
      count = k;
      sum = omega arith;
      text =
          ap (λ x. if not x || nat_lt (c + suc k) cursor.column
          || ((cursor.column == (c + suc k)) && not cursor.whitespace) then line_feed ∷ spaces (c + suc k) else spaces (c + suc k - cursor.column)) h
          ∙ ap (λ x. if x || ((cursor.column == (c + suc k)) && not cursor.whitespace) then line_feed ∷ spaces (c + suc k) else
          spaces (c + suc k - cursor.column)) (le-ltb (c + suc k) cursor.column (omega arith))
          ∙ ap (λ x. if x && not cursor.whitespace then line_feed ∷ spaces (c + suc k) else spaces (c + suc k - cursor.column))
          (less_not cursor.column (c + suc k) more)
          ∙ ap spaces less;
      some = λ w. omega arith;
    }

-- at the beginning of the root it is nothing
compact_root : (cursor : Cursor) → Settled cursor → cursor.indention ≡ true → Compact 0 cursor
compact_root cursor settled h = grind (arith, new_line_closes, true≢false)

-- the column of a collection's entries if indentation goes on
compact_at : (column : Option ℕ) (undented : Bool) (indent : ℕ) (cursor : Cursor) → 2 ≤ indent → Stands column cursor → cursor.indention ≡ true
    → Compact (entries_column false undented indent column cursor) cursor
compact_at None undented indent cursor deep stands h = compact_root cursor stands h
compact_at (Some c) undented zero cursor deep stands h = absurd (omega arith)
compact_at (Some c) undented (suc k) cursor deep stands h = grind (arith, compact_behind)

-- after properties or without them
pub compact_begun : (rules : Rules) (anchor tag : Option Text) (column : Option ℕ) (undented : Bool) (indent : ℕ) (cursor : Cursor) (begun : Rendered)
    → 2 ≤ indent
    → Stands column cursor
    → BegunKind rules anchor tag cursor begun → begun.cursor.indention ≡ true → Compact (entries_column false undented indent column begun.cursor) begun.cursor
compact_begun rules anchor tag column undented indent cursor begun deep stands h10 h = grind (false≢true, arith, compact_at)

-- the entries of a collection in a block are within the columns around
pub entries_within : (q : Bool) (s : Effective) (r : Bool) (d : ℕ) (role : Role) (column : Option ℕ) (cursor : Cursor) → 2 ≤ s.indent
    → WithinColumn r d role column
    → d + margin q r ≤ entries_column false (q && is_undented s role) s.indent column cursor
entries_within q s r d role column cursor deep within = grind (arith)

-- The law

-- a collection that isn't written in flow isn't empty
pub not_empty : (s : Effective) (place : Place) (start : Collection) (empty : Bool) → is_written_in_flow s place start empty ≡ false → empty ≡ false
not_empty s place start empty h = (or_parts (place.in_flow || s.canonical || asks_flow start.style) empty h).1

-- what is read at a depth is at each that is deeper
deeper_fits : (rules : Rules) (size : ℕ) (own : Rendered) (tree : Tree) (place : Place) (cursor : Cursor) → Fits rules 1 own tree place cursor
    → Fits rules (suc size) own tree place cursor
deeper_fits rules size own tree place cursor fit = grind (arith)

-- a collection in a block fits if its entries are laid out
laid_fits : (q : Bool) (rules : Rules) (s : Effective) (directives : List TagDirective) (start : Collection) (place : Place) (cursor : Cursor)
    (empty : Bool) (size : ℕ) (own : Rendered) (content : Content q)
    → 2 ≤ s.indent → Stands place.column cursor → BegunReads rules s directives start cursor → empty ≡ false
    → (let begun = render_begun s directives start cursor in
    Laid q rules (entries_column false (q && is_undented s place.role) s.indent place.column begun.cursor) begun.cursor empty own size content
    → Fits rules (suc size) (block_own begun own) (tree_of q start.anchor (collection_tag s.canonical start) content) place cursor)
laid_fits q rules s directives start place cursor empty size own content deep stands read some laid =
    let begun = render_begun s directives start cursor in
    let tag = collection_tag s.canonical start in
    let undented = q && is_undented s place.role in
    let e = entries_column false undented s.indent place.column begun.cursor in
    block_fits rules size e place cursor begun own laid.text (λ anchor tag. tree_of q anchor tag content) start.anchor tag read
    (laid_block q rules e begun.cursor empty _ size content laid some)
    (record {
      settled = laid.settled some;
      ends = laid.reads.ends;
      lays = laid.lays some;
      inside = λ r d within. laid.reads.inside r d (entries_within q s r d place.role place.column begun.cursor deep within);
      within = laid.reads.within;
      compact = compact_begun rules start.anchor tag place.column undented s.indent cursor begun deep stands read;
    })

-- a collection fits if its entries in a block are laid out, or by itself; keeps: its last scalar may keep its final breaks
collection_fits : {Read : Type 0} (q : Bool) (rules : Rules) (s : Effective) (directives : List TagDirective) (start : Collection) (place : Place)
    (cursor : Cursor) (empty keeps : Bool) (size : ℕ) (own : Bool → ℕ → Cursor → Rendered) (content : Bool → Content q) (x : Bool)
    → 2 ≤ s.indent → Stands place.column cursor → (x ≡ false → empty ≡ false)
    → (let begun = render_begun s directives start cursor in
    let undented = q && is_undented s place.role in
    let e = entries_column false undented s.indent place.column begun.cursor in
    let rendered = collection_own s (if q then square else curly) x undented empty place.column begun (own x) in
    let tree = tree_of q start.anchor (collection_tag s.canonical start) (content x) in
    EitherType x (FitsOr rules 1 rendered tree place cursor (rendered.cursor.indention && keeps)) (BegunReads rules s directives start cursor × Read)
    → (Read → LaidOr q rules e begun.cursor empty (own false e begun.cursor) size (content false)
    ((own false e begun.cursor).cursor.indention && keeps))
    → FitsOr rules (suc size) rendered tree place cursor (rendered.cursor.indention && keeps))
collection_fits q rules s directives start place cursor empty keeps size own content true deep stands some leaf each = record {
  fits = deeper_fits rules size _ _ place cursor leaf.fits;
  spares = λ allowed count. deeper_fits rules size _ _ place cursor (leaf.spares allowed count);
}
collection_fits q rules s directives start place cursor empty keeps size own content false deep stands some read each =
    let begun = render_begun s directives start cursor in
    let e = entries_column false (q && is_undented s place.role) s.indent place.column begun.cursor in
    let entries = own false e begun.cursor in
    let tree = tree_of q start.anchor (collection_tag s.canonical start) (content false) in
    let laid = each read.1 in
    record {
      fits = laid_fits q rules s directives start place cursor empty size entries (content false) deep stands read.0 (some refl) laid.laid;
      spares = λ allowed count.
          subst (λ rendered. Fits rules (suc size) rendered tree place cursor) (blanks_after_block count begun entries)
          (laid_fits q rules s directives start place cursor false size (with_blanks count entries) (content false) deep stands read.0 refl
          (laid.spares (some refl) allowed count));
    }

-- a pair fits if its key and its value do
pair_fits : (x : Bool) (pairs : Pairs) (key value : Node) (rules : Rules) (s : Effective) (directives : List TagDirective) (e : ℕ)
    → EitherType x
    (KeyFits rules (simple_key pairs key s directives e).text (node_tree key s directives (key_place pairs e))
    × Leaves value rules s directives (value_place true e) (colon_cursor (simple_key pairs key s directives e).cursor))
    (Leaves key rules s directives (key_place pairs e) (indicator_cursor e) × Leaves value rules s directives (value_place false e) (indicator_cursor e))
    → ((y : Bool) (cursor : Cursor) → Stands (Some e) cursor → Leaves value rules s directives (value_place y e) cursor
    → NodeFits rules s directives value (value_place y e) cursor)
    → (Leaves key rules s directives (key_place pairs e) (indicator_cursor e) → NodeFits rules s directives key (key_place pairs e) (indicator_cursor e))
    → (let k = node_own key s directives (key_place pairs e) (key_cursor x e) in
    KeyFitsAt x rules e (has_no_pairs pairs) (size key) k (node_tree key s directives (key_place pairs e))
    × NodeFits rules s directives value (value_place x e) (value_cursor x e k))
pair_fits true pairs key value rules s directives e leaves value_fits key_fits =
    let k = simple_key pairs key s directives e in
    (leaves.0, value_fits true (colon_cursor k.cursor) (refl, λ h. absurd (false≢true (sym (colon_ends k.cursor) ∙ h))) leaves.1)
pair_fits false pairs key value rules s directives e leaves value_fits key_fits = (
  (key_fits leaves.0).fits,
  value_fits false (indicator_cursor e) (refl, λ h. refl) leaves.1,
)

module _ (rules : Rules) (s : Effective) (directives : List TagDirective) (deep : 2 ≤ s.indent) where
  -- a node in a block fits if its leaves do; so do the items of a sequence and the pairs of a mapping
  mutual
    pub node_fits : (n : Node) (place : Place) (cursor : Cursor) → Stands place.column cursor → Leaves n rules s directives place cursor
        → NodeFits rules s directives n place cursor
    node_fits (alias_node name) place cursor stands leaves = leaves
    node_fits (scalar_node content) place cursor stands leaves = leaves
    node_fits (sequence_node start items) place cursor stands leaves =
        collection_fits true rules s directives start place cursor (has_no_nodes items) (items_keep items) (items_size items) (items_own items s directives)
        (nodes_tree items s directives) (is_written_in_flow s place start (has_no_nodes items)) deep stands
        (not_empty s place start (has_no_nodes items)) leaves (λ each. items_fit items _ _ each)
    node_fits (mapping_node start pairs) place cursor stands leaves =
        collection_fits false rules s directives start place cursor (has_no_pairs pairs) (pairs_keep pairs) (pairs_size pairs) (pairs_own pairs s directives)
        (pairs_tree pairs s directives) (is_written_in_flow s place start (has_no_pairs pairs)) deep stands
        (not_empty s place start (has_no_pairs pairs)) leaves (λ each. pairs_fit pairs _ _ each)

    pub items_fit : (items : Nodes) (e : ℕ) (cursor : Cursor) → ItemLeaves items rules s directives e
        → (let own = items_own items s directives false e cursor in
        LaidOr true rules e cursor (has_no_nodes items) own (items_size items) (nodes_tree items s directives false)
        (own.cursor.indention && items_keep items))
    items_fit no_nodes e cursor leaves = record { laid = laid_none true rules e cursor; spares = λ some. absurd (true≢false some) }
    items_fit (nodes_and items last) e cursor leaves =
        let own = items_own (nodes_and items last) s directives false e cursor in
        let trees = nodes_tree items s directives false in
        subst (λ t. LaidOr true rules e cursor false own (items_size items + size last) (trees_and trees t) (own.cursor.indention && keeps_last last))
        (tree_anywhere last s directives false (as_item (has_no_nodes items)) e 0)
        (item_laid rules s (has_no_nodes items) e (items_size items) (size last) cursor (has_no_nodes items) (items_own items s directives false e cursor)
        (node_own last s directives (item_place items e)) trees (node_tree last s directives (item_place items e)) (own.cursor.indention && keeps_last last)
        (items_fit items e cursor leaves.0).laid (node_fits last (item_place items e) (indicator_cursor e) (refl, λ h. refl) leaves.1))

    pub pairs_fit : (pairs : Pairs) (e : ℕ) (cursor : Cursor) → PairLeaves pairs rules s directives e
        → (let own = pairs_own pairs s directives false e cursor in
        LaidOr false rules e cursor (has_no_pairs pairs) own (pairs_size pairs) (pairs_tree pairs s directives false)
        (own.cursor.indention && pairs_keep pairs))
    pairs_fit no_pairs e cursor leaves = record { laid = laid_none false rules e cursor; spares = λ some. absurd (true≢false some) }
    pairs_fit (pairs_and pairs key value) e cursor leaves =
        let x = is_simple s.canonical directives key in
        let before = pairs_own pairs s directives false e cursor in
        let own = pairs_own (pairs_and pairs key value) s directives false e cursor in
        let trees = pairs_tree pairs s directives false in
        let key_tree = node_tree key s directives (key_place pairs e) in
        let value_tree = node_tree value s directives (value_place x e) in
        let key_own = node_own key s directives (key_place pairs e) in
        let value_own = node_own value s directives (value_place x e) in
        let at = value_cursor x e (key_own (key_cursor x e)) in
        let sizes = pairs_size pairs + (size key + size value) in
        let bars = own.cursor.indention && keeps_last value in
        let fit = pair_fits x pairs key value rules s directives e leaves.1
        (λ y at stands each. node_fits value (value_place y e) at stands each)
        (λ each. node_fits key (key_place pairs e) (indicator_cursor e) (refl, λ h. refl) each) in
        subst (λ k. LaidOr false rules e cursor false own sizes (tree_pairs_and trees k (node_tree value s directives (value_place x 0))) bars)
        (tree_anywhere key s directives false (as_key (has_no_pairs pairs)) e 0)
        (subst (λ v. LaidOr false rules e cursor false own sizes (tree_pairs_and trees key_tree v) bars)
        (tree_anywhere value s directives false (as_value x) e 0)
        (pair_laid x rules s e (pairs_size pairs) (size key) (size value) cursor (has_no_pairs pairs) (has_no_pairs pairs) before
        key_own value_own trees key_tree value_tree bars (pairs_fit pairs e cursor leaves.0).laid fit.0
        (subst (λ (c : Cursor). FitsOr rules (size value) (value_own at) value_tree (value_place x e) at (c.indention && keeps_last value))
        (pair_cursor x s e (has_no_pairs pairs) before key_own value_own) fit.1)))
