-- A collection in a block fits if its entries do, with head lines before each of them and after the last; also with blank lines after it.
use Rattle.yaml_base.proofs.Common.{ℕ, suc, ◌+◌, ◌≤◌, ◌<◌, Bool, false, true, true≢false, Option, None, List, [], ◌∷◌, ◌++◌, ◌≡◌, refl, ap, sym, ◌∙◌, subst}
use Rattle.yaml_base.proofs.Common.{append_assoc, append-nil, Text, line_feed, Cursor, Rendered, Place, Effective, first_cursor, render_nothing, render_then}
use Rattle.yaml_base.proofs.Common.{as_key, entry_place, render_place, root_place, Rules, Tree, TreePairs, Trees, trees_and, tree_pairs_and}
use Rattle.yaml_base.proofs.stream_lines.StreamClosed.{indicator_cursor}
use Rattle.yaml_base.proofs.stream_nodes.StreamBlocks.{BegunKind, Compact, blanks_after_block, block_fits, block_own, unsaid}
use Rattle.yaml_base.proofs.stream_nodes.{StreamCentral.laid_block, StreamFits.Fits, StreamFits.FitsOr, StreamFits.WithinColumn}
use Rattle.yaml_base.proofs.stream_nodes.StreamFits.{with_blanks}
use Rattle.yaml_base.proofs.stream_nodes.StreamHeadedBlocks.{headed_block_node, headed_root_fits}
use Rattle.yaml_base.proofs.stream_nodes.StreamHeadedEntries.{laid_after_head_or}
use Rattle.yaml_base.proofs.stream_nodes.StreamItems.{dash_place, item_added, item_spared}
use Rattle.yaml_base.proofs.stream_nodes.StreamLaid.{Added, Content, Laid, LaidOr, laid_added, laid_none, margin, no_content, tree_of}
use Rattle.yaml_base.proofs.stream_nodes.StreamPairReads.{pair_added, pair_own, pair_spared}
use Rattle.yaml_base.proofs.stream_nodes.StreamPairs.{KeyFitsAt, key_cursor, value_cursor, value_place}
use Rattle.yaml_base.proofs.stream_nodes.StreamTexts.{placed_own}
use Rattle.yaml_base.proofs.stream_nodes.StreamTrailingBlocks.{headed_trailed_node, trailed_by, trailed_node}
use Rattle.yaml_base.specs.Comments.{HeadLine, allowed_lines, bars_blank, line_end, render_head, render_lines, single_blanks}

-- a rendered text after another text
abbrev pub after_text : Text → Rendered → Rendered
after_text before own = record { text = before ++ own.text; cursor = own.cursor }

-- a text that is rendered after it
then_after : (before : Text) (first : Rendered) (next : Cursor → Rendered)
    → render_then (after_text before first) next ≡ after_text before (render_then first next)
then_after before first next =
    let second = next first.cursor in
    ap (λ t. record { text = t; cursor = second.cursor }) (append_assoc before first.text second.text)

-- Entries

-- one more item or pair, after any text: its effect on the reader, also with blank lines after it, unless these are barred
pub record NextEntry (q : Bool) (rules : Rules) (e : ℕ) (add : Rendered → Rendered) (size : ℕ) (a b : Content q) (bars : Bool) : Type 0 where
  pub added : (first : Rendered) → Added q rules e first (add first) size a b
  pub spares : bars ≡ false → (first : Rendered) (count : ℕ) → Added q rules e first (with_blanks count (add first)) size a b
  pub after : (before : Text) (first : Rendered) → add (after_text before first) ≡ after_text before (add first)

-- an item
pub next_item : (rules : Rules) (s : Effective) (x : Bool) (e n : ℕ) (own : Cursor → Rendered) (trees : Trees) (tree : Tree) (bars : Bool)
    → FitsOr rules n (own (indicator_cursor e)) tree (dash_place x e) (indicator_cursor e) bars
    → NextEntry true rules e (λ first. placed_own s (dash_place x e) false first own) n trees (trees_and trees tree) bars
next_item rules s x e n own trees tree bars fit = record {
  added = λ first. item_added rules s x e n first own trees tree fit.fits;
  spares = λ allowed first count. item_spared rules s x e n count first own trees tree (fit.spares allowed count);
  after = λ before first. then_after before first (λ after. render_then (render_place s (dash_place x e) false after) own);
}

-- a pair
pub next_pair : (x : Bool) (rules : Rules) (s : Effective) (e m n : ℕ) (first : Bool) (key value : Cursor → Rendered) (trees : TreePairs)
    (key_tree value_tree : Tree) (bars : Bool)
    → (let k = key (key_cursor x e) in
    KeyFitsAt x rules e first m k key_tree
    → FitsOr rules n (value (value_cursor x e k)) value_tree (value_place x e) (value_cursor x e k) bars
    → NextEntry false rules e (λ before. pair_own x s e first before key value) (m + n) trees (tree_pairs_and trees key_tree value_tree) bars)
next_pair x rules s e m n first key value trees key_tree value_tree bars key_fits fit = record {
  added = λ before. pair_added x rules s e m n first before key value trees key_tree value_tree key_fits fit.fits;
  spares = λ allowed before count. pair_spared x rules s e m n count first before key value trees key_tree value_tree key_fits (fit.spares allowed count);
  after = λ text before.
      let keyed = λ (after : Cursor). render_then (render_place s (key_place_of first) x after) key in
      let valued = λ (after : Cursor). render_then (render_place s (value_place x e) false after) value in
      ap (λ own. render_then own valued) (then_after text before keyed) ∙ then_after text (render_then before keyed) valued;
}
  where
    key_place_of : Bool → Place
    key_place_of first = entry_place false (as_key first) e

-- entries after head lines before the first of them, from a cursor on, also with blank lines after them, unless these are barred
pub record HeadedLaid (q : Bool) (rules : Rules) (e : ℕ) (cursor : Cursor) (own : Rendered) (size : ℕ) (content : Content q) (bars : Bool) : Type 0 where
  pub lines : List HeadLine
  pub entries : Rendered
  pub laid : LaidOr q rules e (render_lines e lines cursor).cursor false entries size content bars
  pub is : own ≡ after_text (render_lines e lines cursor).text entries

-- the first entry after its head lines
pub first_headed : (q : Bool) (rules : Rules) (e : ℕ) (cursor : Cursor) (keeps : Bool) (lines : List HeadLine) (add : Rendered → Rendered) (size : ℕ)
    (content : Content q) (bars : Bool)
    → NextEntry q rules e add size (no_content q) content bars
    → HeadedLaid q rules e cursor (add (render_head e keeps lines cursor)) (0 + size) content bars
first_headed q rules e cursor keeps lines add size content bars one =
    let shown = allowed_lines (bars_blank keeps cursor) (single_blanks lines) in
    let head = render_lines e shown cursor in
    let start = render_nothing head.cursor in
    record {
      lines = shown;
      entries = add start;
      laid =
          laid_added q rules e head.cursor true start (add start) 0 size (no_content q) content bars (laid_none q rules e head.cursor) (one.added start)
          (λ allowed count. one.spares allowed start count);
      is = ap (λ t. add (record { text = t; cursor = head.cursor })) (sym (append-nil head.text)) ∙ one.after head.text start;
    }

-- and one more after its own
pub next_headed : (q : Bool) (rules : Rules) (e : ℕ) (cursor : Cursor) (keeps : Bool) (lines : List HeadLine) (own : Rendered) (add : Rendered → Rendered)
    (m n : ℕ) (a b : Content q) (bars more : Bool)
    → HeadedLaid q rules e cursor own m a bars → (bars_blank keeps own.cursor ≡ false → bars ≡ false) → NextEntry q rules e add n a b more
    → HeadedLaid q rules e cursor (add (render_then own (render_head e keeps lines))) (m + n) b more
next_headed q rules e cursor keeps lines own add m n a b bars more all less one =
    let head = render_lines e all.lines cursor in
    let first = render_then all.entries (render_head e keeps lines) in
    record {
      lines = all.lines;
      entries = add first;
      laid =
          laid_after_head_or q rules e head.cursor keeps lines all.entries (add first) m n a b bars more all.laid
          (λ allowed. less (ap (λ (r : Rendered). bars_blank keeps r.cursor) all.is ∙ allowed)) (one.added first)
          (λ allowed count. one.spares allowed first count);
      is =
          ap (λ r. add (render_then r (render_head e keeps lines))) all.is ∙ ap add (then_after head.text all.entries (render_head e keeps lines))
          ∙ one.after head.text first;
    }

-- Collections

-- a collection fits if its entries are laid out, also with blank lines after it
laid_node : (q : Bool) (rules : Rules) (e : ℕ) (place : Place) (cursor : Cursor) (begun own : Rendered) (anchor tag : Option Text) (size : ℕ)
    (content : Content q) (bars : Bool)
    → BegunKind rules anchor tag cursor begun → LaidOr q rules e begun.cursor false own size content bars
    → (begun.cursor.indention ≡ true → Compact e begun.cursor) → ((r : Bool) (d : ℕ) → WithinColumn r d place.role place.column → d + margin q r ≤ e)
    → FitsOr rules (suc size) (block_own begun own) (tree_of q anchor tag content) place cursor bars
laid_node q rules e place cursor begun own anchor tag size content bars kind all compact inside = record {
  fits = one own all.laid;
  spares = λ allowed count.
      subst (λ rendered. Fits rules (suc size) rendered (tree_of q anchor tag content) place cursor) (blanks_after_block count begun own)
      (one (with_blanks count own) (all.spares refl allowed count));
}
  where
    one : (own : Rendered) → Laid q rules e begun.cursor false own size content
        → Fits rules (suc size) (block_own begun own) (tree_of q anchor tag content) place cursor
    one own laid =
        block_fits rules size e place cursor begun own laid.text (λ anchor tag. tree_of q anchor tag content) anchor tag kind
        (laid_block q rules e begun.cursor false own size content laid refl)
        (record {
          settled = laid.settled refl;
          ends = laid.reads.ends;
          lays = laid.lays refl;
          inside = λ r d within. laid.reads.inside r d (inside r d within);
          within = laid.reads.within;
          compact = compact;
        })

-- so it does with head lines before its entries
pub headed_collection : (q : Bool) (rules : Rules) (e : ℕ) (place : Place) (cursor : Cursor) (begun own : Rendered) (anchor tag : Option Text) (size : ℕ)
    (content : Content q) (bars : Bool)
    → BegunKind rules anchor tag cursor begun → HeadedLaid q rules e begun.cursor own size content bars
    → (begun.cursor.indention ≡ true → Compact e begun.cursor) → line_end begun.cursor ≡ line_feed ∷ []
    → ((r : Bool) (d : ℕ) → WithinColumn r d place.role place.column → d + margin q r ≤ e)
    → FitsOr rules (suc size) (block_own begun own) (tree_of q anchor tag content) place cursor bars
headed_collection q rules e place cursor begun own anchor tag size content bars kind all compact below inside =
    subst (λ own. FitsOr rules (suc size) (block_own begun own) (tree_of q anchor tag content) place cursor bars) (sym all.is)
    (by all.lines all.laid)
  where
    by : (lines : List HeadLine) → LaidOr q rules e (render_lines e lines begun.cursor).cursor false all.entries size content bars
        → FitsOr rules (suc size) (block_own begun (after_text (render_lines e lines begun.cursor).text all.entries)) (tree_of q anchor tag content) place
        cursor bars
    by [] laid = laid_node q rules e place cursor begun all.entries anchor tag size content bars kind laid compact inside
    by (line ∷ rest) laid =
        headed_block_node q rules e place cursor begun all.entries line rest anchor tag size content bars kind laid below inside

-- and with others after the last, deeper than the columns around
pub headed_trailing_collection : (q : Bool) (rules : Rules) (e : ℕ) (place : Place) (cursor : Cursor) (begun own : Rendered) (anchor tag : Option Text)
    (size : ℕ) (content : Content q) (keeps : Bool) (ending : List HeadLine) (bars more : Bool)
    → BegunKind rules anchor tag cursor begun → HeadedLaid q rules e begun.cursor own size content bars
    → (begun.cursor.indention ≡ true → Compact e begun.cursor) → line_end begun.cursor ≡ line_feed ∷ []
    → 1 ≤ e → ((r : Bool) (d : ℕ) → WithinColumn r d place.role place.column → d < e)
    → (bars_blank keeps own.cursor ≡ false → bars ≡ false) → (more ≡ false → bars ≡ false)
    → FitsOr rules (suc size) (block_own begun (render_then own (render_head e keeps ending))) (tree_of q anchor tag content) place cursor more
headed_trailing_collection q rules e place cursor begun own anchor tag size content keeps ending bars more kind all compact below deep inside less fewer =
    subst (λ own. FitsOr rules (suc size) (block_own begun own) (tree_of q anchor tag content) place cursor more)
    (sym (ap (λ own. render_then own (render_head e keeps ending)) all.is
    ∙ then_after (render_lines e all.lines begun.cursor).text all.entries (render_head e keeps ending)))
    (by all.lines all.laid)
  where
    whole : Rendered
    whole = render_then all.entries (render_head e keeps ending)

    allowed : bars_blank keeps all.entries.cursor ≡ false → bars ≡ false
    allowed h = less (ap (λ (r : Rendered). bars_blank keeps r.cursor) all.is ∙ h)

    by : (lines : List HeadLine) → LaidOr q rules e (render_lines e lines begun.cursor).cursor false all.entries size content bars
        → FitsOr rules (suc size) (block_own begun (after_text (render_lines e lines begun.cursor).text whole)) (tree_of q anchor tag content) place
        cursor more
    by [] laid =
        trailed_node q rules e place cursor begun whole anchor tag size content more kind
        (trailed_by q rules e begun.cursor keeps ending all.entries size content bars more deep laid allowed fewer) compact inside
    by (line ∷ rest) laid =
        headed_trailed_node q rules e place cursor begun whole line rest anchor tag size content more kind
        (trailed_by q rules e first_cursor keeps ending all.entries size content bars more deep laid allowed fewer) below inside

-- a root fits at a line's start
pub headed_root : (q : Bool) (rules : Rules) (own : Rendered) (size : ℕ) (content : Content q) (bars : Bool)
    → HeadedLaid q rules 0 first_cursor own size content bars
    → Fits rules (suc size) (block_own (render_nothing first_cursor) own) (tree_of q None None content) root_place first_cursor
headed_root q rules own size content bars all =
    subst (λ own. Fits rules (suc size) (block_own start own) (tree_of q None None content) root_place first_cursor) (sym all.is)
    (by all.lines all.laid)
  where
    start : Rendered
    start = render_nothing first_cursor

    by : (lines : List HeadLine) → LaidOr q rules 0 (render_lines 0 lines first_cursor).cursor false all.entries size content bars
        → Fits rules (suc size) (block_own start (after_text (render_lines 0 lines first_cursor).text all.entries)) (tree_of q None None content) root_place
        first_cursor
    by [] laid =
        let node = laid_node q rules 0 root_place first_cursor start all.entries None None size content bars (unsaid refl refl refl) laid
        (λ h. record { count = 0; sum = refl; text = refl; some = λ w. absurd (true≢false w) }) (λ r d within. absurd within) in
        node.fits
    by (line ∷ rest) laid = headed_root_fits q rules line rest all.entries size content laid.laid
