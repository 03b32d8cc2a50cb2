-- A collection in a block fits if its entries are followed by head lines at their column, also with blank lines after these.
use Rattle.yaml_base.proofs.Common.{ℕ, zero, suc, ◌+◌, ◌≤◌, ◌<◌, Bool, false, true, Option, List, [], ◌∷◌, ◌++◌, ◌≡◌, refl, ap, sym, ◌∙◌, subst}
use Rattle.yaml_base.proofs.Common.{append_assoc, append-nil, flat_map-append, replicate, Text, line_feed, Cursor, Rendered, Place, first_cursor}
use Rattle.yaml_base.proofs.Common.{render_nothing, render_then, new_line, lines_of, spaces, Rules}
use Rattle.std.proofs.lemmas.List.{replicate-append-replicate}
use Rattle.yaml_base.proofs.CommentLines.{head_lines_read}
use Rattle.yaml_base.proofs.stream_lines.StreamClosed.{Settled, closed, closed_both, closing}
use Rattle.yaml_base.proofs.stream_lines.StreamInside.{Passes}
use Rattle.yaml_base.proofs.stream_lines.{StreamLineLaws.lines_after_break, StreamSections.AreContent}
use Rattle.yaml_base.proofs.stream_nodes.StreamBlocks.{BegunKind, Compact, blanks_after_block, block_below_head_fits, block_fits, block_own}
use Rattle.yaml_base.proofs.stream_nodes.{StreamCentral.laid_block, StreamFits.Fits, StreamFits.FitsOr, StreamFits.WithinColumn, StreamFits.ended}
use Rattle.yaml_base.proofs.stream_nodes.StreamFits.{with_blanks}
use Rattle.yaml_base.proofs.stream_nodes.StreamHeadedBlocks.{after_head, after_head_lays}
use Rattle.yaml_base.proofs.stream_nodes.StreamHeadedEntries.{HeadForm, blank_alone, blanks_rendered, has_comment, head_form, head_rendered}
use Rattle.yaml_base.proofs.stream_nodes.StreamHeadedEntries.{blanks_first, laid_blanks, none_barred}
use Rattle.yaml_base.proofs.stream_nodes.StreamHeads.{entry_follows, head_closed, head_inside, head_within, opened_not_blank}
use Rattle.yaml_base.proofs.stream_nodes.StreamLaid.{Content, Laid, LaidOr, Lays, Opened, entries_kind, opened_more, tree_of}
use Rattle.yaml_base.proofs.stream_nodes.StreamTrailingHeads.{Trails, farther, trailing_head}
use Rattle.yaml_base.specs.Comments.{HeadLine, allowed_lines, bars_blank, blank_line, comment_line, line_end, line_text, render_head, render_lines}
use Rattle.yaml_base.specs.Comments.{single_blanks}
use Rattle.yaml_base.specs.CommentReading.{blank_text, head_text}

-- Entries

-- a rendered text is that of entries from a cursor on, which may end with head lines at their column
pub record Trailed (q : Bool) (rules : Rules) (e : ℕ) (cursor : Cursor) (own : Rendered) (size : ℕ) (content : Content q) : Type 0 where
  pub text : Text
  pub trails : Trails q rules e text size content
  pub settled : Settled own.cursor
  pub lays : Lays e (render_nothing cursor) own text
  pub opened : Opened rules e (lines_of rules.breaks12 text) (entries_kind q)

-- it is so also with any number of blank lines after it, unless these are barred
pub record TrailedOr (q : Bool) (rules : Rules) (e : ℕ) (cursor : Cursor) (own : Rendered) (size : ℕ) (content : Content q) (bars : Bool)
    : Type 0 where
  pub trailed : Trailed q rules e cursor own size content
  pub spares : bars ≡ false → (count : ℕ) → Trailed q rules e cursor (with_blanks count own) size content

-- entries without head lines after them
laid_trails : (q : Bool) (rules : Rules) (e : ℕ) (cursor : Cursor) (own : Rendered) (size : ℕ) (content : Content q)
    → Laid q rules e cursor false own size content → Trailed q rules e cursor own size content
laid_trails q rules e cursor own size content all = record {
  text = all.text;
  trails = record {
    block = laid_block q rules e cursor false own size content all refl;
    ends = all.reads.ends;
    inside = λ r d less. all.reads.inside r d (farther q r d e less);
    within = all.reads.within;
  };
  settled = all.settled refl;
  lays = all.lays refl;
  opened = all.opened refl;
}

-- a rendered text up to its last line's end, and then head lines
abbrev closed_by : ℕ → List HeadLine → Rendered → Rendered
closed_by e head own = record { text = closed own ++ head_text e head; cursor = first_cursor }

-- entries, and a head that begins with a comment
head_trails : (q : Bool) (rules : Rules) (e : ℕ) (cursor : Cursor) (comment : Text) (rest : List HeadLine) (own : Rendered) (size : ℕ) (content : Content q)
    → 1 ≤ e → Laid q rules e cursor false own size content → Trailed q rules e cursor (closed_by e (comment_line comment ∷ rest) own) size content
head_trails q rules e cursor comment rest own size content deep all =
    let added = head_text e (comment_line comment ∷ rest) in
    let lays = all.lays refl in
    record {
      text = all.text ++ added;
      trails = trailing_head q rules e cursor comment rest own size content deep all;
      settled = λ h. (refl, refl);
      lays = record {
        head = lays.head;
        tail = lays.tail ++ added;
        is = ap (λ t. t ++ added) lays.is ∙ append_assoc (spaces e) (lays.head ∷ lays.tail) added;
        lays = append-nil (closed own ++ added) ∙ ap (λ t. t ++ added) lays.lays ∙ append_assoc (new_line e cursor).text (lays.head ∷ lays.tail) added;
      };
      opened =
          subst (λ ls. Opened rules e ls (entries_kind q)) (sym (lines_after_break rules.breaks12 all.text added all.reads.ends))
          (opened_more rules e (lines_of rules.breaks12 all.text) (lines_of rules.breaks12 added) (entries_kind q) (all.opened refl));
    }

-- Blank lines

-- blank lines as head lines
blank_lines : (e count : ℕ) → head_text e (replicate count blank_line) ≡ blank_text count
blank_lines e count =
    ap (head_text e) (sym (append-nil (replicate count blank_line))) ∙ blanks_first e count [] ∙ append-nil (blank_text count)

-- after a head they are its last lines
blanks_last : (e count : ℕ) (head : List HeadLine) (own : Rendered)
    → closed_by e (head ++ replicate count blank_line) own ≡ with_blanks count (closed_by e head own)
blanks_last e count head own =
    ap (λ t. record { text = t; cursor = first_cursor })
    (ap (λ t. closed own ++ t)
    (flat_map-append (line_text e) head (replicate count blank_line) ∙ ap (λ t. head_text e head ++ t) (blank_lines e count))
    ∙ sym (append_assoc (closed own) (head_text e head) (blank_text count))
    ∙ ap (λ t. t ++ blank_text count) (sym (append-nil (closed own ++ head_text e head))))

-- so blank lines may follow it
head_trails_or : (q : Bool) (rules : Rules) (e : ℕ) (cursor : Cursor) (comment : Text) (rest : List HeadLine) (own : Rendered) (size : ℕ)
    (content : Content q) (bars : Bool) → 1 ≤ e → Laid q rules e cursor false own size content
    → TrailedOr q rules e cursor (closed_by e (comment_line comment ∷ rest) own) size content bars
head_trails_or q rules e cursor comment rest own size content bars deep all = record {
  trailed = head_trails q rules e cursor comment rest own size content deep all;
  spares = λ allowed count.
      subst (λ own. Trailed q rules e cursor own size content) (blanks_last e count (comment_line comment ∷ rest) own)
      (head_trails q rules e cursor comment (rest ++ replicate count blank_line) own size content deep all);
}

-- blank lines after others
more_blanks : (m n : ℕ) (own : Rendered) → with_blanks (m + n) own ≡ with_blanks n (with_blanks m own)
more_blanks m n own =
    ap (λ t. record { text = t; cursor = first_cursor })
    (ap (λ t. closed own ++ t) (sym (replicate-append-replicate m n line_feed)) ∙ sym (append_assoc (closed own) (blank_text m) (blank_text n))
    ∙ ap (λ t. t ++ blank_text n) (sym (append-nil (closed own ++ blank_text m))))

-- Any head

-- entries, and any head lines at their column, as these are rendered
pub trailed_by : (q : Bool) (rules : Rules) (e : ℕ) (cursor : Cursor) (keeps : Bool) (lines : List HeadLine) (own : Rendered) (size : ℕ)
    (content : Content q) (bars more : Bool)
    → 1 ≤ e → LaidOr q rules e cursor false own size content bars → (bars_blank keeps own.cursor ≡ false → bars ≡ false) → (more ≡ false → bars ≡ false)
    → TrailedOr q rules e cursor (render_then own (render_head e keeps lines)) size content more
trailed_by q rules e cursor keeps lines own size content bars more deep all less fewer = by (head_form shown)
  where
    barred : Bool
    barred = bars_blank keeps own.cursor

    shown : List HeadLine
    shown = allowed_lines barred (single_blanks lines)

    settled : Settled own.cursor
    settled = all.laid.settled refl

    -- one of two equal texts is so if the other is
    moved : (own other : Rendered) → own ≡ other → TrailedOr q rules e cursor other size content more → TrailedOr q rules e cursor own size content more
    moved own other same = subst (λ own. TrailedOr q rules e cursor own size content more) (sym same)

    as_lines : (head : List HeadLine) → shown ≡ head → render_then own (render_head e keeps lines) ≡ render_then own (render_lines e head)
    as_lines head is = ap (λ ls. render_then own (render_lines e ls)) is

    with_some : (count : ℕ) → (barred ≡ true → count ≡ 0) → Laid q rules e cursor false (with_blanks count own) size content
    with_some count none = laid_blanks q rules e cursor own size content bars barred count all less none

    by : HeadForm shown → TrailedOr q rules e cursor (render_then own (render_head e keeps lines)) size content more
    by (blank_alone zero is) =
        moved (render_then own (render_head e keeps lines)) own
        (as_lines [] is ∙ ap (λ t. record { text = t; cursor = own.cursor }) (append-nil own.text))
        (record {
          trailed = laid_trails q rules e cursor own size content all.laid;
          spares = λ allowed count. laid_trails q rules e cursor (with_blanks count own) size content (all.spares refl (fewer allowed) count);
        })
    by (blank_alone (suc count) is) =
        let some = suc count in
        moved (render_then own (render_head e keeps lines)) (with_blanks some own)
        (as_lines (replicate some blank_line) is ∙ blanks_rendered e count own settled)
        (record {
          trailed = laid_trails q rules e cursor (with_blanks some own) size content
              (with_some some (none_barred barred lines some [] (is ∙ sym (append-nil (replicate some blank_line)))));
          spares = λ allowed others.
              subst (λ own. Trailed q rules e cursor own size content) (more_blanks some others own)
              (laid_trails q rules e cursor (with_blanks (some + others) own) size content (all.spares refl (fewer allowed) (some + others)));
        })
    by (has_comment count comment rest is) =
        let head = comment_line comment ∷ rest in
        moved (render_then own (render_head e keeps lines)) (closed_by e head (with_blanks count own))
        (as_lines (replicate count blank_line ++ head) is ∙ head_rendered e count comment rest own settled
        ∙ ap (λ t. record { text = t; cursor = first_cursor })
        (sym (append_assoc (closed own) (blank_text count) (head_text e head))
        ∙ ap (λ t. t ++ head_text e head) (sym (append-nil (closed own ++ blank_text count)))))
        (head_trails_or q rules e cursor comment rest (with_blanks count own) size content more deep
        (with_some count (none_barred barred lines count head is)))

-- Collections

-- a collection fits, on the line of the text before it or below
trailed_fits : (q : Bool) (rules : Rules) (e : ℕ) (place : Place) (cursor : Cursor) (begun own : Rendered) (anchor tag : Option Text) (size : ℕ)
    (content : Content q)
    → BegunKind rules anchor tag cursor begun → Trailed q rules e begun.cursor own size content
    → (begun.cursor.indention ≡ true → Compact e begun.cursor) → ((r : Bool) (d : ℕ) → WithinColumn r d place.role place.column → d < e)
    → Fits rules (suc size) (block_own begun own) (tree_of q anchor tag content) place cursor
trailed_fits q rules e place cursor begun own anchor tag size content kind all compact inside =
    block_fits rules size e place cursor begun own all.text (λ anchor tag. tree_of q anchor tag content) anchor tag kind all.trails.block
    (record {
      settled = all.settled;
      ends = all.trails.ends;
      lays = all.lays;
      inside = λ r d within. all.trails.inside r d (inside r d within);
      within = all.trails.within;
      compact = compact;
    })

-- also with blank lines after it, unless these are barred
pub trailed_node : (q : Bool) (rules : Rules) (e : ℕ) (place : Place) (cursor : Cursor) (begun own : Rendered) (anchor tag : Option Text) (size : ℕ)
    (content : Content q) (bars : Bool)
    → BegunKind rules anchor tag cursor begun → TrailedOr q rules e begun.cursor own size content bars
    → (begun.cursor.indention ≡ true → Compact e begun.cursor) → ((r : Bool) (d : ℕ) → WithinColumn r d place.role place.column → d < e)
    → FitsOr rules (suc size) (block_own begun own) (tree_of q anchor tag content) place cursor bars
trailed_node q rules e place cursor begun own anchor tag size content bars kind all compact inside = record {
  fits = trailed_fits q rules e place cursor begun own anchor tag size content kind all.trailed compact inside;
  spares = λ allowed count.
      subst (λ rendered. Fits rules (suc size) rendered (tree_of q anchor tag content) place cursor) (blanks_after_block count begun own)
      (trailed_fits q rules e place cursor begun (with_blanks count own) anchor tag size content kind (all.spares allowed count) compact inside);
}

-- so does one whose first entry follows a head on lines below
headed_trailed_fits : (q : Bool) (rules : Rules) (e : ℕ) (place : Place) (cursor : Cursor) (begun own : Rendered) (line : HeadLine)
    (rest : List HeadLine) (anchor tag : Option Text) (size : ℕ) (content : Content q)
    → BegunKind rules anchor tag cursor begun → Trailed q rules e first_cursor own size content → line_end begun.cursor ≡ line_feed ∷ []
    → ((r : Bool) (d : ℕ) → WithinColumn r d place.role place.column → d < e)
    → Fits rules (suc size) (block_own begun (after_head e line rest begun.cursor own)) (tree_of q anchor tag content) place cursor
headed_trailed_fits q rules e place cursor begun own line rest anchor tag size content kind all below inside =
    let head = line ∷ rest in
    let lines = lines_of rules.breaks12 all.text in
    let is = head_lines_read rules.breaks12 e head all.text in
    block_below_head_fits rules size e place cursor begun (after_head e line rest begun.cursor own) head all.text
    (λ anchor tag. tree_of q anchor tag content) anchor tag kind all.trails.block
    (record {
      settled = all.settled;
      ends = closed_both rules.breaks12 (head_text e head) all.text (head_closed rules.breaks12 e head) all.trails.ends;
      lays = after_head_lays e line rest begun.cursor own all.text all.lays below;
      inside = λ r d within.
          let less = inside r d within in
          subst (Passes r d) (sym is) (head_inside q r d e head lines (farther q r d e less) (entry_follows q rules e lines all.opened)
          (all.trails.inside r d less));
      within = subst AreContent (sym is) (head_within e head lines (opened_not_blank q rules e lines all.opened) all.trails.within);
    })

-- also with blank lines after it, unless these are barred
pub headed_trailed_node : (q : Bool) (rules : Rules) (e : ℕ) (place : Place) (cursor : Cursor) (begun own : Rendered) (line : HeadLine)
    (rest : List HeadLine) (anchor tag : Option Text) (size : ℕ) (content : Content q) (bars : Bool)
    → BegunKind rules anchor tag cursor begun → TrailedOr q rules e first_cursor own size content bars → line_end begun.cursor ≡ line_feed ∷ []
    → ((r : Bool) (d : ℕ) → WithinColumn r d place.role place.column → d < e)
    → FitsOr rules (suc size) (block_own begun (after_head e line rest begun.cursor own)) (tree_of q anchor tag content) place cursor bars
headed_trailed_node q rules e place cursor begun own line rest anchor tag size content bars kind all below inside =
    let head = (render_lines e (line ∷ rest) begun.cursor).text in
    let tree = tree_of q anchor tag content in
    record {
      fits = headed_trailed_fits q rules e place cursor begun own line rest anchor tag size content kind all.trailed below inside;
      spares = λ allowed count.
          subst (λ rendered. Fits rules (suc size) rendered tree place cursor)
          (ap (λ t. block_own begun (record { text = t; cursor = first_cursor })) (ended [] head own.text (closing own.cursor) (blank_text count))
          ∙ blanks_after_block count begun (after_head e line rest begun.cursor own))
          (headed_trailed_fits q rules e place cursor begun (with_blanks count own) line rest anchor tag size content kind (all.spares allowed count)
          below inside);
    }
