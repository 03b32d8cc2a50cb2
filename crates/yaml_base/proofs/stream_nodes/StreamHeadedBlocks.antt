-- A collection in a block whose first entry follows a head on lines below its properties, or below an indicator, fits if its entries are laid out.
use Rattle.yaml_base.proofs.Common.{zero, arith, not, true, ◌||◌, or-true, None, Some, true≢false, Tree, spaces, render_nothing, root_place, node_read, node_at}
use Rattle.yaml_base.proofs.Common.{ReadsText}
use Rattle.yaml_base.proofs.Common.{text_or_properties, begins_properties, no_properties, first_line_is_skipped, without_skipped_lines}
use Rattle.yaml_base.proofs.{CommentLines.head_line_skipped, stream_lines.StreamCuts.none_not_some, stream_lines.StreamLineLaws.is_closed}
use Rattle.yaml_base.proofs.stream_nodes.StreamBlocks.{Block, blanks_after_block, head_skipped, own_closed}
use Rattle.yaml_base.proofs.stream_nodes.{StreamFits.FitsOr, StreamFits.ended, StreamFits.with_blanks, StreamLaid.LaidOr}
use Rattle.yaml_base.specs.CommentReading.{blank_text}
use Rattle.yaml_base.proofs.Common.{ℕ, suc, ◌+◌, ◌≤◌, Option, Bool, false, List, [], ◌∷◌, ◌++◌, ◌≡◌, ap, sym, ◌∙◌, subst, append_assoc, Text, line_feed}
use Rattle.yaml_base.proofs.Common.{Cursor, Rendered, Place, first_cursor, lines_of, Rules, refl}
use Rattle.yaml_base.proofs.CommentLines.{head_lines_read}
use Rattle.yaml_base.proofs.stream_lines.StreamClosed.{closed, closed_both, closing, new_line_closes}
use Rattle.yaml_base.proofs.stream_lines.StreamInside.{Passes}
use Rattle.yaml_base.proofs.stream_lines.StreamSections.{AreContent}
use Rattle.yaml_base.proofs.stream_nodes.StreamBlocks.{BegunKind, EntriesBelow, block_below_head_fits, block_own}
use Rattle.yaml_base.proofs.stream_nodes.StreamCentral.{laid_block}
use Rattle.yaml_base.proofs.stream_nodes.StreamFits.{Fits, WithinColumn}
use Rattle.yaml_base.proofs.stream_nodes.StreamHeads.{entry_follows, head_closed, head_inside, head_within, opened_not_blank}
use Rattle.yaml_base.proofs.stream_nodes.StreamLaid.{Content, Laid, Lays, margin, tree_of}
use Rattle.yaml_base.specs.Comments.{HeadLine, line_end, render_lines}
use Rattle.yaml_base.specs.CommentReading.{head_text}

-- entries from a line's start on, after a head that is rendered from a cursor on
abbrev pub after_head : ℕ → HeadLine → List HeadLine → Cursor → (own : Rendered) → Rendered
after_head e line rest cursor own = record { text = (render_lines e (line ∷ rest) cursor).text ++ own.text; cursor = own.cursor }

-- their text
pub after_head_lays : (e : ℕ) (line : HeadLine) (rest : List HeadLine) (cursor : Cursor) (own : Rendered) (text : Text)
    → Lays e (render_nothing first_cursor) own text → line_end cursor ≡ line_feed ∷ []
    → closed (after_head e line rest cursor own) ≡ line_feed ∷ (head_text e (line ∷ rest) ++ text)
after_head_lays e line rest cursor own text lays below =
    let head = head_text e (line ∷ rest) in
    append_assoc (line_end cursor ++ head) own.text (closing own.cursor)
    ∙ ap (λ t. (t ++ head) ++ closed own) below
    ∙ ap (λ t. line_feed ∷ (head ++ t))
    (lays.lays ∙ ap (λ t. t ++ (lays.head ∷ lays.tail)) (new_line_closes e first_cursor (λ h. (refl, refl))) ∙ sym lays.is)

-- they are entries below a head
below_head : (q : Bool) (rules : Rules) (e : ℕ) (place : Place) (line : HeadLine) (rest : List HeadLine) (cursor : Cursor) (own : Rendered) (size : ℕ)
    (content : Content q) (laid : Laid q rules e first_cursor false own size content) → line_end cursor ≡ line_feed ∷ []
    → ((r : Bool) (d : ℕ) → WithinColumn r d place.role place.column → d + margin q r ≤ e)
    → EntriesBelow rules e place (after_head e line rest cursor own) (line ∷ rest) laid.text
below_head q rules e place line rest cursor own size content laid below inside =
    let head = line ∷ rest in
    let lines = lines_of rules.breaks12 laid.text in
    let is = head_lines_read rules.breaks12 e head laid.text in
    let opened = laid.opened refl in
    record {
      settled = laid.settled refl;
      ends = closed_both rules.breaks12 (head_text e head) laid.text (head_closed rules.breaks12 e head) laid.reads.ends;
      lays = after_head_lays e line rest cursor own laid.text (laid.lays refl) below;
      inside = λ r d within.
          subst (Passes r d) (sym is) (head_inside q r d e head lines (inside r d within) (entry_follows q rules e lines opened)
          (laid.reads.inside r d (inside r d within)));
      within = subst AreContent (sym is) (head_within e head lines (opened_not_blank q rules e lines opened) laid.reads.within);
    }

-- so the collection fits
pub headed_block_fits : (q : Bool) (rules : Rules) (e : ℕ) (place : Place) (cursor : Cursor) (begun own : Rendered) (line : HeadLine) (rest : List HeadLine)
    (anchor tag : Option Text) (size : ℕ) (content : Content q)
    → BegunKind rules anchor tag cursor begun → Laid q rules e first_cursor false own size content → line_end begun.cursor ≡ line_feed ∷ []
    → ((r : Bool) (d : ℕ) → WithinColumn r d place.role place.column → d + margin q r ≤ e)
    → Fits rules (suc size) (block_own begun (after_head e line rest begun.cursor own)) (tree_of q anchor tag content) place cursor
headed_block_fits q rules e place cursor begun own line rest anchor tag size content kind laid below inside =
    block_below_head_fits rules size e place cursor begun (after_head e line rest begun.cursor own) (line ∷ rest) laid.text
    (λ anchor tag. tree_of q anchor tag content) anchor tag kind (laid_block q rules e first_cursor false own size content laid refl)
    (below_head q rules e place line rest begun.cursor own size content laid below inside)

-- also with blank lines after it, unless these are barred
pub headed_block_node : (q : Bool) (rules : Rules) (e : ℕ) (place : Place) (cursor : Cursor) (begun own : Rendered) (line : HeadLine) (rest : List HeadLine)
    (anchor tag : Option Text) (size : ℕ) (content : Content q) (bars : Bool)
    → BegunKind rules anchor tag cursor begun → LaidOr q rules e first_cursor false own size content bars → line_end begun.cursor ≡ line_feed ∷ []
    → ((r : Bool) (d : ℕ) → WithinColumn r d place.role place.column → d + margin q r ≤ e)
    → FitsOr rules (suc size) (block_own begun (after_head e line rest begun.cursor own)) (tree_of q anchor tag content) place cursor bars
headed_block_node q rules e place cursor begun own line rest anchor tag size content bars kind all below inside =
    let head = (render_lines e (line ∷ rest) begun.cursor).text in
    let tree = tree_of q anchor tag content in
    record {
      fits = headed_block_fits q rules e place cursor begun own line rest anchor tag size content kind all.laid below inside;
      spares = λ allowed count.
          subst (λ rendered. Fits rules (suc size) rendered tree place cursor)
          (ap (λ t. block_own begun (record { text = t; cursor = first_cursor })) (ended [] head own.text (closing own.cursor) (blank_text count))
          ∙ blanks_after_block count begun (after_head e line rest begun.cursor own))
          (headed_block_fits q rules e place cursor begun (with_blanks count own) line rest anchor tag size content kind (all.spares refl allowed count)
          below inside);
    }

-- At a document's start, where no line precedes the head

-- the text of entries at column 0 after a head
root_lays : (q : Bool) (rules : Rules) (line : HeadLine) (rest : List HeadLine) (own : Rendered) (size : ℕ) (content : Content q)
    (laid : Laid q rules 0 first_cursor false own size content)
    → closed (block_own (render_nothing first_cursor) (after_head 0 line rest first_cursor own)) ≡ head_text 0 (line ∷ rest) ++ laid.text
root_lays q rules line rest own size content laid =
    let head = head_text 0 (line ∷ rest) in
    let lays = laid.lays refl in
    own_closed (render_nothing first_cursor) (after_head 0 line rest first_cursor own) ∙ append_assoc head own.text (closing own.cursor)
    ∙ ap (λ t. head ++ t) (lays.lays ∙ sym lays.is)

-- a root whose first entry follows a head fits
pub headed_root_fits : (q : Bool) (rules : Rules) (line : HeadLine) (rest : List HeadLine) (own : Rendered) (size : ℕ) (content : Content q)
    → Laid q rules 0 first_cursor false own size content
    → Fits rules (suc size) (block_own (render_nothing first_cursor) (after_head 0 line rest first_cursor own)) (tree_of q None None content) root_place
    first_cursor
headed_root_fits q rules line rest own size content laid = record {
  settled = laid.settled refl;
  ends = ap (is_closed rules.breaks12) same
      ∙ closed_both rules.breaks12 (head_text 0 head) laid.text (head_closed rules.breaks12 0 head) laid.reads.ends;
  opens = λ w. absurd (true≢false w);
  inside = λ r d within. absurd within;
  within = λ c e. absurd (none_not_some e);
  reads = λ depth deep here k begins.
      let is_here = begins refl in
      ap (λ (n : ℕ). node_read depth rules here None (lines_of rules.breaks12 (spaces n ++ closed whole))) is_here.1
      ∙ ap (λ t. node_read depth rules here None (lines_of rules.breaks12 t)) same ∙ read depth deep here;
}
  where
    head : List HeadLine
    head = line ∷ rest

    whole : Rendered
    whole = block_own (render_nothing first_cursor) (after_head 0 line rest first_cursor own)

    same : closed whole ≡ head_text 0 head ++ laid.text
    same = root_lays q rules line rest own size content laid

    make : Option Text → Option Text → Tree
    make anchor tag = tree_of q anchor tag content

    block : Block rules size 0 laid.text make
    block = laid_block q rules 0 first_cursor false own size content laid refl

    skipped : first_line_is_skipped (lines_of rules.breaks12 (head_text 0 head ++ laid.text)) ≡ true
    skipped = ap first_line_is_skipped (head_lines_read rules.breaks12 0 head laid.text) ∙ head_line_skipped 0 line

    read : (depth : ℕ) → suc size ≤ depth → (here : Bool)
        → node_read depth rules here None (lines_of rules.breaks12 (head_text 0 head ++ laid.text)) ≡ Some (tree_of q None None content)
    read zero deep here = absurd (omega arith)
    read (suc depth) deep here =
        let texts : ReadsText = λ at text. text_or_properties (begins_properties text) rules (node_read depth rules) None at text in
        let lines = lines_of rules.breaks12 (head_text 0 head ++ laid.text) in
        ap (λ x. node_at rules (node_read depth rules) texts no_properties (here || x) (not x) (without_skipped_lines lines)) skipped
        ∙ ap (λ x. node_at rules (node_read depth rules) texts no_properties x false (without_skipped_lines lines)) (or-true here)
        ∙ ap (node_at rules (node_read depth rules) texts no_properties true false) (head_skipped rules size 0 head laid.text make block)
        ∙ block.reads depth (omega arith) texts no_properties false None refl
