-- The entries of a collection and a head after the last of them, at their column: the head adds nothing, and belongs to the entries farther out.
use Rattle.yaml_base.proofs.Common.{ℕ, ◌≤◌, ◌<◌, ◌+◌, arith, fold, Some, Bool, false, true, List, [], ◌∷◌, ◌++◌, ◌≡◌, refl, ap, sym, ◌∙◌, subst}
use Rattle.yaml_base.proofs.Common.{append-nil, map}
use Rattle.yaml_base.proofs.Common.{Text, Cursor, Rendered, Line, lines_of, node_read, Rules}
use Rattle.yaml_base.proofs.CommentEntries.{item_after, lines_inside}
use Rattle.yaml_base.proofs.CommentLines.{head_line, head_lines_alone}
use Rattle.yaml_base.proofs.stream_lines.StreamClosed.{closed_both}
use Rattle.yaml_base.proofs.stream_lines.StreamInside.{Passes, inside_passes, passes_both}
use Rattle.yaml_base.proofs.stream_lines.StreamLineLaws.{is_closed, lines_after_break}
use Rattle.yaml_base.proofs.stream_lines.{StreamMarkerless.all_markerless, StreamSections.AreContent, StreamSections.content_both}
use Rattle.yaml_base.proofs.stream_nodes.StreamBlocks.{Block, opened_reads}
use Rattle.yaml_base.proofs.stream_nodes.StreamCentral.{read_by_kind}
use Rattle.yaml_base.proofs.stream_nodes.StreamHeads.{comment_entry, entries_over, head_closed, head_entries, heads_split}
use Rattle.yaml_base.proofs.stream_nodes.StreamLaid.{Content, Laid, Opened, entries_kind, entry_step, held, margin, no_content, opened_more, tree_of}
use Rattle.yaml_base.specs.Comments.{HeadLine, comment_line}
use Rattle.yaml_base.specs.CommentReading.{head_text}
use Rattle.yaml_base.specs.streams.StreamLines.{Entries, entries_at, item_follows}

-- the text of a collection's entries reads as its tree, ends with a break, and belongs to the entries of each column farther out
pub record Trails (q : Bool) (rules : Rules) (e : ℕ) (text : Text) (size : ℕ) (content : Content q) : Type 0 where
  pub block : Block rules size e text (λ anchor tag. tree_of q anchor tag content)
  pub ends : is_closed rules.breaks12 text ≡ true
  pub inside : (r : Bool) (d : ℕ) → d < e → Passes r d (lines_of rules.breaks12 text)
  pub within : AreContent (lines_of rules.breaks12 text)

-- the entries of a head alone
head_alone : (q : Bool) (e : ℕ) (head : List HeadLine)
    → entries_at q e (map (head_line e) head) ≡ record { before = (head_entries e head).before; entries = (head_entries e head).entries }
head_alone q e head =
    let own = head_entries e head in
    ap (entries_at q e) (sym (append-nil (map (head_line e) head))) ∙ heads_split q e head [] refl (λ h. refl)
    ∙ ap (λ es. record { before = own.before; entries = es }) (append-nil own.entries)

-- no item follows it
head_ends : (e : ℕ) (head : List HeadLine) → item_follows e (map (head_line e) head) ≡ false
head_ends e head = ap (item_follows e) (sym (append-nil (map (head_line e) head))) ∙ item_after e head []

-- entries of a collection that lie deeper than a column are inside it
pub farther : (q r : Bool) (d e : ℕ) → d < e → d + margin q r ≤ e
farther false r d e less = omega arith
farther true true d e less = omega arith
farther true false d e less = omega arith

-- so it is for entries and a head that begins with a comment after them, at a column deeper than that of the root
pub trailing_head : (q : Bool) (rules : Rules) (e : ℕ) (cursor : Cursor) (comment : Text) (rest : List HeadLine) (own : Rendered) (size : ℕ)
    (content : Content q) → 1 ≤ e → (all : Laid q rules e cursor false own size content)
    → Trails q rules e (all.text ++ head_text e (comment_line comment ∷ rest)) size content
trailing_head q rules e cursor comment rest own size content deep all = record {
  block = record {
    kind = entries_kind q;
    opened = opening;
    reads = λ depth deep reads_text properties first tag parsed.
        opened_reads rules (node_read depth rules) reads_text properties true first e whole (entries_kind q) opening
        ∙ read_by_kind q rules (node_read depth rules) reads_text properties first _ opening.ending opening.rest whole (all.reads.entries ++ added)
        content tag split (read depth deep) parsed;
  };
  ends = closed_both rules.breaks12 all.text (head_text e head) all.reads.ends (head_closed rules.breaks12 e head);
  inside = λ r d less.
      subst (Passes r d) (sym is) (passes_both r d lines (map (head_line e) head) (all.reads.inside r d (farther q r d e less))
      (inside_passes r d (map (head_line e) head) (lines_inside r d e head less)));
  within = subst AreContent (sym is) (content_both lines (map (head_line e) head) all.reads.within
      (all_markerless false (map (head_line e) head) (lines_inside false 0 e head deep)));
}
  where
    head : List HeadLine
    head = comment_line comment ∷ rest

    lines : List Line
    lines = lines_of rules.breaks12 all.text

    whole : List Line
    whole = lines_of rules.breaks12 (all.text ++ head_text e head)

    added : List (List Line)
    added = (entries_at q e (map (head_line e) head)).entries

    is : whole ≡ lines ++ map (head_line e) head
    is = lines_after_break rules.breaks12 all.text (head_text e head) all.reads.ends ∙ ap (λ ls. lines ++ ls) (head_lines_alone rules.breaks12 e head)

    opening : Opened rules e whole (entries_kind q)
    opening = subst (λ ls. Opened rules e ls (entries_kind q)) (sym is) (opened_more rules e lines (map (head_line e) head) (entries_kind q) (all.opened refl))

    split : entries_at q e whole ≡ record { before = []; entries = all.reads.entries ++ added }
    split = ap (entries_at q e) is
        ∙ all.reads.splits.splits (map (head_line e) head)
        (ap (λ (a : Entries). a.before) (head_alone q e head) ∙ ap (λ (a : Entries). a.before) (comment_entry e comment rest)) (λ h. head_ends e head)

    read : (depth : ℕ) → size ≤ depth
        → fold (entry_step q rules (node_read depth rules) e) (Some (held q (no_content q))) (all.reads.entries ++ added) ≡ Some (held q content)
    read depth deep =
        all.reads.reads depth deep added
        ∙ ap (λ (a : Entries). fold (entry_step q rules (node_read depth rules) e) (Some (held q content)) a.entries) (head_alone q e head)
        ∙ entries_over q rules (node_read depth rules) e head content
