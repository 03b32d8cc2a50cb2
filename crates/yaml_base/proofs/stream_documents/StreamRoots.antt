-- A root that fits reads as its document's tree: on lines of its own, on the line of `---`, and below that line.
use Rattle.yaml_base.proofs.Common.{arith, suc, zero, ℕ, ◌≤◌, if◌then◌else◌, None, Some, codes, Bool, false, true, List, [], ◌++◌, ◌∷◌, refl, ◌≡◌, ap, sym}
use Rattle.yaml_base.proofs.Common.{◌∙◌, false≢true, Cursor, Rendered, root_place, Tree, stands_at_margin, root_below, Line, lines_of}
use Rattle.yaml_base.specs.streams.StreamLines.{is_skipped}
use Rattle.yaml_base.proofs.Common.{without_skipped_lines, first_line_is_skipped, past_indentation, blanked, LinesReader, NodeKind, begins_sequence}
use Rattle.yaml_base.proofs.stream_lines.{StreamClosed.closed, StreamClosed.margin_cursor, StreamCuts.none_not_some}
use Rattle.yaml_base.proofs.Common.{begins_mapping, begins_text, kind_of_node, ReadsText, node_by_kind, node_at, node_read, Rules, Properties}
use Rattle.yaml_base.proofs.stream_nodes.StreamFits.{Opens, Fits, blanked_lines}
use Rattle.yaml_base.proofs.stream_lines.StreamSections.{content_later, AreContent, kept_after, content_kept}
use Rattle.yaml_base.specs.streams.StreamDocuments.{content_lines, root_after_marker, root_with_marker}

-- the cursor after `---`
abbrev pub marker_cursor : Cursor
marker_cursor = record { column = 3; whitespace = false; indention = false }

-- a root on lines of its own
pub root_reads : (rules : Rules) (n : ℕ) (own : Rendered) (tree : Tree) → Fits rules n own tree root_place (margin_cursor 0)
    → stands_at_margin (lines_of rules.breaks12 (closed own)) ≡ true → AreContent (lines_of rules.breaks12 (closed own)) → (depth : ℕ) → n ≤ depth
    → root_below depth rules (lines_of rules.breaks12 (closed own)) ≡ Some tree
root_reads rules n own tree fit margin markerless depth deep =
    ap (λ x. if x then node_read depth rules true None (content_lines (lines_of rules.breaks12 (closed own))) else None) margin
    ∙ ap (node_read depth rules true None) (content_kept (lines_of rules.breaks12 (closed own)) markerless)
    ∙ fit.reads depth deep true 0 (λ h. (refl, refl))

-- a line that isn't skipped stays so
shown_once : (lines : List Line) → (first_line_is_skipped (without_skipped_lines lines) ≡ false)
    × (without_skipped_lines (without_skipped_lines lines) ≡ without_skipped_lines lines)
shown_once [] = (refl, refl)
shown_once (line ∷ rest) = grind (arith, shown_once rest)

-- lines that are read if no text may begin are read if one may
first_more : (rules : Rules) (reads : LinesReader) (reads_text : ReadsText) (properties : Properties) (lines : List Line) (tree : Tree)
    → node_at rules reads reads_text properties true false lines ≡ Some tree → node_at rules reads reads_text properties true true lines ≡ Some tree
first_more rules reads reads_text properties [] tree h = h
first_more rules reads reads_text properties (line ∷ rest) tree h = by (kind_of_node rules (past_indentation line.text).text) h
  where
    by : (kind : NodeKind)
        → node_by_kind kind rules reads reads_text properties true false (past_indentation line.text) line.ending rest (line ∷ rest) ≡ Some tree
        → node_by_kind kind rules reads reads_text properties true true (past_indentation line.text) line.ending rest (line ∷ rest) ≡ Some tree
    by begins_sequence h = h
    by begins_mapping h = h
    by begins_text h = absurd (none_not_some h)

-- a node below a blank line or a comment reads on lines of its own
below_skipped : (depth : ℕ) (rules : Rules) (line : Line) (rest : List Line) (tree : Tree) → is_skipped line.text ≡ true
    → node_read depth rules false None (line ∷ rest) ≡ Some tree → node_read depth rules true None (without_skipped_lines rest) ≡ Some tree
below_skipped zero rules line rest tree skipped h = absurd (none_not_some h)
below_skipped (suc depth) rules line rest tree skipped h = grind (arith, shown_once, first_more)

-- what isn't skipped of such lines is such
skipped_markerless : (lines : List Line) → AreContent lines → AreContent (without_skipped_lines lines)
skipped_markerless [] h = h
skipped_markerless (line ∷ rest) h =
    by (is_skipped line.text) (skipped_markerless rest (content_later line rest h))
  where
    by : (x : Bool) → AreContent (without_skipped_lines rest) → AreContent (if x then without_skipped_lines rest else line ∷ rest)
    by true after = after
    by false after = h

-- a root after `---`, on its line or below it
pub root_with_marker_reads : (rules : Rules) (n : ℕ) (own : Rendered) (tree : Tree) (fit : Fits rules n own tree root_place marker_cursor)
    → (is_skipped (fit.opens refl).head ≡ true → stands_at_margin (without_skipped_lines (fit.opens refl).rest) ≡ true)
    → AreContent (fit.opens refl).rest → (depth : ℕ) → n ≤ depth
    → root_with_marker depth rules (record { text = codes "---" ++ (fit.opens refl).head; ending = (fit.opens refl).ending }) (fit.opens refl).rest ≡ Some tree
root_with_marker_reads rules n own tree fit margin markerless depth deep = by (is_skipped o.head) refl
  where
    o : Opens rules.breaks12 (closed own)
    o = fit.opens refl

    whole : node_read depth rules false None (blanked 3 o.head o.ending ∷ o.rest) ≡ Some tree
    whole = ap (node_read depth rules false None) (sym (blanked_lines _ 3 _ o))
        ∙ fit.reads depth deep false 3 (λ h. absurd (false≢true h))

    by : (x : Bool) → is_skipped o.head ≡ x → root_after_marker x depth rules (blanked 3 o.head o.ending) o.rest ≡ Some tree
    by false e =
        ap (λ ls. node_read depth rules false None (blanked 3 o.head o.ending ∷ ls)) (kept_after (blanked 3 o.head o.ending).text o.rest markerless) ∙ whole
    by true e =
        ap (λ x. if x then node_read depth rules true None (content_lines (without_skipped_lines o.rest)) else None) (margin e)
        ∙ ap (node_read depth rules true None) (content_kept (without_skipped_lines o.rest) (skipped_markerless o.rest markerless))
        ∙ below_skipped depth rules _ _ tree e whole
