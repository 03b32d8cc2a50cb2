-- A node's own text that reads on its lines fits at its place in a block.
use Rattle.yaml_base.proofs.Common.{nat_tests}
use Rattle.yaml_base.proofs.Common.{or_from, or_parts}
use Rattle.yaml_base.proofs.Common.{suc, zero, ℕ, ◌+◌, ◌<◌, ◌≤◌, if◌then◌else◌, ◌==◌, Option, None, Some, Bool, false, not, true, ◌&&◌, ◌||◌, List, [], ◌++◌}
use Rattle.yaml_base.proofs.Common.{◌∷◌, refl, ◌≡◌, ap, ◌∙◌, arith, and_parts, and_from, Text, space, Cursor, Rendered, Place, is_in_mapping, Tree}
use Rattle.yaml_base.proofs.Common.{Line, lines_of, without_skipped_lines, ends_indicator, belongs_to_entry, Indented, spaces, LinesReader, begins_text}
use Rattle.yaml_base.proofs.{stream_lines.StreamLineLaws.is_closed, stream_lines.StreamTidyLaws.lines_after_first, stream_nodes.StreamBlocks.spaces_both}
use Rattle.yaml_base.proofs.{stream_nodes.StreamFits.WithinColumn, stream_nodes.StreamFits.Fits, AllPass.all_pass}
use Rattle.yaml_base.proofs.{stream_nodes.StreamFits.FitsOr, stream_nodes.StreamFits.with_blanks, stream_lines.StreamClosed.closed_alike}
use Rattle.yaml_base.proofs.stream_lines.StreamBlanks.{blanks_after, closed_after, inside_after}
use Rattle.yaml_base.specs.CommentReading.{blanks, blank_text}
use Rattle.yaml_base.proofs.Common.{append-nil, append_assoc, subst, true≢false}
use Rattle.yaml_base.proofs.Common.{kind_of_node, ReadsText, node_by_kind, node_at, begins_properties, text_or_properties, node_read, Rules, no_properties}
use Rattle.yaml_base.proofs.stream_lines.StreamClosed.{closed, Settled, spaces_line, lines_behind, rank}
use Rattle.yaml_base.proofs.stream_lines.StreamInside.{indented_spaces, not_skipped, AllInside, Passes, inside_mapping, inside_passes}
use Rattle.yaml_base.proofs.{stream_lines.StreamMarkerless.all_markerless, stream_lines.StreamSections.AreContent}
use Rattle.yaml_base.proofs.{stream_documents.StreamNoComment.no_text, stream_lines.StreamCuts.none_not_some, Common.eqb-true, Common.sym}

-- Inside

-- a text deeper than a column is deeper than one farther out
inside_farther : (d c : ℕ) (t : Text) → d ≤ c → belongs_to_entry true c t ≡ true → belongs_to_entry true d t ≡ true
inside_farther d c [] le h = refl
inside_farther zero zero (x ∷ t) le h = h
inside_farther zero (suc c) (x ∷ t) le h = ap (λ y. y || false) (and_parts (x == space) (belongs_to_entry true c t) h).0
inside_farther (suc d) zero (x ∷ t) le h = absurd (omega arith)
inside_farther (suc d) (suc c) (x ∷ t) le h = grind (arith, and_parts, and_from, or_parts, or_from, inside_farther d c t (omega arith))

-- lines deeper than a column are inside each that is farther out
pub all_farther : (q : Bool) (d c : ℕ) (lines : List Line) → d ≤ c → AllInside true c lines → AllInside q d lines
all_farther q d c lines le h = grind (arith, nat_tests, all_pass, inside_mapping, inside_farther)

-- Texts

-- a text, up to its last line's end, reads on its lines as a tree: its first line begins no block, the others are deeper
-- than the column around; with blank lines after it, too, unless these are barred
pub record TextReads (rules : Rules) (column : Option ℕ) (text : Text) (tree : Tree) (bars : Bool) : Type 0 where
  pub head : ℕ
  pub first : Text
  pub ending : Text
  pub rest : List Line
  pub is : lines_of rules.breaks12 text ≡ record { text = head ∷ first; ending = ending } ∷ rest
  pub shows : (head == space) ≡ false
  pub kind : kind_of_node rules (head ∷ first) ≡ begins_text
  pub deeper : (c : ℕ) → column ≡ Some c → AllInside true c rest
  pub read : (reads : LinesReader) (at : ℕ) → text_or_properties (begins_properties (head ∷ first)) rules reads column at (head ∷ first) ending rest ≡ Some tree
  pub spares : bars ≡ false → is_closed rules.breaks12 text ≡ true → (count : ℕ) (reads : LinesReader) (at : ℕ)
      → text_or_properties (begins_properties (head ∷ first)) rules reads column at (head ∷ first) ending (rest ++ blanks count) ≡ Some tree

-- it begins no comment
text_uncommented : (rules : Rules) (column : Option ℕ) (text : Text) (tree : Tree) (bars : Bool) (t : TextReads rules column text tree bars)
    → (t.head == 0x23) ≡ false
text_uncommented rules column text tree bars t = by (t.head == 0x23) refl
  where
    reads : LinesReader
    reads = node_read 0 rules

    by : (x : Bool) → (t.head == 0x23) ≡ x → x ≡ false
    by false e = refl
    by true e =
        absurd (none_not_some (sym (no_text rules column no_properties t.first t.ending t.rest)
        ∙ ap (λ c. text_or_properties (begins_properties (c ∷ t.first)) rules reads column 0 (c ∷ t.first) t.ending t.rest) (sym (eqb-true t.head 0x23 e))
        ∙ t.read reads 0))

-- it reads after spaces
text_lines : (rules : Rules) (column : Option ℕ) (text : Text) (tree : Tree) (bars : Bool) → TextReads rules column text tree bars → (depth : ℕ)
    → 1 ≤ depth → (here : Bool) (k : ℕ)
    → node_read depth rules here column (lines_of rules.breaks12 (spaces k ++ text)) ≡ Some tree
text_lines rules column text tree bars t zero deep here k = absurd (omega arith)
text_lines rules column text tree bars t (suc depth) deep here k =
    let line : Line = record { text = spaces k ++ (t.head ∷ t.first); ending = t.ending } in
    let by : ReadsText = λ at text. text_or_properties (begins_properties text) rules (node_read depth rules) column at text in
    let begun : Indented = record { column = k; text = t.head ∷ t.first } in
    ap (node_read (suc depth) rules here column) (lines_behind rules.breaks12 (spaces k) text (t.head ∷ t.first) t.ending t.rest (spaces_line _ k) t.is)
    ∙ ap (λ x. node_at rules (node_read depth rules) by no_properties (here || x) (not x) (if x then without_skipped_lines t.rest else line ∷ t.rest))
    (not_skipped k t.head t.first t.shows (text_uncommented rules column text tree bars t))
    ∙ ap (λ (i : Indented). node_by_kind (kind_of_node rules i.text) rules (node_read depth rules) by no_properties (here || false) true i t.ending t.rest
    (line ∷ t.rest)) (indented_spaces k _ _ t.shows)
    ∙ ap (λ x. node_by_kind x rules (node_read depth rules) by no_properties (here || false) true begun t.ending t.rest (line ∷ t.rest)) t.kind
    ∙ t.read (node_read depth rules) k

-- a node that is rendered as such a text fits
text_fits : (rules : Rules) (own : Rendered) (place : Place) (cursor : Cursor) (count : ℕ) (text : Text) (tree : Tree) (bars : Bool)
    → closed own ≡ spaces count ++ text → is_closed rules.breaks12 (closed own) ≡ true → Settled own.cursor → (cursor.whitespace ≡ false → 0 < count)
    → TextReads rules place.column text tree bars → Fits rules 1 own tree place cursor
text_fits rules own place cursor count text tree bars same ends settled some t =
    let prefix = lines_behind rules.breaks12 (spaces count) text (t.head ∷ t.first) t.ending t.rest (spaces_line rules.breaks12 count) t.is in
    let later : lines_after_first (lines_of rules.breaks12 (closed own)) ≡ t.rest =
    ap (λ u. lines_after_first (lines_of rules.breaks12 u)) same ∙ ap lines_after_first prefix in
    record {
      settled = settled;
      ends = ends;
      opens = λ w. record {
        head = spaces count ++ (t.head ∷ t.first);
        ending = t.ending;
        rest = t.rest;
        is = ap (lines_of rules.breaks12) same ∙ prefix;
        symbol = opens count (some w);
      };
      inside = λ q d within. subst (Passes q d) (sym later) (inside_passes q d t.rest (inside q d place.column refl within));
      within = λ c e. subst AreContent (sym later) (all_markerless false t.rest (all_farther false 0 c t.rest (omega arith) (t.deeper c e)));
      reads = λ depth deep here k begins.
          ap (λ u. node_read depth rules here place.column (lines_of rules.breaks12 (spaces k ++ u))) same
          ∙ ap (λ u. node_read depth rules here place.column (lines_of rules.breaks12 u)) (spaces_both k count (k + count) text refl)
          ∙ text_lines rules place.column text tree bars t depth deep here (k + count);
    }
  where
    opens : (count : ℕ) → 0 < count → ends_indicator (spaces count ++ (t.head ∷ t.first)) ≡ true
    opens zero h = absurd (omega arith)
    opens (suc count) h = refl

    inside : (q : Bool) (d : ℕ) (column : Option ℕ) → place.column ≡ column → WithinColumn q d place.role column → AllInside q d t.rest
    inside q d None e within = absurd within
    inside q d (Some c) e within = all_farther q d c t.rest (less (q && is_in_mapping place.role) within) (t.deeper c e)
      where
        less : (x : Bool) → d + rank x ≤ c → d ≤ c
        less true h = omega arith
        less false h = omega arith

-- Blank lines after them

-- a text after spaces ends with a break as they both do
text_closed : (breaks12 : Bool) (count : ℕ) (text : Text) → is_closed breaks12 (spaces count ++ text) ≡ true → is_closed breaks12 text ≡ true
text_closed breaks12 count [] h = refl
text_closed breaks12 count (c ∷ text) h = closed_alike breaks12 [] (spaces count) c text h

-- a text reads with blank lines after it if they aren't barred
text_spares : (rules : Rules) (column : Option ℕ) (text : Text) (tree : Tree) (count : ℕ) → is_closed rules.breaks12 text ≡ true
    → TextReads rules column text tree false → TextReads rules column (text ++ blank_text count) tree true
text_spares rules column text tree count ends t = record {
  head = t.head;
  first = t.first;
  ending = t.ending;
  rest = t.rest ++ blanks count;
  is = blanks_after rules.breaks12 text count ends ∙ ap (λ ls. ls ++ blanks count) t.is;
  shows = t.shows;
  kind = t.kind;
  deeper = λ c e. inside_after true c t.rest count (t.deeper c e);
  read = t.spares refl ends count;
  spares = λ h. absurd (true≢false h);
}

-- so does a node that is rendered as such a text
pub text_node : (rules : Rules) (own : Rendered) (place : Place) (cursor : Cursor) (count : ℕ) (text : Text) (tree : Tree) (bars : Bool)
    → closed own ≡ spaces count ++ text → is_closed rules.breaks12 (closed own) ≡ true → Settled own.cursor → (cursor.whitespace ≡ false → 0 < count)
    → TextReads rules place.column text tree bars → FitsOr rules 1 own tree place cursor bars
text_node rules own place cursor count text tree bars same ends settled some t = record {
  fits = text_fits rules own place cursor count text tree bars same ends settled some t;
  spares = λ allowed blanks.
      let ended = text_closed rules.breaks12 count text (ap (is_closed rules.breaks12) (sym same) ∙ ends) in
      let added : closed (with_blanks blanks own) ≡ spaces count ++ (text ++ blank_text blanks) =
      append-nil (closed own ++ blank_text blanks) ∙ ap (λ u. u ++ blank_text blanks) same ∙ append_assoc (spaces count) text (blank_text blanks) in
      text_fits rules (with_blanks blanks own) place cursor count (text ++ blank_text blanks) tree true added
      (ap (is_closed rules.breaks12) (append-nil (closed own ++ blank_text blanks)) ∙ closed_after rules.breaks12 (closed own) blanks ends)
      (λ h. (refl, refl)) some (text_spares rules place.column text tree blanks ended (subst (TextReads rules place.column text tree) allowed t));
}
