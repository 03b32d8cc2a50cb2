-- The entries of a collection in a block, one after another, be they the items of a sequence or the pairs of a mapping: the text of each begins on a line
-- of its own, its lines are entries to the reader, lie inside the columns around, and add its trees to those before them.
use Rattle.yaml_base.proofs.Common.{ℕ, ◌+◌, ◌≤◌, ◌==◌, if◌then◌else◌, fold, Option, None, Some, Bool, false, true, List, [], ◌++◌, ◌∷◌, refl}
use Rattle.yaml_base.proofs.Common.{◌≡◌, true≢false, append_assoc, ap, subst, sym, ◌∙◌, arith, Text, space, Cursor, Rendered, render_nothing}
use Rattle.yaml_base.proofs.Common.{new_line, Tree, Trees, no_trees, sequence_tree, TreePairs, no_tree_pairs, mapping_tree, Line, lines_of, spaces}
use Rattle.yaml_base.proofs.Common.{LinesReader, NodeKind, begins_sequence, begins_mapping, kind_of_node, node_read, Rules}
use Rattle.yaml_base.proofs.Common.{marker_of, ends_indicator, belongs_to_entry, is_in_mapping, entry_place, Role, not, ◌&&◌, and_from, nat_tests}
use Rattle.yaml_base.proofs.stream_lines.StreamClosed.{closing, closed, Settled, new_line_closes, closed_both, rank}
use Rattle.yaml_base.proofs.stream_lines.StreamInside.{Passes, passes_both, inside_passes, entry_alone, Splits, splits_none, splits_both, splits_one}
use Rattle.yaml_base.proofs.stream_lines.StreamInside.{begins_entry, outside}
use Rattle.yaml_base.proofs.stream_lines.StreamInside.{begins_uncommented, entry_uncommented}
use Rattle.yaml_base.proofs.stream_lines.StreamLineLaws.{is_closed, OneLine, lines_after_break}
use Rattle.yaml_base.proofs.stream_lines.StreamSections.{is_markerless, is_content, all_content, AreContent, content_both}
use Rattle.yaml_base.proofs.stream_lines.StreamMarkerless.{inside_content}
use Rattle.yaml_base.proofs.stream_lines.StreamTidyLaws.{lines_after_first}
use Rattle.yaml_base.proofs.Common.{zero, suc, append-nil}
use Rattle.yaml_base.proofs.stream_nodes.StreamFits.{Fits, with_blanks, indicated_lines, indicated_ends}
use Rattle.yaml_base.specs.streams.StreamNodes.{HeldPairs, item_read, with_item, with_item_or_comment, entry_read, between_pairs, pair_or_comment}
use Rattle.yaml_base.specs.streams.StreamLines.{all_blank, begins_comment, is_comment_at}

-- Kinds of collections

-- the trees of a collection's entries
abbrev pub Content : (in_sequence : Bool) → Type 0
Content true = Trees
Content false = TreePairs

abbrev pub no_content : (in_sequence : Bool) → Content in_sequence
no_content true = no_trees
no_content false = no_tree_pairs

-- the tree of a collection
abbrev pub tree_of : (in_sequence : Bool) → Option Text → Option Text → Content in_sequence → Tree
tree_of true anchor tag trees = sequence_tree anchor tag trees
tree_of false anchor tag pairs = mapping_tree anchor tag pairs

-- the state of the reader of entries, and the one in which no key waits for its value
abbrev pub Held : (in_sequence : Bool) → Type 0
Held true = Trees
Held false = HeldPairs

abbrev pub held : (in_sequence : Bool) → Content in_sequence → Held in_sequence
held true trees = trees
held false pairs = record { pairs = pairs; key = None }

-- an entry is read, be it a comment or not
abbrev pub entry_step : (in_sequence : Bool) → Rules → LinesReader → ℕ → Option (Held in_sequence) → List Line → Option (Held in_sequence)
entry_step true rules reads e before entry = with_item_or_comment reads e before entry
entry_step false rules reads e before entry = pair_or_comment rules reads e before entry

-- an entry that is no comment is read
abbrev pub part_step : (in_sequence : Bool) → Rules → LinesReader → ℕ → Option (Held in_sequence) → List Line → Option (Held in_sequence)
part_step true rules reads e before entry = with_item before (item_read reads e entry)
part_step false rules reads e before entry = entry_read rules reads e before entry

-- an entry is none if its first line is none at the column
step_of_part : (q : Bool) (rules : Rules) (reads : LinesReader) (e : ℕ) (before : Option (Held q)) (line : Line) (rest : List Line)
    → is_comment_at e line.text ≡ false → entry_step q rules reads e before (line ∷ rest) ≡ part_step q rules reads e before (line ∷ rest)
step_of_part true rules reads e before line rest h =
    ap (λ b. if b && all_blank rest then before else with_item before (item_read reads e (line ∷ rest))) h
step_of_part false rules reads e before line rest h =
    ap (λ b. if b && all_blank rest then between_pairs before else entry_read rules reads e before (line ∷ rest)) h

abbrev pub entries_kind : (in_sequence : Bool) → NodeKind
entries_kind true = begins_sequence
entries_kind false = begins_mapping

-- the number of columns by which the entries of a collection inside a column are deeper
abbrev pub margin : (in_sequence : Bool) → Bool → ℕ
margin true q = rank q
margin false q = 1

-- Texts

-- some lines, the first of which begins a node at a column
pub record Opened (rules : Rules) (e : ℕ) (lines : List Line) (kind : NodeKind) : Type 0 where
  pub head : ℕ
  pub tail : Text
  pub ending : Text
  pub rest : List Line
  pub is : lines ≡ record { text = spaces e ++ (head ∷ tail); ending = ending } ∷ rest
  pub shows : (head == space) ≡ false
  pub uncommented : (head == 0x23) ≡ false
  pub begins : kind_of_node rules (head ∷ tail) ≡ kind

-- more lines after them
pub opened_more : (rules : Rules) (e : ℕ) (lines more : List Line) (kind : NodeKind) → Opened rules e lines kind → Opened rules e (lines ++ more) kind
opened_more rules e lines more kind o = grind (arith)

-- the rendered text of entries at a column after another: a new line, and then their text without its first spaces
pub record Lays (e : ℕ) (first own : Rendered) (text : Text) : Type 0 where
  pub head : ℕ
  pub tail : Text
  pub is : text ≡ spaces e ++ (head ∷ tail)
  pub lays : closed own ≡ first.text ++ ((new_line e first.cursor).text ++ (head ∷ tail))

-- Lines

-- the effect of a text's lines on the reader of entries at a column
pub record Reads (q : Bool) (rules : Rules) (e : ℕ) (text : Text) (size : ℕ) (before after : Held q) : Type 0 where
  pub entries : List (List Line)
  pub ends : is_closed rules.breaks12 text ≡ true
  pub splits : Splits q e (lines_of rules.breaks12 text) entries
  pub inside : (r : Bool) (d : ℕ) → d + margin q r ≤ e → Passes r d (lines_of rules.breaks12 text)
  pub within : AreContent (lines_of rules.breaks12 text)
  pub reads : (depth : ℕ) → size ≤ depth → (rest : List (List Line))
      → fold (entry_step q rules (node_read depth rules) e) (Some before) (entries ++ rest)
      ≡ fold (entry_step q rules (node_read depth rules) e) (Some after) rest

-- no lines
reads_none : (q : Bool) (rules : Rules) (e : ℕ) (before : Held q) → Reads q rules e [] 0 before before
reads_none q rules e before = record {
  entries = [];
  ends = refl;
  splits = splits_none q e;
  inside = λ r d h. inside_passes r d [] refl;
  within = all_content [] refl;
  reads = λ depth deep rest. refl;
}

-- lines, and then others
pub reads_both : (q : Bool) (rules : Rules) (e : ℕ) (text more : Text) (m n : ℕ) (a b c : Held q)
    → Reads q rules e text m a b → Reads q rules e more n b c → Reads q rules e (text ++ more) (m + n) a c
reads_both q rules e text more m n a b c one two =
    let some = lines_of rules.breaks12 text in
    let others = lines_of rules.breaks12 more in
    let lines = lines_after_break rules.breaks12 text more one.ends in
    record {
      entries = one.entries ++ two.entries;
      ends = closed_both rules.breaks12 text more one.ends two.ends;
      splits = subst (λ ls. Splits q e ls (one.entries ++ two.entries)) (sym lines) (splits_both q e some others _ _ one.splits two.splits);
      inside = λ r d h. subst (Passes r d) (sym lines) (passes_both r d some others (one.inside r d h) (two.inside r d h));
      within = subst AreContent (sym lines) (content_both some others one.within two.within);
      reads = λ depth deep rest.
          ap (fold (entry_step q rules (node_read depth rules) e) (Some a)) (append_assoc one.entries two.entries rest)
          ∙ one.reads depth (omega arith) (two.entries ++ rest) ∙ two.reads depth (omega arith) rest;
    }

-- the columns around lie by one less around the later lines of an entry
later_rank : (q r : Bool) (d e : ℕ) → d + margin q r ≤ e → d + rank (r && not q) ≤ e
later_rank q r d e h = grind (arith, nat_tests)

own_rank : (q : Bool) (e : ℕ) → e + rank (q && not q) ≤ e
own_rank q e = grind (arith, nat_tests)

-- an entry of a mapping begins so
entry_of : (q : Bool) (t : Text) → q ≡ false → begins_entry q t ≡ true → begins_entry false t ≡ true
entry_of q t h begins = ap (λ b. begins_entry b t) (sym h) ∙ begins

-- its first line is no marker and no comment at column 0
entry_content : (q : Bool) (e : ℕ) (t : Text) → begins_entry q t ≡ true → is_markerless (marker_of t) ≡ true → is_content (spaces e ++ t) ≡ true
entry_content q zero t begins markerless =
    and_from (is_markerless (marker_of t)) (not (begins_comment t)) markerless (ap not (begins_uncommented q t begins))
entry_content q (suc e) t begins markerless = inside_content false (spaces (suc e) ++ t) refl

-- a line at the column, and lines inside it, are one entry
pub reads_one : (q : Bool) (rules : Rules) (e : ℕ) (t text ending : Text) (rest : List Line) (size : ℕ) (before after : Held q)
    → lines_of rules.breaks12 text ≡ record { text = spaces e ++ t; ending = ending } ∷ rest → is_closed rules.breaks12 text ≡ true
    → begins_entry q t ≡ true → is_markerless (marker_of t) ≡ true
    → ((r : Bool) (d : ℕ) → d + margin q r ≤ e → belongs_to_entry r d (spaces e ++ t) ≡ true)
    → ((r : Bool) (d : ℕ) → d + rank (r && not q) ≤ e → Passes r d rest) → AreContent rest
    → ((depth : ℕ) → size ≤ depth → part_step q rules (node_read depth rules) e (Some before) (lines_of rules.breaks12 text) ≡ Some after)
    → Reads q rules e text size before after
reads_one q rules e t text ending rest size before after is ends begins markerless first later within step =
    let line : Line = record { text = spaces e ++ t; ending = ending } in
    record {
      entries = lines_of rules.breaks12 text ∷ [];
      ends = ends;
      splits = subst (λ ls. Splits q e ls (ls ∷ [])) (sym is)
          (splits_one q e _ rest (outside q e t begins) (entry_uncommented q e t begins) (λ h more. entry_alone e t ending more (entry_of q t h begins))
          (later q e (own_rank q e)));
      inside = λ r d h.
          subst (Passes r d) (sym is) (passes_both r d (line ∷ []) rest (inside_passes r d (line ∷ []) (and_from _ true (first r d h) refl))
          (later r d (later_rank q r d e h)));
      within = subst AreContent (sym is)
          (content_both (line ∷ []) rest (all_content (line ∷ []) (and_from (is_content line.text) true (entry_content q e t begins markerless) refl)) within);
      reads = λ depth deep others.
          ap (λ state. fold (entry_step q rules (node_read depth rules) e) state others)
          (ap (entry_step q rules (node_read depth rules) e (Some before)) is
          ∙ step_of_part q rules (node_read depth rules) e (Some before) _ rest (entry_uncommented q e t begins)
          ∙ ap (part_step q rules (node_read depth rules) e (Some before)) (sym is) ∙ step depth deep);
    }

-- an indicator of entries
pub record Indicates (q : Bool) (c : ℕ) : Type 0 where
  pub one_line : (breaks12 : Bool) → OneLine breaks12 (c ∷ [])
  pub begins : (t : Text) → begins_entry q (c ∷ t) ≡ true
  pub markerless : (t : Text) → ends_indicator t ≡ true → is_markerless (marker_of (c ∷ t)) ≡ true
  pub inside : (r : Bool) (d e : ℕ) (t : Text) → d + margin q r ≤ e → ends_indicator t ≡ true → belongs_to_entry r d (spaces e ++ (c ∷ t)) ≡ true

-- the lines after the first of the text that an indicator opens are inside the column, if the node fits there
pub rest_inside : (rules : Rules) (n : ℕ) (own : Rendered) (tree : Tree) (role : Role) (cursor : Cursor) (e : ℕ)
    (fit : Fits rules n own tree (entry_place false role e) cursor) (w : cursor.whitespace ≡ false)
    (r : Bool) (d : ℕ) → d + rank (r && is_in_mapping role) ≤ e → Passes r d (fit.opens w).rest
rest_inside rules n own tree role cursor e fit w r d h = subst (λ ls. Passes r d (lines_after_first ls)) (fit.opens w).is (fit.inside r d h)

-- and within a document
pub rest_within : (rules : Rules) (n : ℕ) (own : Rendered) (tree : Tree) (role : Role) (cursor : Cursor) (e : ℕ)
    (fit : Fits rules n own tree (entry_place false role e) cursor) (w : cursor.whitespace ≡ false) → AreContent (fit.opens w).rest
rest_within rules n own tree role cursor e fit w = subst (λ ls. AreContent (lines_after_first ls)) (fit.opens w).is (fit.within e refl)

-- an indicator and the text of a node that it opens are one entry
pub indicated_reads : (q : Bool) (c : ℕ) (rules : Rules) (n : ℕ) (own : Rendered) (tree : Tree) (role : Role) (cursor : Cursor) (e : ℕ) (before after : Held q)
    → Indicates q c → is_in_mapping role ≡ not q → Fits rules n own tree (entry_place false role e) cursor → cursor.whitespace ≡ false
    → ((depth : ℕ) → n ≤ depth
    → part_step q rules (node_read depth rules) e (Some before) (lines_of rules.breaks12 (spaces e ++ (c ∷ closed own))) ≡ Some after)
    → Reads q rules e (spaces e ++ (c ∷ closed own)) n before after
indicated_reads q c rules n own tree role cursor e before after indicates mapping fit w step =
    let o = fit.opens w in
    reads_one q rules e (c ∷ o.head) _ o.ending o.rest n before after
    (indicated_lines rules.breaks12 e c (closed own) o (indicates.one_line rules.breaks12))
    (indicated_ends rules.breaks12 e c (closed own) o fit.ends)
    (indicates.begins o.head) (indicates.markerless o.head o.symbol) (λ r d h. indicates.inside r d e o.head h o.symbol)
    (λ r d h. rest_inside rules n own tree role cursor e fit w r d (subst (λ m. d + rank (r && m) ≤ e) (sym mapping) h))
    (rest_within rules n own tree role cursor e fit w) step

-- Entries

-- one more item or pair after a rendered text
pub record Entry (q : Bool) (rules : Rules) (e : ℕ) (first own : Rendered) (text : Text) : Type 0 where
  pub settled : Settled own.cursor
  pub lays : Lays e first own text
  pub opened : Opened rules e (lines_of rules.breaks12 text) (entries_kind q)

-- the items of a sequence, or the pairs of a mapping, from a cursor on
pub record Laid (q : Bool) (rules : Rules) (e : ℕ) (cursor : Cursor) (empty : Bool) (own : Rendered) (size : ℕ) (content : Content q) : Type 0 where
  pub text : Text
  pub nothing : empty ≡ true → (own ≡ render_nothing cursor) × (text ≡ [])
  pub reads : Reads q rules e text size (held q (no_content q)) (held q content)
  pub settled : empty ≡ false → Settled own.cursor
  pub lays : empty ≡ false → Lays e (render_nothing cursor) own text
  pub opened : empty ≡ false → Opened rules e (lines_of rules.breaks12 text) (entries_kind q)

-- they are so also with any number of blank lines after them, unless these are barred
pub record LaidOr (q : Bool) (rules : Rules) (e : ℕ) (cursor : Cursor) (empty : Bool) (own : Rendered) (size : ℕ) (content : Content q) (bars : Bool)
    : Type 0 where
  pub laid : Laid q rules e cursor empty own size content
  pub spares : empty ≡ false → bars ≡ false → (count : ℕ) → Laid q rules e cursor false (with_blanks count own) size content

-- the text of one more item or pair after a rendered text, and its effect on the reader
pub record Added (q : Bool) (rules : Rules) (e : ℕ) (first own : Rendered) (size : ℕ) (before after : Content q) : Type 0 where
  pub text : Text
  pub reads : Reads q rules e text size (held q before) (held q after)
  pub entry : Entry q rules e first own text

-- no entries
pub laid_none : (q : Bool) (rules : Rules) (e : ℕ) (cursor : Cursor) → Laid q rules e cursor true (render_nothing cursor) 0 (no_content q)
laid_none q rules e cursor = record {
  text = [];
  nothing = λ h. (refl, refl);
  reads = reads_none q rules e (held q (no_content q));
  settled = λ h. absurd (true≢false h);
  lays = λ h. absurd (true≢false h);
  opened = λ h. absurd (true≢false h);
}

-- entries, and others whose text goes on from theirs
pub laid_on : (q : Bool) (rules : Rules) (e : ℕ) (cursor : Cursor) (first own : Rendered) (more : Text) (m n : ℕ) (a b : Content q)
    → Laid q rules e cursor false first m a → Reads q rules e more n (held q a) (held q b) → Settled own.cursor → closed own ≡ closed first ++ more
    → Laid q rules e cursor false own (m + n) b
laid_on q rules e cursor first own more m n a b all next settled same =
    let lays = all.lays refl in
    record {
      text = all.text ++ more;
      nothing = λ h. absurd (true≢false (sym h));
      reads = reads_both q rules e all.text more m n _ _ _ all.reads next;
      settled = λ h. settled;
      lays = λ h. record {
        head = lays.head;
        tail = lays.tail ++ more;
        is = ap (λ t. t ++ more) lays.is ∙ append_assoc (spaces e) (lays.head ∷ lays.tail) more;
        lays = same ∙ ap (λ t. t ++ more) lays.lays ∙ append_assoc (new_line e cursor).text (lays.head ∷ lays.tail) more;
      };
      opened = λ h.
          subst (λ ls. Opened rules e ls (entries_kind q)) (sym (lines_after_break rules.breaks12 all.text more all.reads.ends))
          (opened_more rules e _ _ (entries_kind q) (all.opened refl));
    }

-- up to its last line's end a text is laid out, too
pub laid_closed : (q : Bool) (rules : Rules) (e : ℕ) (cursor : Cursor) (own : Rendered) (m : ℕ) (a : Content q) → Laid q rules e cursor false own m a
    → Laid q rules e cursor false (with_blanks 0 own) m a
laid_closed q rules e cursor own m a all =
    let lays = all.lays refl in
    record {
      text = all.text;
      nothing = λ h. absurd (true≢false (sym h));
      reads = all.reads;
      settled = λ h some. (refl, refl);
      lays = λ h. record {
        head = lays.head;
        tail = lays.tail;
        is = lays.is;
        lays = append-nil (closed own ++ []) ∙ append-nil (closed own) ∙ lays.lays;
      };
      opened = all.opened;
    }

-- entries, and one more
pub laid_and : (q : Bool) (rules : Rules) (e : ℕ) (cursor : Cursor) (empty : Bool) (first own : Rendered) (more : Text) (m n : ℕ) (a b : Content q)
    → Laid q rules e cursor empty first m a → Reads q rules e more n (held q a) (held q b) → Entry q rules e first own more
    → Laid q rules e cursor false own (m + n) b
laid_and q rules e cursor true first own more m n a b all next one = record {
  text = all.text ++ more;
  nothing = λ h. absurd (true≢false (sym h));
  reads = reads_both q rules e all.text more m n _ _ _ all.reads next;
  settled = λ h. one.settled;
  lays = λ h. record {
    head = one.lays.head;
    tail = one.lays.tail;
    is = ap (λ t. t ++ more) (all.nothing refl).1 ∙ one.lays.is;
    lays = one.lays.lays ∙ ap (λ (r : Rendered). r.text ++ ((new_line e r.cursor).text ++ (one.lays.head ∷ one.lays.tail))) (all.nothing refl).0;
  };
  opened = λ h. subst (λ t. Opened rules e (lines_of rules.breaks12 (t ++ more)) (entries_kind q)) (sym (all.nothing refl).1) one.opened;
}
laid_and q rules e cursor false first own more m n a b all next one =
    laid_on q rules e cursor first own more m n a b all next one.settled
    (one.lays.lays
    ∙ ap (λ t. first.text ++ (t ++ (one.lays.head ∷ one.lays.tail))) (new_line_closes e first.cursor (all.settled refl))
    ∙ ap (λ t. first.text ++ t) (append_assoc (closing first.cursor) (spaces e) (one.lays.head ∷ one.lays.tail)
    ∙ ap (λ t. closing first.cursor ++ t) (sym one.lays.is))
    ∙ sym (append_assoc first.text (closing first.cursor) more))

-- entries, and one more, also with blank lines after it
pub laid_added : (q : Bool) (rules : Rules) (e : ℕ) (cursor : Cursor) (empty : Bool) (first own : Rendered) (m n : ℕ) (a b : Content q) (bars : Bool)
    → Laid q rules e cursor empty first m a → Added q rules e first own n a b
    → (bars ≡ false → (count : ℕ) → Added q rules e first (with_blanks count own) n a b) → LaidOr q rules e cursor false own (m + n) b bars
laid_added q rules e cursor empty first own m n a b bars all one spared = record {
  laid = laid_and q rules e cursor empty first own one.text m n a b all one.reads one.entry;
  spares = λ some allowed count.
      let more = spared allowed count in
      laid_and q rules e cursor empty first (with_blanks count own) more.text m n a b all more.reads more.entry;
}
