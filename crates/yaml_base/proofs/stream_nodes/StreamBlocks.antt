-- A collection in a block, on the line of the text before it or below, after its properties or without them, fits if the text of its entries reads.
use Rattle.yaml_base.proofs.Common.{suc, zero, ℕ, ◌+◌, ◌-◌, ◌<◌, ◌≤◌, if◌then◌else◌, ◌==◌, Option, None, Some, nat_lt, Bool, false, not, true, ◌&&◌, ◌||◌}
use Rattle.yaml_base.proofs.Common.{nat_tests, false≢true}
use Rattle.yaml_base.proofs.Common.{List, [], ◌++◌, ◌∷◌, refl, ◌≡◌, append-nil, append_assoc, ap, subst, sym, ◌∙◌, arith, Text, or-true}
use Rattle.yaml_base.proofs.Common.{line_feed, space, Cursor, Rendered, render_nothing, new_line, Place, Tree, Line, lines_of, is_spaces, without_skipped_lines}
use Rattle.yaml_base.proofs.Common.{first_line_is_skipped, ends_indicator, Indented, spaces, blanked, LinesReader, text_read, NodeKind}
use Rattle.yaml_base.proofs.Common.{begins_text, kind_of_node, ReadsText, node_by_kind, node_at, node_lines, begins_properties, after_properties}
use Rattle.yaml_base.proofs.stream_lines.StreamClosed.{closing, closed, Settled, spaces_line, begins_cons, lines_behind, after_line, lines_broken}
use Rattle.yaml_base.proofs.{stream_lines.StreamTidyLaws.lines_after_first, stream_lines.StreamClosed.closed_alike, stream_lines.StreamClosed.closed_both}
use Rattle.yaml_base.proofs.{stream_nodes.StreamFits.WithinColumn, stream_nodes.StreamFits.Opens, stream_nodes.StreamFits.Fits}
use Rattle.yaml_base.{proofs.stream_nodes.StreamFits.with_blanks, proofs.stream_nodes.StreamFits.ended, specs.CommentReading.blank_text}
use Rattle.yaml_base.proofs.Common.{first_cursor}
use Rattle.yaml_base.proofs.CommentLines.{head_lines_read, head_lines_skipped}
use Rattle.yaml_base.specs.{Comments.HeadLine, CommentReading.head_text}
use Rattle.yaml_base.proofs.{stream_nodes.StreamLaid.Opened, stream_nodes.StreamLaid.Lays}
use Rattle.yaml_base.proofs.Common.{text_or_properties, node_read, Rules, Properties, no_properties, PropertiesRead, properties_read, collection_tag_parsed}
use Rattle.yaml_base.proofs.stream_lines.StreamLineLaws.{is_closed, OneLine, one_line_both}
use Rattle.yaml_base.proofs.stream_lines.StreamInside.{indented_spaces, not_skipped, skipped_blank, blank_spaces, Passes, passes_later, blank_both}
use Rattle.yaml_base.proofs.stream_lines.StreamSections.{AreContent, later_content}

-- Lines

-- the node that such lines begin is read by its kind
pub opened_reads : (rules : Rules) (reads : LinesReader) (reads_text : ReadsText) (properties : Properties) (here first : Bool) (e : ℕ) (lines : List Line)
    (kind : NodeKind) (o : Opened rules e lines kind)
    → node_at rules reads reads_text properties here first lines
    ≡ node_by_kind kind rules reads reads_text properties here first (record { column = e; text = o.head ∷ o.tail }) o.ending o.rest lines
opened_reads rules reads reads_text properties here first e lines kind o = grind (arith, indented_spaces)

-- no line is skipped there
pub opened_shows : (rules : Rules) (e : ℕ) (lines : List Line) (kind : NodeKind) → Opened rules e lines kind → (first_line_is_skipped lines ≡ false)
    × (without_skipped_lines lines ≡ lines)
opened_shows rules e lines kind o =
    let line : Line = record { text = spaces e ++ (o.head ∷ o.tail); ending = o.ending } in
    let shown = not_skipped e o.head o.tail o.shows o.uncommented in (
      ap first_line_is_skipped o.is ∙ shown,
      ap without_skipped_lines o.is ∙ ap (λ x. if x then without_skipped_lines o.rest else line ∷ o.rest) shown ∙ sym o.is,
    )

-- the text of a collection's entries at a column reads as a tree of its properties, at every depth from a size on
pub record Block (rules : Rules) (size e : ℕ) (text : Text) (make : Option Text → Option Text → Tree) : Type 0 where
  pub kind : NodeKind
  pub opened : Opened rules e (lines_of rules.breaks12 text) kind
  pub reads : (depth : ℕ) → size ≤ depth → (reads_text : ReadsText) (properties : Properties) (first : Bool) (tag : Option Text)
      → collection_tag_parsed properties.tag ≡ Some tag
      → node_at rules (node_read depth rules) reads_text properties true first (lines_of rules.breaks12 text) ≡ Some (make properties.anchor tag)

-- the lines of a head before them are skipped
pub head_skipped : (rules : Rules) (n e : ℕ) (head : List HeadLine) (text : Text) (make : Option Text → Option Text → Tree) → Block rules n e text make
    → without_skipped_lines (lines_of rules.breaks12 (head_text e head ++ text)) ≡ lines_of rules.breaks12 text
head_skipped rules n e head text make block =
    let lines = lines_of rules.breaks12 text in
    ap without_skipped_lines (head_lines_read rules.breaks12 e head text) ∙ head_lines_skipped e head lines
    ∙ (opened_shows rules e lines block.kind block.opened).1

-- it reads below a blank line and a head
block_below : (rules : Rules) (n e : ℕ) (head : List HeadLine) (text : Text) (make : Option Text → Option Text → Tree) → Block rules n e text make
    → (depth : ℕ) → n ≤ depth
    → (reads_text : ReadsText) (properties : Properties) (tag : Option Text) → collection_tag_parsed properties.tag ≡ Some tag → (here : Bool) (line : Line)
    → is_spaces line.text ≡ true
    → node_lines rules (node_read depth rules) reads_text properties here (line ∷ lines_of rules.breaks12 (head_text e head ++ text))
    ≡ Some (make properties.anchor tag)
block_below rules n e head text make block depth deep reads_text properties tag parsed here line blank =
    let lines = lines_of rules.breaks12 (head_text e head ++ text) in
    ap (λ x. node_at rules (node_read depth rules) reads_text properties (here || x) (not x) (if x then without_skipped_lines lines else line ∷ lines))
    (skipped_blank line.text blank)
    ∙ ap (λ x. node_at rules (node_read depth rules) reads_text properties x false (without_skipped_lines lines)) (or-true here)
    ∙ ap (node_at rules (node_read depth rules) reads_text properties true false) (head_skipped rules n e head text make block)
    ∙ block.reads depth deep reads_text properties false tag parsed

-- and on its line if a block may begin
block_on_line : (rules : Rules) (n e : ℕ) (text : Text) (make : Option Text → Option Text → Tree) → Block rules n e text make → (depth : ℕ) → n ≤ depth
    → (reads_text : ReadsText) (properties : Properties) (tag : Option Text) → collection_tag_parsed properties.tag ≡ Some tag
    → node_lines rules (node_read depth rules) reads_text properties true (lines_of rules.breaks12 text) ≡ Some (make properties.anchor tag)
block_on_line rules n e text make block depth deep reads_text properties tag parsed =
    let lines = lines_of rules.breaks12 text in
    ap (λ ls. node_at rules (node_read depth rules) reads_text properties true (not (first_line_is_skipped lines)) ls)
    (opened_shows rules e lines _ block.opened).1 ∙ block.reads depth deep reads_text properties (not (first_line_is_skipped lines)) tag parsed

-- Cursors

-- if indentation goes on, a new line at a column is spaces alone
pub record Compact (e : ℕ) (cursor : Cursor) : Type 0 where
  pub count : ℕ
  pub sum : cursor.column + count ≡ e
  pub text : (new_line e cursor).text ≡ spaces count
  pub some : cursor.whitespace ≡ false → 0 < count

-- elsewhere it begins with a break
broken : (e : ℕ) (cursor : Cursor) → cursor.indention ≡ false → (new_line e cursor).text ≡ line_feed ∷ spaces e
broken e cursor h =
    ap (λ x. if not x || nat_lt e cursor.column || ((cursor.column == e) && not cursor.whitespace) then line_feed ∷ spaces e else spaces (e - cursor.column)) h

-- spaces, and then others
pub spaces_both : (j k e : ℕ) (t : Text) → j + k ≡ e → spaces j ++ (spaces k ++ t) ≡ spaces e ++ t
spaces_both zero k e t h = let same : k ≡ e = omega arith in ap (λ n. spaces n ++ t) same
spaces_both (suc j) k zero t h = absurd (omega arith)
spaces_both (suc j) k (suc e) t h = ap (λ t. space ∷ t) (spaces_both j k e t (omega arith))

-- Properties

-- the reading of a collection's properties: nothing, or words on the line before it, after some spaces
pub record Said (rules : Rules) (anchor tag : Option Text) (cursor : Cursor) (begun : Rendered) : Type 0 where
  pub count : ℕ
  pub head : ℕ
  pub tail : Text
  pub text : begun.text ≡ spaces count ++ (head ∷ tail)
  pub some : cursor.whitespace ≡ false → 0 < count
  pub one_line : OneLine rules.breaks12 (head ∷ tail)
  pub shows : (head == space) ≡ false
  pub kind : kind_of_node rules (head ∷ tail) ≡ begins_text
  pub begins : begins_properties (head ∷ tail) ≡ true
  pub read : PropertiesRead
  pub reads : properties_read rules.directives (head ∷ tail) ≡ Some read
  pub blank : is_spaces read.text ≡ true
  pub anchor_read : read.properties.anchor ≡ anchor
  pub read_tag : collection_tag_parsed read.properties.tag ≡ Some tag
  pub ends : begun.cursor.indention ≡ false

pub data BegunKind (rules : Rules) (anchor tag : Option Text) (cursor : Cursor) (begun : Rendered) : Type 0 where
  unsaid : anchor ≡ None → tag ≡ None → begun ≡ render_nothing cursor → BegunKind rules anchor tag cursor begun
  is_parsed : Said rules anchor tag cursor begun → BegunKind rules anchor tag cursor begun

-- Blocks

-- the rendered text of a collection in a block: its properties and its entries, whose end writes nothing
abbrev pub block_own : Rendered → Rendered → Rendered
block_own begun entries = record { text = (begun.text ++ entries.text) ++ []; cursor = entries.cursor }

-- up to its last line's end
pub own_closed : (begun entries : Rendered) → closed (block_own begun entries) ≡ begun.text ++ closed entries
own_closed begun entries =
    ap (λ t. t ++ closing entries.cursor) (append-nil (begun.text ++ entries.text)) ∙ append_assoc begun.text entries.text (closing entries.cursor)

-- blank lines after it are after its entries
pub blanks_after_block : (count : ℕ) (begun entries : Rendered) → block_own begun (with_blanks count entries) ≡ with_blanks count (block_own begun entries)
blanks_after_block count begun entries =
    ap (λ t. record { text = t; cursor = first_cursor })
    (append-nil (begun.text ++ (closed entries ++ blank_text count)) ∙ ended begun.text [] entries.text (closing entries.cursor) (blank_text count)
    ∙ ap (λ t. (t ++ closing entries.cursor) ++ blank_text count) (sym (append-nil (begun.text ++ entries.text))))

-- the facts about a collection in a block whose entries are at a column and are rendered after its properties
pub record Entries (rules : Rules) (e : ℕ) (place : Place) (begun entries : Rendered) (text : Text) : Type 0 where
  pub settled : Settled entries.cursor
  pub ends : is_closed rules.breaks12 text ≡ true
  pub lays : Lays e (render_nothing begun.cursor) entries text
  pub inside : (q : Bool) (d : ℕ) → WithinColumn q d place.role place.column → Passes q d (lines_of rules.breaks12 text)
  pub within : AreContent (lines_of rules.breaks12 text)
  pub compact : begun.cursor.indention ≡ true → Compact e begun.cursor

-- the facts about its entries after a head, on lines below
pub record EntriesBelow (rules : Rules) (e : ℕ) (place : Place) (entries : Rendered) (head : List HeadLine) (text : Text) : Type 0 where
  pub settled : Settled entries.cursor
  pub ends : is_closed rules.breaks12 (head_text e head ++ text) ≡ true
  pub lays : closed entries ≡ line_feed ∷ (head_text e head ++ text)
  pub inside : (q : Bool) (d : ℕ) → WithinColumn q d place.role place.column → Passes q d (lines_of rules.breaks12 (head_text e head ++ text))
  pub within : AreContent (lines_of rules.breaks12 (head_text e head ++ text))

-- on lines below
pub below : (rules : Rules) (e : ℕ) (cursor : Cursor) (entries : Rendered) (text : Text) → Lays e (render_nothing cursor) entries text
    → cursor.indention ≡ false
    → closed entries ≡ line_feed ∷ text
below rules e cursor entries text lays h =
    lays.lays ∙ ap (λ t. t ++ (lays.head ∷ lays.tail)) (broken e cursor h) ∙ ap (λ t. line_feed ∷ t) (sym lays.is)

-- a text on one line before the break
pub opened_below : (breaks12 : Bool) (a text : Text) → OneLine breaks12 a → ends_indicator a ≡ true → Opens breaks12 (a ++ (line_feed ∷ text))
opened_below breaks12 a text one symbol = record {
  head = a;
  ending = line_feed ∷ [];
  rest = lines_of breaks12 text;
  is = lines_broken breaks12 a text one;
  symbol = symbol;
}

-- lines after the first are among all
later_inside : (q : Bool) (d : ℕ) (lines : List Line) → Passes q d lines → Passes q d (lines_after_first lines)
later_inside q d [] h = h
later_inside q d (line ∷ rest) h = passes_later q d line rest h

-- below a line the lines are those of the entries
below_lines : (breaks12 : Bool) (a text : Text) → OneLine breaks12 a → lines_after_first (lines_of breaks12 (a ++ (line_feed ∷ text))) ≡ lines_of breaks12 text
below_lines breaks12 a text one = ap lines_after_first (lines_broken breaks12 a text one)

-- a text that ends with a break below a line does so after it
pub below_ends : (breaks12 : Bool) (a text : Text) → is_closed breaks12 text ≡ true → is_closed breaks12 (a ++ (line_feed ∷ text)) ≡ true
below_ends breaks12 a text h =
    ap (is_closed breaks12) (sym (append_assoc a (line_feed ∷ []) text)) ∙ closed_both breaks12 (a ++ (line_feed ∷ [])) text (closed_feed a) h
  where
    closed_feed : (a : Text) → is_closed breaks12 (a ++ (line_feed ∷ [])) ≡ true
    closed_feed [] = refl
    closed_feed (c ∷ []) = refl
    closed_feed (c ∷ d ∷ a) = closed_feed (d ∷ a)

-- those without a head are below, if no indentation goes on
no_head : (rules : Rules) (e : ℕ) (place : Place) (begun entries : Rendered) (text : Text) → Entries rules e place begun entries text
    → begun.cursor.indention ≡ false → EntriesBelow rules e place entries [] text
no_head rules e place begun entries text all h = record {
  settled = all.settled;
  ends = all.ends;
  lays = below rules e begun.cursor entries text all.lays h;
  inside = all.inside;
  within = all.within;
}

-- Below a break without properties
unsaid_below : (rules : Rules) (n e : ℕ) (place : Place) (cursor : Cursor) (entries : Rendered) (head : List HeadLine) (text : Text)
    (make : Option Text → Option Text → Tree)
    → Block rules n e text make → EntriesBelow rules e place entries head text
    → Fits rules (suc n) (block_own (render_nothing cursor) entries) (make None None) place cursor
unsaid_below rules n e place cursor entries head text make block all =
    let whole = head_text e head ++ text in
    let same : closed (block_own (render_nothing cursor) entries) ≡ line_feed ∷ whole = own_closed (render_nothing cursor) entries ∙ all.lays in
    let later : lines_after_first (lines_of rules.breaks12 (closed (block_own (render_nothing cursor) entries))) ≡ lines_of rules.breaks12 whole =
    ap (λ t. lines_after_first (lines_of rules.breaks12 t)) same ∙ below_lines rules.breaks12 [] whole refl in
    record {
      settled = all.settled;
      ends = ap (is_closed rules.breaks12) same ∙ below_ends rules.breaks12 [] whole all.ends;
      opens = λ w. subst (Opens rules.breaks12) (sym same) (opened_below rules.breaks12 [] whole refl refl);
      inside = λ q d within. subst (Passes q d) (sym later) (all.inside q d within);
      within = λ c e. subst AreContent (sym later) all.within;
      reads = λ depth deep here k begins. ap (λ t. node_read depth rules here place.column (lines_of rules.breaks12 (spaces k ++ t))) same
          ∙ read depth deep here k;
    }
  where
    read : (depth : ℕ) → suc n ≤ depth → (here : Bool) (k : ℕ)
        → node_read depth rules here place.column (lines_of rules.breaks12 (spaces k ++ (line_feed ∷ (head_text e head ++ text)))) ≡ Some (make None None)
    read zero deep here k = absurd (omega arith)
    read (suc depth) deep here k =
        ap (node_read (suc depth) rules here place.column)
        (lines_broken rules.breaks12 (spaces k) (head_text e head ++ text) (spaces_line rules.breaks12 k))
        ∙ block_below rules n e head text make block depth (omega arith)
        (λ at text. text_or_properties (begins_properties text) rules (node_read depth rules) place.column at text) no_properties None refl here
        (record { text = spaces k; ending = line_feed ∷ [] }) (blank_spaces k)

-- On the line without properties
unsaid_on_line : (rules : Rules) (n e : ℕ) (place : Place) (cursor : Cursor) (entries : Rendered) (text : Text) (make : Option Text → Option Text → Tree)
    → Block rules n e text make → Entries rules e place (render_nothing cursor) entries text → cursor.indention ≡ true
    → Fits rules (suc n) (block_own (render_nothing cursor) entries) (make None None) place cursor
unsaid_on_line rules n e place cursor entries text make block all h =
    let compact = all.compact h in
    let rest = all.lays.head ∷ all.lays.tail in
    let same : closed (block_own (render_nothing cursor) entries) ≡ spaces compact.count ++ rest
    = own_closed (render_nothing cursor) entries ∙ all.lays.lays ∙ ap (λ t. t ++ rest) compact.text in
    let after : (k : ℕ) → lines_after_first (lines_of rules.breaks12 (spaces k ++ rest))
    ≡ lines_after_first (lines_of rules.breaks12 rest) = λ k. after_line rules.breaks12 (spaces k) rest (spaces_line rules.breaks12 k) in
    let later : lines_after_first (lines_of rules.breaks12 (closed (block_own (render_nothing cursor) entries)))
    ≡ lines_after_first (lines_of rules.breaks12 text) = ap (λ t. lines_after_first (lines_of rules.breaks12 t)) same
    ∙ after compact.count ∙ sym (after e) ∙ ap (λ t. lines_after_first (lines_of rules.breaks12 t)) (sym all.lays.is) in
    record {
      settled = all.settled;
      ends = ap (is_closed rules.breaks12) same
          ∙ closed_alike rules.breaks12 (spaces compact.count) (spaces e) all.lays.head all.lays.tail
          (ap (is_closed rules.breaks12) (sym all.lays.is) ∙ all.ends);
      opens = λ w. subst (Opens rules.breaks12) (sym same) (opened compact.count (compact.some w));
      inside = λ q d within. subst (Passes q d) (sym later) (later_inside q d (lines_of rules.breaks12 text) (all.inside q d within));
      within = λ c e. subst AreContent (sym later) (later_content (lines_of rules.breaks12 text) all.within);
      reads = λ depth deep here k begins. ap (λ t. node_read depth rules here place.column (lines_of rules.breaks12 (spaces k ++ t))) same
          ∙ read depth deep here k (begins h).0 (begins h).1;
    }
  where
    opened : (count : ℕ) → 0 < count → Opens rules.breaks12 (spaces count ++ (all.lays.head ∷ all.lays.tail))
    opened zero h = absurd (omega arith)
    opened (suc count) h =
        let begins = begins_cons rules.breaks12 all.lays.head all.lays.tail in
        record {
          head = spaces (suc count) ++ begins.head;
          ending = begins.ending;
          rest = begins.rest;
          is = lines_behind rules.breaks12 (spaces (suc count)) (all.lays.head ∷ all.lays.tail) begins.head begins.ending begins.rest
              (spaces_line rules.breaks12 (suc count)) begins.is;
          symbol = refl;
        }

    read : (depth : ℕ) → suc n ≤ depth → (here : Bool) (k : ℕ) → here ≡ true → k ≡ cursor.column
        → node_read depth rules here place.column (lines_of rules.breaks12 (spaces k ++ (spaces (all.compact h).count ++ (all.lays.head ∷ all.lays.tail))))
        ≡ Some (make None None)
    read zero deep here k is_here same = absurd (omega arith)
    read (suc depth) deep here k is_here same =
        ap (λ t. node_read (suc depth) rules here place.column (lines_of rules.breaks12 t))
        (spaces_both k (all.compact h).count e (all.lays.head ∷ all.lays.tail) (ap (λ j. j + (all.compact h).count) same ∙ (all.compact h).sum)
        ∙ sym all.lays.is)
        ∙ ap (λ x. node_read (suc depth) rules x place.column (lines_of rules.breaks12 text)) is_here
        ∙ block_on_line rules n e text make block depth (omega arith)
        (λ at text. text_or_properties (begins_properties text) rules (node_read depth rules) place.column at text) no_properties None refl

-- After properties

-- no property begins with `#`
pub property_uncommented : (c : ℕ) (t : Text) → begins_properties (c ∷ t) ≡ true → (c == 0x23) ≡ false
property_uncommented c t h = grind (arith, nat_tests, false≢true)

-- the text after the words of properties on a line, if the block is below
parsed_reads : (rules : Rules) (n e : ℕ) (column : Option ℕ) (head : List HeadLine) (text : Text) (c : ℕ) (t : Text) (make : Option Text → Option Text → Tree)
    → Block rules n e text make
    → (read : PropertiesRead) (anchor tag : Option Text) → properties_read rules.directives (c ∷ t) ≡ Some read → is_spaces read.text ≡ true
    → read.properties.anchor ≡ anchor → collection_tag_parsed read.properties.tag ≡ Some tag → begins_properties (c ∷ t) ≡ true → (c == space) ≡ false
    → kind_of_node rules (c ∷ t) ≡ begins_text
    → OneLine rules.breaks12 (c ∷ t) → (depth : ℕ) → suc n ≤ depth → (here : Bool) (k : ℕ)
    → node_read depth rules here column (lines_of rules.breaks12 ((spaces k ++ (c ∷ t)) ++ (line_feed ∷ (head_text e head ++ text))))
    ≡ Some (make anchor tag)
parsed_reads rules n e column head text c t make block read anchor tag reads blank anchor_read read_tag begins shows kind one zero deep here k =
    absurd (omega arith)
parsed_reads rules n e column head text c t make block read anchor tag reads blank anchor_read read_tag begins shows kind one (suc depth) deep here k =
    let whole = head_text e head ++ text in
    let lines = lines_of rules.breaks12 whole in
    let line : Line = record { text = spaces k ++ (c ∷ t); ending = line_feed ∷ [] } in
    let by : ReadsText = λ at text. text_or_properties (begins_properties text) rules (node_read depth rules) column at text in
    let begun : Indented = record { column = k; text = c ∷ t } in
    ap (node_read (suc depth) rules here column)
    (lines_broken rules.breaks12 (spaces k ++ (c ∷ t)) whole (one_line_both rules.breaks12 (spaces k) (c ∷ t) (spaces_line rules.breaks12 k) one))
    ∙ ap (λ x. node_at rules (node_read depth rules) by no_properties (here || x) (not x) (if x then without_skipped_lines lines else line ∷ lines))
    (not_skipped k c t shows (property_uncommented c t begins))
    ∙ ap (λ (i : Indented). node_by_kind (kind_of_node rules i.text) rules (node_read depth rules) by no_properties (here || false) true i
    (line_feed ∷ []) lines (line ∷ lines)) (indented_spaces k c t shows)
    ∙ ap (λ x. node_by_kind x rules (node_read depth rules) by no_properties (here || false) true begun (line_feed ∷ []) lines (line ∷ lines)) kind
    ∙ ap (λ x. text_or_properties x rules (node_read depth rules) column k (c ∷ t) (line_feed ∷ []) lines) begins
    ∙ ap (after_properties rules (node_read depth rules) column k (line_feed ∷ []) lines) reads
    ∙ block_below rules n e head text make block depth (omega arith) (λ at. text_read rules column read.properties) read.properties tag read_tag false
    (blanked k read.text (line_feed ∷ []))
    (blank_both k read.text blank)
    ∙ ap (λ a. Some (make a tag)) anchor_read

-- a collection after its properties fits
parsed_fits : (rules : Rules) (n e : ℕ) (place : Place) (cursor : Cursor) (begun entries : Rendered) (head : List HeadLine) (text : Text)
    (make : Option Text → Option Text → Tree) (anchor tag : Option Text)
    → Block rules n e text make → EntriesBelow rules e place entries head text → Said rules anchor tag cursor begun
    → Fits rules (suc n) (block_own begun entries) (make anchor tag) place cursor
parsed_fits rules n e place cursor begun entries head text make anchor tag block all parsed =
    let whole = head_text e head ++ text in
    let core = parsed.head ∷ parsed.tail in
    let prefix = spaces parsed.count ++ core in
    let one = one_line_both rules.breaks12 (spaces parsed.count) core (spaces_line rules.breaks12 parsed.count) parsed.one_line in
    let same : closed (block_own begun entries) ≡ prefix ++ (line_feed ∷ whole)
    = own_closed begun entries ∙ ap (λ t. begun.text ++ t) all.lays ∙ ap (λ t. t ++ (line_feed ∷ whole)) parsed.text in
    let later : lines_after_first (lines_of rules.breaks12 (closed (block_own begun entries))) ≡ lines_of rules.breaks12 whole =
    ap (λ t. lines_after_first (lines_of rules.breaks12 t)) same ∙ below_lines rules.breaks12 prefix whole one in
    record {
      settled = all.settled;
      ends = ap (is_closed rules.breaks12) same ∙ below_ends rules.breaks12 prefix whole all.ends;
      opens = λ w. subst (Opens rules.breaks12) (sym same) (opened_below rules.breaks12 prefix whole one (opens parsed.count (parsed.some w) core));
      inside = λ q d within. subst (Passes q d) (sym later) (all.inside q d within);
      within = λ c e. subst AreContent (sym later) all.within;
      reads = λ depth deep here k begins.
          ap (λ t. node_read depth rules here place.column (lines_of rules.breaks12 (spaces k ++ t))) same
          ∙ ap (λ t. node_read depth rules here place.column (lines_of rules.breaks12 t))
          (sym (append_assoc (spaces k) prefix (line_feed ∷ whole))
          ∙ ap (λ t. t ++ (line_feed ∷ whole)) (spaces_both k parsed.count (k + parsed.count) core refl))
          ∙ parsed_reads rules n e place.column head text parsed.head parsed.tail make block parsed.read anchor tag parsed.reads parsed.blank parsed.anchor_read
          parsed.read_tag
          parsed.begins parsed.shows parsed.kind
          parsed.one_line depth deep here (k + parsed.count);
    }
  where
    opens : (count : ℕ) → 0 < count → (t : Text) → ends_indicator (spaces count ++ t) ≡ true
    opens zero h t = absurd (omega arith)
    opens (suc count) h t = refl

-- a collection in a block fits
pub block_fits : (rules : Rules) (n e : ℕ) (place : Place) (cursor : Cursor) (begun entries : Rendered) (text : Text) (make : Option Text → Option Text → Tree)
    (anchor tag : Option Text)
    → BegunKind rules anchor tag cursor begun → Block rules n e text make → Entries rules e place begun entries text
    → Fits rules (suc n) (block_own begun entries) (make anchor tag) place cursor
block_fits rules n e place cursor begun entries text make anchor tag
    (is_parsed is) block all =
    parsed_fits rules n e place cursor begun entries [] text make anchor tag block (no_head rules e place begun entries text all is.ends) is
block_fits rules n e place cursor begun entries text make anchor tag (unsaid no_anchor no_tag nothing) block all =
    subst (λ a. Fits rules (suc n) (block_own begun entries) (make a tag) place cursor) (sym no_anchor)
    (subst (λ t. Fits rules (suc n) (block_own begun entries) (make None t) place cursor) (sym no_tag)
    (subst (λ b. Fits rules (suc n) (block_own b entries) (make None None) place cursor) (sym nothing)
    (by cursor.indention refl (subst (λ b. Entries rules e place b entries text) nothing all))))
  where
    by : (x : Bool) → cursor.indention ≡ x → Entries rules e place (render_nothing cursor) entries text
        → Fits rules (suc n) (block_own (render_nothing cursor) entries) (make None None) place cursor
    by true h all = unsaid_on_line rules n e place cursor entries text make block all h
    by false h all =
        unsaid_below rules n e place cursor entries [] text make block (no_head rules e place (render_nothing cursor) entries text all h)

-- so does one whose first entry follows a head on lines below
pub block_below_head_fits : (rules : Rules) (n e : ℕ) (place : Place) (cursor : Cursor) (begun entries : Rendered) (head : List HeadLine) (text : Text)
    (make : Option Text → Option Text → Tree) (anchor tag : Option Text)
    → BegunKind rules anchor tag cursor begun → Block rules n e text make → EntriesBelow rules e place entries head text
    → Fits rules (suc n) (block_own begun entries) (make anchor tag) place cursor
block_below_head_fits rules n e place cursor begun entries head text make anchor tag (is_parsed is) block all =
    parsed_fits rules n e place cursor begun entries head text make anchor tag block all is
block_below_head_fits rules n e place cursor begun entries head text make anchor tag (unsaid no_anchor no_tag nothing) block all =
    subst (λ a. Fits rules (suc n) (block_own begun entries) (make a tag) place cursor) (sym no_anchor)
    (subst (λ t. Fits rules (suc n) (block_own begun entries) (make None t) place cursor) (sym no_tag)
    (subst (λ b. Fits rules (suc n) (block_own b entries) (make None None) place cursor) (sym nothing)
    (unsaid_below rules n e place cursor entries head text make block all)))
