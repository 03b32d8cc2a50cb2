-- A collection in flow fits at its place in a block.
use Rattle.yaml_base.proofs.Common.{◌||◌, ◌==◌, nat_tests, LinesReader}
use Rattle.yaml_base.proofs.CommentBlanks.{blanks_kept}
use Rattle.yaml_base.proofs.{stream_nodes.StreamFits.sparing, stream_nodes.StreamNodesFit.bars_after}
use Rattle.yaml_base.specs.CommentReading.{blanks, keeps_breaks}
use Rattle.yaml_base.specs.streams.StreamNodes.{block_text, flow_text, word_text}
use Rattle.yaml_base.proofs.Common.{suc, ℕ, ◌≤◌, if◌then◌else◌, Option, None, Some, Bool, false, true, List, [], ◌++◌, ◌∷◌, refl, ◌≡◌, append_assoc, ap, sym}
use Rattle.yaml_base.proofs.Common.{◌∙◌, arith, false≢true, list_all, Text, line_feed, Cursor, Rendered, space_if, TagDirective, Collection, collection_tag}
use Rattle.yaml_base.proofs.Common.{alias_node, scalar_node, sequence_node, mapping_node, Place, line_column, deeper, is_read_break, Effective}
use Rattle.yaml_base.proofs.Common.{is_space_or_break, Tree, Line, prepend_to_first_line, prepend_character, lines_of, text_of_lines, belongs_to_entry}
use Rattle.yaml_base.proofs.Common.{all_deeper, kind_of_text, text_by_kind, text_read, kind_of_node, begins_properties, text_or_properties, Rules, Properties}
use Rattle.yaml_base.proofs.{Common.Node, stream_flow.StreamFlowKinds.KeysFit, stream_flow.StreamFlowScalars.rules_of, stream_flow.StreamFlowWords.Given}
use Rattle.yaml_base.proofs.{stream_flow.StreamPropertyWords.lead, stream_lines.StreamCuts.none_not_some, stream_lines.StreamInside.AllInside}
use Rattle.yaml_base.proofs.{stream_lines.StreamTidyLaws.lines_after_first, stream_nodes.StreamAgrees.node_tree, stream_nodes.StreamBegun.lead_line}
use Rattle.yaml_base.proofs.{stream_nodes.StreamBlocks.below_ends, stream_nodes.StreamFits.FitsOr, stream_nodes.StreamLeafFits.TextReads}
use Rattle.yaml_base.proofs.{stream_nodes.StreamLeafFits.text_node, stream_nodes.StreamLeaves.block_place, stream_nodes.StreamLeaves.FlowsFit}
use Rattle.yaml_base.proofs.{stream_nodes.StreamNodesFit.LeafFits, stream_nodes.StreamTexts.node_own, stream_nodes.StreamProperties.IsNamed}
use Rattle.yaml_base.proofs.stream_flow.StreamFlowDeep.{sequence_deep, mapping_deep}
use Rattle.yaml_base.proofs.stream_lines.StreamClosed.{closed, lines_behind, after_line}
use Rattle.yaml_base.proofs.stream_lines.StreamDeepBreaks.{Deep, space_line, deep_inside}
use Rattle.yaml_base.proofs.stream_lines.StreamLineLaws.{is_closed, OneLine, text_of_lines_of}
use Rattle.yaml_base.proofs.stream_nodes.StreamLeads.{tag_is_written, before_count, before_spaces, before_some}
use Rattle.yaml_base.proofs.stream_nodes.StreamOwnTexts.{deeper_all, parsed_reads, headed, own_shows}
use Rattle.yaml_base.proofs.stream_flow.StreamFlowReads.{AreBrackets, FlowContent, content_read, sequence_reads, mapping_reads, FlowReads}
use Rattle.yaml_base.proofs.stream_nodes.StreamStands.{tag_written, tag_meant, TagStands}

-- Lines

-- the first line of a text that a break ends, and the rest of the text after the characters of the line
record FirstLine (breaks12 : Bool) (t : Text) : Type 0 where
  pub first : Text
  pub ending : Text
  pub rest : List Line
  pub more : Text
  pub is : lines_of breaks12 (t ++ (line_feed ∷ [])) ≡ record { text = first; ending = ending } ∷ rest
  pub whole : t ≡ first ++ more

-- each text has one
first_line : (breaks12 : Bool) (t : Text) → FirstLine breaks12 t
first_line breaks12 [] = record { first = []; ending = line_feed ∷ []; rest = []; more = []; is = refl; whole = refl }
first_line breaks12 (c ∷ t) = by (is_read_break breaks12 c) refl (first_line breaks12 t)
  where
    by : (x : Bool) → is_read_break breaks12 c ≡ x → FirstLine breaks12 t → FirstLine breaks12 (c ∷ t)
    by true e line = record {
      first = [];
      ending = c ∷ [];
      rest = lines_of breaks12 (t ++ (line_feed ∷ []));
      more = c ∷ t;
      is = ap (λ x. prepend_character x c (lines_of breaks12 (t ++ (line_feed ∷ [])))) e;
      whole = refl;
    }
    by false e line = record {
      first = c ∷ line.first;
      ending = line.ending;
      rest = line.rest;
      more = line.more;
      is = ap (λ x. prepend_character x c (lines_of breaks12 (t ++ (line_feed ∷ [])))) e ∙ ap (prepend_to_first_line c) line.is;
      whole = ap (λ u. c ∷ u) line.whole;
    }

-- Texts

-- a line feed is white
feed_white : (breaks12 : Bool) → list_all (is_space_or_break breaks12) (line_feed ∷ []) ≡ true
feed_white breaks12 = refl

-- a collection's text from its bracket on reads on its lines
content_text : (rules : Rules) (cursor : Cursor) (own : Rendered) (anchor tag given_tag : Option Text) (tree : Tree)
    (of : FlowContent rules cursor own anchor tag given_tag tree)
    (column : Option ℕ) (line : FirstLine rules.breaks12 (of.inside ++ (of.closing ∷ []))) → all_deeper column line.rest ≡ true
    → text_read rules column (record { anchor = anchor; tag = tag_meant given_tag false }) (of.bracket ∷ line.first) line.ending line.rest ≡ Some tree
content_text rules cursor own anchor tag given_tag tree of column line deep =
    let properties : Properties = record { anchor = anchor; tag = tag_meant given_tag false } in
    let kind = kind_of_text (of.bracket ∷ line.first) in
    ap (λ x. if x then text_by_kind kind rules column properties ((of.bracket ∷ line.first) ++ (line.ending ++ text_of_lines line.rest)) else None) deep
    ∙ ap (λ t. text_by_kind kind rules column properties (of.bracket ∷ t))
    (sym (ap text_of_lines line.is) ∙ text_of_lines_of rules.breaks12 ((of.inside ++ (of.closing ∷ [])) ++ (line_feed ∷ []))
    ∙ append_assoc of.inside (of.closing ∷ []) (line_feed ∷ []))
    ∙ content_read rules cursor own anchor tag given_tag tree of column line.first (line_feed ∷ []) (feed_white rules.breaks12)

-- the text of a collection, with its properties, up to the break after it
abbrev flow_written : (rules : Rules) (cursor : Cursor) (own : Rendered) (anchor tag given_tag : Option Text) (tree : Tree)
    → FlowContent rules cursor own anchor tag given_tag tree → Text
flow_written rules cursor own anchor tag given_tag tree of = lead anchor tag ++ (of.bracket ∷ ((of.inside ++ (of.closing ∷ [])) ++ (line_feed ∷ [])))

-- its lines
flow_lines : (rules : Rules) (cursor : Cursor) (own : Rendered) (anchor tag given_tag : Option Text) (tree : Tree)
    (of : FlowContent rules cursor own anchor tag given_tag tree)
    → OneLine rules.breaks12 (lead anchor tag) → (line : FirstLine rules.breaks12 (of.inside ++ (of.closing ∷ [])))
    → lines_of rules.breaks12 (flow_written rules cursor own anchor tag given_tag tree of)
    ≡ record { text = lead anchor tag ++ (of.bracket ∷ line.first); ending = line.ending } ∷ line.rest
flow_lines rules cursor own anchor tag given_tag tree of one line =
    let text = (of.inside ++ (of.closing ∷ [])) ++ (line_feed ∷ []) in
    lines_behind _ _ _ _ _ _ one (lines_behind rules.breaks12 (of.bracket ∷ []) text line.first line.ending line.rest of.brackets.one_line line.is)

-- which are its text
whole_text : (rules : Rules) (cursor : Cursor) (own : Rendered) (anchor tag given_tag : Option Text) (tree : Tree)
    (of : FlowContent rules cursor own anchor tag given_tag tree) (line : FirstLine rules.breaks12 (of.inside ++ (of.closing ∷ [])))
    → (of.bracket ∷ line.first) ++ (line.ending ++ text_of_lines line.rest) ≡ (of.bracket ∷ (of.inside ++ (of.closing ∷ []))) ++ (line_feed ∷ [])
whole_text rules cursor own anchor tag given_tag tree of line =
    ap (λ t. of.bracket ∷ t)
    (sym (ap text_of_lines line.is) ∙ text_of_lines_of rules.breaks12 ((of.inside ++ (of.closing ∷ [])) ++ (line_feed ∷ [])))

-- and no block scalar
flow_drops : (rules : Rules) (bracket closing : ℕ) (rest : Text) → AreBrackets rules bracket closing → keeps_breaks (bracket ∷ rest) ≡ false
flow_drops rules bracket closing rest are = by (bracket == 0x7C) (bracket == 0x3E) refl (are.kind [])
  where
    by : (a b : Bool) → (a || b) ≡ (bracket == 0x7C || bracket == 0x3E)
        → (if bracket == 0x7C || bracket == 0x3E then block_text else (if bracket == 0x5B || bracket == 0x7B then flow_text else word_text)) ≡ flow_text
        → keeps_breaks (bracket ∷ rest) ≡ false
    by a b same kind = grind (arith, nat_tests)

-- it reads on its lines, after properties or without them
text_reads : (rules : Rules) (cursor : Cursor) (own : Rendered) (anchor tag given_tag : Option Text) (tree : Tree)
    (of : FlowContent rules cursor own anchor tag given_tag tree) (column : Option ℕ) → Given rules anchor tag (tag_meant given_tag false)
    → (line : FirstLine rules.breaks12 (of.inside ++ (of.closing ∷ []))) → ((c : ℕ) → column ≡ Some c → AllInside true c line.rest)
    → TextReads rules column (flow_written rules cursor own anchor tag given_tag tree of) tree false
text_reads rules cursor own anchor tag given_tag tree of column given line deeper =
    let parsed = tag_meant given_tag false in
    let h = headed rules anchor tag parsed of.bracket line.first given (own_shows of.bracket of.brackets.content).0 in
    let none : Given rules None None None = record { named = tt; tagged = tt } in
    let inside = of.inside ++ (of.closing ∷ []) in
    let after : (rest : List Line) (reads : LinesReader) (at : ℕ)
    → text_or_properties (begins_properties (h.head ∷ h.tail)) rules reads column at (h.head ∷ h.tail) line.ending rest
    ≡ text_read rules column (record { anchor = anchor; tag = parsed }) (of.bracket ∷ line.first) line.ending rest =
    λ rest reads at.
    ap (λ t. text_or_properties (begins_properties t) rules reads column at t line.ending rest) (sym h.is)
    ∙ parsed_reads rules reads column at anchor tag parsed of.bracket line.first line.ending rest given of.brackets.content of.brackets.uncommented
    (of.line None None None none line.first line.more line.whole) in
    let read = content_text rules cursor own anchor tag given_tag tree of column line (deeper_all column line.rest deeper) in
    record {
      head = h.head;
      first = h.tail;
      ending = line.ending;
      rest = line.rest;
      is =
          flow_lines rules cursor own anchor tag given_tag tree of (lead_line rules anchor tag parsed given.named given.tagged) line
          ∙ ap (λ t. record { text = t; ending = line.ending } ∷ line.rest) h.is;
      shows = h.shows;
      kind = ap (kind_of_node rules) (sym h.is) ∙ of.line anchor tag parsed given line.first line.more line.whole;
      deeper = deeper;
      read = λ reads at. after line.rest reads at ∙ read;
      spares = λ allowed ends count reads at.
          after (line.rest ++ blanks count) reads at
          ∙ blanks_kept count rules column (record { anchor = anchor; tag = parsed }) (of.bracket ∷ line.first) line.ending line.rest tree
          (ap (is_closed rules.breaks12) (whole_text rules cursor own anchor tag given_tag tree of line)
          ∙ below_ends rules.breaks12 (of.bracket ∷ inside) [] refl)
          (flow_drops rules of.bracket of.closing (line.first ++ (line.ending ++ text_of_lines line.rest)) of.brackets)
          read;
    }

-- Fits

-- the rendered text, with the break after it
closed_text : (rules : Rules) (cursor : Cursor) (own : Rendered) (anchor tag given_tag : Option Text) (tree : Tree)
    (of : FlowContent rules cursor own anchor tag given_tag tree)
    → own.text ++ (line_feed ∷ []) ≡ space_if true cursor ++ flow_written rules cursor own anchor tag given_tag tree of
closed_text rules cursor own anchor tag given_tag tree of = grind (arith, append_assoc)

-- a collection whose text is read, and whose lines are deeper than the column around, fits
pub content_fits : (rules : Rules) (place : Place) (cursor : Cursor) (own : Rendered) (anchor tag given_tag : Option Text) (tree : Tree)
    → FlowContent rules cursor own anchor tag given_tag tree → Given rules anchor tag (tag_meant given_tag false)
    → ((c : ℕ) → place.column ≡ Some c → Deep rules.breaks12 (suc c) own.text) → FitsOr rules 1 own tree place cursor false
content_fits rules place cursor own anchor tag given_tag tree of given deep =
    let text = flow_written rules cursor own anchor tag given_tag tree of in
    let fed : closed own ≡ own.text ++ (line_feed ∷ []) = ap (λ x. own.text ++ (if x then [] else line_feed ∷ [])) of.ended.indention in
    let line = first_line rules.breaks12 (of.inside ++ (of.closing ∷ [])) in
    let after : lines_after_first (lines_of rules.breaks12 (own.text ++ (line_feed ∷ []))) ≡ line.rest =
    ap (λ t. lines_after_first (lines_of rules.breaks12 t)) (closed_text rules cursor own anchor tag given_tag tree of)
    ∙ after_line rules.breaks12 (space_if true cursor) text (space_line rules.breaks12 true cursor)
    ∙ ap lines_after_first
    (flow_lines rules cursor own anchor tag given_tag tree of (lead_line rules anchor tag (tag_meant given_tag false) given.named given.tagged) line) in
    text_node rules own place cursor (before_count cursor.whitespace) text tree false
    (fed ∙ closed_text rules cursor own anchor tag given_tag tree of ∙ ap (λ t. t ++ text) (before_spaces cursor.whitespace))
    (ap (is_closed rules.breaks12) fed ∙ below_ends rules.breaks12 own.text [] refl)
    (λ h. absurd (false≢true (sym of.ended.indention ∙ h)))
    (before_some cursor.whitespace)
    (text_reads rules cursor own anchor tag given_tag tree of place.column given line
    (λ c e. ap (list_all (λ line. belongs_to_entry true c line.text)) (sym after) ∙ deep_inside rules.breaks12 c own.text (deep c e)))

-- Nodes

-- the lines of a collection are deeper than the column around, in canonical mode at the root alone
deep_column : (s : Effective) (column : Option ℕ) (c : ℕ) → 2 ≤ s.indent → (s.canonical ≡ true → column ≡ None) → column ≡ Some c
    → (suc c ≤ deeper s.indent column) × (s.canonical ≡ true → suc c ≤ line_column column)
deep_column s column c deep root e = grind (arith, none_not_some)

-- a collection fits that is read, and whose lines are so deep
collection_fits : (s : Effective) (own directives : List TagDirective) → 2 ≤ s.indent → (place : Place) (cursor : Cursor) (start : Collection) (n : Node)
    → (s.canonical ≡ true → place.column ≡ None) → IsNamed start.anchor → TagStands s.portable own directives (collection_tag s.canonical start)
    → FlowReads s own directives start cursor (node_own n s directives place cursor) (node_tree n s directives place)
    → ((count : ℕ) → count ≤ deeper s.indent place.column → (s.canonical ≡ true → count ≤ line_column place.column)
    → Deep s.breaks12 count (node_own n s directives place cursor).text)
    → LeafFits (rules_of s own) s directives n place cursor
collection_fits s own directives deep place cursor start n root named stands reads lines =
    let tag = collection_tag s.canonical start in
    sparing false (bars_after n (node_own n s directives place cursor).cursor) (λ h. refl)
    (content_fits (rules_of s own) place cursor (node_own n s directives place cursor) start.anchor (tag_written s.portable directives tag false) tag
    (node_tree n s directives place) reads (record { named = named; tagged = tag_is_written s.portable own directives tag false stands })
    (λ c e. let column = deep_column s place.column c deep root e in lines (suc c) column.0 column.1))

-- so does each that is written in flow in a block
pub flows_fit : (s : Effective) (own directives : List TagDirective) → KeysFit s own directives → 2 ≤ s.indent → FlowsFit s own directives
flows_fit s own directives fits deep (sequence_node start items) role column cursor may in_flow simple stands names bodies =
    let place = block_place role column in
    collection_fits s own directives deep place cursor start (sequence_node start items) may names.0 names.1
    (sequence_reads s own directives fits place cursor start items in_flow names bodies)
    (λ count le ends. sequence_deep s own directives count place cursor start items le ends in_flow names bodies)
flows_fit s own directives fits deep (mapping_node start pairs) role column cursor may in_flow simple stands names bodies =
    let place = block_place role column in
    collection_fits s own directives deep place cursor start (mapping_node start pairs) may names.0 names.1
    (mapping_reads s own directives fits place cursor start pairs in_flow names bodies)
    (λ count le ends. mapping_deep s own directives count place cursor start pairs le ends in_flow names bodies)
flows_fit s own directives fits deep (alias_node name) role column cursor may in_flow simple stands names bodies = absurd (false≢true in_flow)
flows_fit s own directives fits deep (scalar_node content) role column cursor may in_flow simple stands names bodies = absurd (false≢true in_flow)
