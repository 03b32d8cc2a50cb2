-- The text of a collection in flow, after its properties, is read as the collection's tree.
use Rattle.yaml_base.proofs.Common.{and_from, or_from, or_parts}
use Rattle.yaml_base.proofs.Common.{arith, ℕ, option_map, Option, None, Some, codes, Bool, false, true, List, [], ◌++◌, ◌∷◌, refl, ◌≡◌, append-nil}
use Rattle.yaml_base.proofs.Common.{append_assoc, ap, sym, ◌∙◌, and_parts, false≢true, list_all, Text, Cursor, Rendered, new_line, space_if, indicator}
use Rattle.yaml_base.proofs.Common.{TagDirective, Collection, collection_tag, Nodes, sequence_node, Pairs, mapping_node, no_nodes, nodes_and, no_pairs}
use Rattle.yaml_base.proofs.Common.{pairs_and, render_properties, is_written_in_flow, Brackets, square, curly, render_end, Place, is_undented, line_column}
use Rattle.yaml_base.proofs.Common.{deeper, has_no_nodes, has_no_pairs, Effective, is_read_white, is_space_or_break, ParsedTag, Tree, sequence_tree}
use Rattle.yaml_base.proofs.Common.{mapping_tree, and-false, no_trees, no_tree_pairs, no_key, OpenFlow, in_sequence, in_mapping, Awaited, collection_awaited}
use Rattle.yaml_base.proofs.Common.{entry_awaited, comma_awaited, FlowReading, done, within, word_step, level_opened, opened, flow_step, tree_at_end}
use Rattle.yaml_base.proofs.Common.{flow_read, prepend_to_trimmed, trimmed, kind_of_text, text_by_kind, begins_text, kind_of_node, Rules, Properties}
use Rattle.yaml_base.proofs.Common.{word_after, symbol, free, FlowStep, is_flow_indicator, begins_bracket, class_of, begun_token, bracket_step, is_pair}
use Rattle.yaml_base.{proofs.Common.flow_tokens, proofs.stream_flow.StreamFlowScalars.rules_of, proofs.stream_flow.StreamPropertyWords.lead}
use Rattle.yaml_base.proofs.Common.{◌==◌}
use Rattle.yaml_base.{proofs.stream_nodes.StreamProperties.begins_content, specs.streams.StreamNodes.flow_text}
use Rattle.yaml_base.proofs.stream_lines.StreamLineLaws.{OneLine, unbroken_line, break_line, not_white}
use Rattle.yaml_base.proofs.stream_flow.StreamFlowNodes.{items_flow, pairs_flow}
use Rattle.yaml_base.proofs.stream_flow.StreamFlowWords.{opens_inside, Given, tag_of_collection}
use Rattle.yaml_base.proofs.stream_nodes.StreamAgrees.{node_tree, nodes_tree, pairs_tree}
use Rattle.yaml_base.proofs.stream_nodes.StreamLeads.{EndedCollection, lead_rendered}
use Rattle.yaml_base.proofs.stream_flow.StreamFlowKinds.{KeysFit, empty_whole, collection_whole, ItemsTake, PairsTake}
use Rattle.yaml_base.proofs.stream_flow.StreamFlowLines.{keeps_open, keeps_prefix, collection_kind, empty_kind}
use Rattle.yaml_base.proofs.stream_flow.StreamFlowTakes.{FlowEntries, no_pair, opens_more}
use Rattle.yaml_base.proofs.stream_flow.StreamPasses.{passes_both, takes_text, passes_comma, passes_entry_white, new_line_white}
use Rattle.yaml_base.proofs.stream_flow.StreamSays.{indicator_ends, opens_before, class_fixed}
use Rattle.yaml_base.proofs.stream_flow.StreamTakes.{steps, TakesBytes, takes_both, flow_reads}
use Rattle.yaml_base.proofs.stream_nodes.StreamStands.{tag_written, tag_meant, NamesStand, BodyStands, BodiesHold}
use Rattle.yaml_base.proofs.stream_nodes.StreamTexts.{collection_own, node_own, items_own, pairs_own}

-- a bracket that begins a collection in flow and one that ends it
pub record AreBrackets (rules : Rules) (bracket closing : ℕ) : Type 0 where
  pub begins : class_of rules.breaks12 bracket ≡ begins_bracket
  pub closes : class_of rules.breaks12 closing ≡ is_flow_indicator
  pub kind : (rest : Text) → kind_of_text (bracket ∷ rest) ≡ flow_text
  pub shown : is_read_white rules.breaks12 closing ≡ false
  pub one_line : OneLine rules.breaks12 (bracket ∷ [])
  pub content : begins_content (bracket ∷ []) ≡ true
  pub uncommented : (bracket == 0x23) ≡ false
  pub line : (anchor tag : Option Text) (parsed : Option ParsedTag) (first : Text) → Given rules anchor tag parsed → keeps_open first ≡ true
      → kind_of_node rules (lead anchor tag ++ (bracket ∷ first)) ≡ begins_text
  pub empty : (anchor tag : Option Text) (parsed : Option ParsedTag) → Given rules anchor tag parsed
      → kind_of_node rules (lead anchor tag ++ (bracket ∷ closing ∷ [])) ≡ begins_text

-- the text of a collection in flow: a space if one is needed, its properties, and from a bracket to a bracket a text that is read as its tree
pub record FlowContent (rules : Rules) (cursor : Cursor) (own : Rendered) (anchor tag given_tag : Option Text) (tree : Tree) : Type 0 where
  pub bracket : ℕ
  pub inside : Text
  pub closing : ℕ
  pub brackets : AreBrackets rules bracket closing
  pub line : (before_anchor before_tag : Option Text) (parsed : Option ParsedTag) → Given rules before_anchor before_tag parsed → (first more : Text)
      → inside ++ (closing ∷ []) ≡ first ++ more → kind_of_node rules (lead before_anchor before_tag ++ (bracket ∷ first)) ≡ begins_text
  pub whole : own.text ≡ space_if true cursor ++ (lead anchor tag ++ ((bracket ∷ inside) ++ (closing ∷ [])))
  pub ended : EndedCollection own.cursor
  pub reads : flow_read rules (record { anchor = anchor; tag = tag_meant given_tag false }) ((bracket ∷ inside) ++ (closing ∷ [])) ≡ Some tree

-- the brackets of sequences
square_brackets : (rules : Rules) → AreBrackets rules 0x5B 0x5D
square_brackets rules = record {
  begins = class_fixed rules.breaks12 0x5B refl;
  closes = class_fixed rules.breaks12 0x5D refl;
  kind = λ rest. refl;
  shown = break_line rules.breaks12 0x5D refl;
  one_line = unbroken_line rules.breaks12 (0x5B ∷ []) refl;
  content = refl;
  uncommented = refl;
  line = λ anchor tag parsed first given h. collection_kind rules anchor tag parsed true first given h;
  empty = λ anchor tag parsed given. (empty_kind rules anchor tag parsed given).0;
}

-- and those of mappings
curly_brackets : (rules : Rules) → AreBrackets rules 0x7B 0x7D
curly_brackets rules = record {
  begins = class_fixed rules.breaks12 0x7B refl;
  closes = class_fixed rules.breaks12 0x7D refl;
  kind = λ rest. refl;
  shown = break_line rules.breaks12 0x7D refl;
  one_line = unbroken_line rules.breaks12 (0x7B ∷ []) refl;
  content = refl;
  uncommented = refl;
  line = λ anchor tag parsed first given h. collection_kind rules anchor tag parsed false first given h;
  empty = λ anchor tag parsed given. (empty_kind rules anchor tag parsed given).1;
}

-- Empty ones

-- the first character of a text
abbrev first_of : Text → ℕ
first_of [] = 0
first_of (c ∷ rest) = c

-- a text has two characters or more
abbrev holds_two : Text → Bool
holds_two (c ∷ d ∷ rest) = true
holds_two _ = false

-- the first line of two brackets
empty_line : (rules : Rules) (b c : ℕ) → AreBrackets rules b c → (anchor tag : Option Text) (parsed : Option ParsedTag) → Given rules anchor tag parsed
    → (first more : Text) → c ∷ [] ≡ first ++ more → kind_of_node rules (lead anchor tag ++ (b ∷ first)) ≡ begins_text
empty_line rules b c brackets anchor tag parsed given [] more e = brackets.line anchor tag parsed [] given refl
empty_line rules b c brackets anchor tag parsed given (x ∷ []) more e =
    ap (λ n. kind_of_node rules (lead anchor tag ++ (b ∷ n ∷ []))) (sym (ap first_of e)) ∙ brackets.empty anchor tag parsed given
empty_line rules b c brackets anchor tag parsed given (x ∷ y ∷ first) more e = absurd (false≢true (ap holds_two e))

-- two brackets that are a word
empty_content : (rules : Rules) (cursor : Cursor) (properties own : Rendered) (anchor tag given_tag : Option Text) (b c : ℕ) (tree : Tree)
    → properties.text ++ space_if true properties.cursor ≡ space_if true cursor ++ lead anchor tag
    → own.text ≡ (properties.text ++ []) ++ ((space_if true properties.cursor ++ (b ∷ [])) ++ (c ∷ [])) → EndedCollection own.cursor
    → AreBrackets rules b c → is_pair b c ≡ true
    → word_after rules true None (record { anchor = anchor; tag = tag_meant given_tag false }) (b ∷ c ∷ []) ≡ Some tree
    → FlowContent rules cursor own anchor tag given_tag tree
empty_content rules cursor properties own anchor tag given_tag b c tree e text ended brackets pair read =
    let from : FlowReading = within [] (collection_awaited (record { anchor = anchor; tag = tag_meant given_tag false })) in
    record {
      bracket = b;
      inside = [];
      closing = c;
      brackets = brackets;
      line = empty_line rules b c brackets;
      whole = text ∙ empty_whole properties cursor (lead anchor tag) b c e;
      ended = ended;
      reads =
          ap (λ k. (let here : FlowStep = begun_token k [] b in tree_at_end (steps rules from
          (here.tokens ++ flow_tokens rules.breaks12 here.place (c ∷ []))))) brackets.begins
          ∙ ap (λ x. (let here : FlowStep = bracket_step x (class_of rules.breaks12 c) [] b c in tree_at_end
          (steps rules from (here.tokens ++ flow_tokens rules.breaks12 here.place [])))) pair
          ∙ ap (λ r. tree_at_end (word_step rules.breaks12 [] (b ∷ c ∷ []) r)) read;
    }

-- Others

-- a bracket opens the collection that all is in
takes_first : (rules : Rules) (bracket : ℕ) (anchor tag : Option Text) (inside : Text) (to : FlowReading) → class_of rules.breaks12 bracket ≡ begins_bracket
    → opens_inside inside ≡ true → TakesBytes rules (within (level_opened bracket anchor tag ∷ []) entry_awaited) inside to
    → TakesBytes rules (within [] (collection_awaited (record { anchor = anchor; tag = tag_meant tag false }))) (bracket ∷ inside) to
takes_first rules bracket anchor tag [] to class opens_it takes = absurd (false≢true opens_it)
takes_first rules bracket anchor tag (c ∷ inside) to class opens_it takes = record {
  takes = λ rest ends.
      ap (steps rules (within [] (collection_awaited (record { anchor = anchor; tag = tag_meant tag false }))))
      (opens_before rules.breaks12 bracket c (inside ++ rest) class (no_pair bracket c inside opens_it))
      ∙ ap (λ t. steps rules (opened [] bracket anchor t) (flow_tokens rules.breaks12 free ((c ∷ inside) ++ rest))) (tag_of_collection tag)
      ∙ takes.takes rest ends;
}

-- the end of a collection from its last entry on: the text before the last bracket, which completes the collection
record Closing (rules : Rules) (level : OpenFlow) (closing : ℕ) (tree : Tree) (ending : Rendered) : Type 0 where
  pub before : Text
  pub whole : ending.text ≡ before ++ (closing ∷ [])
  pub ended : EndedCollection ending.cursor
  pub awaited : Awaited
  pub goes : (from : FlowReading) (text : Text) → TakesBytes rules from text (within (level ∷ []) comma_awaited) → TakesBytes rules from (text ++ before)
      (within (level ∷ []) awaited)
  pub closes : flow_step rules (within (level ∷ []) awaited) (symbol closing) ≡ done tree

-- a bracket closes at once or, in canonical mode, after a comma and a line
closing_rendered : (rules : Rules) (s : Effective) (level : OpenFlow) (brackets : Brackets) (closing : ℕ) (tree : Tree) (column : Option ℕ) (cursor : Cursor)
    → brackets.closing ≡ closing ∷ [] → flow_step rules (within (level ∷ []) comma_awaited) (symbol closing) ≡ done tree
    → flow_step rules (within (level ∷ []) entry_awaited) (symbol closing) ≡ done tree
    → Closing rules level closing tree (render_end s brackets true false column cursor)
closing_rendered rules s level brackets closing tree column cursor e at_once_done after_comma = by s.canonical
  where
    line : Text
    line = (new_line (line_column column) (indicator (codes ",") false false false cursor).cursor).text

    by : (canonical : Bool) → Closing rules level closing tree (render_end (record s { canonical = canonical }) brackets true false column cursor)
    by true = record {
      before = 0x2C ∷ line;
      whole = ap (λ t. (0x2C ∷ line) ++ t) e;
      ended = record { white = refl; indention = refl };
      awaited = entry_awaited;
      goes = λ from text takes.
          let passed = passes_both (passes_comma rules (level ∷ []))
          (passes_entry_white rules (level ∷ []) line (new_line_white (line_column column) (indicator (codes ",") false false false cursor).cursor)) in
          takes_both takes
          (record { takes = λ rest h. passed.passes rest }) (indicator_ends _ 0x2C line (class_fixed rules.breaks12 0x2C refl));
      closes = after_comma;
    }
    by false = record {
      before = [];
      whole = e;
      ended = record { white = refl; indention = and-false cursor.indention };
      awaited = comma_awaited;
      goes = λ from text takes. takes_text (append-nil text) takes;
      closes = at_once_done;
    }

-- a collection that opens inside another keeps it open
opens_kept : (t : Text) → opens_inside t ≡ true → keeps_open t ≡ true
opens_kept [] h = absurd (false≢true h)
opens_kept (c ∷ t) h = h

-- a collection that holds something
whole_content : (rules : Rules) (cursor : Cursor) (properties entries ending : Rendered) (bracket closing : ℕ) (anchor tag given_tag : Option Text)
    (last : Option Text → Option Text → OpenFlow) (tree : Tree) → properties.text ++ space_if true properties.cursor ≡ space_if true cursor ++ lead anchor tag
    → AreBrackets rules bracket closing
    → FlowEntries rules bracket properties.cursor entries (level_opened bracket) last → Closing rules (last anchor given_tag) closing tree ending
    → FlowContent rules cursor (record { text = (properties.text ++ entries.text) ++ ending.text; cursor = ending.cursor }) anchor tag given_tag tree
whole_content rules cursor properties entries ending bracket closing anchor tag given_tag last tree e brackets of end = record {
  bracket = bracket;
  inside = of.inside ++ end.before;
  closing = closing;
  brackets = brackets;
  line = λ before_anchor before_tag parsed given first more same.
      brackets.line before_anchor before_tag parsed first given
      (keeps_prefix first more
      (ap keeps_open (sym same) ∙ opens_kept ((of.inside ++ end.before) ++ (closing ∷ []))
      (opens_more (of.inside ++ end.before) (closing ∷ []) (opens_more of.inside end.before of.opens))));
  whole =
      collection_whole properties cursor (lead anchor tag) bracket of.inside entries.text ending.text e of.whole
      ∙ ap (λ t. space_if true cursor ++ (lead anchor tag ++ (bracket ∷ t)))
      (ap (λ t. of.inside ++ t) end.whole ∙ sym (append_assoc of.inside end.before (closing ∷ [])));
  ended = end.ended;
  reads =
      flow_reads rules (record { anchor = anchor; tag = tag_meant given_tag false }) (bracket ∷ (of.inside ++ end.before))
      (last anchor given_tag ∷ []) end.awaited closing tree
      brackets.closes
      (takes_first rules bracket anchor given_tag (of.inside ++ end.before) (within (last anchor given_tag ∷ []) end.awaited) brackets.begins
      (opens_more of.inside end.before of.opens)
      (end.goes (within (level_opened bracket anchor given_tag ∷ []) entry_awaited) of.inside (of.takes anchor given_tag [])))
      end.closes;
}

-- White space after it

-- a character before a text that isn't empty
kept_before : (x : Bool) (d : ℕ) (text : Text) (c : ℕ) → prepend_to_trimmed x d (text ++ (c ∷ [])) ≡ d ∷ (text ++ (c ∷ []))
kept_before true d [] c = refl
kept_before true d (e ∷ text) c = refl
kept_before false d text c = refl

-- of white space nothing is left
white_trimmed : (breaks12 : Bool) (white : Text) → list_all (is_space_or_break breaks12) white ≡ true → trimmed breaks12 white ≡ []
white_trimmed breaks12 [] h = refl
white_trimmed breaks12 (c ∷ white) h = grind (arith, and_parts, and_from, or_parts, or_from, white_trimmed breaks12 white)

-- white space after a text whose last character isn't white is cut off
pub shown_trimmed : (breaks12 : Bool) (text : Text) (c : ℕ) (white : Text)
    → is_read_white breaks12 c ≡ false → list_all (is_space_or_break breaks12) white ≡ true
    → trimmed breaks12 (text ++ (c ∷ white)) ≡ text ++ (c ∷ [])
shown_trimmed breaks12 [] c white shown h =
    ap (λ x. prepend_to_trimmed x c (trimmed breaks12 white)) (not_white breaks12 c shown) ∙ ap (λ t. c ∷ t) (white_trimmed breaks12 white h)
shown_trimmed breaks12 (d ∷ text) c white shown h =
    ap (prepend_to_trimmed (is_space_or_break breaks12 d) d) (shown_trimmed breaks12 text c white shown h) ∙ kept_before (is_space_or_break breaks12 d) d text c

-- a collection's text is read by its first character, whatever white space follows it
pub content_read : (rules : Rules) (cursor : Cursor) (own : Rendered) (anchor tag given_tag : Option Text) (tree : Tree)
    (of : FlowContent rules cursor own anchor tag given_tag tree)
    (column : Option ℕ) (begun white : Text) → list_all (is_space_or_break rules.breaks12) white ≡ true
    → text_by_kind (kind_of_text (of.bracket ∷ begun)) rules column (record { anchor = anchor; tag = tag_meant given_tag false })
    ((of.bracket ∷ of.inside) ++ (of.closing ∷ white)) ≡ Some tree
content_read rules cursor own anchor tag given_tag tree of column begun white h =
    let properties : Properties = record { anchor = anchor; tag = tag_meant given_tag false } in
    ap (λ k. text_by_kind k rules column properties ((of.bracket ∷ of.inside) ++ (of.closing ∷ white))) (of.brackets.kind begun)
    ∙ ap (flow_read rules properties) (shown_trimmed rules.breaks12 (of.bracket ∷ of.inside) of.closing white of.brackets.shown h)
    ∙ of.reads

-- Nodes

-- a collection that starts so is read as a tree in flow
abbrev pub FlowReads : Effective → List TagDirective → List TagDirective → Collection → Cursor → Rendered → Tree → Type 0
FlowReads s own directives start cursor rendered tree =
    FlowContent (rules_of s own) cursor rendered start.anchor (tag_written s.portable directives (collection_tag s.canonical start) false)
    (collection_tag s.canonical start) tree

-- a sequence, if its items take the reader on
sequence_content : (s : Effective) (own directives : List TagDirective) (column : Option ℕ) (undented : Bool) (cursor : Cursor) (start : Collection)
    (items : Nodes)
    → (let begun : Rendered = render_properties s.portable directives start.anchor (collection_tag s.canonical start) false cursor in
    ItemsTake s own directives items (deeper s.indent column) begun.cursor
    → FlowReads s own directives start cursor (collection_own s square true undented (has_no_nodes items) column begun (items_own items s directives true))
    (sequence_tree start.anchor (collection_tag s.canonical start) (nodes_tree items s directives true)))
sequence_content s own directives column undented cursor start no_nodes take =
    empty_content (rules_of s own) cursor (render_properties s.portable directives start.anchor (collection_tag s.canonical start) false cursor) _ _ _ _
    0x5B 0x5D _ (lead_rendered s.portable directives _ _ false cursor) refl (record { white = refl; indention = and-false _ }) (square_brackets _) refl
    (ap (option_map (λ tag. sequence_tree start.anchor tag no_trees)) (tag_of_collection _))
sequence_content s own directives column undented cursor start (nodes_and items last) take =
    let trees = nodes_tree (nodes_and items last) s directives true in
    whole_content (rules_of s own) cursor (render_properties s.portable directives start.anchor (collection_tag s.canonical start) false cursor) _ _
    0x5B 0x5D _ _ _ (λ anchor tag. in_sequence anchor tag trees) _ (lead_rendered s.portable directives _ _ false cursor) (square_brackets _) take
    (closing_rendered _ s _ square 0x5D _ column _ refl refl refl)

-- a mapping, if its pairs do
mapping_content : (s : Effective) (own directives : List TagDirective) (column : Option ℕ) (cursor : Cursor) (start : Collection) (pairs : Pairs)
    → (let begun : Rendered = render_properties s.portable directives start.anchor (collection_tag s.canonical start) false cursor in
    PairsTake s own directives pairs (deeper s.indent column) begun.cursor
    → FlowReads s own directives start cursor (collection_own s curly true false (has_no_pairs pairs) column begun (pairs_own pairs s directives true))
    (mapping_tree start.anchor (collection_tag s.canonical start) (pairs_tree pairs s directives true)))
mapping_content s own directives column cursor start no_pairs take =
    empty_content (rules_of s own) cursor (render_properties s.portable directives start.anchor (collection_tag s.canonical start) false cursor) _ _ _ _
    0x7B 0x7D _ (lead_rendered s.portable directives _ _ false cursor) refl (record { white = refl; indention = and-false _ }) (curly_brackets _) refl
    (ap (option_map (λ tag. mapping_tree start.anchor tag no_tree_pairs)) (tag_of_collection _))
mapping_content s own directives column cursor start (pairs_and pairs key value) take =
    let trees = pairs_tree (pairs_and pairs key value) s directives true in
    whole_content (rules_of s own) cursor (render_properties s.portable directives start.anchor (collection_tag s.canonical start) false cursor) _ _
    0x7B 0x7D _ _ _ (λ anchor tag. in_mapping anchor tag trees no_key) _ (lead_rendered s.portable directives _ _ false cursor) (curly_brackets _) take
    (closing_rendered _ s _ curly 0x7D _ column _ refl refl refl)

-- a sequence that is written in flow is read as its tree after its properties, at any place
pub sequence_reads : (s : Effective) (own directives : List TagDirective) → KeysFit s own directives → (place : Place) (cursor : Cursor) (start : Collection)
    (items : Nodes)
    → is_written_in_flow s place start (has_no_nodes items) ≡ true → NamesStand s.portable own s.canonical directives (sequence_node start items)
    → BodiesHold (BodyStands s) (sequence_node start items) s directives place cursor
    → FlowReads s own directives start cursor (node_own (sequence_node start items) s directives place cursor)
    (node_tree (sequence_node start items) s directives place)
sequence_reads s own directives fits place cursor start items in_flow names bodies =
    rw in_flow (sequence_content s own directives place.column (is_undented s place.role) cursor start items
    (items_flow s own _ fits items _ _ names.2 (rw in_flow at bodies)))

-- and so is a mapping
pub mapping_reads : (s : Effective) (own directives : List TagDirective) → KeysFit s own directives → (place : Place) (cursor : Cursor) (start : Collection)
    (pairs : Pairs)
    → is_written_in_flow s place start (has_no_pairs pairs) ≡ true → NamesStand s.portable own s.canonical directives (mapping_node start pairs)
    → BodiesHold (BodyStands s) (mapping_node start pairs) s directives place cursor
    → FlowReads s own directives start cursor (node_own (mapping_node start pairs) s directives place cursor)
    (node_tree (mapping_node start pairs) s directives place)
mapping_reads s own directives fits place cursor start pairs in_flow names bodies =
    grind (arith, pairs_own, pairs_tree, false≢true, mapping_content, pairs_flow)
