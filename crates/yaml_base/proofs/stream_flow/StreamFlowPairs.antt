-- The entries of a collection in flow, one after another, if each of its nodes is read in flow.
use Rattle.yaml_base.proofs.Common.{and_from, or_from, or_parts}
use Rattle.yaml_base.proofs.Common.{ℕ, Option, None, Bool, false, true, List, [], ◌++◌, ◌∷◌, refl, ◌≡◌, append_assoc, ap, sym, ◌∙◌, and_parts}
use Rattle.yaml_base.proofs.Common.{Text, space, Cursor, Rendered, space_if, as_value, flow_break, key_indicator, render_flow_place, Effective}
use Rattle.yaml_base.proofs.Common.{Tree, Trees, TreePairs, trees_and, tree_pairs_and, no_key, key_due, key_held, OpenFlow, in_sequence, in_mapping}
use Rattle.yaml_base.proofs.stream_flow.StreamPasses.{passes_both, passes_then, takes_text, passes_comma, passes_colon, passes_late_colon, passes_question}
use Rattle.yaml_base.proofs.stream_flow.StreamPasses.{passes_node_space, is_white_text, passes_entry_white, passes_colon_white, flow_break_white, space_white}
use Rattle.yaml_base.proofs.{stream_flow.StreamFlowWords.opens_inside, stream_flow.StreamPlainWords.ends_word, stream_flow.StreamTakes.TakesBytes}
use Rattle.yaml_base.proofs.{stream_flow.StreamTakes.takes_both, stream_flow.StreamWhites.line_feed_class, stream_nodes.StreamLeads.EndedCollection}
use Rattle.yaml_base.proofs.Common.{entry_awaited, node_awaited, comma_awaited, within, level_opened, Rules, is_flow_indicator, class_of, arith}
use Rattle.yaml_base.proofs.stream_flow.StreamFlowTakes.{FlowNode, FlowEntries, opens_more, white_opens}
use Rattle.yaml_base.proofs.stream_flow.StreamPasses.{white_both, WhiteThen, late_colon, white_either}
use Rattle.yaml_base.proofs.stream_flow.StreamSays.{EndsWord, indicator_ends, class_fixed}

-- the text of one entry after `[`, `{` or a comma, and its effect on the collection's level
pub record FlowEntry (rules : Rules) (text : Text) (from to : OpenFlow) : Type 0 where
  pub opens : opens_inside text ≡ true
  pub takes : (levels : List OpenFlow) → TakesBytes rules (within (from ∷ levels) entry_awaited) text (within (to ∷ levels) comma_awaited)

-- Items

-- white space and an item
pub item_entry : (rules : Rules) (s : Effective) (column : Option ℕ) (cursor : Cursor) (own : Rendered) (tree : Tree)
    → FlowNode rules false (flow_break s column cursor).cursor own tree
    → (anchor tag : Option Text) (trees : Trees)
    → FlowEntry rules ((flow_break s column cursor).text ++ own.text) (in_sequence anchor tag trees) (in_sequence anchor tag (trees_and trees tree))
item_entry rules s column cursor own tree node anchor tag trees =
    let gap : Text = (flow_break s column cursor).text in
    let blank : Text = space_if true (flow_break s column cursor).cursor in
    let white : is_white_text (gap ++ blank) ≡ true =
    white_both gap blank (flow_break_white s column cursor) (space_white (flow_break s column cursor).cursor) in
    let whole : gap ++ own.text ≡ (gap ++ blank) ++ node.content = ap (λ t. gap ++ t) node.whole ∙ sym (append_assoc gap blank node.content) in
    record {
      opens = ap opens_inside whole ∙ white_opens (gap ++ blank) node.content white node.opens;
      takes = λ levels.
          takes_text whole
          (passes_then (passes_entry_white rules (in_sequence anchor tag trees ∷ levels) (gap ++ blank) white)
          (node.takes refl (in_sequence anchor tag trees ∷ levels) refl false));
    }

-- Pairs

-- white space and an indicator end a word
white_indicator_ends : (breaks12 : Bool) (white : Text) (c : ℕ) (text : Text) → is_white_text white ≡ true → class_of breaks12 c ≡ is_flow_indicator
    → EndsWord breaks12 (white ++ (c ∷ text))
white_indicator_ends breaks12 [] c text h class rest k = indicator_ends breaks12 c text class rest k
white_indicator_ends breaks12 (d ∷ white) c text h class rest k =
    grind (arith, and_parts, and_from, or_parts, or_from, white_either, class_fixed, line_feed_class, white_indicator_ends breaks12 white c text)

-- the level of a mapping after a pair
abbrev after_pair : Option Text → Option Text → TreePairs → Tree → Tree → OpenFlow
after_pair anchor tag pairs key value = in_mapping anchor tag (tree_pairs_and pairs key value) no_key

-- the reading while a key is held
abbrev held : Option Text → Option Text → TreePairs → Tree → List OpenFlow → List OpenFlow
held anchor tag pairs key levels = in_mapping anchor tag pairs (key_held key) ∷ levels

-- a simple key and its value, after white space
pub simple_pair_entry : (rules : Rules) (s : Effective) (column : Option ℕ) (cursor : Cursor) (own : Rendered) (value : Rendered) (key_tree value_tree : Tree)
    → FlowNode rules true (flow_break s column cursor).cursor own key_tree
    → FlowNode rules false (render_flow_place s (as_value true) false column own.cursor).cursor value value_tree
    → (anchor tag : Option Text) (pairs : TreePairs)
    → FlowEntry rules (((flow_break s column cursor).text ++ own.text) ++ ((0x3A ∷ []) ++ value.text)) (in_mapping anchor tag pairs no_key)
    (after_pair anchor tag pairs key_tree value_tree)
simple_pair_entry rules s column cursor own value key_tree value_tree key node anchor tag pairs =
    let gap : Text = (flow_break s column cursor).text in
    let blank : Text = space_if true (flow_break s column cursor).cursor in
    let white : is_white_text (gap ++ blank) ≡ true =
    white_both gap blank (flow_break_white s column cursor) (space_white (flow_break s column cursor).cursor) in
    let whole : gap ++ own.text ≡ (gap ++ blank) ++ key.content = ap (λ t. gap ++ t) key.whole ∙ sym (append_assoc gap blank key.content) in
    record {
      opens = ap opens_inside (ap (λ t. t ++ ((0x3A ∷ []) ++ value.text)) whole)
          ∙ opens_more ((gap ++ blank) ++ key.content) ((0x3A ∷ []) ++ value.text) (white_opens (gap ++ blank) key.content white key.opens);
      takes = λ levels.
          takes_both (takes_text whole
          (passes_then (passes_entry_white rules (in_mapping anchor tag pairs no_key ∷ levels) (gap ++ blank) white)
          (key.key refl anchor tag pairs levels)))
          (takes_text (ap (λ t. 0x3A ∷ t) node.whole)
          (passes_then (passes_both (passes_colon rules (held anchor tag pairs key_tree levels))
          (passes_node_space rules (held anchor tag pairs key_tree levels)))
          (node.takes refl (held anchor tag pairs key_tree levels) refl true)))
          (indicator_ends rules.breaks12 0x3A value.text (class_fixed rules.breaks12 0x3A refl));
    }

-- a long key with its `?`, and its value
pub long_pair_entry : (rules : Rules) (s : Effective) (column : Option ℕ) (cursor : Cursor) (own : Rendered) (value : Rendered) (key_tree value_tree : Tree)
    → FlowNode rules false (key_indicator false false (flow_break s column cursor).cursor).cursor own key_tree
    → FlowNode rules false (render_flow_place s (as_value false) false column own.cursor).cursor value value_tree
    → (anchor tag : Option Text) (pairs : TreePairs)
    → FlowEntry rules
    ((((flow_break s column cursor).text ++ (key_indicator false false (flow_break s column cursor).cursor).text) ++ own.text)
    ++ ((render_flow_place s (as_value false) false column own.cursor).text ++ value.text))
    (in_mapping anchor tag pairs no_key) (after_pair anchor tag pairs key_tree value_tree)
long_pair_entry rules s column cursor own value key_tree value_tree key node anchor tag pairs =
    let gap : Text = (flow_break s column cursor).text in
    let blank : Text = space_if true (flow_break s column cursor).cursor in
    let late : Text = (render_flow_place s (as_value false) false column own.cursor).text in
    let white : is_white_text (gap ++ blank) ≡ true =
    white_both gap blank (flow_break_white s column cursor) (space_white (flow_break s column cursor).cursor) in
    let whole : (gap ++ (blank ++ (0x3F ∷ []))) ++ own.text ≡ ((gap ++ blank) ++ (0x3F ∷ space ∷ [])) ++ key.content =
    ap (λ t. (gap ++ (blank ++ (0x3F ∷ []))) ++ t) key.whole
    ∙ ap (λ t. t ++ (space ∷ key.content)) (sym (append_assoc gap blank (0x3F ∷ [])))
    ∙ append_assoc (gap ++ blank) (0x3F ∷ []) (space ∷ key.content)
    ∙ sym (append_assoc (gap ++ blank) (0x3F ∷ space ∷ []) key.content) in
    let colon : WhiteThen late 0x3A = late_colon s column own.cursor key.ended.white key.ended.indention in
    let late_whole : late ++ value.text ≡ ((colon.first ∷ colon.more) ++ (0x3A ∷ space ∷ [])) ++ node.content =
    ap (λ t. late ++ t) node.whole
    ∙ ap (λ t. t ++ (space ∷ node.content)) colon.whole
    ∙ append_assoc (colon.first ∷ colon.more) (0x3A ∷ []) (space ∷ node.content)
    ∙ sym (append_assoc (colon.first ∷ colon.more) (0x3A ∷ space ∷ []) node.content) in
    record {
      opens = ap opens_inside (ap (λ t. t ++ (late ++ value.text)) whole)
          ∙ opens_more (((gap ++ blank) ++ (0x3F ∷ space ∷ [])) ++ key.content) (late ++ value.text)
          (opens_more ((gap ++ blank) ++ (0x3F ∷ space ∷ [])) key.content (white_opens (gap ++ blank) (0x3F ∷ space ∷ []) white refl));
      takes = λ levels.
          let asked = within (in_mapping anchor tag pairs key_due ∷ levels) (node_awaited false) in
          takes_both (takes_text whole
          (passes_then (passes_both (passes_entry_white rules (in_mapping anchor tag pairs no_key ∷ levels) (gap ++ blank) white)
          (passes_both (passes_question rules (in_mapping anchor tag pairs no_key ∷ levels) asked refl)
          (passes_node_space rules (in_mapping anchor tag pairs key_due ∷ levels))))
          (key.takes refl (in_mapping anchor tag pairs key_due ∷ levels) refl true)))
          (takes_text late_whole
          (passes_then (passes_both (passes_colon_white rules (held anchor tag pairs key_tree levels) colon.first colon.more colon.white)
          (passes_both (passes_late_colon rules (held anchor tag pairs key_tree levels))
          (passes_node_space rules (held anchor tag pairs key_tree levels))))
          (node.takes refl (held anchor tag pairs key_tree levels) refl true)))
          (λ rest k.
          ap (λ t. ends_word rules.breaks12 (t ++ rest))
          (late_whole ∙ append_assoc (colon.first ∷ colon.more) (0x3A ∷ space ∷ []) node.content)
          ∙ white_indicator_ends rules.breaks12 (colon.first ∷ colon.more) 0x3A (space ∷ node.content) colon.white
          (class_fixed rules.breaks12 0x3A refl) rest k);
    }

-- Entries together

-- the first entry, after its bracket
pub first_entry : (rules : Rules) (bracket : ℕ) (cursor : Cursor) (own : Rendered) (entry : Text) (last : Option Text → Option Text → OpenFlow)
    → own.text ≡ space_if true cursor ++ (bracket ∷ entry) → EndedCollection own.cursor
    → ((anchor tag : Option Text) → FlowEntry rules entry (level_opened bracket anchor tag) (last anchor tag))
    → FlowEntries rules bracket cursor own (level_opened bracket) last
first_entry rules bracket cursor own entry last whole ended one = record {
  inside = entry;
  whole = whole;
  ended = ended;
  opens = (one None None).opens;
  takes = λ anchor tag levels. (one anchor tag).takes levels;
}

-- one more, after a comma
pub next_entry : (rules : Rules) (bracket : ℕ) (cursor : Cursor) (before own : Rendered) (entry : Text) (middle last : Option Text → Option Text → OpenFlow)
    → FlowEntries rules bracket cursor before (level_opened bracket) middle
    → own.text ≡ before.text ++ (0x2C ∷ entry) → EndedCollection own.cursor
    → ((anchor tag : Option Text) → FlowEntry rules entry (middle anchor tag) (last anchor tag))
    → FlowEntries rules bracket cursor own (level_opened bracket) last
next_entry rules bracket cursor before own entry middle last entries whole ended one = record {
  inside = entries.inside ++ (0x2C ∷ entry);
  whole =
      whole ∙ ap (λ t. t ++ (0x2C ∷ entry)) entries.whole ∙ append_assoc (space_if true cursor) (bracket ∷ entries.inside) (0x2C ∷ entry);
  ended = ended;
  opens = opens_more entries.inside (0x2C ∷ entry) entries.opens;
  takes = λ anchor tag levels.
      takes_both (entries.takes anchor tag levels) (passes_then (passes_comma rules _) ((one anchor tag).takes levels))
      (indicator_ends _ 0x2C entry (class_fixed _ 0x2C refl));
}
