-- The effect of a node in flow, and of the entries of a collection in flow, on the reader of flow collections.
use Rattle.yaml_base.proofs.Common.{nat_tests, arith, ℕ, ◌+◌, if◌then◌else◌, Option, codes, length, Bool, false, true, List, [], ◌++◌, ◌∷◌, refl, ◌≡◌}
use Rattle.yaml_base.proofs.Common.{eqb-true, append-nil, append_assoc, ap, sym, ◌∙◌, and_parts, false≢true, Text, Cursor, Rendered, new_line, space_if}
use Rattle.yaml_base.proofs.Common.{indicator, Brackets, square, curly, render_end, line_column, Effective, ParsedTag, Tree, Trees, sequence_tree, TreePairs}
use Rattle.yaml_base.proofs.Common.{mapping_tree, no_key, key_held, OpenFlow, in_sequence, in_mapping, at_once, Awaited, entry_awaited, node_awaited}
use Rattle.yaml_base.proofs.Common.{comma_awaited, colon_awaited, FlowReading, within, with_tree, level_opened, ends_indicator, spaces, Rules, properties_read}
use Rattle.yaml_base.proofs.Common.{opens, free, begins_bracket, class_of, is_pair, flow_tokens, and-false}
use Rattle.yaml_base.proofs.{stream_flow.StreamPlainWords.ends_word, stream_lines.StreamInside.blank_spaces, stream_nodes.StreamStands.tag_meant}
use Rattle.yaml_base.proofs.stream_flow.StreamPropertyWords.{lead, opens_after}
use Rattle.yaml_base.proofs.stream_nodes.StreamLeads.{EndedCollection, lead_spaces, lead_then}
use Rattle.yaml_base.proofs.stream_flow.StreamFlowWords.{opens_inside, FlowWord, Given, given_leads, tag_of_collection}
use Rattle.yaml_base.proofs.stream_flow.StreamPasses.{passes_both, passes_then, takes_text, passes_comma, is_white_text, passes_entry_white, new_line_white}
use Rattle.yaml_base.proofs.stream_flow.StreamSays.{EndsWord, says_indicator, indicator_ends, class_fixed}
use Rattle.yaml_base.proofs.stream_flow.StreamTakes.{steps, TakesBytes, takes_to, takes_sequence_end, takes_mapping_end}
use Rattle.yaml_base.proofs.stream_nodes.StreamProperties.{properties_text, has_properties, read_as, properties_parsed}
use Rattle.yaml_base.specs.streams.StreamFlow.{may_open, opened_with}

-- true if a node may begin: between entries, or after the space that follows `?` or `:`
abbrev pub awaited_of : (spaced : Bool) → Awaited
awaited_of true = node_awaited true
awaited_of false = entry_awaited

-- a node's text after its place's indicators: a space if one is needed, and a word or collection that takes the reader to that
-- place with the node's tree; as a simple key it takes it to the `:`
pub record FlowNode (rules : Rules) (simple : Bool) (cursor : Cursor) (own : Rendered) (tree : Tree) : Type 0 where
  pub content : Text
  pub whole : own.text ≡ space_if true cursor ++ content
  pub ended : EndedCollection own.cursor
  pub opens : opens_inside content ≡ true
  pub takes : simple ≡ false → (levels : List OpenFlow) → may_open levels ≡ true → (spaced : Bool)
      → TakesBytes rules (within levels (awaited_of spaced)) content (with_tree levels tree)
  pub key : simple ≡ true → (anchor tag : Option Text) (pairs : TreePairs) (levels : List OpenFlow)
      → TakesBytes rules (within (in_mapping anchor tag pairs no_key ∷ levels) entry_awaited) content
      (within (in_mapping anchor tag pairs (key_held tree) ∷ levels) (colon_awaited at_once))

-- the text of a collection's entries: a space if one is needed, the bracket, and a text that takes the reader over the entries
pub record FlowEntries (rules : Rules) (bracket : ℕ) (cursor : Cursor) (own : Rendered) (first last : Option Text → Option Text → OpenFlow) : Type 0 where
  pub inside : Text
  pub whole : own.text ≡ space_if true cursor ++ (bracket ∷ inside)
  pub ended : EndedCollection own.cursor
  pub opens : opens_inside inside ≡ true
  pub takes : (anchor tag : Option Text) (levels : List OpenFlow)
      → TakesBytes rules (within (first anchor tag ∷ levels) entry_awaited) inside (within (last anchor tag ∷ levels) comma_awaited)

-- Words

-- a word takes its place
pub takes_word : (rules : Rules) (levels : List OpenFlow) (spaced : Bool) (text : Text) (tree : Tree) → FlowWord rules text tree → may_open levels ≡ true
    → TakesBytes rules (within levels (awaited_of spaced)) text (with_tree levels tree)
takes_word rules levels spaced text tree of h = grind (arith, nat_tests, takes_to, false≢true)

-- Collections

-- properties before a bracket fill their text
lead_reads : (rules : Rules) (anchor tag : Option Text) (parsed : Option ParsedTag) → Given rules anchor tag parsed
    → properties_read rules.directives (lead anchor tag) ≡ read_as anchor parsed (length (properties_text anchor tag) + lead_spaces anchor tag) []
lead_reads rules anchor tag parsed given =
    ap (properties_read rules.directives) (sym (append-nil (lead anchor tag)) ∙ lead_then anchor tag [])
    ∙ properties_parsed rules.directives anchor tag parsed (lead_spaces anchor tag) [] given.named given.tagged refl (by (has_properties anchor tag))
  where
    by : (x : Bool) → x ≡ true → ends_indicator (spaces (if x then 1 else 0) ++ []) ≡ true
    by true h = refl
    by false h = absurd (false≢true h)

-- a collection opens if a node may begin
opens_level : (rules : Rules) (levels : List OpenFlow) (bracket : ℕ) (anchor tag given_tag : Option Text) → Given rules anchor tag (tag_meant given_tag false)
    → may_open levels ≡ true
    → opened_with levels bracket (properties_read rules.directives (lead anchor tag)) ≡ within (level_opened bracket anchor given_tag ∷ levels) entry_awaited
opens_level rules levels bracket anchor tag given_tag given h = grind (arith, lead_reads, append-nil, blank_spaces, tag_of_collection)

-- a bracket that doesn't close a collection is no pair with its bracket
pub no_pair : (bracket c : ℕ) (rest : Text) → opens_inside (c ∷ rest) ≡ true → is_pair bracket c ≡ false
no_pair bracket c rest h = grind (arith, and_parts, false≢true)

-- a collection takes its place
pub takes_collection : (rules : Rules) (levels : List OpenFlow) (spaced : Bool) (bracket : ℕ) (anchor tag given_tag : Option Text) (inside : Text)
    (to : FlowReading)
    → Given rules anchor tag (tag_meant given_tag false) → may_open levels ≡ true → class_of rules.breaks12 bracket ≡ begins_bracket
    → opens_inside inside ≡ true
    → TakesBytes rules (within (level_opened bracket anchor given_tag ∷ levels) entry_awaited) inside to
    → TakesBytes rules (within levels (awaited_of spaced)) (lead anchor tag ++ (bracket ∷ inside)) to
takes_collection rules levels spaced bracket anchor tag given_tag [] to given h class opens_it takes = absurd (false≢true opens_it)
takes_collection rules levels spaced bracket anchor tag given_tag (c ∷ inside) to given h class opens_it takes = record {
  takes = λ rest ends.
      ap (λ t. steps rules (within levels (awaited_of spaced)) (flow_tokens rules.breaks12 free t)) (append_assoc (lead anchor tag) (bracket ∷ c ∷ inside) rest)
      ∙ ap (steps rules (within levels (awaited_of spaced)))
      (opens_after rules.breaks12 (lead anchor tag) bracket c (inside ++ rest) (given_leads rules anchor tag (tag_meant given_tag false) given) class
      (no_pair bracket c inside opens_it))
      ∙ step spaced (inside ++ rest)
      ∙ ap (λ r. steps rules r (flow_tokens rules.breaks12 free ((c ∷ inside) ++ rest))) (opens_level rules levels bracket anchor tag given_tag given h)
      ∙ takes.takes rest ends;
}
  where
    step : (spaced : Bool) (more : Text)
        → steps rules (within levels (awaited_of spaced)) (opens (lead anchor tag) bracket ∷ flow_tokens rules.breaks12 free (c ∷ more))
        ≡ steps rules (opened_with levels bracket (properties_read rules.directives (lead anchor tag))) (flow_tokens rules.breaks12 free (c ∷ more))
    step true more = refl
    step false more = refl

-- Texts

-- more text after one that opens
pub opens_more : (a b : Text) → opens_inside a ≡ true → opens_inside (a ++ b) ≡ true
opens_more [] b h = absurd (false≢true h)
opens_more (c ∷ a) b h = h

-- white space before one
pub white_opens : (a b : Text) → is_white_text a ≡ true → opens_inside b ≡ true → opens_inside (a ++ b) ≡ true
white_opens [] b h k = k
white_opens (c ∷ a) b h k = grind (arith, and_parts, eqb-true, false≢true)

-- Ends

-- the end of a collection that holds something, from its last entry on
pub record FlowEnd (rules : Rules) (ending : Rendered) (levels : List OpenFlow) (to : FlowReading) : Type 0 where
  pub ended : EndedCollection ending.cursor
  pub ends : EndsWord rules.breaks12 ending.text
  pub takes : TakesBytes rules (within levels comma_awaited) ending.text to

-- a bracket that closes, after the last entry or after a comma and white space
closes : (rules : Rules) (s : Effective) (levels : List OpenFlow) (to : FlowReading) (brackets : Brackets) (bracket : ℕ) (column : Option ℕ) (cursor : Cursor)
    → brackets.closing ≡ bracket ∷ [] → EndsWord rules.breaks12 (bracket ∷ [])
    → TakesBytes rules (within levels comma_awaited) (bracket ∷ []) to → TakesBytes rules (within levels entry_awaited) (bracket ∷ []) to
    → FlowEnd rules (render_end s brackets true false column cursor) levels to
closes rules s levels to brackets bracket column cursor e ends at_once_taken after_comma = by s.canonical
  where
    line : Text
    line = (new_line (line_column column) (indicator (codes ",") false false false cursor).cursor).text

    by : (canonical : Bool) → FlowEnd rules (render_end (record s { canonical = canonical }) brackets true false column cursor) levels to
    by true = record {
      ended = record { white = refl; indention = refl };
      ends = λ rest h. indicator_ends _ 0x2C (line ++ brackets.closing) (class_fixed rules.breaks12 0x2C refl) rest h;
      takes =
          takes_text (ap (λ t. (0x2C ∷ line) ++ t) e) (passes_then (passes_both (passes_comma rules levels)
          (passes_entry_white rules levels line (new_line_white (line_column column) (indicator (codes ",") false false false cursor).cursor))) after_comma);
    }
    by false = record {
      ended = record { white = refl; indention = and-false cursor.indention };
      ends = λ rest h. ap (λ t. ends_word rules.breaks12 (t ++ rest)) e ∙ ends rest h;
      takes = takes_text e at_once_taken;
    }

-- a sequence that holds something ends
pub sequence_ends : (rules : Rules) (s : Effective) (anchor tag : Option Text) (items : Trees) (levels : List OpenFlow) (column : Option ℕ) (cursor : Cursor)
    → FlowEnd rules (render_end s square true false column cursor) (in_sequence anchor tag items ∷ levels) (with_tree levels (sequence_tree anchor tag items))
sequence_ends rules s anchor tag items levels column cursor =
    closes rules s _ _ square 0x5D column cursor refl (indicator_ends _ 0x5D [] (class_fixed rules.breaks12 0x5D refl))
    (takes_sequence_end rules anchor tag items levels) (takes_to rules _ _ _ _ (says_indicator _ 0x5D (class_fixed rules.breaks12 0x5D refl)) refl)

-- and a mapping
pub mapping_ends : (rules : Rules) (s : Effective) (anchor tag : Option Text) (pairs : TreePairs) (levels : List OpenFlow) (column : Option ℕ) (cursor : Cursor)
    → FlowEnd rules (render_end s curly true false column cursor) (in_mapping anchor tag pairs no_key ∷ levels)
    (with_tree levels (mapping_tree anchor tag pairs))
mapping_ends rules s anchor tag pairs levels column cursor =
    closes rules s _ _ curly 0x7D column cursor refl (indicator_ends _ 0x7D [] (class_fixed rules.breaks12 0x7D refl))
    (takes_mapping_end rules anchor tag pairs levels) (takes_to rules _ _ _ _ (says_indicator _ 0x7D (class_fixed rules.breaks12 0x7D refl)) refl)
