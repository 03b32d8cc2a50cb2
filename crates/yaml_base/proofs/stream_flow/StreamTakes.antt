-- The effect of a text in flow on the reader of flow collections: it takes the reader from one reading to another.
use Rattle.yaml_base.proofs.Common.{arith, ℕ, fold, Option, Some, true, List, [], ◌++◌, ◌∷◌, refl, ◌≡◌, append_assoc, ap, ◌∙◌, Text, Tree, Trees, sequence_tree}
use Rattle.yaml_base.proofs.Common.{TreePairs, mapping_tree, is_key_text, no_key, key_held, OpenFlow, in_sequence, in_mapping, Awaited, collection_awaited}
use Rattle.yaml_base.proofs.Common.{entry_awaited, comma_awaited, colon_awaited, FlowReading, done, within, with_tree, flow_step, flow_read, Rules, Properties}
use Rattle.yaml_base.proofs.Common.{word_read, FlowToken, word, symbol, free, is_flow_indicator, class_of, flow_tokens}
use Rattle.yaml_base.{proofs.stream_flow.StreamPlainWords.ends_word, specs.streams.StreamFlow.colon_after}
use Rattle.yaml_base.proofs.stream_flow.StreamSays.{Says, EndsWord, says_indicator, class_fixed}

-- the readings of some tokens
abbrev pub steps : Rules → FlowReading → List FlowToken → FlowReading
steps rules from tokens = fold (flow_step rules) from tokens

-- a text takes the reader from a reading to another, before anything that ends a word
pub record TakesBytes (rules : Rules) (from : FlowReading) (text : Text) (to : FlowReading) : Type 0 where
  pub takes : (rest : Text) → ends_word rules.breaks12 rest ≡ true
      → steps rules from (flow_tokens rules.breaks12 free (text ++ rest)) ≡ steps rules to (flow_tokens rules.breaks12 free rest)

steps_both : (rules : Rules) (from : FlowReading) (a b : List FlowToken) → steps rules from (a ++ b) ≡ steps rules (steps rules from a) b
steps_both rules from [] b = refl
steps_both rules from (token ∷ a) b = steps_both rules (flow_step rules from token) a b

-- a text that is these tokens takes the reader as they do
pub takes_tokens : (rules : Rules) (from : FlowReading) (text : Text) (tokens : List FlowToken) → Says rules.breaks12 text tokens
    → TakesBytes rules from text (steps rules from tokens)
takes_tokens rules from text tokens says = record {
  takes = λ rest h. ap (steps rules from) (says.says rest h) ∙ steps_both rules from tokens (flow_tokens rules.breaks12 free rest);
}

-- a text that is these tokens takes the reader to a reading that equals theirs
pub takes_to : (rules : Rules) (from to : FlowReading) (text : Text) (tokens : List FlowToken) → Says rules.breaks12 text tokens
    → steps rules from tokens ≡ to → TakesBytes rules from text to
takes_to rules from to text tokens says e = record {
  takes = λ rest h. (takes_tokens rules from text tokens says).takes rest h ∙ ap (λ r. steps rules r (flow_tokens rules.breaks12 free rest)) e;
}

-- a text, and then one that ends a word
pub takes_both : {rules : Rules} {from through to : FlowReading} {a b : Text} → TakesBytes rules from a through → TakesBytes rules through b to
    → EndsWord rules.breaks12 b → TakesBytes rules from (a ++ b) to
takes_both one two ends = grind (arith, append_assoc)

-- Words

-- a short one on a line, if a key may come, is a simple key
pub takes_simple_key : (rules : Rules) (anchor tag : Option Text) (pairs : TreePairs) (levels : List OpenFlow) (text : Text) (tree : Tree)
    → Says rules.breaks12 text (word text ∷ []) → word_read rules true text ≡ Some tree → is_key_text rules.breaks12 tree text ≡ true
    → TakesBytes rules (within (in_mapping anchor tag pairs no_key ∷ levels) entry_awaited) text
    (within (in_mapping anchor tag pairs (key_held tree) ∷ levels) (colon_awaited (colon_after tree)))
takes_simple_key rules anchor tag pairs levels text tree says read short = grind (arith, takes_to)

-- Indicators

-- a `]` after an item
pub takes_sequence_end : (rules : Rules) (anchor tag : Option Text) (items : Trees) (levels : List OpenFlow)
    → TakesBytes rules (within (in_sequence anchor tag items ∷ levels) comma_awaited) (0x5D ∷ []) (with_tree levels (sequence_tree anchor tag items))
takes_sequence_end rules anchor tag items levels = grind (arith, takes_to, says_indicator, class_fixed rules.breaks12 0x5D refl)

-- a `}` after a pair
pub takes_mapping_end : (rules : Rules) (anchor tag : Option Text) (pairs : TreePairs) (levels : List OpenFlow)
    → TakesBytes rules (within (in_mapping anchor tag pairs no_key ∷ levels) comma_awaited) (0x7D ∷ []) (with_tree levels (mapping_tree anchor tag pairs))
takes_mapping_end rules anchor tag pairs levels = grind (arith, takes_to, says_indicator, class_fixed rules.breaks12 0x7D refl)

-- The whole

-- a text that takes the reader to before its last indicator, by which the collection is done, is that collection
pub flow_reads : (rules : Rules) (properties : Properties) (text : Text) (levels : List OpenFlow) (awaited : Awaited) (c : ℕ) (tree : Tree)
    → class_of rules.breaks12 c ≡ is_flow_indicator → TakesBytes rules (within [] (collection_awaited properties)) text (within levels awaited)
    → flow_step rules (within levels awaited) (symbol c) ≡ done tree → flow_read rules properties (text ++ (c ∷ [])) ≡ Some tree
flow_reads rules properties text levels awaited c tree class takes e = grind (arith)
