-- Flow collections, from tokens to a tree. White space comes after `[`, `{` and `,`, blanks after `?` and `:`, a blank after an alias that
-- is a key, and anything white after a key with a `?`; that these are needed is this project's rule.
-- Source, unless a definition names its own: helpers of this project's reader for c-flow-sequence(n,c) and c-flow-mapping(n,c)
-- (YAML 1.1, sections 10.1.1 Flow Sequences and 10.2.1 Flow Mappings).
use Rattle.std.specs.Prelude.{ℕ, suc, Bool, true, false, Option, None, Some, List, [], ◌∷◌, ◌==◌, ◌&&◌, not, nat_le, length, fold, if◌then◌else◌}
use Rattle.std.specs.List.{list_any}
use Rattle.yaml_base.specs.Characters.{Text}
use Rattle.yaml_base.specs.LineBreaks.{is_read_break}
use Rattle.yaml_base.specs.streams.StreamContent.{Tree, alias_tree, sequence_tree, mapping_tree, Trees, no_trees, trees_and, TreePairs, no_tree_pairs}
use Rattle.yaml_base.specs.streams.StreamContent.{tree_pairs_and}
use Rattle.yaml_base.specs.streams.StreamScalars.{Rules, Properties, PropertiesRead, properties_read, collection_tag_parsed, word_after, word_read}
use Rattle.yaml_base.specs.streams.StreamLines.{is_spaces}
use Rattle.yaml_base.specs.streams.StreamTokens.{FlowToken, word, opens, symbol, blank, line_end, free, flow_tokens}

-- Simple keys

-- true of an alias (YAML 1.1, section 8.4 Alias Nodes, c-ns-alias-node)
abbrev pub is_alias : Tree → Bool
is_alias (alias_tree name) = true
is_alias _ = false

-- the maximum length of a simple key up to its `:`, in characters (YAML 1.1, section 10.2 Mapping Styles, no production)
abbrev pub longest_key : ℕ
longest_key = 1024

-- the length of a key's text up to its `:`; an alias is followed by a space (this project)
abbrev pub key_length : Tree → Text → ℕ
key_length key text = if is_alias key then suc (length text) else length text

-- true if the text of a simple key is on one line and isn't longer than it may be (YAML 1.1, section 10.2 Mapping Styles, no production)
abbrev pub is_key_text : Bool → Tree → Text → Bool
is_key_text breaks12 key text = nat_le (key_length key text) longest_key && not (list_any (is_read_break breaks12) text)

-- Open collections

-- the key of an open mapping's next pair: none yet, due after `?`, or read
pub data HeldKey : Type 0 where
  no_key : HeldKey
  key_due : HeldKey
  key_held : Tree → HeldKey

-- an open collection: its anchor, its tag and its contents so far
pub data OpenFlow : Type 0 where
  in_sequence : Option Text → Option Text → Trees → OpenFlow
  in_mapping : Option Text → Option Text → TreePairs → HeldKey → OpenFlow

-- the place of the `:` after a key: at once, after one blank, or after something white, which came or didn't yet
pub data ColonPlace : Type 0 where
  at_once : ColonPlace
  after_blank : ColonPlace
  after_white : (came : Bool) → ColonPlace

-- the tokens that may come next: the collection that all is in, whose properties were read; an entry or the end; a node, after a blank
-- that came or didn't yet; a comma or the end; a `:`
pub data Awaited : Type 0 where
  collection_awaited : Properties → Awaited
  entry_awaited : Awaited
  node_awaited : (blank_came : Bool) → Awaited
  comma_awaited : Awaited
  colon_awaited : ColonPlace → Awaited

-- a fault, the finished collection, or the open ones, the innermost first
pub data FlowReading : Type 0 where
  failed : FlowReading
  done : Tree → FlowReading
  within : List OpenFlow → Awaited → FlowReading

-- Steps

-- a finished node joins the innermost collection; it is no simple key
abbrev pub with_tree : List OpenFlow → Tree → FlowReading
with_tree [] tree = done tree
with_tree (in_sequence anchor tag trees ∷ levels) tree = within (in_sequence anchor tag (trees_and trees tree) ∷ levels) comma_awaited
with_tree (in_mapping anchor tag pairs no_key ∷ levels) tree = failed
with_tree (in_mapping anchor tag pairs key_due ∷ levels) tree =
    within (in_mapping anchor tag pairs (key_held tree) ∷ levels) (colon_awaited (after_white false))
with_tree (in_mapping anchor tag pairs (key_held key) ∷ levels) tree =
    within (in_mapping anchor tag (tree_pairs_and pairs key tree) no_key ∷ levels) comma_awaited

-- the place of the `:` after a simple key
abbrev pub colon_after : Tree → ColonPlace
colon_after key = if is_alias key then after_blank else at_once

-- a word is a simple key if a mapping has none, else a node
abbrev pub with_word : Bool → List OpenFlow → Text → Tree → FlowReading
with_word breaks12 (in_mapping anchor tag pairs no_key ∷ levels) text tree =
    if is_key_text breaks12 tree text
    then within (in_mapping anchor tag pairs (key_held tree) ∷ levels) (colon_awaited (colon_after tree)) else failed
with_word breaks12 levels text tree = with_tree levels tree

-- the step of a word; a fault if it has no reading
abbrev pub word_step : Bool → List OpenFlow → Text → Option Tree → FlowReading
word_step breaks12 levels text None = failed
word_step breaks12 levels text (Some tree) = with_word breaks12 levels text tree

-- an open collection that holds nothing yet (YAML 1.1, section 5.3 Indicator Characters, c-sequence-start, c-mapping-start)
abbrev pub level_opened : ℕ → Option Text → Option Text → OpenFlow
level_opened bracket anchor tag =
    if bracket == 0x5B then in_sequence anchor tag no_trees else in_mapping anchor tag no_tree_pairs no_key

-- a collection opens with its anchor and tag, if its tag is one of its own (this project)
abbrev pub opened : List OpenFlow → ℕ → Option Text → Option (Option Text) → FlowReading
opened levels bracket anchor None = failed
opened levels bracket anchor (Some tag) = within (level_opened bracket anchor tag ∷ levels) entry_awaited

-- true if a collection may open: one that holds something is no simple key (this project)
abbrev pub may_open : List OpenFlow → Bool
may_open (in_mapping anchor tag pairs no_key ∷ levels) = false
may_open levels = true

-- properties that fill their text, and a bracket
abbrev pub opened_with : List OpenFlow → ℕ → Option PropertiesRead → FlowReading
opened_with levels bracket None = failed
opened_with levels bracket (Some read) =
    if may_open levels && is_spaces read.text
    then opened levels bracket read.properties.anchor (collection_tag_parsed read.properties.tag) else failed

-- the step if a node may begin (YAML 1.1, section 8.5.1 Flow Nodes, ns-flow-node(n,c))
abbrev pub flow_node_step : Rules → List OpenFlow → FlowToken → FlowReading
flow_node_step rules levels (word text) = word_step rules.breaks12 levels text (word_read rules true text)
flow_node_step rules levels (opens properties bracket) = opened_with levels bracket (properties_read rules.directives properties)
flow_node_step rules levels _ = failed

-- the innermost collection ends (YAML 1.1, section 5.3 Indicator Characters, c-sequence-end, c-mapping-end)
abbrev pub closed_flow : List OpenFlow → ℕ → FlowReading
closed_flow (in_sequence anchor tag trees ∷ levels) c = if c == 0x5D then with_tree levels (sequence_tree anchor tag trees) else failed
closed_flow (in_mapping anchor tag pairs no_key ∷ levels) c = if c == 0x7D then with_tree levels (mapping_tree anchor tag pairs) else failed
closed_flow _ c = failed

-- the step of a `?`, which asks for a key (YAML 1.1, section 5.3 Indicator Characters, c-mapping-key)
abbrev pub key_asked : List OpenFlow → FlowReading
key_asked (in_mapping anchor tag pairs no_key ∷ levels) = within (in_mapping anchor tag pairs key_due ∷ levels) (node_awaited false)
key_asked levels = failed

-- the step if an entry may begin or the collection end
abbrev pub entry_step : Rules → List OpenFlow → FlowToken → FlowReading
entry_step rules levels blank = within levels entry_awaited
entry_step rules levels line_end = within levels entry_awaited
entry_step rules levels (symbol c) = if c == 0x3F then key_asked levels else closed_flow levels c
entry_step rules levels token = flow_node_step rules levels token

-- the step if a node is on the line of the `?` or `:` before it, after a blank (this project, stricter than YAML 1.1, section 6.3
-- Separation Spaces, s-separate(n,c))
abbrev pub spaced_step : Rules → List OpenFlow → (blank_came : Bool) → FlowToken → FlowReading
spaced_step rules levels came blank = within levels (node_awaited true)
spaced_step rules levels true token = flow_node_step rules levels token
spaced_step rules levels false token = failed

-- the step after an entry (YAML 1.1, section 5.3 Indicator Characters, c-collect-entry)
abbrev pub comma_step : List OpenFlow → FlowToken → FlowReading
comma_step levels (symbol c) = if c == 0x2C then within levels entry_awaited else closed_flow levels c
comma_step levels token = failed

-- the step of the `:` itself (YAML 1.1, section 5.3 Indicator Characters, c-mapping-value)
abbrev pub colon_indicator : List OpenFlow → ℕ → FlowReading
colon_indicator levels c = if c == 0x3A then within levels (node_awaited false) else failed

-- the step after a key
abbrev pub colon_step : List OpenFlow → ColonPlace → FlowToken → FlowReading
colon_step levels at_once (symbol c) = colon_indicator levels c
colon_step levels after_blank blank = within levels (colon_awaited at_once)
colon_step levels (after_white came) blank = within levels (colon_awaited (after_white true))
colon_step levels (after_white came) line_end = within levels (colon_awaited (after_white true))
colon_step levels (after_white true) (symbol c) = colon_indicator levels c
colon_step levels _ token = failed

-- the first token: an empty collection whole, or a bracket
abbrev pub collection_step : Rules → Properties → FlowToken → FlowReading
collection_step rules properties (word text) = word_step rules.breaks12 [] text (word_after rules true None properties text)
collection_step rules properties (opens [] bracket) = opened [] bracket properties.anchor (collection_tag_parsed properties.tag)
collection_step rules properties _ = failed

-- one token more within collections
abbrev pub awaited_step : Rules → List OpenFlow → Awaited → FlowToken → FlowReading
awaited_step rules levels (collection_awaited properties) token = collection_step rules properties token
awaited_step rules levels entry_awaited token = entry_step rules levels token
awaited_step rules levels (node_awaited came) token = spaced_step rules levels came token
awaited_step rules levels comma_awaited token = comma_step levels token
awaited_step rules levels (colon_awaited place) token = colon_step levels place token

-- one token more; nothing follows a finished collection
abbrev pub flow_step : Rules → FlowReading → FlowToken → FlowReading
flow_step rules (within levels awaited) token = awaited_step rules levels awaited token
flow_step rules _ token = failed

-- the tree of a text that holds one collection
abbrev pub tree_at_end : FlowReading → Option Tree
tree_at_end (done tree) = Some tree
tree_at_end _ = None

-- a text that is a flow collection, after its properties
-- (YAML 1.1, sections 10.1.1 Flow Sequences and 10.2.1 Flow Mappings, c-flow-sequence(n,c), c-flow-mapping(n,c))
abbrev pub flow_read : Rules → Properties → Text → Option Tree
flow_read rules properties text =
    tree_at_end (fold (flow_step rules) (within [] (collection_awaited properties)) (flow_tokens rules.breaks12 free text))
