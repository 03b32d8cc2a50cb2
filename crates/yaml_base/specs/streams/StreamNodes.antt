-- Nodes in block, by lines and columns: the lines inside a column are a node, and each entry of a collection is read as lines of
-- its own. The depth of reading is bounded by a number that the text's length gives.
-- Source, unless a definition names its own: that of its part.
use Rattle.std.specs.Prelude.{ℕ, zero, suc, Bool, true, false, Option, None, Some, List, [], ◌∷◌, ◌++◌, ◌==◌, ◌||◌, ◌&&◌, ◌+◌, not, nat_le, length, fold}
use Rattle.std.specs.Prelude.{option_map, option_and_then, is_some, if◌then◌else◌}
use Rattle.std.specs.Option.{option_or}
use Rattle.yaml_base.specs.Characters.{Text, space}
use Rattle.yaml_base.specs.LineBreaks.{is_read_break}
use Rattle.yaml_base.specs.streams.StreamContent.{Tree, sequence_tree, mapping_tree, Trees, no_trees, trees_and, TreePairs, no_tree_pairs, tree_pairs_and}
use Rattle.yaml_base.specs.streams.StreamLines.{Line, text_of_lines, all_blank, without_skipped_lines, first_line_is_skipped}
use Rattle.yaml_base.specs.streams.StreamLines.{ends_indicator, begins_with_indicator, is_comment_at, Entries, entries_at}
use Rattle.yaml_base.specs.streams.StreamLines.{all_deeper, Indented, past_indentation, past_column, blanked}
use Rattle.yaml_base.specs.streams.StreamScalars.{Rules, Properties, no_properties, PropertiesRead, properties_read, collection_tag_parsed}
use Rattle.yaml_base.specs.streams.StreamScalars.{style_of_first_character}
use Rattle.yaml_base.specs.streams.StreamScalars.{scalar_of_style, empty_parsed, word_after, word_read}
use Rattle.yaml_base.specs.streams.StreamFlow.{is_alias, longest_key, flow_read}

-- Simple keys. Source: YAML 1.1, section 10.2 Mapping Styles, no production, in this project's steps.

-- a simple key, the length of its text, and the text after its `:`
pub record SimpleKey : Type 0 where
  pub key : Tree
  pub length : ℕ
  pub after : Text

-- a text without the space that ends it; none if it ends otherwise
abbrev pub without_last_space : Text → Option Text
without_last_space [] = None
without_last_space (c ∷ []) = if c == space then Some [] else None
without_last_space (c ∷ d ∷ rest) = option_map (λ text. c ∷ text) (without_last_space (d ∷ rest))

-- a node's own text that is no alias
abbrev pub word_but_alias : Rules → Text → Option Tree
word_but_alias rules text = option_and_then (λ tree. if is_alias tree then None else Some tree) (word_read rules false text)

-- a node's own text that is an alias
abbrev pub word_of_alias : Rules → Text → Option Tree
word_of_alias rules text = option_and_then (λ tree. if is_alias tree then Some tree else None) (word_read rules false text)

-- a text before a `:` that is a simple key: a node's own text, with a space after it if that is an alias; it isn't longer than it may be
-- (YAML 1.1, section 10.2 Mapping Styles, no production; the space after an alias is this project's)
abbrev pub key_of_text : Rules → Text → Option Tree
key_of_text rules text =
    if nat_le (length text) longest_key
    then option_or (word_but_alias rules text) (option_and_then (word_of_alias rules) (without_last_space text)) else None

-- the key of a text before a `:` that ends it, and the text after it
abbrev pub key_ends : Rules → (ends : Bool) → Text → Text → Option SimpleKey
key_ends rules false text after = None
key_ends rules true text after = option_map (λ key. record { key = key; length = length text; after = after }) (key_of_text rules text)

-- the simple key that ends at the first such `:` from here on; the first text is the part of the line before it
abbrev pub key_from : Rules → Text → Text → Option SimpleKey
key_from rules before [] = None
key_from rules before (c ∷ rest) =
    option_or (key_ends rules (c == 0x3A && ends_indicator rest) before rest) (key_from rules (before ++ c ∷ []) rest)

-- the simple key that a line begins with
abbrev pub key_of_line : Rules → Text → Option SimpleKey
key_of_line rules text = key_from rules [] text

-- Collections. Source: helpers of this project's reader for c-l-block-sequence(n,c), c-l-block-mapping(n)
-- (YAML 1.1, sections 10.1.2 Block Sequences and 10.2.2 Block Mappings).

-- a reader of the lines inside a column (none: those of a document); a block may begin on the first of them or not
abbrev pub LinesReader : Type 0
LinesReader = (here : Bool) → Option ℕ → List Line → Option Tree

-- an item whose indicator is at the column (YAML 1.1, section 10.1.2 Block Sequences, c-l-block-sequence(n,c))
abbrev pub item_by_indicator : LinesReader → ℕ → Text → List Line → Option Text → Option Tree
item_by_indicator reads column ending rest (Some (c ∷ text)) =
    if begins_with_indicator 0x2D (c ∷ text) then reads true (Some column) (blanked (suc column) text ending ∷ rest) else None
item_by_indicator reads column ending rest _ = None

-- an item of a sequence at a column (YAML 1.1, section 10.1.2 Block Sequences, c-l-block-sequence(n,c))
abbrev pub item_read : LinesReader → ℕ → List Line → Option Tree
item_read reads column [] = None
item_read reads column (line ∷ rest) = item_by_indicator reads column line.ending rest (past_column column line.text)

-- one more item
abbrev pub with_item : Option Trees → Option Tree → Option Trees
with_item (Some trees) (Some tree) = Some (trees_and trees tree)
with_item _ _ = None

-- true of an entry that is a comment at the column, and blank lines after it (YAML 1.1, section 6.2 Comments, l-comment)
abbrev pub is_comment_entry : ℕ → List Line → Bool
is_comment_entry column [] = false
is_comment_entry column (line ∷ rest) = is_comment_at column line.text && all_blank rest

-- an entry of a sequence: a comment, which adds nothing, or one more item
abbrev pub with_item_or_comment : LinesReader → ℕ → Option Trees → List Line → Option Trees
with_item_or_comment reads column before entry = if is_comment_entry column entry then before else with_item before (item_read reads column entry)

-- the items of a sequence at a column (YAML 1.1, section 10.1.2 Block Sequences, c-l-block-sequence(n,c))
abbrev pub items_read : LinesReader → ℕ → List (List Line) → Option Trees
items_read reads column entries = fold (with_item_or_comment reads column) (Some no_trees) entries

-- the pairs so far, and a key whose value is due
pub record HeldPairs : Type 0 where
  pub pairs : TreePairs
  pub key : Option Tree

-- a key after pairs whose last has its value (YAML 1.1, section 10.2.2 Block Mappings, c-l-block-mapping(n))
abbrev pub with_key : HeldPairs → Option Tree → Option HeldPairs
with_key held read = if is_some held.key then None else option_map (λ key. record { pairs = held.pairs; key = Some key }) read

-- the value of the held key (YAML 1.1, section 10.2.2 Block Mappings, c-l-block-mapping(n))
abbrev pub with_held_value : TreePairs → Option Tree → Option Tree → Option HeldPairs
with_held_value pairs (Some key) (Some value) = Some (record { pairs = tree_pairs_and pairs key value; key = None })
with_held_value pairs _ _ = None

-- a simple key and its value, on the line after the key's `:` or below it (YAML 1.1, section 10.2.2 Block Mappings, c-l-block-mapping(n))
abbrev pub simple_pair : LinesReader → ℕ → Text → List Line → Option HeldPairs → Option SimpleKey → Option HeldPairs
simple_pair reads column ending rest (Some held) (Some found) =
    with_held_value held.pairs held.key (reads false (Some column) (blanked (suc (column + found.length)) found.after ending ∷ rest))
simple_pair reads column ending rest _ _ = None

-- the beginning of an entry of a mapping
pub data EntryKind : Type 0 where
  key_entry : EntryKind
  value_entry : EntryKind
  simple_entry : EntryKind

-- `?`, `:`, or a simple key (YAML 1.1, sections 5.3 Indicator Characters and 10.2.2 Block Mappings, c-mapping-key, c-mapping-value, c-l-block-mapping(n))
abbrev pub kind_of_entry : Text → EntryKind
kind_of_entry text =
    if begins_with_indicator 0x3F text then key_entry else (if begins_with_indicator 0x3A text then value_entry else simple_entry)

-- an entry of a mapping at a column, by its kind (YAML 1.1, section 10.2.2 Block Mappings, c-l-block-mapping(n))
abbrev pub entry_by_kind : EntryKind → Rules → LinesReader → ℕ → Text → List Line → HeldPairs → Text → Option HeldPairs
entry_by_kind key_entry rules reads column ending rest held [] = None
entry_by_kind key_entry rules reads column ending rest held (c ∷ text) =
    with_key held (reads true (Some column) (blanked (suc column) text ending ∷ rest))
entry_by_kind value_entry rules reads column ending rest held [] = None
entry_by_kind value_entry rules reads column ending rest held (c ∷ text) =
    with_held_value held.pairs held.key (reads true (Some column) (blanked (suc column) text ending ∷ rest))
entry_by_kind simple_entry rules reads column ending rest held text =
    option_and_then
    (λ found. simple_pair reads column ending rest (with_key held (Some found.key)) (Some found))
    (key_of_line rules text)

-- an entry of a mapping whose first character is at the column
abbrev pub entry_at : Rules → LinesReader → ℕ → Text → List Line → HeldPairs → Option Text → Option HeldPairs
entry_at rules reads column ending rest held None = None
entry_at rules reads column ending rest held (Some text) = entry_by_kind (kind_of_entry text) rules reads column ending rest held text

-- an entry of a mapping at a column (YAML 1.1, section 10.2.2 Block Mappings, c-l-block-mapping(n))
abbrev pub entry_read : Rules → LinesReader → ℕ → Option HeldPairs → List Line → Option HeldPairs
entry_read rules reads column (Some held) (line ∷ rest) = entry_at rules reads column line.ending rest held (past_column column line.text)
entry_read rules reads column _ _ = None

-- a comment comes between pairs, not between a key and its value
abbrev pub between_pairs : Option HeldPairs → Option HeldPairs
between_pairs before = option_and_then (λ held. if is_some held.key then None else Some held) before

-- an entry of a mapping: a comment, which adds nothing, or a part of a pair
abbrev pub pair_or_comment : Rules → LinesReader → ℕ → Option HeldPairs → List Line → Option HeldPairs
pair_or_comment rules reads column before entry =
    if is_comment_entry column entry then between_pairs before else entry_read rules reads column before entry

-- no pair, no key
abbrev pub no_pairs_held : HeldPairs
no_pairs_held = record { pairs = no_tree_pairs; key = None }

-- the pairs of a mapping whose last key has its value
abbrev pub pairs_held : HeldPairs → Option TreePairs
pairs_held held = if is_some held.key then None else Some held.pairs

-- the pairs of a mapping at a column (YAML 1.1, section 10.2.2 Block Mappings, c-l-block-mapping(n))
abbrev pub pairs_read : Rules → LinesReader → ℕ → List (List Line) → Option TreePairs
pairs_read rules reads column entries = option_and_then pairs_held (fold (pair_or_comment rules reads column) (Some no_pairs_held) entries)

-- the entries of a collection, if no line precedes them
abbrev pub entries_whole : Entries → Option (List (List Line))
entries_whole all = if length all.before == 0 then Some all.entries else None

-- a sequence at a column, whose tag is one of its own (YAML 1.1, section 10.1.2 Block Sequences, c-l-block-sequence(n,c))
abbrev pub sequence_read : LinesReader → Properties → ℕ → List Line → Option Tree
sequence_read reads properties column lines =
    option_and_then
    (λ tag. option_map (sequence_tree properties.anchor tag)
    (option_and_then (items_read reads column) (entries_whole (entries_at true column lines))))
    (collection_tag_parsed properties.tag)

-- a mapping at a column, whose tag is one of its own (YAML 1.1, section 10.2.2 Block Mappings, c-l-block-mapping(n))
abbrev pub mapping_read : Rules → LinesReader → Properties → ℕ → List Line → Option Tree
mapping_read rules reads properties column lines =
    option_and_then
    (λ tag. option_map (mapping_tree properties.anchor tag)
    (option_and_then (pairs_read rules reads column) (entries_whole (entries_at false column lines))))
    (collection_tag_parsed properties.tag)

-- Texts. Source: helpers of this project's reader for s-l+block-node(n,c) (YAML 1.1, section 8.5.2 Block Nodes).

-- a white character before a text that has none at its end
abbrev pub prepend_to_trimmed : (is_white : Bool) → ℕ → Text → Text
prepend_to_trimmed true c [] = []
prepend_to_trimmed _ c text = c ∷ text

-- true of a space or a break; a tab isn't white here
abbrev pub is_space_or_break : Bool → ℕ → Bool
is_space_or_break breaks12 c = c == space || is_read_break breaks12 c

-- a text without the spaces and breaks at its end
abbrev pub trimmed : Bool → Text → Text
trimmed breaks12 [] = []
trimmed breaks12 (c ∷ rest) = prepend_to_trimmed (is_space_or_break breaks12 c) c (trimmed breaks12 rest)

-- the kind of a text, by its first character: a block scalar, a flow collection, or a node's own text
pub data TextKind : Type 0 where
  block_text : TextKind
  flow_text : TextKind
  word_text : TextKind

-- `|` or `>`; `[` or `{`; any other (YAML 1.1, section 5.3 Indicator Characters, c-literal, c-folded, c-sequence-start, c-mapping-start)
abbrev pub kind_of_text : Text → TextKind
kind_of_text [] = word_text
kind_of_text (c ∷ rest) =
    if c == 0x7C || c == 0x3E then block_text else (if c == 0x5B || c == 0x7B then flow_text else word_text)

-- a text by its kind; white space at its end counts in a block scalar alone
abbrev pub text_by_kind : TextKind → Rules → Option ℕ → Properties → Text → Option Tree
text_by_kind block_text rules column properties text = scalar_of_style (style_of_first_character text) rules false column properties text
text_by_kind flow_text rules column properties text = flow_read rules properties (trimmed rules.breaks12 text)
text_by_kind word_text rules column properties text = word_after rules false column properties (trimmed rules.breaks12 text)

-- a text from its first line on, whose other lines are deeper than the column around
abbrev pub text_read : Rules → Option ℕ → Properties → Text → Text → List Line → Option Tree
text_read rules column properties text ending rest =
    if all_deeper column rest then text_by_kind (kind_of_text text) rules column properties (text ++ (ending ++ text_of_lines rest))
    else None

-- Nodes. Source: helpers of this project's reader for s-l+block-node(n,c) (YAML 1.1, section 8.5.2 Block Nodes).

-- the kind of a node, by its first line that is neither blank nor a comment
pub data NodeKind : Type 0 where
  begins_sequence : NodeKind
  begins_mapping : NodeKind
  begins_text : NodeKind

-- `-`; `?` or a simple key; a text (YAML 1.1, section 5.3 Indicator Characters, c-sequence-entry, c-mapping-key)
abbrev pub kind_of_node : Rules → Text → NodeKind
kind_of_node rules text =
    if begins_with_indicator 0x2D text then begins_sequence
    else (if begins_with_indicator 0x3F text || is_some (key_of_line rules text) then begins_mapping else begins_text)

-- a reader of a text on the first line: the column of the text, the text, its break, and the lines after it
abbrev pub ReadsText : Type 0
ReadsText = ℕ → Text → Text → List Line → Option Tree

-- a tree if the test holds, else none
abbrev pub tree_if : Bool → Option Tree → Option Tree
tree_if true tree = tree
tree_if false tree = None

-- a node by its kind: a block if one may begin, a text if it is on the first line
abbrev pub node_by_kind :
    NodeKind → Rules → LinesReader → ReadsText → Properties → (here first : Bool) → Indented → Text → List Line → List Line → Option Tree
node_by_kind begins_sequence rules reads reads_text properties here first line ending rest lines =
    tree_if here (sequence_read reads properties line.column lines)
node_by_kind begins_mapping rules reads reads_text properties here first line ending rest lines =
    tree_if here (mapping_read rules reads properties line.column lines)
node_by_kind begins_text rules reads reads_text properties here first line ending rest lines =
    tree_if first (reads_text line.column line.text ending rest)

-- a node's lines from one that is neither blank nor a comment on; none are the empty scalar
abbrev pub node_at : Rules → LinesReader → ReadsText → Properties → (here first : Bool) → List Line → Option Tree
node_at rules reads reads_text properties here first [] = empty_parsed properties
node_at rules reads reads_text properties here first (line ∷ rest) =
    let begun = past_indentation line.text in
    node_by_kind (kind_of_node rules begun.text) rules reads reads_text properties here first begun line.ending rest (line ∷ rest)

-- blank lines and comment lines before a node are skipped; after one a block may begin, and no text (this project)
abbrev pub node_lines : Rules → LinesReader → ReadsText → Properties → (here : Bool) → List Line → Option Tree
node_lines rules reads reads_text properties here lines =
    node_at rules reads reads_text properties (here || first_line_is_skipped lines) (not (first_line_is_skipped lines)) (without_skipped_lines lines)

-- true if a text begins with an anchor or a tag (YAML 1.1, section 5.3 Indicator Characters, c-anchor, c-tag)
abbrev pub begins_properties : Text → Bool
begins_properties [] = false
begins_properties (c ∷ rest) = c == 0x26 || c == 0x21

-- properties that were read of a line; a node without further properties follows them (YAML 1.1, chapter 8 Nodes, c-ns-properties(n,c))
abbrev pub after_properties : Rules → LinesReader → Option ℕ → ℕ → Text → List Line → Option PropertiesRead → Option Tree
after_properties rules reads column at ending rest None = None
after_properties rules reads column at ending rest (Some read) =
    node_lines rules reads (λ at. text_read rules column read.properties) read.properties false (blanked at read.text ending ∷ rest)

-- properties and the node that they belong to, or a text without them
abbrev pub text_or_properties : (properties : Bool) → Rules → LinesReader → Option ℕ → ReadsText
text_or_properties true rules reads column at text ending rest =
    after_properties rules reads column at ending rest (properties_read rules.directives text)
text_or_properties false rules reads column at text ending rest = text_read rules column no_properties text ending rest

-- the lines of a node inside a column, to a depth (YAML 1.1, section 8.5.2 Block Nodes, s-l+block-node(n,c))
abbrev pub node_read : ℕ → Rules → LinesReader
node_read zero rules here column lines = None
node_read (suc depth) rules here column lines =
    node_lines rules (node_read depth rules)
    (λ at text. text_or_properties (begins_properties text) rules (node_read depth rules) column at text)
    no_properties here lines
