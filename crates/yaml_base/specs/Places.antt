-- Places of nodes, simple keys, and the text that a place puts before its node.
-- Source, unless a definition names its own: libyaml's emitter.
use Rattle.std.specs.Prelude.{ℕ, Bool, true, false, Option, None, Some, List, ◌||◌, ◌&&◌, ◌+◌, not, nat_le, length, codes, is_none, unwrap_or, encode_utf8_all}
use Rattle.std.specs.Prelude.{if◌then◌else◌}
use Rattle.std.specs.List.{list_any}
use Rattle.yaml_base.specs.Characters.{Text, is_break}
use Rattle.yaml_base.specs.Settings.{Effective}
use Rattle.yaml_base.specs.Cursor.{Cursor, Rendered, render_nothing, render_then, new_line, is_past_width}
use Rattle.yaml_base.specs.Indicators.{render_indicator, opening_bracket, flow_entry, key, flow_value, block_entry, block_value, simple_value}
use Rattle.yaml_base.specs.Event.{TagDirective, Scalar, Collection}
use Rattle.yaml_base.specs.Tags.{Spelling, shorthand, verbatim, spelling}
use Rattle.yaml_base.specs.Grammar.{Node, alias_node, scalar_node, sequence_node, mapping_node, Nodes, no_nodes, nodes_and, Pairs, no_pairs, pairs_and}
use Rattle.yaml_base.specs.Event.{scalar_tag, collection_tag}

-- the role of a node: the first item or key of a flow collection writes its bracket; a value knows whether its key is simple (this
-- project's form of libyaml's states)
pub data Role : Type 0 where
  as_root : Role
  as_item : (first : Bool) → Role
  as_key : (first : Bool) → Role
  as_value : (simple : Bool) → Role

-- the place of a node: in flow or in a block, its role, and the column of the entries around it (none: the root) (this project's form of
-- libyaml's states)
pub record Place : Type 0 where
  pub in_flow : Bool
  pub role : Role
  pub column : Option ℕ

-- true of a root: no entries are around it
abbrev pub is_root : Place → Bool
is_root place = is_none place.column

-- true if a node is the key of a pair
abbrev pub is_key : Role → Bool
is_key (as_key first) = true
is_key _ = false

-- true if a node is the key or the value of a pair
abbrev pub is_in_mapping : Role → Bool
is_in_mapping (as_key first) = true
is_in_mapping (as_value simple) = true
is_in_mapping _ = false

-- true if a block sequence with this role is not indented: it is the key or the value of a pair, and the settings don't indent such
-- sequences
abbrev pub is_undented : Effective → Role → Bool
is_undented s role = is_in_mapping role && not s.indented_sequences

-- the column at which a new line begins: that of the entries, or 0 at the root
abbrev pub line_column : Option ℕ → ℕ
line_column column = unwrap_or column 0

-- one indent more than the column of the entries
abbrev pub deeper : ℕ → Option ℕ → ℕ
deeper indent column = line_column column + indent

-- the column of a collection's entries: in flow one indent deeper; in a block 0 at the root, the present column for an undented sequence
-- whose items begin on a new line, else deeper
abbrev pub entries_column : (in_flow undented : Bool) → ℕ → Option ℕ → Cursor → ℕ
entries_column true undented indent column cursor = deeper indent column
entries_column false undented indent None cursor = 0
entries_column false undented indent (Some column) cursor =
    if undented && not cursor.indention then column else column + indent

-- Simple keys

-- the length of a text in UTF-8
abbrev pub byte_count : Text → ℕ
byte_count text = length (encode_utf8_all text)

-- the length of a name; 0 without one
abbrev pub name_count : Option Text → ℕ
name_count None = 0
name_count (Some name) = byte_count name

-- the length of a tag as it is spelled, before percent escapes
abbrev pub spelling_count : Spelling → ℕ
spelling_count (shorthand handle suffix) = byte_count handle + byte_count suffix
spelling_count (verbatim tag) = byte_count tag

-- the length of a tag that is written; 0 if none is
abbrev pub tag_count : List TagDirective → Option Text → ℕ
tag_count directives None = 0
tag_count directives (Some tag) = spelling_count (spelling directives tag)

-- the maximum size of a simple key in bytes (libyaml's emitter; YAML 1.1, section 10.2 Mapping Styles, allows 1,024 characters)
abbrev pub most_key_bytes : ℕ
most_key_bytes = 128

-- true of a length that a simple key may have
abbrev pub is_short : ℕ → Bool
is_short count = nat_le count most_key_bytes

-- true of an alias that may be a simple key: a short name
abbrev pub is_simple_alias : Text → Bool
is_simple_alias name = is_short (byte_count name)

-- true of a scalar that may be a simple key: no line break, and short with its anchor and tag
abbrev pub is_simple_scalar : Bool → List TagDirective → Scalar → Bool
is_simple_scalar canonical directives content =
    not (list_any is_break content.value)
    && is_short
    (byte_count content.value + name_count content.anchor + tag_count directives (scalar_tag canonical content))

-- true of a collection that may be a simple key: empty, and short anchor and tag
abbrev pub is_simple_collection : Bool → List TagDirective → Collection → (empty : Bool) → Bool
is_simple_collection canonical directives start empty =
    empty && is_short (name_count start.anchor + tag_count directives (collection_tag canonical start))

-- true of a sequence without items
abbrev pub has_no_nodes : Nodes → Bool
has_no_nodes no_nodes = true
has_no_nodes (nodes_and items item) = false

-- true of a mapping without pairs
abbrev pub has_no_pairs : Pairs → Bool
has_no_pairs no_pairs = true
has_no_pairs (pairs_and pairs key value) = false

-- true of a node that may be a simple key; in canonical mode none may
abbrev pub is_simple : Bool → List TagDirective → Node → Bool
is_simple canonical directives (alias_node name) = not canonical && is_simple_alias name
is_simple canonical directives (scalar_node content) = not canonical && is_simple_scalar canonical directives content
is_simple canonical directives (sequence_node start items) =
    not canonical && is_simple_collection canonical directives start (has_no_nodes items)
is_simple canonical directives (mapping_node start pairs) =
    not canonical && is_simple_collection canonical directives start (has_no_pairs pairs)

-- true if a node is a key, and a simple one
abbrev pub is_simple_at : Place → Bool → List TagDirective → Node → Bool
is_simple_at place canonical directives node = is_key place.role && is_simple canonical directives node

-- The text that a place puts before its node

-- a new line in flow, if the line is too long, and always in canonical mode
abbrev pub flow_break : Effective → Option ℕ → Cursor → Rendered
flow_break s column cursor =
    if s.canonical || is_past_width s.width cursor then new_line (line_column column) cursor else render_nothing cursor

-- the opening bracket before the first entry, a comma before each other entry (YAML 1.1, section 5.3 Indicator Characters,
-- c-sequence-start, c-mapping-start, c-collect-entry)
abbrev pub opening_or_comma : Text → Bool → Cursor → Rendered
opening_or_comma bracket true cursor = render_indicator (opening_bracket bracket) cursor
opening_or_comma bracket false cursor = render_indicator flow_entry cursor

-- the indicator of a key that isn't simple (YAML 1.1, section 5.3 Indicator Characters, c-mapping-key)
abbrev pub key_indicator : (simple in_block : Bool) → Cursor → Rendered
key_indicator true in_block cursor = render_nothing cursor
key_indicator false in_block cursor = render_indicator (key in_block) cursor

-- the text that a place in flow puts before its node (YAML 1.1, sections 10.1.1 Flow Sequences and 10.2.1 Flow Mappings,
-- c-flow-sequence(n,c), c-flow-mapping(n,c); new lines are libyaml's)
abbrev pub render_flow_place : Effective → Role → (simple : Bool) → Option ℕ → Cursor → Rendered
render_flow_place s as_root simple column cursor = render_nothing cursor
render_flow_place s (as_item first) simple column cursor =
    render_then (opening_or_comma (codes "[") first cursor) (flow_break s column)
render_flow_place s (as_key first) simple column cursor =
    render_then (render_then (opening_or_comma (codes "{") first cursor) (flow_break s column)) (key_indicator simple false)
render_flow_place s (as_value true) simple column cursor = render_indicator simple_value cursor
render_flow_place s (as_value false) simple column cursor =
    render_then (flow_break s column cursor) (render_indicator flow_value)

-- the text that a place in a block puts before its node (YAML 1.1, sections 10.1.2 Block Sequences and 10.2.2 Block Mappings,
-- c-l-block-sequence(n,c), c-l-block-mapping(n); new lines are libyaml's)
abbrev pub render_block_place : Role → (simple : Bool) → Option ℕ → Cursor → Rendered
render_block_place as_root simple column cursor = render_nothing cursor
render_block_place (as_item first) simple column cursor =
    render_then (new_line (line_column column) cursor) (render_indicator block_entry)
render_block_place (as_key first) simple column cursor =
    render_then (new_line (line_column column) cursor) (key_indicator simple true)
render_block_place (as_value true) simple column cursor = render_indicator simple_value cursor
render_block_place (as_value false) simple column cursor =
    render_then (new_line (line_column column) cursor) (render_indicator block_value)

-- the text that a place puts before its node
abbrev pub render_place : Effective → Place → (simple : Bool) → Cursor → Rendered
render_place s place simple cursor =
    if place.in_flow then render_flow_place s place.role simple place.column cursor
    else render_block_place place.role simple place.column cursor
