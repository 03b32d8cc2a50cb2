-- One node's own text, on the stretch that is cut out for it: an alias, an empty collection or a scalar, after its anchor and its tag. The
-- readers of scalars get tidy text alone.
-- Source, unless a definition names its own: helpers of this project's reader for ns-flow-node(n,c), s-l+block-node(n,c)
-- (YAML 1.1, section 8.5 Complete Nodes).
use Rattle.std.specs.Prelude.{ℕ, suc, Bool, true, false, Option, None, Some, List, [], ◌∷◌, ◌++◌, ◌==◌, ◌&&◌, ◌+◌, length, option_map, option_and_then}
use Rattle.std.specs.Prelude.{if◌then◌else◌}
use Rattle.std.specs.List.{list_all}
use Rattle.yaml_base.specs.Characters.{Text, is_alpha, space}
use Rattle.yaml_base.specs.Event.{TagDirective, ScalarStyle, any_style, plain, single_quoted, double_quoted, literal, folded}
use Rattle.yaml_base.specs.reading.ReadPlain.{read_plain}
use Rattle.yaml_base.specs.reading.ReadSingle.{read_single}
use Rattle.yaml_base.specs.reading.ReadDouble.{read_double}
use Rattle.yaml_base.specs.reading.ReadBlock.{read_block}
use Rattle.yaml_base.specs.reading.ReadTags.{ParsedTag, bare_parsed, name_parsed, CutText, parse_tag}
use Rattle.yaml_base.specs.reading.TidyText.{is_tidy}
use Rattle.yaml_base.specs.streams.StreamContent.{Stood, stood_plain, stood_quoted, stood_bare, Tagging, with_tag, without_tag, Tree, alias_tree, scalar_tree}
use Rattle.yaml_base.specs.streams.StreamContent.{sequence_tree, mapping_tree, no_trees, no_tree_pairs}
use Rattle.yaml_base.specs.streams.StreamLines.{spaces, past_indentation}

-- the rules for reading a document's text: the characters that break lines, and the document's own directives
pub record Rules : Type 0 where
  pub breaks12 : Bool
  pub directives : List TagDirective

-- Properties

-- a node's anchor and the meaning of its tag (YAML 1.1, chapter 8 Nodes, c-ns-properties(n,c))
pub record Properties : Type 0 where
  pub anchor : Option Text
  pub tag : Option ParsedTag

-- neither anchor nor tag (YAML 1.1, chapter 8 Nodes, c-ns-properties(n,c))
abbrev pub no_properties : Properties
no_properties = record { anchor = None; tag = None }

-- the properties that were read of a text, and the text with spaces in their place
pub record PropertiesRead : Type 0 where
  pub properties : Properties
  pub text : Text

-- a space ends a word, any other character belongs to it
abbrev pub cut_word_step : (is_space : Bool) → ℕ → Text → CutText → CutText
cut_word_step true c rest after = record { prefix = []; rest = c ∷ rest }
cut_word_step false c rest after = record { prefix = c ∷ after.prefix; rest = after.rest }

-- a text cut before its first space
abbrev pub cut_before_space : Text → CutText
cut_before_space [] = record { prefix = []; rest = [] }
cut_before_space (c ∷ rest) = cut_word_step (c == space) c rest (cut_before_space rest)

-- a name: at least one character, all of the anchor alphabet (libyaml's scanner; YAML 1.1, section 8.1 Node Anchors, ns-anchor-name, allows more)
abbrev pub name_read : Text → Option Text
name_read [] = None
name_read (c ∷ rest) = if list_all is_alpha (c ∷ rest) then Some (c ∷ rest) else None

-- an anchor's word after its `&` (YAML 1.1, section 8.1 Node Anchors, c-ns-anchor-property)
abbrev pub anchor_of_word : CutText → Option PropertiesRead
anchor_of_word word =
    option_map
    (λ name. record { properties = record { anchor = Some name; tag = None }; text = spaces (suc (length word.prefix)) ++ word.rest })
    (name_read word.prefix)

-- the anchor that a text begins with, if it begins with one (YAML 1.1, section 8.1 Node Anchors, c-ns-anchor-property)
abbrev pub anchor_first : Text → Option PropertiesRead
anchor_first [] = Some (record { properties = no_properties; text = [] })
anchor_first (c ∷ rest) =
    if c == 0x26 then anchor_of_word (cut_before_space rest) else Some (record { properties = no_properties; text = c ∷ rest })

-- a tag's word, at a column (YAML 1.1, section 8.2 Node Tags, c-ns-tag-property)
abbrev pub tag_of_word : List TagDirective → Option Text → ℕ → CutText → Option PropertiesRead
tag_of_word directives anchor column word =
    option_map
    (λ parsed. record { properties = record { anchor = anchor; tag = Some parsed }; text = spaces (column + length word.prefix) ++ word.rest })
    (parse_tag directives word.prefix)

-- the tag that a text begins with at a column, if it begins with one (YAML 1.1, section 8.2 Node Tags, c-ns-tag-property)
abbrev pub leading_tag : List TagDirective → Option Text → ℕ → Text → Option PropertiesRead
leading_tag directives anchor column [] = Some (record { properties = record { anchor = anchor; tag = None }; text = spaces column })
leading_tag directives anchor column (c ∷ rest) =
    if c == 0x21 then tag_of_word directives anchor column (cut_before_space (c ∷ rest))
    else Some (record { properties = record { anchor = anchor; tag = None }; text = spaces column ++ c ∷ rest })

-- the anchor, and then the tag (this project; YAML 1.1, chapter 8 Nodes, c-ns-properties(n,c), allows either order)
abbrev pub properties_read : List TagDirective → Text → Option PropertiesRead
properties_read directives text =
    option_and_then
    (λ read. let after = past_indentation read.text in leading_tag directives read.properties.anchor after.column after.text)
    (anchor_first text)

-- the tag of a collection: the bare tag isn't one (this project)
abbrev pub collection_tag_parsed : Option ParsedTag → Option (Option Text)
collection_tag_parsed None = Some None
collection_tag_parsed (Some (name_parsed name)) = Some (Some name)
collection_tag_parsed (Some bare_parsed) = None

-- the tagging of a scalar of this form; one after the bare tag isn't plain (this project)
abbrev pub tagging_of : Option ParsedTag → Stood → Option Tagging
tagging_of None standing = Some (without_tag standing)
tagging_of (Some (name_parsed name)) standing = Some (with_tag name)
tagging_of (Some bare_parsed) stood_quoted = Some (without_tag stood_bare)
tagging_of (Some bare_parsed) _ = None

-- Scalars

-- the style of a text, by its first character (YAML 1.1, section 5.3 Indicator Characters, c-literal to c-double-quote)
abbrev pub style_of_first_character : Text → ScalarStyle
style_of_first_character [] = plain
style_of_first_character (c ∷ rest) =
    if c == 0x27 then single_quoted
    else (if c == 0x22 then double_quoted else (if c == 0x7C then literal else (if c == 0x3E then folded else plain)))

-- the value of a text of a style; in flow no text is of a block style (YAML 1.1, chapter 9 Scalar Styles, ns-plain(n,c),
-- c-single-quoted(n,c), c-double-quoted(n,c), c-l+literal(n), c-l+folded(n))
abbrev pub value_read : ScalarStyle → (breaks12 flow : Bool) → Option ℕ → Text → Option Text
value_read plain breaks12 flow column text = read_plain breaks12 flow text
value_read single_quoted breaks12 flow column text = read_single breaks12 text
value_read double_quoted breaks12 flow column text = read_double breaks12 text
value_read any_style breaks12 flow column text = None
value_read _ breaks12 flow column text = if flow then None else read_block breaks12 column text

-- the form of a scalar of a style
abbrev pub stood_in_style : ScalarStyle → Stood
stood_in_style plain = stood_plain
stood_in_style _ = stood_quoted

-- a scalar after its properties
abbrev pub scalar_parsed : Properties → Stood → Option Text → Option Tree
scalar_parsed properties standing value =
    option_and_then (λ text. option_map (λ tagging. scalar_tree properties.anchor tagging text) (tagging_of properties.tag standing)) value

-- a scalar's text, which is tidy at its place (this project)
abbrev pub scalar_of_style : ScalarStyle → Rules → (flow : Bool) → Option ℕ → Properties → Text → Option Tree
scalar_of_style style rules flow column properties text =
    scalar_parsed properties (stood_in_style style)
    (if is_tidy style rules.breaks12 column text then value_read style rules.breaks12 flow column text else None)

-- the empty plain scalar
abbrev pub empty_parsed : Properties → Option Tree
empty_parsed properties = scalar_parsed properties stood_plain (Some [])

-- Words

-- an alias has no properties (YAML 1.1, section 8.4 Alias Nodes, c-ns-alias-node)
abbrev pub alias_parsed : Option Text → Option ParsedTag → Option Text → Option Tree
alias_parsed None None name = option_map alias_tree name
alias_parsed _ _ name = None

-- the kind of a word, by its first character
pub data WordKind : Type 0 where
  an_alias : WordKind
  empty_sequence : WordKind
  empty_mapping : WordKind
  a_scalar : WordKind

-- `*`, `[]` whole, `{}` whole, or a scalar
-- (YAML 1.1, sections 8.4 Alias Nodes, 10.1.1 Flow Sequences and 10.2.1 Flow Mappings, c-ns-alias-node, c-flow-sequence(n,c), c-flow-mapping(n,c))
abbrev pub kind_of_word : Text → WordKind
kind_of_word [] = a_scalar
kind_of_word (c ∷ []) = if c == 0x2A then an_alias else a_scalar
kind_of_word (c ∷ d ∷ []) =
    if c == 0x2A then an_alias
    else (if c == 0x5B && d == 0x5D then empty_sequence else (if c == 0x7B && d == 0x7D then empty_mapping else a_scalar))
kind_of_word (c ∷ d ∷ e ∷ rest) = if c == 0x2A then an_alias else a_scalar

-- a word after its properties, by its kind
abbrev pub word_by_kind : WordKind → Rules → (flow : Bool) → Option ℕ → Properties → Text → Option Tree
word_by_kind an_alias rules flow column properties [] = None
word_by_kind an_alias rules flow column properties (c ∷ name) = alias_parsed properties.anchor properties.tag (name_read name)
word_by_kind empty_sequence rules flow column properties text =
    option_map (λ tag. sequence_tree properties.anchor tag no_trees) (collection_tag_parsed properties.tag)
word_by_kind empty_mapping rules flow column properties text =
    option_map (λ tag. mapping_tree properties.anchor tag no_tree_pairs) (collection_tag_parsed properties.tag)
word_by_kind a_scalar rules flow column properties [] = None
word_by_kind a_scalar rules flow column properties (c ∷ rest) = scalar_of_style (style_of_first_character (c ∷ rest)) rules flow column properties (c ∷ rest)

-- a node's own text after its properties: an alias, an empty collection, or a scalar of at least one character
-- (YAML 1.1, section 8.5 Complete Nodes, ns-flow-node(n,c), s-l+block-node(n,c))
abbrev pub word_after : Rules → (flow : Bool) → Option ℕ → Properties → Text → Option Tree
word_after rules flow column properties text = word_by_kind (kind_of_word text) rules flow column properties text

-- a node's own text with its properties (YAML 1.1, section 8.5 Complete Nodes, ns-flow-node(n,c), s-l+block-node(n,c))
abbrev pub word_read : Rules → (flow : Bool) → Text → Option Tree
word_read rules flow text =
    option_and_then
    (λ read. word_after rules flow None read.properties (past_indentation read.text).text)
    (properties_read rules.directives text)
