-- Typed values, and their YAML: the tags of YAML's type repository for null, bool, int, str, seq and map (https://yaml.org/type/), each
-- value a tree without anchors.
use Rattle.std.specs.Prelude.{◌≡◌, ℕ, suc, ℤ, pos, negsuc, ◌+◌, ◌^◌, ◌<◌, Bool, true, false, None, Some, List, [], ◌∷◌, codes, max}
use Rattle.std.specs.Fmt.{signed_decimal}
use Rattle.std.specs.Int.Signed.{mag}
use Rattle.yaml_base.specs.Characters.{Text}
use Rattle.yaml_base.specs.Settings.{largest_usize, Settings, utf8, line_feed_break}
use Rattle.yaml_base.specs.Event.{Event, Collection, any_style, any_layout}
use Rattle.yaml_base.specs.Grammar.{Node, scalar_node, sequence_node, mapping_node, Nodes, no_nodes, nodes_and, Pairs, no_pairs, pairs_and, Stream}
use Rattle.yaml_base.specs.Grammar.{no_documents, documents_and, stream_events}
use Rattle.yaml_base.specs.Output.{output_of}
use Rattle.yaml_base.specs.reading.Content.{tagged, Content, scalar_content, sequence_content, mapping_content, Contents, no_contents, contents_and}
use Rattle.yaml_base.specs.reading.Content.{ContentPairs, no_content_pairs, content_pairs_and, DocumentContent}
use Rattle.yaml_base.specs.reading.CanonicalReader.{canonical_content}
use Rattle.yaml_base.specs.graphs.Meetings.{string_tag, sequence_tag, mapping_tag}

-- a value is null, a boolean, an integer, a text, a list of values, or a map: a list of pairs of values; lists and maps
-- grow at their end
mutual
  pub data TypedValue : Type 0 where
    null_value : TypedValue
    bool_value : Bool → TypedValue
    int_value : ℤ → TypedValue
    text_value : Text → TypedValue
    list_value : TypedValues → TypedValue
    map_value : TypedPairs → TypedValue

  pub data TypedValues : Type 0 where
    no_values : TypedValues
    values_and : TypedValues → TypedValue → TypedValues

  pub data TypedPairs : Type 0 where
    no_value_pairs : TypedPairs
    value_pairs_and : TypedPairs → TypedValue → TypedValue → TypedPairs

-- the tag of null
abbrev pub null_tag : Text
null_tag = codes "tag:yaml.org,2002:null"

-- the tag of booleans
abbrev pub bool_tag : Text
bool_tag = codes "tag:yaml.org,2002:bool"

-- the tag of integers
abbrev pub int_tag : Text
int_tag = codes "tag:yaml.org,2002:int"

-- a boolean in words
abbrev pub bool_text : Bool → Text
bool_text true = codes "true"
bool_text false = codes "false"

-- ---- the content of a value

-- a scalar with a tag and without an anchor
abbrev pub tagged_content : (tag text : Text) → Content
tagged_content tag text = scalar_content None (tagged tag) text

-- the content of a value: each node has its kind's tag, integers are decimal digits
abbrev mutual
  pub value_content : TypedValue → Content
  value_content null_value = tagged_content null_tag (codes "null")
  value_content (bool_value b) = tagged_content bool_tag (bool_text b)
  value_content (int_value n) = tagged_content int_tag (signed_decimal n)
  value_content (text_value text) = tagged_content string_tag text
  value_content (list_value items) = sequence_content None (Some sequence_tag) (values_content items)
  value_content (map_value pairs) = mapping_content None (Some mapping_tag) (value_pairs_content pairs)

  pub values_content : TypedValues → Contents
  values_content no_values = no_contents
  values_content (values_and items item) = contents_and (values_content items) (value_content item)

  pub value_pairs_content : TypedPairs → ContentPairs
  value_pairs_content no_value_pairs = no_content_pairs
  value_pairs_content (value_pairs_and pairs key value) =
      content_pairs_and (value_pairs_content pairs) (value_content key) (value_content value)

-- a stream that holds one value: one document without version and directives
abbrev pub typed_content : TypedValue → List DocumentContent
typed_content value = record { version = None; directives = []; root = value_content value } ∷ []

-- the canonical reader finds in some bytes exactly this value's content
abbrev pub ReadsAs : List ℕ → TypedValue → Type 0
ReadsAs bytes value = canonical_content false bytes ≡ Some (typed_content value)

-- ---- the size of a value

-- the number of values in a value, itself included
abbrev mutual
  pub value_count : TypedValue → ℕ
  value_count (list_value items) = suc (values_count items)
  value_count (map_value pairs) = suc (value_pairs_count pairs)
  value_count _ = 1

  pub values_count : TypedValues → ℕ
  values_count no_values = 0
  values_count (values_and items item) = values_count items + value_count item

  pub value_pairs_count : TypedPairs → ℕ
  value_pairs_count no_value_pairs = 0
  value_pairs_count (value_pairs_and pairs key value) = value_pairs_count pairs + (value_count key + value_count value)

-- the depth of lists and maps within one another
abbrev mutual
  pub nesting : TypedValue → ℕ
  nesting (list_value items) = suc (values_nesting items)
  nesting (map_value pairs) = suc (value_pairs_nesting pairs)
  nesting _ = 0

  pub values_nesting : TypedValues → ℕ
  values_nesting no_values = 0
  values_nesting (values_and items item) = max (values_nesting items) (nesting item)

  pub value_pairs_nesting : TypedPairs → ℕ
  value_pairs_nesting no_value_pairs = 0
  value_pairs_nesting (value_pairs_and pairs key value) = max (value_pairs_nesting pairs) (max (nesting key) (nesting value))

-- the maximum nesting depth of lists and maps
abbrev pub most_nested : ℕ
most_nested = 1000

-- each integer of a value fits 64 bits with its sign, as every integer of a running program does
abbrev mutual
  pub Has64Bits : TypedValue → Type 0
  Has64Bits (int_value n) = mag n < 2 ^ 63
  Has64Bits (list_value items) = Have64Bits items
  Has64Bits (map_value pairs) = PairsHave64Bits pairs
  Has64Bits _ = Unit {0}

  pub Have64Bits : TypedValues → Type 0
  Have64Bits no_values = Unit {0}
  Have64Bits (values_and items item) = Have64Bits items × Has64Bits item

  pub PairsHave64Bits : TypedPairs → Type 0
  PairsHave64Bits no_value_pairs = Unit {0}
  PairsHave64Bits (value_pairs_and pairs key value) = PairsHave64Bits pairs × (Has64Bits key × Has64Bits value)

-- ---- the events of a value

-- a scalar that is written with its tag
abbrev pub tagged_node : (tag text : Text) → Node
tagged_node tag text =
    scalar_node (record { anchor = None; tag = Some tag; value = text; plain_implicit = false; quoted_implicit = false; style = any_style })

-- a collection that is written with its tag
abbrev pub tagged_collection : Text → Collection
tagged_collection tag = record { anchor = None; tag = Some tag; implicit = false; style = any_layout }

-- the tree of a value
abbrev mutual
  pub value_node : TypedValue → Node
  value_node null_value = tagged_node null_tag (codes "null")
  value_node (bool_value b) = tagged_node bool_tag (bool_text b)
  value_node (int_value n) = tagged_node int_tag (signed_decimal n)
  value_node (text_value text) = tagged_node string_tag text
  value_node (list_value items) = sequence_node (tagged_collection sequence_tag) (value_nodes items)
  value_node (map_value pairs) = mapping_node (tagged_collection mapping_tag) (value_pairs pairs)

  pub value_nodes : TypedValues → Nodes
  value_nodes no_values = no_nodes
  value_nodes (values_and items item) = nodes_and (value_nodes items) (value_node item)

  pub value_pairs : TypedPairs → Pairs
  value_pairs no_value_pairs = no_pairs
  value_pairs (value_pairs_and pairs key value) = pairs_and (value_pairs pairs) (value_node key) (value_node value)

-- a stream of one document, whose markers are implicit
abbrev pub value_stream : TypedValue → Stream
value_stream value =
    record {
      encoding = None;
      documents =
          documents_and no_documents
          (record {
            start = record { version = None; directives = []; implicit = true };
            root = value_node value;
            end_implicit = true;
          });
    }

-- the events of a value's stream
abbrev pub value_events : TypedValue → List Event
value_events value = stream_events (value_stream value)

-- canonical form in UTF-8: no width, indent 2, LF, printable characters as they are, and no limit that a vector reaches
abbrev pub typed_settings : Settings
typed_settings =
    record {
      encoding = Some utf8;
      canonical = true;
      unicode = true;
      double_quotes = false;
      indent = Some (pos 2);
      width = Some (negsuc 0);
      line_break = Some line_feed_break;
      breaks12 = false;
      portable = false;
      indented_sequences = false;
      literal_blanks = false;
      limit = largest_usize;
    }

-- the bytes of a value
abbrev pub typed_output : TypedValue → List ℕ
typed_output value = output_of typed_settings (value_events value)

-- ---- values and their bytes

-- bytes are those of this value, and of no other
pub record WritesValue (value : TypedValue) (output : List ℕ) : Type 0 where
  pub bits : Has64Bits value
  pub bytes : output ≡ typed_output value
  pub reads : ReadsAs output value
  pub only : (other : TypedValue) → Has64Bits other → ReadsAs output other → other ≡ value
