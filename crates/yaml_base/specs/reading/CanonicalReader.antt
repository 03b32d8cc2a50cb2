-- Reading canonical bytes back, independently of the definitions that write them: bytes to characters (`ReadBytes`), characters to tokens
-- (`CanonicalTokens`), and here tokens to contents, in flow style and double quotes alone.
--     canonical_content breaks12 bytes      the documents' contents, or nothing
-- Source, unless a definition names its own: helpers of this project's reader for l-yaml-stream (YAML 1.1, section 7.4 Complete Stream).
use Rattle.std.specs.Prelude.{ℕ, Bool, true, false, Option, None, Some, List, [], ◌∷◌, ◌++◌, ◌==◌, not, fold, option_map, option_and_then, is_some}
use Rattle.std.specs.Prelude.{if◌then◌else◌}
use Rattle.yaml_base.specs.Characters.{Text}
use Rattle.yaml_base.specs.LineBreaks.{with_line_breaks_read}
use Rattle.yaml_base.specs.Event.{Version, TagDirective}
use Rattle.yaml_base.specs.reading.ReadPercent.{percent_read}
use Rattle.yaml_base.specs.reading.ReadTags.{ParsedTag, bare_parsed, name_parsed, CutText, prefix_among, directives_assumed, cut_after_exclamation, name_joined}
use Rattle.yaml_base.specs.reading.ReadTags.{without_closing_angle}
use Rattle.yaml_base.specs.reading.Content.{ScalarTag, tagged, untagged, Content, alias_content, scalar_content, sequence_content, mapping_content, Contents}
use Rattle.yaml_base.specs.reading.Content.{no_contents, contents_and, ContentPairs, no_content_pairs, content_pairs_and, DocumentContent}
use Rattle.yaml_base.specs.reading.ReadBytes.{characters_read}
use Rattle.yaml_base.specs.reading.CanonicalTokens.{Token, tokens_from, version_line, tag_line, document_begins, document_ends, anchor_token, alias_token}
use Rattle.yaml_base.specs.reading.CanonicalTokens.{tag_token, scalar_token, opens_sequence, closes_sequence, opens_mapping, closes_mapping, key_token}
use Rattle.yaml_base.specs.reading.CanonicalTokens.{value_token, comma, free}

-- ---- written tags

-- the tag of a handle and the text after it: the handle's prefix, by a document's own directives and those assumed, and then that text
-- (YAML 1.1, section 8.2 Node Tags, c-ns-shorthand-tag)
abbrev pub shorthand_read : List TagDirective → CutText → Option ParsedTag
shorthand_read own text = name_joined (prefix_among (own ++ directives_assumed) text.prefix) (percent_read text.rest)

-- the tag between `!<` and `>`, if `>` ends it (YAML 1.1, section 8.2 Node Tags, c-verbatim-tag)
abbrev pub verbatim_read : Option Text → Option ParsedTag
verbatim_read text = option_map name_parsed (option_and_then percent_read text)

-- a written tag, from its `!` to its last character; since a space ends it, it may hold the flow indicators
-- (YAML 1.1, section 8.2 Node Tags, c-ns-tag-property)
abbrev pub read_tag : List TagDirective → Text → Option ParsedTag
read_tag own [] = None
read_tag own (c ∷ []) = if c == 0x21 then Some bare_parsed else None
read_tag own (c ∷ d ∷ rest) =
    if not (c == 0x21) then None
    else (if d == 0x3C then verbatim_read (without_closing_angle rest) else shorthand_read own (cut_after_exclamation (c ∷ d ∷ rest)))

-- ---- tokens to contents

-- an open collection: its anchor, its tag, its contents so far, and in a mapping perhaps a key without its value
pub data OpenContent : Type 0 where
  open_sequence : Option Text → Option Text → Contents → OpenContent
  open_mapping : Option Text → Option Text → ContentPairs → Option Content → OpenContent

-- the tokens that may come next in a document: a node after these properties, an entry or the collection's end, the comma after an entry,
-- or the sign between a key and its value
pub data CanonicalAwaited : Type 0 where
  node_awaited : Option Text → Option ParsedTag → CanonicalAwaited
  entry_awaited : CanonicalAwaited
  comma_awaited : CanonicalAwaited
  value_awaited : CanonicalAwaited

-- a document's directives (YAML 1.1, section 7.1 Directives, l-directive)
pub record Head : Type 0 where
  pub version : Option Version
  pub directives : List TagDirective

-- the state of reading: the finished documents, and outside them the directives of the next one and whether `...` may come; within one its
-- open collections, the innermost first
pub data Reading : Type 0 where
  failed : Reading
  outside : List DocumentContent → Head → (may_end : Bool) → Reading
  within : List DocumentContent → Head → List OpenContent → CanonicalAwaited → Reading

-- no directive before `---` (YAML 1.1, section 7.1 Directives, l-directive)
abbrev pub no_head : Head
no_head = record { version = None; directives = [] }

-- a finished node is the document's root, or joins the innermost open collection
abbrev pub with_content : List DocumentContent → Head → List OpenContent → Content → Reading
with_content documents head [] content =
    outside (documents ++ record { version = head.version; directives = head.directives; root = content } ∷ []) no_head true
with_content documents head (open_sequence anchor tag items ∷ levels) content =
    within documents head (open_sequence anchor tag (contents_and items content) ∷ levels) comma_awaited
with_content documents head (open_mapping anchor tag pairs None ∷ levels) content =
    within documents head (open_mapping anchor tag pairs (Some content) ∷ levels) value_awaited
with_content documents head (open_mapping anchor tag pairs (Some key) ∷ levels) content =
    within documents head (open_mapping anchor tag (content_pairs_and pairs key content) None ∷ levels) comma_awaited

-- the tag of a scalar; one that has neither a tag nor the bare tag may go without a tag in any style but plain (this project, for YAML
-- 1.1, section 8.2 Node Tags, c-ns-non-specific-tag)
abbrev pub scalar_tag_read : Option ParsedTag → ScalarTag
scalar_tag_read None = untagged true
scalar_tag_read (Some bare_parsed) = untagged false
scalar_tag_read (Some (name_parsed name)) = tagged name

-- a tag after an anchor or none, read with the document's directives (YAML 1.1, chapter 8 Nodes, c-ns-properties(n,c))
abbrev pub with_tag : List DocumentContent → Head → List OpenContent → Option Text → Option ParsedTag → Reading
with_tag documents head levels given None = failed
with_tag documents head levels given (Some read) = within documents head levels (node_awaited given (Some read))

-- a collection begins; the bare tag isn't one of its own (YAML 1.1, section 8.2 Node Tags, c-ns-tag-property; the refusal of the bare tag is this project's)
abbrev pub with_open : List DocumentContent → Head → List OpenContent → (Option Text → OpenContent) → Option ParsedTag → Reading
with_open documents head levels opened None = within documents head (opened None ∷ levels) entry_awaited
with_open documents head levels opened (Some (name_parsed name)) = within documents head (opened (Some name) ∷ levels) entry_awaited
with_open documents head levels opened (Some bare_parsed) = failed

-- a token at which a node is awaited: an anchor, then a tag, then the node; an alias has neither (YAML 1.1, sections 8.4 Alias Nodes and
-- 8.5.1 Flow Nodes, c-ns-alias-node, ns-flow-node(n,c))
abbrev pub canonical_node_read : List DocumentContent → Head → List OpenContent → Option Text → Option ParsedTag → Token → Reading
canonical_node_read documents head levels None None (anchor_token name) = within documents head levels (node_awaited (Some name) None)
canonical_node_read documents head levels given None (tag_token text) = with_tag documents head levels given (read_tag head.directives text)
canonical_node_read documents head levels None None (alias_token name) = with_content documents head levels (alias_content name)
canonical_node_read documents head levels given read (scalar_token value) =
    with_content documents head levels (scalar_content given (scalar_tag_read read) value)
canonical_node_read documents head levels given read opens_sequence = with_open documents head levels (λ named. open_sequence given named no_contents) read
canonical_node_read documents head levels given read opens_mapping =
    with_open documents head levels (λ named. open_mapping given named no_content_pairs None) read
canonical_node_read documents head levels _ _ _ = failed

-- a token at which an entry is awaited: the innermost collection ends, or another entry begins (YAML 1.1, sections 10.1.1 Flow Sequences
-- and 10.2.1 Flow Mappings, c-flow-sequence(n,c), c-flow-mapping(n,c))
abbrev pub canonical_entry_read : List DocumentContent → Head → List OpenContent → Token → Reading
canonical_entry_read documents head (open_sequence given named items ∷ levels) closes_sequence =
    with_content documents head levels (sequence_content given named items)
canonical_entry_read documents head (open_sequence given named items ∷ levels) token =
    canonical_node_read documents head (open_sequence given named items ∷ levels) None None token
canonical_entry_read documents head (open_mapping given named pairs None ∷ levels) closes_mapping =
    with_content documents head levels (mapping_content given named pairs)
canonical_entry_read documents head (open_mapping given named pairs None ∷ levels) key_token =
    within documents head (open_mapping given named pairs None ∷ levels)
    (node_awaited None None)
canonical_entry_read documents head _ _ = failed

-- a token within a document
abbrev pub within_read : List DocumentContent → Head → List OpenContent → CanonicalAwaited → Token → Reading
within_read documents head levels (node_awaited given read) token = canonical_node_read documents head levels given read token
within_read documents head levels entry_awaited token = canonical_entry_read documents head levels token
within_read documents head levels comma_awaited comma = within documents head levels entry_awaited
within_read documents head levels value_awaited value_token = within documents head levels (node_awaited None None)
within_read documents head levels _ _ = failed

-- a token outside documents: a version once, directives, `---`, and once after a document `...`
-- (YAML 1.1, sections 7.1 Directives and 7.2 Document Boundary Markers, l-directive, c-document-start, c-document-end)
abbrev pub outside_read : List DocumentContent → Head → Bool → Token → Reading
outside_read documents head may_end (version_line version) =
    if is_some head.version then failed else outside documents (record head { version = Some version }) false
outside_read documents head may_end (tag_line directive) =
    outside documents (record head { directives = head.directives ++ directive ∷ [] }) false
outside_read documents head may_end document_begins = within documents head [] (node_awaited None None)
outside_read documents head true document_ends = outside documents head false
outside_read documents head may_end _ = failed

-- the state after one more token
abbrev pub token_read : Reading → Token → Reading
token_read failed token = failed
token_read (outside documents head may_end) token = outside_read documents head may_end token
token_read (within documents head levels awaited) token = within_read documents head levels awaited token

-- the documents read, if no directive waits for a document (YAML 1.1, section 7.3 Documents, l-explicit-document)
abbrev pub without_head : List DocumentContent → Option Version → List TagDirective → Option (List DocumentContent)
without_head documents None [] = Some documents
without_head documents _ _ = None

-- the documents at the end of a stream, which is outside documents and after no waiting directive (YAML 1.1, section 7.4 Complete Stream,
-- l-yaml-stream)
abbrev pub canonical_documents_at_end : Reading → Option (List DocumentContent)
canonical_documents_at_end (outside documents head may_end) = without_head documents head.version head.directives
canonical_documents_at_end _ = None

-- the documents of a list of tokens (YAML 1.1, section 7.4 Complete Stream, l-yaml-stream)
abbrev pub documents_read : List Token → Option (List DocumentContent)
documents_read tokens = canonical_documents_at_end (fold token_read (outside [] no_head false) tokens)

-- ---- the whole

-- the contents of the documents in canonical bytes (YAML 1.1, sections 5.2 Character Encoding and 7.4 Complete Stream, c-byte-order-mark, l-yaml-stream)
abbrev pub canonical_content : Bool → List ℕ → Option (List DocumentContent)
canonical_content breaks12 bytes =
    option_and_then (λ text. documents_read (tokens_from breaks12 free (with_line_breaks_read text))) (characters_read bytes)
