-- Canonical texts of dumped documents, computed.
use Rattle.yaml_base.proofs.Common.{Bool, Option, None, Some, codes, true, false, List, [], ◌∷◌, refl, Text, any_style, any_layout, option_map, unwrap_or}
use Rattle.yaml_base.proofs.Common.{Stream, Documents, no_documents, documents_and, tree_of, scalar_held, GraphNode, document_event_list, Node, alias_node}
use Rattle.yaml_base.{specs.graphs.Meetings.decimal_digits, specs.graphs.DumpedText.dumped_text, specs.values.TypedValues.typed_settings}
use Rattle.yaml_base.{proofs.rows.Cases.Gives, proofs.rows.RowEvents.alone, proofs.rows.RowEvents.rendered_under, proofs.rows.RowEvents.stream_of}
use Rattle.yaml_base.proofs.Common.{scalar_node, sequence_node, mapping_node, nodes_and, no_nodes, pairs_and, no_pairs, Collection, node_events}
use Rattle.yaml_base.proofs.rows.RowsMeetings.{string_of, sequence_of, mapping_of, graph_of, dumped}
use Rattle.std.specs.Char.{encode_utf8}

-- the text of the last document, by its root
abbrev text_of_last : Documents → Text
text_of_last no_documents = []
text_of_last (documents_and before document) = dumped_text document.root

-- the text of the document that has these nodes, from the tree of its events
abbrev text_of_nodes : List GraphNode → Text
text_of_nodes nodes =
    unwrap_or (option_map (λ (stream : Stream). text_of_last stream.documents) (tree_of (stream_of (document_event_list (graph_of nodes))))) []

-- a scalar of one letter with a tag
abbrev tagged : Text → List GraphNode
tagged tag = record { tag = tag; held = scalar_held (codes "a") any_style } ∷ []

-- documents and their texts
abbrev documents : List (List GraphNode × Text)
documents =
    (string_of (codes "a") ∷ [], codes "---\n!!str \"a\"\n")  -- a scalar
    ∷ (string_of [] ∷ [], codes "---\n!!str \"\"\n")  -- an empty text
    ∷ (string_of (0x22 ∷ 0x5C ∷ 0xA ∷ 0x7F ∷ 0xE9 ∷ 0x2028 ∷ []) ∷ [], codes "---\n!!str \"\\\"\\\\\\n\\x7Fé\\L\"\n")  -- escapes
    ∷ (sequence_of [] ∷ [], codes "---\n!!seq []\n")  -- no items
    ∷ (mapping_of [] ∷ [], codes "---\n!!map {}\n")  -- no pairs
    ∷ (sequence_of (2 ∷ 3 ∷ []) ∷ string_of (codes "a") ∷ string_of (codes "b") ∷ [], codes "---\n!!seq [\n  !!str \"a\",\n  !!str \"b\",\n]\n")  -- two items
    -- a sequence of a mapping whose value is an empty sequence
    ∷ (
      sequence_of (2 ∷ []) ∷ mapping_of (record { key = 3; value = 4 } ∷ []) ∷ string_of (codes "k") ∷ sequence_of [] ∷ [],
      codes "---\n!!seq [\n  !!map {\n    ? !!str \"k\"\n    : !!seq [],\n  },\n]\n",
    )
    -- collections as keys; two pairs
    ∷ (
      mapping_of (record { key = 2; value = 3 } ∷ record { key = 3; value = 4 } ∷ []) ∷ sequence_of (4 ∷ []) ∷ mapping_of [] ∷ string_of (codes "v") ∷ [],
      codes "---\n!!map {\n  ? !!seq [\n    &id002 !!str \"v\",\n  ]\n  : &id001 !!map {},\n  ? *id001\n  : *id002,\n}\n",
    )
    ∷ (sequence_of (2 ∷ 2 ∷ []) ∷ string_of (codes "a") ∷ [], codes "---\n!!seq [\n  &id001 !!str \"a\",\n  *id001,\n]\n")  -- a shared item
    ∷ (sequence_of (1 ∷ []) ∷ [], codes "---\n&id001 !!seq [\n  *id001,\n]\n")  -- holds itself
    -- a mapping that is its own value
    ∷ (
      mapping_of (record { key = 2; value = 1 } ∷ []) ∷ string_of (codes "k") ∷ [],
      codes "---\n&id001 !!map {\n  ? !!str \"k\"\n  : *id001,\n}\n",
    )
    ∷ (tagged (codes "!a!b"), codes "---\n!a%21b \"a\"\n")  -- a local tag
    ∷ (tagged (codes "!"), codes "---\n!<%21> \"a\"\n")  -- no more than a prefix
    ∷ (tagged (codes "tag:yaml.org,2002:int"), codes "---\n!!int \"a\"\n")  -- one of YAML's own types
    ∷ (tagged (codes "tag:yaml.org,2002:"), codes "---\n!<tag:yaml.org,2002:> \"a\"\n")  -- the other prefix
    ∷ (tagged (codes "tag:yaml.org,2002:!é<,"), codes "---\n!!%21%C3%A9%3C, \"a\"\n")  -- percent forms after a handle
    ∷ (tagged (codes "a b%"), codes "---\n!<a%20b%25> \"a\"\n")  -- percent forms in a verbatim tag
    ∷ []

-- their dumps have these texts, by the definition and by the layout
texts_of_documents : Gives text_of_nodes documents
unfolding decimal_digits encode_utf8
texts_of_documents = refl

layouts_of_documents : Gives (λ nodes. dumped typed_settings (nodes ∷ [])) documents
unfolding decimal_digits encode_utf8
layouts_of_documents = refl

-- trees whose nodes have no tags, which no dump gives: a scalar that may be quoted without one, and one that may not
abbrev untagged : (quoted_implicit : Bool) → Node
untagged quoted_implicit =
    scalar_node (record { anchor = None; tag = None; value = codes "a"; plain_implicit = true; quoted_implicit = quoted_implicit; style = any_style })

abbrev start_of : Option Text → Collection
start_of anchor = record { anchor = anchor; tag = None; implicit = true; style = any_layout }

-- the layout of a tree
abbrev text_laid_out : Node → Text
text_laid_out root = rendered_under typed_settings (alone (node_events root))

-- trees and their texts
abbrev trees : List (Node × Text)
trees =
    (untagged true, codes "---\n\"a\"\n")  -- no tag
    ∷ (untagged false, codes "---\n! \"a\"\n")  -- the bare tag
    ∷ (alias_node (codes "a"), codes "---\n*a\n")  -- an alias alone
    ∷ (sequence_node (start_of None) (nodes_and no_nodes (sequence_node (start_of None) no_nodes)), codes "---\n[\n  [],\n]\n")  -- brackets alone
    -- anchors alone, and brackets after indicators
    ∷ (
      mapping_node (start_of (Some (codes "x")))
          (pairs_and no_pairs (mapping_node (start_of None) no_pairs) (sequence_node (start_of (Some (codes "y"))) no_nodes)),
      codes "---\n&x {\n  ? {}\n  : &y [],\n}\n",
    )
    ∷ []

texts_of_trees : Gives dumped_text trees
unfolding encode_utf8
texts_of_trees = refl

layouts_of_trees : Gives text_laid_out trees
unfolding encode_utf8
layouts_of_trees = refl
