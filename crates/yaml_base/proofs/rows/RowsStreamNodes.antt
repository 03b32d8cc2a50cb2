-- Streams of one document read, computed: each form of node in each place. Expected trees were worked out by hand.
use Rattle.yaml_base.proofs.Common.{None, Some, codes, false, [], ◌∷◌, refl, ◌≡◌, stood_plain, stood_quoted, stood_bare, with_tag, without_tag, alias_tree}
use Rattle.yaml_base.proofs.Common.{scalar_tree, sequence_tree, mapping_tree, no_trees, trees_and, no_tree_pairs, tree_pairs_and, stream_trees}
use Rattle.std.specs.{Char.encode_utf8, Str.chars, Str.is_utf8}
use Rattle.yaml_base.proofs.rows.StreamTrees.{only, bare_word, in_quotes, of_tag, items, pair, pairs}
use Rattle.yaml_base.proofs.rows.Cases.{Gives}

-- Roots

roots : Gives (stream_trees false) (
    (codes "a\n", only (bare_word (codes "a")))  -- plain root
    ∷ (codes "a b\n  c\n\n  d\n", only (bare_word (codes "a b c\nd")))  -- plain root folded
    ∷ (codes "'it''s\n\n  so'\n", only (in_quotes (codes "it's\nso")))  -- single quoted root
    ∷ (codes "\"a\\n\\u2028\n  \\ b: c\"\n", only (in_quotes (codes "a\n\u{2028}  b: c")))  -- double quoted root
    ∷ (codes "|+\n  a\n   b\n\n", only (in_quotes (codes "a\n b\n\n")))  -- literal root
    ∷ (codes "--- >2-\n\n   a\n  b\n", only (in_quotes (codes "\n a\nb")))  -- folded root with a digit
    ∷ (codes "---\n", only (bare_word []))  -- empty root
    ∷ (codes "--- *a1\n", only (alias_tree (codes "a1")))  -- alias root
    ∷ (codes "---\n\"a\"\n", only (in_quotes (codes "a")))  -- root below its mark
    ∷ (codes "--- &a !!str x y\n", only (scalar_tree (Some (codes "a")) (with_tag (codes "tag:yaml.org,2002:str")) (codes "x y")))  -- root with properties
    ∷ [])
unfolding chars is_utf8 encode_utf8
roots = refl

-- Sequences and mappings in block

a_mapping : stream_trees false (codes "a: b\n'c': \"d\"\ne:\n\"\": *f\n*g : h\n")
    ≡ only (pairs (pair (bare_word (codes "a")) (bare_word (codes "b")) ∷ pair (in_quotes (codes "c")) (in_quotes (codes "d"))
    ∷ pair (bare_word (codes "e")) (bare_word []) ∷ pair (in_quotes []) (alias_tree (codes "f")) ∷ pair (alias_tree (codes "g")) (bare_word (codes "h")) ∷ []))
unfolding chars is_utf8 encode_utf8
a_mapping = refl

keys_with_a_sign : stream_trees false (codes "? a\n: b\n? - c\n: - d\n? e: f\n: g: h\n")
    ≡ only (pairs (pair (bare_word (codes "a")) (bare_word (codes "b")) ∷ pair (items (bare_word (codes "c") ∷ [])) (items (bare_word (codes "d") ∷ []))
    ∷ pair (pairs (pair (bare_word (codes "e")) (bare_word (codes "f")) ∷ [])) (pairs (pair (bare_word (codes "g")) (bare_word (codes "h")) ∷ [])) ∷ []))
unfolding chars is_utf8 encode_utf8
keys_with_a_sign = refl

compact_nesting : stream_trees false (codes "- - a\n  - b\n- c: d\n  e: f\n- ? - g\n  : h\n")
    ≡ only (items (items (bare_word (codes "a") ∷ bare_word (codes "b") ∷ [])
    ∷ pairs (pair (bare_word (codes "c")) (bare_word (codes "d")) ∷ pair (bare_word (codes "e")) (bare_word (codes "f")) ∷ [])
    ∷ pairs (pair (items (bare_word (codes "g") ∷ [])) (bare_word (codes "h")) ∷ []) ∷ []))
unfolding chars is_utf8 encode_utf8
compact_nesting = refl

undented_sequence : stream_trees false (codes "a:\n- b\n- c\nd:\n  e:\n  - f\n")
    ≡ only (pairs (pair (bare_word (codes "a")) (items (bare_word (codes "b") ∷ bare_word (codes "c") ∷ []))
    ∷ pair (bare_word (codes "d")) (pairs (pair (bare_word (codes "e")) (items (bare_word (codes "f") ∷ [])) ∷ [])) ∷ []))
unfolding chars is_utf8 encode_utf8
undented_sequence = refl

blocks : Gives (stream_trees false) ((
  codes "- a\n- 'b'\n-\n- *c\n- []\n- {}\n",
  only (items (bare_word (codes "a") ∷ in_quotes (codes "b") ∷ bare_word [] ∷ alias_tree (codes "c") ∷ items [] ∷ pairs [] ∷ [])),
)  -- a sequence
    -- deeper sequence at a key
    ∷ (codes "a:\n    - b\n    - c\n", only (pairs (pair (bare_word (codes "a")) (items (bare_word (codes "b") ∷ bare_word (codes "c") ∷ [])) ∷ [])))
    ∷ [])
unfolding chars is_utf8 encode_utf8
blocks = refl

-- Scalars of several lines in blocks

folded_lines_in_blocks : stream_trees false (codes "- a\n  b\n- 'c\n\n  d'\n- - \"e\n    f\"\n- k: g\n    h\n")
    ≡ only (items (bare_word (codes "a b") ∷ in_quotes (codes "c\nd") ∷ items (in_quotes (codes "e f") ∷ []) ∷ pairs
    (pair (bare_word (codes "k")) (bare_word (codes "g h")) ∷ []) ∷ []))
unfolding chars is_utf8 encode_utf8
folded_lines_in_blocks = refl

scalars_of_several_lines : Gives (stream_trees false) (
    -- block scalars in a sequence
    (
      codes "- |\n  a\n   b\n- >-\n  c\n  d\n- |2+\n    e\n\n- f\n",
      only (items (in_quotes (codes "a\n b\n") ∷ in_quotes (codes "c d") ∷ in_quotes (codes "  e\n\n") ∷ bare_word (codes "f") ∷ [])),
    )
    -- block scalars in a mapping
    ∷ (
      codes "a: |-\n  b\n? >\n  c\n: |\n  d\n",
      only (pairs (pair (bare_word (codes "a")) (in_quotes (codes "b")) ∷ pair (in_quotes (codes "c\n")) (in_quotes (codes "d\n")) ∷ [])),
    )
    ∷ (codes "- a\n  b\n- 'c\n\n  d'\n- - \"e\n    f\"\nk", None)  -- lines of quotes and plain text
    ∷ [])
unfolding chars is_utf8 encode_utf8
scalars_of_several_lines = refl

-- Anchors and tags

properties_of_collections : stream_trees false (codes "&a !t\n- &b\n  c: d\n- !!map\n  e: f\n- &g [h]\n- !u {}\n")
    ≡ only (sequence_tree (Some (codes "a")) (Some (codes "!t")) (trees_and (trees_and (trees_and (trees_and no_trees
    (mapping_tree (Some (codes "b")) None (tree_pairs_and no_tree_pairs (bare_word (codes "c")) (bare_word (codes "d")))))
    (mapping_tree None (Some (codes "tag:yaml.org,2002:map")) (tree_pairs_and no_tree_pairs (bare_word (codes "e")) (bare_word (codes "f")))))
    (sequence_tree (Some (codes "g")) None (trees_and no_trees (bare_word (codes "h")))))
    (mapping_tree None (Some (codes "!u")) no_tree_pairs)))
unfolding chars is_utf8 encode_utf8
properties_of_collections = refl

properties_of_scalars : stream_trees false (codes "&a k: ! \"x\"\n!t '': &b |\n  y\n!<u,v> z: &c\n")
    ≡ only (mapping_tree None None (tree_pairs_and (tree_pairs_and (tree_pairs_and no_tree_pairs
    (scalar_tree (Some (codes "a")) (without_tag stood_plain) (codes "k")) (scalar_tree None (without_tag stood_bare) (codes "x")))
    (of_tag (codes "!t") []) (scalar_tree (Some (codes "b")) (without_tag stood_quoted) (codes "y\n")))
    (of_tag (codes "u,v") (codes "z")) (scalar_tree (Some (codes "c")) (without_tag stood_plain) [])))
unfolding chars is_utf8 encode_utf8
properties_of_scalars = refl

empty_collections_as_keys : stream_trees false (codes "&a []: b\n!t {}: c\n")
    ≡ only (mapping_tree None None (tree_pairs_and (tree_pairs_and no_tree_pairs
    (sequence_tree (Some (codes "a")) None no_trees) (bare_word (codes "b"))) (mapping_tree None (Some (codes "!t")) no_tree_pairs) (bare_word (codes "c"))))
unfolding chars is_utf8 encode_utf8
empty_collections_as_keys = refl

other_anchors_and_tags : Gives (stream_trees false) (
    (codes "&a [] : b\n", None)  -- properties of empty collections as keys
    ∷ (codes "!t: \"x\": y\n", only (pairs (pair (of_tag (codes "!t:") (codes "x")) (bare_word (codes "y")) ∷ [])))  -- a tag that ends with a colon
    ∷ (codes "!%C3%a9%21 x\n", only (of_tag (codes "!é!") (codes "x")))  -- percent forms
    ∷ [])
unfolding chars is_utf8 encode_utf8
other_anchors_and_tags = refl

-- Flow

flow_sequences : stream_trees false (codes "[a, 'b, c', \"d]\", [], [e], *f, &g h, !t i]\n")
    ≡ only (items (bare_word (codes "a") ∷ in_quotes (codes "b, c") ∷ in_quotes (codes "d]") ∷ items [] ∷ items (bare_word (codes "e") ∷ []) ∷ alias_tree
    (codes "f")
    ∷ scalar_tree (Some (codes "g")) (without_tag stood_plain) (codes "h") ∷ of_tag (codes "!t") (codes "i") ∷ []))
unfolding chars is_utf8 encode_utf8
flow_sequences = refl

flow_mappings : stream_trees false (codes "{a: b, 'c': [d], *e : f, []: {}, ? g : h, ? [i] : {j: k}}\n")
    ≡ only (pairs (pair (bare_word (codes "a")) (bare_word (codes "b")) ∷ pair (in_quotes (codes "c")) (items (bare_word (codes "d") ∷ [])) ∷ pair
    (alias_tree (codes "e")) (bare_word (codes "f"))
    ∷ pair (items []) (pairs []) ∷ pair (bare_word (codes "g")) (bare_word (codes "h"))
    ∷ pair (items (bare_word (codes "i") ∷ [])) (pairs (pair (bare_word (codes "j")) (bare_word (codes "k")) ∷ [])) ∷ []))
unfolding chars is_utf8 encode_utf8
flow_mappings = refl

flow_in_blocks_over_lines : stream_trees false (codes "- [a b\n    c,\n    {? d\n      : 'e\n\n        f',\n    }]\n- g: [\n    h]\n")
    ≡ only (items (items (bare_word (codes "a b c") ∷ pairs (pair (bare_word (codes "d")) (in_quotes (codes "e\nf")) ∷ []) ∷ [])
    ∷ pairs (pair (bare_word (codes "g")) (items (bare_word (codes "h") ∷ [])) ∷ []) ∷ []))
unfolding chars is_utf8 encode_utf8
flow_in_blocks_over_lines = refl

canonical_flow : stream_trees false (codes "---\n!!map {\n  ? &a !!str \"k\"\n  : *a,\n}\n")
    ≡ only (mapping_tree None (Some (codes "tag:yaml.org,2002:map"))
    (tree_pairs_and no_tree_pairs (scalar_tree (Some (codes "a")) (with_tag (codes "tag:yaml.org,2002:str")) (codes "k")) (alias_tree (codes "a"))))
unfolding chars is_utf8 encode_utf8
canonical_flow = refl

other_flow_collections : Gives (stream_trees false) (
    (codes "- [a b\n    c,\n    ? d\n  ]\n", None)  -- flow over lines
    ∷ (codes "['a''b', '', \"\\\"]\\\\\"]\n", only (items (in_quotes (codes "a'b") ∷ in_quotes [] ∷ in_quotes (codes "\"]\\") ∷ [])))  -- quotes in flow
    ∷ [])
unfolding chars is_utf8 encode_utf8
other_flow_collections = refl

-- Texts that look like an indicator and are none

no_indicators : Gives (stream_trees false) (
    (codes "-a: b:c -d #e\n", None)  -- signs inside plain text
    ∷ (codes "-a: b:c -d# [e] ?f\n", only (pairs (pair (bare_word (codes "-a")) (bare_word (codes "b:c -d# [e] ?f")) ∷ [])))  -- plain text with signs
    -- keys in quotes with colons
    ∷ (
      codes "'a: b': c\n\"d\\\": e\": f\n",
      only (pairs (pair (in_quotes (codes "a: b")) (bare_word (codes "c")) ∷ pair (in_quotes (codes "d\": e")) (bare_word (codes "f")) ∷ [])),
    )
    -- block lines like entries
    ∷ (codes "- |\n  - a\n  b: c\n  --- d\n- e\n", only (items (in_quotes (codes "- a\nb: c\n--- d\n") ∷ bare_word (codes "e") ∷ [])))
    ∷ [])
unfolding chars is_utf8 encode_utf8
no_indicators = refl
