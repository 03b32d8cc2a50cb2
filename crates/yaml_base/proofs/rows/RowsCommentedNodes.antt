-- Worked rows of nodes with comments: a tree, and the text that is written of it, computed.
use Rattle.yaml_base.proofs.Common.{None, Some, codes, pos, true, List, [], ◌∷◌, fold, map, refl, Text, ScalarStyle, literal, folded, single_quoted}
use Rattle.yaml_base.proofs.Common.{any_style, any_layout, flow, Settings, effective, root_place, with_breaks_written}
use Rattle.yaml_base.specs.Comments.{Comments, HeadLine, blank_line, comment_line, commented_text_of}
use Rattle.yaml_base.specs.CommentedNodes.{CommentedNode, CommentedNodes, CommentedPairs, commented_alias, commented_mapping, commented_nodes_and}
use Rattle.yaml_base.specs.CommentedNodes.{commented_pairs_and, commented_scalar, commented_sequence, no_commented_nodes, no_commented_pairs, render_commented}
use Rattle.yaml_base.specs.{CommentedSteps.first_commented, Tags.directives_in_force}
use Rattle.yaml_base.proofs.rows.Cases.{Gives, GivesOfTwo}
use Rattle.yaml_base.proofs.rows.RowEvents.{canonical_settings, in_style, of_indent, plain_settings}
use Rattle.std.specs.Char.{encode_utf8}

abbrev none : Comments
none = record { head = []; line = None }

-- head comments of one line each
abbrev below : List Text → Comments
below texts = record { head = map comment_line texts; line = None }

-- head lines
abbrev after : List HeadLine → Comments
after lines = record { head = lines; line = None }

-- a line comment
abbrev beside : Text → Comments
beside text = record { head = []; line = Some text }

-- head comments and a line comment
abbrev between : List Text → Text → Comments
between texts text = record { head = map comment_line texts; line = Some text }

-- scalars
abbrev styled : Comments → Text → ScalarStyle → CommentedNode
styled comments value style =
    commented_scalar comments
    (record { anchor = None; tag = None; value = value; plain_implicit = true; quoted_implicit = true; style = style })

abbrev leaf : Comments → Text → CommentedNode
leaf comments value = styled comments value any_style

abbrev text : Text → CommentedNode
text value = leaf none value

-- items in order, and pairs
abbrev items_of : List CommentedNode → CommentedNodes
items_of items = fold commented_nodes_and no_commented_nodes items

abbrev pairs_of_list : List (CommentedNode × CommentedNode) → CommentedPairs
pairs_of_list pairs = fold (λ before pair. commented_pairs_and before pair.0 pair.1) no_commented_pairs pairs

-- collections with the comments of their starts and ends
abbrev items_within : Comments → Comments → List CommentedNode → CommentedNode
items_within at_start at_end items = commented_sequence at_start (in_style any_layout) (items_of items) at_end

abbrev pairs_within : Comments → Comments → List (CommentedNode × CommentedNode) → CommentedNode
pairs_within at_start at_end pairs = commented_mapping at_start (in_style any_layout) (pairs_of_list pairs) at_end

-- without them
abbrev items : List CommentedNode → CommentedNode
items all = items_within none none all

abbrev pairs : List (CommentedNode × CommentedNode) → CommentedNode
pairs all = pairs_within none none all

abbrev flow_items : Comments → List CommentedNode → CommentedNode
flow_items at_end all = commented_sequence none (in_style flow) (items_of all) at_end

-- the text of a root, at the start of a stream
abbrev node_under : Settings → CommentedNode → Text
node_under settings node =
    let s = effective settings None in
    with_breaks_written s.line_break (commented_text_of (render_commented node s (directives_in_force []) root_place first_commented).pieces)

abbrev written : CommentedNode → Text
written node = node_under plain_settings node

-- head lines before keys
before_keys : Gives written ((
  pairs ((leaf (below (codes "the port" ∷ [])) (codes "port"), text (codes "80"))
      ∷ (leaf (below (codes "the host" ∷ codes "(by name)" ∷ [])) (codes "host"), text (codes "a.b")) ∷ []),
  codes "# the port\nport: 80\n# the host\n# (by name)\nhost: a.b",
)
    -- blank lines before a key and between comments
    ∷ (
      pairs ((text (codes "a"), text (codes "1"))
          ∷ (
            leaf (after (blank_line ∷ comment_line (codes "about b") ∷ blank_line ∷ comment_line (codes "more") ∷ [])) (codes "b"),
            text (codes "2"),
          ) ∷ []),
      codes "a: 1\n\n# about b\n\n# more\nb: 2",
    )
    -- none after a scalar that keeps its breaks; one after the comment
    ∷ (
      pairs ((text (codes "a"), styled none (codes "x\n\n") literal)
          ∷ (leaf (after (blank_line ∷ comment_line (codes "next") ∷ blank_line ∷ [])) (codes "b"), text (codes "1")) ∷ []),
      codes "a: |+\n  x\n\n# next\n\nb: 1",
    )
    -- complex keys: before `?`; before the first entry after `?` and `:`
    ∷ (
      pairs ((
        items_within (below (codes "key" ∷ [])) none (leaf (below (codes "k1" ∷ [])) (codes "x") ∷ []),
        pairs ((leaf (below (codes "v1" ∷ [])) (codes "y"), text (codes "1")) ∷ []),
      ) ∷ []),
      codes "# key\n?\n  # k1\n  - x\n:\n  # v1\n  y: 1",
    )
    ∷ [])
unfolding encode_utf8
before_keys = refl

-- two items and a key after them, each below a comment
abbrev items_and_key : CommentedNode
items_and_key =
    pairs ((
      text (codes "a"),
      items_within none (below (codes "end" ∷ [])) (leaf (below (codes "one" ∷ [])) (codes "x") ∷ leaf (below (codes "two" ∷ [])) (codes "y") ∷ []),
    ) ∷ (leaf (below (codes "next" ∷ [])) (codes "b"), text (codes "1")) ∷ [])

-- head lines before items and at ends
before_items : GivesOfTwo node_under (
    -- undented: the sequence's end is at the column of the mapping
    (plain_settings, items_and_key, codes "a:\n# one\n- x\n# two\n- y\n# end\n# next\nb: 1")
    -- indented
    ∷ (
      record plain_settings { indented_sequences = true },
      items_and_key,
      codes "a:\n  # one\n  - x\n  # two\n  - y\n  # end\n# next\nb: 1",
    )
    -- the first entry after an indicator: no blank line is first, and comments end the indicator's line
    ∷ (
      plain_settings,
      items (pairs_within (below (codes "item" ∷ [])) none
          ((leaf (after (blank_line ∷ comment_line (codes "key") ∷ comment_line (codes "key 2") ∷ [])) (codes "a"), text (codes "1"))
          ∷ (leaf (after (blank_line ∷ comment_line (codes "b") ∷ [])) (codes "b"), text (codes "2")) ∷ []) ∷ []),
      codes "# item\n-\n  # key\n  # key 2\n  a: 1\n\n  # b\n  b: 2",
    )
    -- indented by four
    ∷ (
      of_indent (pos 4),
      items (pairs ((leaf (below (codes "key" ∷ [])) (codes "a"), text (codes "1")) ∷ []) ∷ []),
      codes "-\n    # key\n    a: 1",
    )
    -- sequences in sequences
    ∷ (
      plain_settings,
      items (items_within (below (codes "outer" ∷ [])) (below (codes "inner end" ∷ []))
          (leaf (below (codes "inner" ∷ [])) (codes "a") ∷ leaf (below (codes "inner 2" ∷ [])) (codes "b") ∷ [])
          ∷ items_within (below (codes "outer 2" ∷ [])) none (text (codes "c") ∷ []) ∷ []),
      codes "# outer\n-\n  # inner\n  - a\n  # inner 2\n  - b\n  # inner end\n# outer 2\n- - c",
    )
    -- at the end of a collection that is a value
    ∷ (
      plain_settings,
      pairs ((text (codes "a"), pairs_within none (below (codes "c: 2" ∷ [])) ((text (codes "b"), text (codes "1")) ∷ []))
          ∷ (leaf (after (blank_line ∷ [])) (codes "d"), text (codes "3")) ∷ []),
      codes "a:\n  b: 1\n  # c: 2\n\nd: 3",
    )
    -- no place: before a value that is no collection in a block, in flow, in canonical mode
    ∷ (
      plain_settings,
      pairs ((text (codes "a"), leaf (below (codes "lost" ∷ [])) (codes "1"))
          ∷ (text (codes "b"), flow_items none (leaf (between (codes "lost" ∷ []) (codes "lost")) (codes "x") ∷ [])) ∷ []),
      codes "a: 1\nb: [x]",
    )
    ∷ (
      canonical_settings,
      items_within (below (codes "lost" ∷ [])) (beside (codes "lost")) (leaf (between (codes "lost" ∷ []) (codes "lost")) (codes "x") ∷ []),
      codes "[\n  \"x\",\n]",
    )
    ∷ [])
unfolding encode_utf8
before_items = refl

-- line comments
beside_nodes : Gives written (
    -- after values: plain, quoted, an alias, a collection in flow, an empty collection, nothing
    (
      pairs ((text (codes "a"), leaf (beside (codes "plain")) (codes "v"))
          ∷ (text (codes "b"), styled (beside (codes "quoted")) (codes "it's") single_quoted)
          ∷ (text (codes "c"), commented_alias (beside (codes "alias")) (codes "x"))
          ∷ (text (codes "d"), flow_items (beside (codes "flow")) (text (codes "1") ∷ []))
          ∷ (text (codes "e"), items_within none (beside (codes "empty list")) [])
          ∷ (text (codes "f"), leaf (beside (codes "nothing")) []) ∷ []),
      codes "a: v  # plain\nb: 'it''s'  # quoted\nc: *x  # alias\nd: [1]  # flow\ne: []  # empty list\nf:  # nothing",
    )
    -- after a block scalar's header
    ∷ (
      pairs ((text (codes "a"), styled (beside (codes "text")) (codes "x\ny\n") literal)
          ∷ (leaf (below (codes "next" ∷ [])) (codes "b"), styled (beside (codes "folded")) (codes "z") folded) ∷ []),
      codes "a: |  # text\n  x\n  y\n# next\nb: >-  # folded\n  z",
    )
    -- after the key of a collection in a block, whose head lines are those of its first entry
    ∷ (
      pairs ((
        text (codes "a"),
        pairs_within (between (codes "before the map" ∷ []) (codes "on a")) none ((leaf (below (codes "before b" ∷ [])) (codes "b"), text (codes "1")) ∷ []),
      ) ∷ []),
      codes "a:  # on a\n  # before the map\n  # before b\n  b: 1",
    )
    -- of a root of which nothing is written: a head comment of its first entry
    ∷ (
      pairs_within (between (codes "for the first key" ∷ []) (codes "root")) none ((text (codes "a"), text (codes "1")) ∷ []),
      codes "# for the first key\n# root\na: 1",
    )
    -- after the `-` of a collection in a block
    ∷ (
      items (pairs_within (between (codes "item" ∷ []) (codes "on its line")) none
          ((text (codes "a"), text (codes "1")) ∷ (text (codes "b"), text (codes "2")) ∷ []) ∷ []),
      codes "# item\n-  # on its line\n  a: 1\n  b: 2",
    )
    -- after the key of an undented sequence; after the `?` of one that is indented
    ∷ (
      pairs ((text (codes "a"), items_within (beside (codes "list")) none (text (codes "x") ∷ []))
          ∷ (items_within (beside (codes "key")) none (text (codes "y") ∷ []), text (codes "z")) ∷ []),
      codes "a:  # list\n- x\n?  # key\n  - y\n: z",
    )
    ∷ [])
unfolding encode_utf8
beside_nodes = refl
