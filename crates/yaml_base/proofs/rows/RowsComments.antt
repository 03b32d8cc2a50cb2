-- Worked rows of comments and blank lines: events with their comments, and the text that is written of them, computed.
use Rattle.yaml_base.proofs.Common.{None, Some, codes, pos, false, true, List, [], ◌++◌, ◌∷◌, map, refl, ◌≡◌, Text, literal, folded, single_quoted, any_style}
use Rattle.yaml_base.proofs.Common.{any_layout, flow, Event, stream_start, stream_end, document_start, document_end, alias, scalar, sequence_start}
use Rattle.yaml_base.proofs.Common.{sequence_end, mapping_start, mapping_end, Settings, effective, both_break, with_breaks_written}
use Rattle.yaml_base.specs.Comments.{Commented, HeadLine, blank_line, comment_line, commented_text_of, head_lines, without_comments}
use Rattle.yaml_base.specs.CommentedSteps.{commented_layout}
use Rattle.yaml_base.proofs.rows.Cases.{Gives, GivesOfTwo}
use Rattle.yaml_base.proofs.rows.RowEvents.{plain_settings, canonical_settings, of_indent, untagged, leaf, in_style, implicit_start}
use Rattle.std.specs.Char.{encode_utf8}

-- an event with head lines
abbrev below : List HeadLine → Event → Commented
below lines event = record { comments = record { head = lines; line = None }; event = event }

-- an event with a line comment
abbrev beside : Text → Event → Commented
beside text event = record { comments = record { head = []; line = Some text }; event = event }

-- an event with both
abbrev between : List HeadLine → Text → Event → Commented
between lines text event = record { comments = record { head = lines; line = Some text }; event = event }

-- an event without comments
abbrev bare : Event → Commented
bare event = without_comments event

-- a scalar without comments
abbrev text : Text → Commented
text value = bare (leaf value)

abbrev mapping : Event
mapping = mapping_start (in_style any_layout)

abbrev sequence : Event
sequence = sequence_start (in_style any_layout)

abbrev flow_sequence : Event
flow_sequence = sequence_start (in_style flow)

-- comments of one line each
abbrev comments : List Text → List HeadLine
comments texts = map comment_line texts

-- a stream of one document between these events
abbrev document : Commented → List Commented → Commented → List Commented
document start root end = bare (stream_start None) ∷ start ∷ (root ++ end ∷ bare stream_end ∷ [])

-- a stream of one document with both ends implicit
abbrev only : List Commented → List Commented
only root = document (bare implicit_start) root (bare (document_end true))

-- a start that is written
abbrev explicit_start : Event
explicit_start = document_start (record { version = None; directives = []; implicit = false })

-- a start with a version
abbrev version_start : Event
version_start = document_start (record { version = Some (record { major = pos 1; minor = pos 1 }); directives = []; implicit = true })

abbrev commented_under : Settings → List Commented → Text
commented_under settings all =
    let s = effective settings None in
    with_breaks_written s.line_break (commented_text_of (commented_layout s all))

abbrev written : List Commented → Text
written all = commented_under plain_settings all

-- head comments before keys, and blank lines
before_keys : Gives written ((
  only (bare mapping ∷ below (comments (codes "the port" ∷ [])) (leaf (codes "port")) ∷ text (codes "80")
      ∷ below (comments (codes "the host" ∷ codes "(by name)" ∷ [])) (leaf (codes "host")) ∷ text (codes "a.b") ∷ bare mapping_end ∷ []),
  codes "# the port\nport: 80\n# the host\n# (by name)\nhost: a.b\n",
)
    -- blank lines before a key and between comments
    ∷ (
      only (bare mapping ∷ text (codes "a") ∷ text (codes "1")
          ∷ below (blank_line ∷ comment_line (codes "about b") ∷ blank_line ∷ comment_line (codes "more") ∷ []) (leaf (codes "b"))
          ∷ text (codes "2") ∷ bare mapping_end ∷ []),
      codes "a: 1\n\n# about b\n\n# more\nb: 2\n",
    )
    -- blank lines in a row are one
    ∷ (
      only (bare mapping ∷ text (codes "a") ∷ text (codes "1")
          ∷ below (blank_line ∷ blank_line ∷ blank_line ∷ comment_line (codes "b") ∷ blank_line ∷ blank_line ∷ []) (leaf (codes "b"))
          ∷ text (codes "2") ∷ bare mapping_end ∷ []),
      codes "a: 1\n\n# b\n\nb: 2\n",
    )
    -- none after a scalar that keeps its breaks; one after the comment
    ∷ (
      only (bare mapping ∷ text (codes "a") ∷ bare (untagged (codes "x\n\n") literal)
          ∷ below (blank_line ∷ comment_line (codes "next") ∷ blank_line ∷ []) (leaf (codes "b")) ∷ text (codes "1") ∷ bare mapping_end ∷ []),
      codes "a: |+\n  x\n\n# next\n\nb: 1\n...\n",
    )
    -- complex keys: before `?`; before the first entry after `?` and `:`
    ∷ (
      only (bare mapping ∷ below (comments (codes "key" ∷ [])) sequence ∷ below (comments (codes "k1" ∷ [])) (leaf (codes "x"))
          ∷ bare sequence_end ∷ bare mapping ∷ below (comments (codes "v1" ∷ [])) (leaf (codes "y")) ∷ text (codes "1")
          ∷ bare mapping_end ∷ bare mapping_end ∷ []),
      codes "# key\n?\n  # k1\n  - x\n:\n  # v1\n  y: 1\n",
    )
    ∷ [])
unfolding encode_utf8
before_keys = refl

-- two items and a key after them, each below a comment
abbrev items_and_key : List Commented
items_and_key =
    only (bare mapping ∷ text (codes "a") ∷ bare sequence ∷ below (comments (codes "one" ∷ [])) (leaf (codes "x"))
    ∷ below (comments (codes "two" ∷ [])) (leaf (codes "y")) ∷ below (comments (codes "end" ∷ [])) sequence_end
    ∷ below (comments (codes "next" ∷ [])) (leaf (codes "b")) ∷ text (codes "1") ∷ bare mapping_end ∷ [])

-- a mapping as an item, with a comment before its key
abbrev key_in_item : List Commented
key_in_item =
    only (bare sequence ∷ bare mapping ∷ below (comments (codes "key" ∷ [])) (leaf (codes "a")) ∷ text (codes "1")
    ∷ bare mapping_end ∷ bare sequence_end ∷ [])

-- head comments before items
before_items : GivesOfTwo commented_under (
    -- undented: the sequence's end is at the column of the mapping
    (plain_settings, items_and_key, codes "a:\n# one\n- x\n# two\n- y\n# end\n# next\nb: 1\n")
    -- blank lines at its end and after it are one
    ∷ (
      plain_settings,
      only (bare mapping ∷ text (codes "a") ∷ bare sequence ∷ text (codes "x") ∷ below (comment_line (codes "end") ∷ blank_line ∷ []) sequence_end
          ∷ below (blank_line ∷ comment_line (codes "next") ∷ []) (leaf (codes "b")) ∷ text (codes "1") ∷ bare mapping_end ∷ []),
      codes "a:\n- x\n# end\n\n# next\nb: 1\n",
    )
    -- indented
    ∷ (
      record plain_settings { indented_sequences = true },
      items_and_key,
      codes "a:\n  # one\n  - x\n  # two\n  - y\n  # end\n# next\nb: 1\n",
    )
    -- the first entry after an indicator: no blank line is first, and comments end the indicator's line
    ∷ (
      plain_settings,
      only (bare sequence ∷ below (comments (codes "item" ∷ [])) mapping
          ∷ below (blank_line ∷ comments (codes "key" ∷ codes "key 2" ∷ [])) (leaf (codes "a")) ∷ text (codes "1")
          ∷ below (blank_line ∷ comment_line (codes "b") ∷ []) (leaf (codes "b")) ∷ text (codes "2") ∷ bare mapping_end ∷ bare sequence_end ∷ []),
      codes "# item\n-\n  # key\n  # key 2\n  a: 1\n\n  # b\n  b: 2\n",
    )
    -- a blank line alone after an indicator writes nothing
    ∷ (
      plain_settings,
      only (bare sequence ∷ bare mapping ∷ below (blank_line ∷ []) (leaf (codes "a")) ∷ text (codes "1") ∷ bare mapping_end ∷ bare sequence_end ∷ []),
      codes "- a: 1\n",
    )
    -- indented by four
    ∷ (of_indent (pos 4), key_in_item, codes "-\n    # key\n    a: 1\n")
    -- sequences in sequences
    ∷ (
      plain_settings,
      only (bare sequence ∷ below (comments (codes "outer" ∷ [])) sequence ∷ below (comments (codes "inner" ∷ [])) (leaf (codes "a"))
          ∷ below (comments (codes "inner 2" ∷ [])) (leaf (codes "b")) ∷ below (comments (codes "inner end" ∷ [])) sequence_end
          ∷ below (comments (codes "outer 2" ∷ [])) sequence ∷ text (codes "c") ∷ bare sequence_end ∷ bare sequence_end ∷ []),
      codes "# outer\n-\n  # inner\n  - a\n  # inner 2\n  - b\n  # inner end\n# outer 2\n- - c\n",
    )
    -- the comment before a scalar is at the column of its `-`
    ∷ (
      plain_settings,
      only (bare sequence ∷ bare sequence ∷ text (codes "a") ∷ bare sequence_end ∷ below (comments (codes "c" ∷ [])) (leaf (codes "c"))
          ∷ bare sequence_end ∷ []),
      codes "- - a\n# c\n- c\n",
    )
    -- at the end of a collection that is a value
    ∷ (
      plain_settings,
      only (bare mapping ∷ text (codes "a") ∷ bare mapping ∷ text (codes "b") ∷ text (codes "1")
          ∷ below (comments (codes "c: 2" ∷ [])) mapping_end ∷ below (blank_line ∷ []) (leaf (codes "d")) ∷ text (codes "3")
          ∷ bare mapping_end ∷ []),
      codes "a:\n  b: 1\n  # c: 2\n\nd: 3\n",
    )
    ∷ [])
unfolding encode_utf8
before_items = refl

-- head comments at documents
at_documents : Gives written (
    -- before a document, at its end, at the stream's end
    (
      bare (stream_start None) ∷ below (comment_line (codes "head") ∷ blank_line ∷ []) explicit_start ∷ bare mapping ∷ text (codes "a")
          ∷ text (codes "1") ∷ bare mapping_end ∷ below (comments (codes "foot" ∷ [])) (document_end false)
          ∷ below (comments (codes "last" ∷ [])) stream_end ∷ [],
      codes "# head\n\n---\na: 1\n# foot\n...\n# last\n",
    )
    -- before directives
    ∷ (
      document (below (comments (codes "head" ∷ [])) version_start) (text (codes "a") ∷ []) (bare (document_end true)),
      codes "# head\n%YAML 1.1\n--- a\n",
    )
    -- after the `...` before directives
    ∷ (
      bare (stream_start None) ∷ bare implicit_start ∷ text (codes "a") ∷ bare (document_end true)
          ∷ below (comments (codes "next" ∷ [])) version_start ∷ text (codes "b") ∷ bare (document_end true) ∷ bare stream_end ∷ [],
      codes "a\n...\n# next\n%YAML 1.1\n--- b\n",
    )
    -- after the `...` at a stream's end
    ∷ (
      bare (stream_start None) ∷ bare implicit_start ∷ bare (untagged (codes "a\n\n") literal) ∷ bare (document_end true)
          ∷ below (blank_line ∷ comment_line (codes "last") ∷ []) stream_end ∷ [],
      codes "|+\n  a\n\n...\n\n# last\n",
    )
    -- before a document without `---`
    ∷ (document (below (comments (codes "head" ∷ [])) implicit_start) (text (codes "a") ∷ []) (bare (document_end true)), codes "# head\na\n")
    -- after a root that is written as nothing
    ∷ (
      document (bare implicit_start) (text [] ∷ []) (below (comments (codes "foot" ∷ [])) (document_end true)),
      codes "\n# foot\n",
    )
    -- the lines of a stream's start are the document's
    ∷ (
      below (comments (codes "start" ∷ [])) (stream_start None) ∷ below (comments (codes "head" ∷ [])) implicit_start ∷ text (codes "a")
          ∷ bare (document_end true) ∷ bare stream_end ∷ [],
      codes "# start\n# head\na\n",
    )
    -- the lines of a root's end are the document's end's
    ∷ (
      document (bare implicit_start) (bare sequence ∷ text (codes "a") ∷ below (comments (codes "end" ∷ [])) sequence_end ∷ [])
          (below (comments (codes "foot" ∷ [])) (document_end true)),
      codes "- a\n# end\n# foot\n",
    )
    ∷ [])
unfolding encode_utf8
at_documents = refl

-- a sequence with an anchor, a mapping with one
abbrev anchored_sequence : Event
anchored_sequence = sequence_start (record { anchor = Some (codes "y"); tag = None; implicit = true; style = any_layout })

abbrev anchored_mapping : Event
anchored_mapping = mapping_start (record { anchor = Some (codes "x"); tag = None; implicit = true; style = any_layout })

-- no place: before a value that is no collection in a block, in flow, in canonical mode
left_out : GivesOfTwo commented_under ((
  plain_settings,
  only (bare mapping ∷ text (codes "a") ∷ below (comments (codes "lost" ∷ [])) (leaf (codes "1")) ∷ text (codes "b") ∷ bare flow_sequence
      ∷ between (comments (codes "lost" ∷ [])) (codes "lost") (leaf (codes "x")) ∷ bare sequence_end ∷ bare mapping_end ∷ []),
  codes "a: 1\nb: [x]\n",
)
    ∷ (
      canonical_settings,
      document (below (comments (codes "lost" ∷ [])) implicit_start)
          (bare sequence ∷ between (comments (codes "lost" ∷ [])) (codes "lost") (leaf (codes "x")) ∷ bare sequence_end ∷ [])
          (bare (document_end true)),
      codes "---\n[\n  \"x\",\n]\n",
    )
    -- a root in canonical mode
    ∷ (canonical_settings, only (beside (codes "lost") (leaf (codes "a")) ∷ []), codes "---\n\"a\"\n")
    -- the end of a collection in flow that is in another one
    ∷ (
      plain_settings,
      only (bare flow_sequence ∷ bare flow_sequence ∷ text (codes "x") ∷ beside (codes "lost") sequence_end ∷ beside (codes "c") sequence_end ∷ []),
      codes "[[x]]  # c\n",
    )
    -- before `:`, the lines of the end of an undented sequence that is a key
    ∷ (
      plain_settings,
      only (bare mapping ∷ bare anchored_sequence ∷ text (codes "b") ∷ below (comments (codes "lost" ∷ [])) sequence_end ∷ text (codes "v")
          ∷ bare mapping_end ∷ []),
      codes "? &y\n- b\n: v\n",
    )
    -- no line comment follows a key
    ∷ (
      plain_settings,
      only (bare mapping ∷ beside (codes "lost") (leaf (codes "a")) ∷ text (codes "1") ∷ bare mapping_end ∷ []),
      codes "a: 1\n",
    )
    ∷ [])
unfolding encode_utf8
left_out = refl

-- an anchored scalar
abbrev anchored : (name value : Text) → Event
anchored name value =
    scalar (record {
      anchor = Some name;
      tag = None;
      value = value;
      plain_implicit = true;
      quoted_implicit = true;
      style = any_style;
    })

-- line comments after values: plain, quoted, an alias, a collection in flow, an empty collection, nothing
after_values : written
    (only (bare mapping ∷ bare (anchored (codes "x") (codes "a")) ∷ beside (codes "plain") (leaf (codes "v"))
    ∷ text (codes "b") ∷ beside (codes "quoted") (untagged (codes "it's") single_quoted)
    ∷ text (codes "c") ∷ beside (codes "alias") (alias (codes "x"))
    ∷ text (codes "d") ∷ bare flow_sequence ∷ text (codes "1") ∷ beside (codes "flow") sequence_end
    ∷ text (codes "e") ∷ bare sequence ∷ beside (codes "empty list") sequence_end
    ∷ text (codes "f") ∷ beside (codes "nothing") (leaf []) ∷ bare mapping_end ∷ []))
    ≡ codes "&x a: v  # plain\nb: 'it''s'  # quoted\nc: *x  # alias\nd: [1]  # flow\ne: []  # empty list\nf:  # nothing\n"
unfolding encode_utf8
after_values = refl

line_comments : Gives written (
    -- after a block scalar's header
    (
      only (bare mapping ∷ text (codes "a") ∷ beside (codes "text") (untagged (codes "x\ny\n") literal)
          ∷ below (comments (codes "next" ∷ [])) (leaf (codes "b")) ∷ beside (codes "folded") (untagged (codes "z") folded)
          ∷ bare mapping_end ∷ []),
      codes "a: |  # text\n  x\n  y\n# next\nb: >-  # folded\n  z\n",
    )
    -- after the key of a collection in a block, whose head lines are those of its first entry
    ∷ (
      only (bare mapping ∷ text (codes "a") ∷ between (comments (codes "before the map" ∷ [])) (codes "on a") mapping
          ∷ below (comments (codes "before b" ∷ [])) (leaf (codes "b")) ∷ text (codes "1") ∷ bare mapping_end ∷ bare mapping_end ∷ []),
      codes "a:  # on a\n  # before the map\n  # before b\n  b: 1\n",
    )
    -- after an anchor
    ∷ (
      only (bare mapping ∷ text (codes "a") ∷ beside (codes "on a") anchored_mapping ∷ below (comments (codes "b" ∷ [])) (leaf (codes "b"))
          ∷ text (codes "1") ∷ bare mapping_end ∷ text (codes "c") ∷ beside (codes "c") anchored_sequence ∷ text (codes "1")
          ∷ bare sequence_end ∷ bare mapping_end ∷ []),
      codes "a: &x  # on a\n  # b\n  b: 1\nc: &y  # c\n- 1\n",
    )
    -- of a root, after `---`
    ∷ (
      document (bare explicit_start)
          (between (comments (codes "for the first key" ∷ [])) (codes "root") mapping ∷ text (codes "a") ∷ text (codes "1") ∷ bare mapping_end ∷ [])
          (bare (document_end true)),
      codes "---  # root\n# for the first key\na: 1\n",
    )
    -- of a root of which nothing is written: a head comment of its first entry
    ∷ (
      only (between (comments (codes "for the first key" ∷ [])) (codes "root") mapping ∷ text (codes "a") ∷ text (codes "1")
          ∷ bare mapping_end ∷ []),
      codes "# for the first key\n# root\na: 1\n",
    )
    -- after the `-` of a collection in a block
    ∷ (
      only (bare sequence ∷ between (comments (codes "item" ∷ [])) (codes "on its line") mapping ∷ text (codes "a") ∷ text (codes "1")
          ∷ text (codes "b") ∷ text (codes "2") ∷ bare mapping_end ∷ bare sequence_end ∷ []),
      codes "# item\n-  # on its line\n  a: 1\n  b: 2\n",
    )
    -- after the key of an undented sequence; after the `?` of one that is indented
    ∷ (
      only (bare mapping ∷ text (codes "a") ∷ beside (codes "list") sequence ∷ text (codes "x") ∷ bare sequence_end
          ∷ beside (codes "key") sequence ∷ text (codes "y") ∷ bare sequence_end ∷ text (codes "z") ∷ bare mapping_end ∷ []),
      codes "a:  # list\n- x\n?  # key\n  - y\n: z\n",
    )
    ∷ [])
unfolding encode_utf8
line_comments = refl

-- a character that isn't printable or breaks a line is a space; spaces at the end are dropped; an empty text is `#`; `#` stays by `#`
characters : written
    (only (bare mapping
    ∷ below
    (comments ((codes "tab\tbell" ++ (0x7 ∷ codes " nel" ++ (0x85 ∷ codes " ls" ++ (0x2028 ∷ codes ".")))) ∷ [] ∷ (0xE9 ∷ codes " #1  ")
    ∷ codes "###" ∷ codes "# x" ∷ codes " y" ∷ []))
    (leaf (codes "a")) ∷ text (codes "1") ∷ bare mapping_end ∷ []))
    ≡ codes "# tab bell  nel  ls .\n#\n# " ++ (0xE9 ∷ codes " #1\n####\n## x\n#  y\na: 1\n")
unfolding encode_utf8
characters = refl

-- LF and CR LF end a line of a text, and a CR alone doesn't; in a line comment the lines are one
lines : (written
    (only (bare mapping ∷ below (head_lines (codes "one\ntwo\r\nth\rree\n")) (leaf (codes "a")) ∷ text (codes "1") ∷ bare mapping_end ∷ []))
    ≡ codes "# one\n# two\n# th ree\n#\na: 1\n")
    × (written (only (beside (codes "one \ntwo\r\nth\rree\n") (leaf (codes "a")) ∷ [])) ≡ codes "a  # one two th ree\n")
unfolding encode_utf8
lines = (refl, refl)

-- the breaks are those of the settings; a comment is never folded
breaks_and_width : commented_under (record plain_settings { line_break = Some both_break; width = Some (pos 10) })
    (only (bare mapping ∷ below (comments (codes "a comment longer than ten" ∷ [])) (leaf (codes "a"))
    ∷ beside (codes "and this") (leaf (codes "some words more")) ∷ bare mapping_end ∷ []))
    ≡ codes "# a comment longer than ten\r\na: some words\r\n  more  # and this\r\n"
unfolding encode_utf8
breaks_and_width = refl
