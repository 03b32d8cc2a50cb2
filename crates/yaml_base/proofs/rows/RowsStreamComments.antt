-- Streams with comments on lines of their own, computed: where they are skipped, where they are content, and where they are refused.
use Rattle.yaml_base.proofs.Common.{Some, pos, codes, false, true, [], ◌∷◌, refl, ◌≡◌, None, ◌++◌, lines_of, stream_trees, no_tree_pairs, mapping_tree}
use Rattle.yaml_base.specs.CommentReading.{blanks, blank_text}
use Rattle.std.specs.{Char.encode_utf8, Str.chars, Str.is_utf8}
use Rattle.yaml_base.proofs.rows.StreamTrees.{document, only, bare_word, in_quotes, items, pair, pairs, pairs_after}
use Rattle.yaml_base.proofs.rows.Cases.{Gives, reads_none}

-- comments before entries, between them and after the last, also with blank lines
between_entries : Gives (stream_trees false) ((
  codes "# a\n- b\n# c\n#d\n- e\n# f\n",
  only (items (bare_word (codes "b") ∷ bare_word (codes "e") ∷ [])),
)
    ∷ (
      codes "a: b\n# c\n\n# d\n\ne: f\n#\n",
      only (pairs (pair (bare_word (codes "a")) (bare_word (codes "b")) ∷ pair (bare_word (codes "e")) (bare_word (codes "f")) ∷ [])),
    )
    ∷ (
      codes "a:\n  # c\n  b: d\n  # e\n  f: g\n# h\ni: j\n",
      only (pairs (pair (bare_word (codes "a"))
          (pairs (pair (bare_word (codes "b")) (bare_word (codes "d")) ∷ pair (bare_word (codes "f")) (bare_word (codes "g")) ∷ []))
          ∷ pair (bare_word (codes "i")) (bare_word (codes "j")) ∷ [])),
    )
    ∷ (
      codes "-\n  - a\n  # b\n  - c\n  # d\n# e\n- f\n",
      only (items (items (bare_word (codes "a") ∷ bare_word (codes "c") ∷ []) ∷ bare_word (codes "f") ∷ [])),
    )
    ∷ [])
unfolding chars is_utf8 encode_utf8
between_entries = refl

-- after an indicator, a key's `:` and properties, before a block on the lines below
after_indicators : Gives (stream_trees false) ((
  codes "- # c\n  a: b\n",
  only (items (pairs (pair (bare_word (codes "a")) (bare_word (codes "b")) ∷ []) ∷ [])),
)
    ∷ (codes "-\n # c\n\n    # d\n   - a\n", only (items (items (bare_word (codes "a") ∷ []) ∷ [])))
    ∷ (
      codes "a: # c\n  b: d\n",
      only (pairs (pair (bare_word (codes "a")) (pairs (pair (bare_word (codes "b")) (bare_word (codes "d")) ∷ [])) ∷ [])),
    )
    ∷ (
      codes "? # c\n  a: b\n: # d\n  - e\n",
      only (pairs (pair (pairs (pair (bare_word (codes "a")) (bare_word (codes "b")) ∷ [])) (items (bare_word (codes "e") ∷ [])) ∷ [])),
    )
    ∷ (
      codes "&x # c\na: b\n",
      only (mapping_tree (Some (codes "x")) None (pairs_after no_tree_pairs (pair (bare_word (codes "a")) (bare_word (codes "b")) ∷ []))),
    )
    ∷ (codes "- # c\n- a\n", only (items (bare_word [] ∷ bare_word (codes "a") ∷ [])))  -- no node before the next item
    ∷ [])
unfolding chars is_utf8 encode_utf8
after_indicators = refl

-- at the column of a mapping: before and between the items of a sequence there, and before the next key
in_undented_sequences : Gives (stream_trees false) ((
  codes "a:\n# c\n- b\n# d\n\n# e\n- f\n# g\nh: i\n",
  only (pairs (pair (bare_word (codes "a")) (items (bare_word (codes "b") ∷ bare_word (codes "f") ∷ []))
      ∷ pair (bare_word (codes "h")) (bare_word (codes "i")) ∷ [])),
)
    ∷ (
      codes "? a\n: # c\n# d\n- b\n# e\n",
      only (pairs (pair (bare_word (codes "a")) (items (bare_word (codes "b") ∷ [])) ∷ [])),
    )
    ∷ [])
unfolding chars is_utf8 encode_utf8
in_undented_sequences = refl

-- below `---` and after `...`
around_markers : Gives (stream_trees false) ((codes "---\n# c\n\n# d\n- a\n", only (items (bare_word (codes "a") ∷ [])))
    ∷ (codes "--- # c\n- a\n", only (items (bare_word (codes "a") ∷ [])))
    ∷ (codes "--- # c\n", only (bare_word []))
    ∷ (codes "--- a\n...\n\n# c\n\n---\n- b\n", Some (document (bare_word (codes "a")) ∷ document (items (bare_word (codes "b") ∷ [])) ∷ []))
    ∷ (codes "--- a\n...\n# c\n", only (bare_word (codes "a")))
    ∷ [])
unfolding chars is_utf8 encode_utf8
around_markers = refl

-- at a stream's start, with empty lines before, between and after
at_the_start : Gives (stream_trees false) ((codes "\n# a\n\n# b\n\nc\n", only (bare_word (codes "c")))
    ∷ (codes "\n# a\n\n", Some [])
    ∷ (codes "# a\n\n--- b\n", only (bare_word (codes "b")))
    ∷ (
      codes "# a\n\n%YAML 1.1\n# b\n\n--- c\n",
      Some (record { version = Some (record { major = pos 1; minor = pos 1 }); directives = []; root = bare_word (codes "c") } ∷ []),
    )
    ∷ [])
unfolding chars is_utf8 encode_utf8
at_the_start = refl

-- after a document's last line: before `---`, before `...`, and at a stream's end; a blank line before them may belong to a scalar
after_last_lines : Gives (stream_trees false) ((
  codes "a\n# c\n\n# d\n--- b\n# e\n---\n# f\n",
  Some (document (bare_word (codes "a")) ∷ document (bare_word (codes "b")) ∷ document (bare_word []) ∷ []),
)
    ∷ (codes "--- |+\n  a\n\n# c\n\n...\n# d\n---\nb\n# e\n", Some (document (in_quotes (codes "a\n\n")) ∷ document (bare_word (codes "b")) ∷ []))
    ∷ (codes "--- \"a\n  b\"\n#\n", only (in_quotes (codes "a b")))
    ∷ (codes "--- |2+\n\n# c\n", only (in_quotes (codes "\n")))
    ∷ (codes "--- a |\n# c\n", only (bare_word (codes "a |")))
    ∷ (codes "- [a,\n  b]\n# c\n", only (items (items (bare_word (codes "a") ∷ bare_word (codes "b") ∷ []) ∷ [])))
    ∷ [])
unfolding chars is_utf8 encode_utf8
after_last_lines = refl

-- content: within a literal, within quotes, and without a space before it
content : Gives (stream_trees false) ((codes "- |\n  # x\n  a\n", only (items (in_quotes (codes "# x\na\n") ∷ [])))
    ∷ (codes "- >-\n  a\n\n  # b\n- c\n", only (items (in_quotes (codes "a\n# b") ∷ bare_word (codes "c") ∷ [])))
    ∷ (codes "\"a\n  # b\"\n", only (in_quotes (codes "a # b")))
    ∷ (codes "- a#b\n", only (items (bare_word (codes "a#b") ∷ [])))
    ∷ [])
unfolding chars is_utf8 encode_utf8
content = refl

-- a comment between a key after `?` and its `:`, a text after a comment, a comment after a text on its line or deeper than its entry, a
-- comment less deep than the entries around it, a deeper line after a comment, an item after a pair that has its value, and a comment at column 0 that
-- may be the first line of a block scalar, or that precedes more of a text
refused : reads_none (stream_trees false) (codes "? k\n# c\n: v\n" ∷ codes "- # c\n  a\n" ∷ codes "a:\n  # c\n  b\n" ∷ codes "- &x # c\n  a\n"
    ∷ codes "- a #b\n" ∷ codes "- a\n  # c\n" ∷ codes "a: b\n # c\nd: e\n" ∷ codes "- - a\n # c\n  - b\n" ∷ codes "- a\n# c\n  d\n"
    ∷ codes "a: b\n# c\n- d\n" ∷ codes "- a\n#c\n d: e\n" ∷ codes "--- # c\n  a: b\n" ∷ codes "--- a\n...\n# c\nb\n"
    ∷ codes "--- |\n# c\n" ∷ codes "--- &a !t >+\n\n# c\n" ∷ codes "|1\n# c\n" ∷ codes "---\n|-\n\n# c\n" ∷ codes "--- a\n# c\n  b\n"
    ∷ codes "a\n # c\n" ∷ []) ≡ true
unfolding chars is_utf8 encode_utf8
refused = refl

-- blank lines after a text are lines of their own
blank_lines_after : lines_of false (codes "a\n" ++ blank_text 2) ≡ record { text = codes "a"; ending = codes "\n" } ∷ blanks 2
blank_lines_after = refl
