-- Texts that have no reading as a stream, or another one than it seems, computed.
use Rattle.yaml_base.proofs.Common.{None, Some, codes, replicate, false, true, [], ◌++◌, ◌∷◌, refl, ◌≡◌, stream_trees}
use Rattle.std.specs.{Char.encode_utf8, Str.chars, Str.is_utf8}
use Rattle.yaml_base.proofs.rows.Cases.{reads_none}
use Rattle.yaml_base.proofs.rows.StreamTrees.{only, bare_word, in_quotes, items, pair, pairs}

-- entries one column off: too deep, not deep enough, and an item that goes on the text before it
columns : (reads_none (stream_trees false) (codes "a: b\n c: d\n" ∷ codes " - a\n- b\n" ∷ codes "- - a\n - b\n" ∷ codes "a:\n  b: c\n d: e\n" ∷ []) ≡ true)
    × (stream_trees false (codes "- a\n - b\n") ≡ only (items (bare_word (codes "a - b") ∷ [])))
unfolding chars is_utf8 encode_utf8
columns = (refl, refl)

-- an undented sequence inside a sequence, a sequence on a key's line or on that of `---`, an item at a mapping's column
blocks : (reads_none (stream_trees false) (codes "a: - b\n" ∷ codes "--- - a\n" ∷ codes "--- a: b\n" ∷ codes "a: b\n- c\n" ∷ codes "[]: &- z\n-\n"
    ∷ []) ≡ true)
    × (stream_trees false (codes "-\n- a\n") ≡ only (items (bare_word [] ∷ bare_word (codes "a") ∷ [])))
unfolding chars is_utf8 encode_utf8
blocks = (refl, refl)

-- keys: two on a line, one without a value's indicator, a value without a key, text of two lines, an alias glued to its `:`
keys : (reads_none (stream_trees false) (codes "a: b: c\n" ∷ codes "? a\nb: c\n" ∷ codes ": a\n" ∷ codes "a\n  b: c\n" ∷ codes "*a: b\n" ∷ codes "a : b\n"
    ∷ []) ≡ true)
    × (stream_trees false (codes "a :b\n") ≡ only (bare_word (codes "a :b")))
unfolding chars is_utf8 encode_utf8
keys = (refl, refl)

-- the longest simple key has 1,024 characters; with one more it isn't read, but after `? ` it is
long_keys : (stream_trees false (replicate 1024 120 ++ codes ": v\n") ≡ only (pairs (pair (bare_word (replicate 1024 120)) (bare_word (codes "v")) ∷ [])))
    × (stream_trees false (replicate 1025 120 ++ codes ": v\n") ≡ None)
    × (stream_trees false (codes "? " ++ (replicate 1025 120 ++ codes "\n: v\n")) ≡ only
    (pairs (pair (bare_word (replicate 1025 120)) (bare_word (codes "v")) ∷ [])))
unfolding chars is_utf8 encode_utf8
long_keys = (refl, refl, refl)

-- markers: directives without `...` before them, `---` glued, `...` twice, with text, or a wrong end indicator
marks : reads_none (stream_trees false) (codes "a\n%YAML 1.1\n--- b\n" ∷ codes "---a\n" ∷ codes "--- a\n---b\n" ∷ codes "--- a\n...\n...\n"
    ∷ codes "--- a\n... b\n" ∷ codes "--- a\n..\n%YAML 1.1\n--- b\n" ∷ codes "--- a\n...\nb\n" ∷ codes "...\n" ∷ []) ≡ true
unfolding chars is_utf8 encode_utf8
marks = refl

-- directives: none follows them, an unknown one, another version, two versions, a handle twice, a `%` form missing after a handle
directives : reads_none (stream_trees false) (codes "%YAML 1.1\na\n" ∷ codes "%YAML 1.1\n" ∷ codes "%YML 1.1\n--- a\n" ∷ codes "%YAML 1.3\n--- a\n"
    ∷ codes "%YAML 1.1\n%YAML 1.1\n--- a\n" ∷ codes "%TAG !e! x\n%TAG !e! y\n--- a\n" ∷ codes "%TAG !e! a!\n--- a\n" ∷ codes "%TAG !e! x\n--- !e!y!z a\n"
    ∷ codes "!e!t a\n" ∷ []) ≡ true
unfolding chars is_utf8 encode_utf8
directives = refl

-- tags and anchors: no blank after an anchor, a flow indicator after a handle, the bare tag before plain text or a collection, a
-- tag before an anchor, an anchor before an alias, an alias without its indicator, a cut `%` form, a name without a character
properties : (reads_none (stream_trees false) (codes "&a\"b\"\n" ∷ codes "!a,b x\n" ∷ codes "! a\n" ∷ codes "! []\n" ∷ codes "!t &a b\n" ∷ codes "&a *b\n"
    ∷ codes "!a%2 x\n" ∷ codes "& a\n" ∷ codes "!<a x\n" ∷ []) ≡ true)
    × (stream_trees false (codes "- a1\n") ≡ only (items (bare_word (codes "a1") ∷ [])))
unfolding chars is_utf8 encode_utf8
properties = (refl, refl)

-- flow: a comma dropped, one too many, a key without a value, a value glued, a bracket that doesn't match, text after the
-- end, no end, an item at the column of its block, a key of two lines
flow : reads_none (stream_trees false) (codes "[a b]c]\n" ∷ codes "['a' 'b']\n" ∷ codes "[a,, b]\n" ∷ codes "{a, b: c}\n" ∷ codes "{a:b}\n" ∷ codes "[a}\n"
    ∷ codes "[a] b\n" ∷ codes "[a\n" ∷ codes "- [a,\nb]\n" ∷ codes "{'a\n  b': c}\n" ∷ codes "[a: b]\n" ∷ []) ≡ true
unfolding chars is_utf8 encode_utf8
flow = refl

-- scalars: tabs, comments, characters that aren't printable, a quote without its end, text after it, a fold without its
-- backslash loses the space, a break alone in single quotes is a space, a blank before a break, a line that isn't deep
scalars : (reads_none (stream_trees false) (codes "a\tb\n" ∷ codes "a # b\n" ∷ codes "a\n# b\n  c\n" ∷ codes "\"\u{7}\"\n" ∷ codes "\"a\n" ∷ codes "\"a\" b\n"
    ∷ codes "\"a \n  b\"\n" ∷ codes "- 'a\n\nb'\n" ∷ codes "\"a\nb\"\n" ∷ codes "[\"a\nb\"]\n" ∷ []) ≡ true)
    × (stream_trees false (codes "\"a\n   b\"\n") ≡ only (in_quotes (codes "a b")))
    × (stream_trees false (codes "'a\n  b'\n") ≡ only (in_quotes (codes "a b")))
unfolding chars is_utf8 encode_utf8
scalars = (refl, refl, refl)

-- block scalars: no indicator but these, a folded line that begins with a space stays, a line that isn't deep, one of spaces alone
block_scalars : (reads_none (stream_trees false) (codes "|*\n  a\n" ∷ codes "- |\na\n" ∷ codes "|\n  a\n   \n  b\n" ∷ codes "[|\n  a]\n" ∷ []) ≡ true)
    × (stream_trees false (codes ">\n  a\n   b\n  c\n") ≡ only (in_quotes (codes "a\n b\nc\n")))
unfolding chars is_utf8 encode_utf8
block_scalars = (refl, refl)

-- streams: a root of nothing without `---`, spaces at the start, two roots, bytes that aren't UTF-8, a marker in UTF-8
streams : (reads_none (stream_trees false) (codes "  \na\n" ∷ codes " a\n" ∷ codes "a\nb\n" ∷ (0xFF ∷ []) ∷ (0xEF ∷ 0xBB ∷ 0xBF ∷ codes "a\n") ∷ []) ≡ true)
    × (stream_trees false (codes "\n") ≡ Some [])
unfolding chars is_utf8 encode_utf8
streams = (refl, refl)

-- comments: indented at a stream's start, also after a line of spaces; one between directives; in a heading a character that isn't printable, a marker
-- before or after it
comments : reads_none (stream_trees false) (codes " # a\nb\n" ∷ codes "  \n# a\nb\n" ∷ codes "# a\n # b\nc\n"
    ∷ codes "%YAML 1.1\n# a\n%TAG !e! x\n--- b\n" ∷ codes "# \u{7}\na\n" ∷ (0xEF ∷ 0xBB ∷ 0xBF ∷ codes "# a\nb\n")
    ∷ (codes "# a\n" ++ 0xEF ∷ 0xBB ∷ 0xBF ∷ codes "b\n") ∷ []) ≡ true
unfolding chars is_utf8 encode_utf8
comments = refl
