-- Whole streams read, computed: markers, directives, several documents, line breaks and encodings.
use Rattle.yaml_base.proofs.Common.{None, Some, codes, pos, false, true, [], ◌++◌, ◌∷◌, refl, ◌≡◌, stream_trees}
use Rattle.std.specs.{Char.encode_utf8, Str.chars, Str.is_utf8}
use Rattle.yaml_base.proofs.rows.StreamTrees.{document, only, bare_word, in_quotes, of_tag, items, pair, pairs}
use Rattle.yaml_base.proofs.rows.Cases.{Gives}

no_documents : (stream_trees false [] ≡ Some []) × (stream_trees false (codes "\n\n") ≡ Some [])
unfolding chars is_utf8 encode_utf8
no_documents = (refl, refl)

directives_before_documents : stream_trees false (codes "%YAML 1.1\n%TAG !e! tag:e.com,2000:\n--- !e!t x\n...\n%TAG ! !a%20\n---\n!b y\n...\n")
    ≡ Some (record {
      version = Some (record { major = pos 1; minor = pos 1 });
      directives = record { handle = codes "!e!"; prefix = codes "tag:e.com,2000:" } ∷ [];
      root = of_tag (codes "tag:e.com,2000:t") (codes "x");
    }
    ∷ record { version = None; directives = record { handle = codes "!"; prefix = codes "!a " } ∷ []; root = of_tag (codes "!a b") (codes "y") } ∷ [])
unfolding chars is_utf8 encode_utf8
directives_before_documents = refl

blank_lines_after_an_end : stream_trees false (codes "--- |+\n  a\n\n...\n\n\n%YAML 1.2\n--- b\n")
    ≡ Some (document (in_quotes (codes "a\n\n"))
    ∷ record { version = Some (record { major = pos 1; minor = pos 2 }); directives = []; root = bare_word (codes "b") } ∷ [])
unfolding chars is_utf8 encode_utf8
blank_lines_after_an_end = refl

streams : Gives (stream_trees false) ((
  codes "a\n--- b\n---\n- c\n",
  Some (document (bare_word (codes "a")) ∷ document (bare_word (codes "b")) ∷ document (items (bare_word (codes "c") ∷ [])) ∷ []),
)  -- three documents
    ∷ (codes "---\n---\n...\n---\n...\n", Some (document (bare_word []) ∷ document (bare_word []) ∷ document (bare_word []) ∷ []))  -- empty documents
    ∷ (codes "%TAG !e! x\n--- !e!y z\n--- !e!y z\n", None)  -- handles of one document alone
    ∷ (codes "- a\r\n- |\r\n  b\r\n  c\r\n", only (items (bare_word (codes "a") ∷ in_quotes (codes "b\nc\n") ∷ [])))  -- both breaks
    ∷ (codes "a:\r- b\r", only (pairs (pair (bare_word (codes "a")) (items (bare_word (codes "b") ∷ [])) ∷ [])))  -- carriage returns
    ∷ (0xFE ∷ 0xFF ∷ 0 ∷ 0x2D ∷ 0 ∷ 0x20 ∷ 0 ∷ 0x61 ∷ 0 ∷ 0x0D ∷ 0 ∷ 0x0A ∷ [], only (items (bare_word (codes "a") ∷ [])))  -- utf16 upper first
    ∷ (0xFF ∷ 0xFE ∷ 0x22 ∷ 0 ∷ 0x3D ∷ 0xD8 ∷ 0 ∷ 0xDE ∷ 0x22 ∷ 0 ∷ 0x0A ∷ 0 ∷ [], only (in_quotes (0x1F600 ∷ [])))  -- utf16 lower first
    ∷ [])
unfolding chars is_utf8 encode_utf8
streams = refl

-- a heading, and no documents after it
headings_alone : Gives (stream_trees false) ((codes "# a\n", Some []) ∷ (codes "#", Some []) ∷ (codes "#\n#a\n\n", Some []) ∷ [])
unfolding chars is_utf8 encode_utf8
headings_alone = refl

headings : Gives (stream_trees false) ((codes "# a\nb\n", only (bare_word (codes "b")))
    ∷ (codes "#\n#a: b # c\n# - d\n- e\n", only (items (bare_word (codes "e") ∷ [])))  -- several lines
    ∷ (codes "#\ta\r\n#b\r# c\r\n- |\r\n  # d\r\n", only (items (in_quotes (codes "# d\n") ∷ [])))  -- a tab, and each kind of break
    ∷ (codes "# a\n--- b\n---\n- c\n", Some (document (bare_word (codes "b")) ∷ document (items (bare_word (codes "c") ∷ [])) ∷ []))
    ∷ (
      codes "# a\n%YAML 1.1\n--- b\n",
      Some (record { version = Some (record { major = pos 1; minor = pos 1 }); directives = []; root = bare_word (codes "b") } ∷ []),
    )
    ∷ (0xFE ∷ 0xFF ∷ 0 ∷ 0x23 ∷ 0 ∷ 0x0A ∷ 0 ∷ 0x61 ∷ 0 ∷ 0x0A ∷ [], only (bare_word (codes "a")))  -- utf16
    ∷ [])
unfolding chars is_utf8 encode_utf8
headings = refl

-- under the rules of YAML 1.2 U+2028 doesn't end a line of a heading
headings_over_separators : (stream_trees false (codes "# a" ++ 0xE2 ∷ 0x80 ∷ 0xA8 ∷ codes "b\n") ≡ only (bare_word (codes "b")))
    × (stream_trees true (codes "# a" ++ 0xE2 ∷ 0x80 ∷ 0xA8 ∷ codes "b\n") ≡ Some [])
unfolding chars is_utf8 encode_utf8
headings_over_separators = (refl, refl)

-- U+2028 breaks a line, and under the rules of YAML 1.2 it doesn't
line_separators : (stream_trees false (codes "- a" ++ 0xE2 ∷ 0x80 ∷ 0xA8 ∷ codes "- b\n") ≡ only (items (bare_word (codes "a") ∷ bare_word (codes "b") ∷ [])))
    × (stream_trees true (codes "- a" ++ 0xE2 ∷ 0x80 ∷ 0xA8 ∷ codes "- b\n") ≡ only (items (bare_word (codes "a\u{2028}- b") ∷ [])))
unfolding chars is_utf8 encode_utf8
line_separators = (refl, refl)

streams_with_marks_inside : Gives (stream_trees false) (
    (codes "---a\n  --- b\n", None)  -- marks inside texts
    ∷ (codes "a\n  --- b\n  ...\n", only (bare_word (codes "a --- b ...")))  -- lines like marks
    ∷ [])
unfolding chars is_utf8 encode_utf8
streams_with_marks_inside = refl
