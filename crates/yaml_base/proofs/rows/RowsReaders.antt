-- The readings of texts that no right writer writes: no value, or another one than was to be written.
use Rattle.yaml_base.proofs.Common.{Option, None, Some, codes, false, true, List, [], ◌++◌, ◌∷◌, refl, ◌≡◌, Text, line_separator, TagDirective}
use Rattle.yaml_base.proofs.Common.{canonical_content, tagged, untagged, Content, scalar_content, sequence_content, mapping_content, no_contents, contents_and}
use Rattle.yaml_base.{proofs.rows.Cases.Gives, proofs.rows.Cases.reads_none, specs.reading.Content.ScalarTag}
use Rattle.yaml_base.proofs.Common.{no_content_pairs, content_pairs_and, DocumentContent, read_block, read_double, read_plain, read_single}
use Rattle.std.specs.{Char.encode_utf8, Str.chars, Str.is_utf8}

-- ---- plain

-- a `:` before a blank or a break, a `#` after a break, indicators and `...` at the start
plain_without_reading : reads_none (read_plain false false)
    (codes "a: b" ∷ codes "a:\nb" ∷ codes "a\n# b" ∷ codes "!a" ∷ codes "? a" ∷ codes "...a" ∷ codes "{a" ∷ codes "'a'" ∷ codes "-" ∷ []) ≡ true
plain_without_reading = refl

-- indicators of flow
plain_without_reading_in_flow : reads_none (read_plain false true)
    (codes "a,b" ∷ codes "a?b" ∷ codes "a]" ∷ codes "a}" ∷ codes "[a" ∷ codes "a:b" ∷ []) ≡ true
plain_without_reading_in_flow = refl

-- breaks written once each, a space kept before a fold, U+2028 before a break, an escape
plain_otherwise : Gives (read_plain false false) (
    (codes "a\n  b", Some (codes "a b"))
    ∷ (codes "a\n\n  b", Some (codes "a\nb"))
    ∷ (codes "a \n  b", Some (codes "a b"))
    ∷ (codes "a" ++ line_separator ∷ codes "\n  b", Some (codes "a" ++ line_separator ∷ codes "\nb"))
    ∷ (codes "a\\nb", Some (codes "a\\nb"))
    ∷ [])
plain_otherwise = refl

-- ---- single quotes

-- nothing, no quotes, an open quote, a `'` written once, text after the quotes, other quotes
single_without_reading : reads_none (read_single false)
    ([] ∷ codes "a" ∷ codes "'a" ∷ codes "'it's'" ∷ codes "'a' " ∷ codes "'''" ∷ codes "\"a\"" ∷ []) ≡ true
single_without_reading = refl

-- a lone break written once, a space kept before a fold, U+2028 written twice, an escape, a break too many
single_otherwise : Gives (read_single false) (
    (codes "'a\n  b'", Some (codes "a b"))
    ∷ (codes "'\n  '", Some (codes " "))
    ∷ (codes "'a \n  b'", Some (codes "a b"))
    ∷ (codes "'a" ++ line_separator ∷ line_separator ∷ codes "  b'", Some (codes "a" ++ line_separator ∷ line_separator ∷ codes "b"))
    ∷ (codes "'a\\nb'", Some (codes "a\\nb"))
    ∷ (codes "'a\n\n\n  b'", Some (codes "a\n\nb"))
    ∷ [])
single_otherwise = refl

-- ---- double quotes

-- nothing, a backslash at the end, an escape of single quotes, too few digits, text after the quotes, other quotes
double_without_reading : reads_none (read_double false)
    ([] ∷ codes "\"a\\" ∷ codes "\"\\'a\"" ∷ codes "\"\\x4\"" ∷ codes "\"a\"\n" ∷ codes "'a'" ∷ []) ≡ true
double_without_reading = refl

-- a fold of two spaces without its backslash, or after the first of them, a break left raw, a space escaped before a fold, a backslash with no second
-- space, a fold at the first character
double_otherwise : Gives (read_double false) (
    (codes "\"aaaaaa\n   b\"", Some (codes "aaaaaa b"))
    ∷ (codes "\"aaaaaa \n  b\"", Some (codes "aaaaaa b"))
    ∷ (codes "\"a\n  b\"", Some (codes "a b"))
    ∷ (codes "\"a\\ \n  b\"", Some (codes "a  b"))
    ∷ (codes "\"a\n  \\ b\"", Some (codes "a  b"))
    ∷ (codes "\"\n  a\"", Some (codes " a"))
    ∷ [])
double_otherwise = refl

-- ---- literal and folded

-- nothing, the digit 0, a sign before its digit, two digits, text after the sign, a line that begins with a tab
block_without_reading : reads_none (read_block false None)
    ([] ∷ codes "|0\n a\n" ∷ codes "|-2\n  a\n" ∷ codes "|12\n  a\n" ∷ codes "> a\n" ∷ codes "|\n  a\n\tb\n" ∷ []) ≡ true
block_without_reading = refl

-- the digit counts from the column of the entries around it
digit_of_entries : Gives (read_block false (Some 2)) ((codes "|2\n   a\n", None) ∷ (codes "|2\n    a\n", Some (codes "a\n")) ∷ [])
digit_of_entries = refl

-- the wrong sign at the end, each in turn; a line that begins with a space folded, a break before such a line doubled,
-- a break between others written once; a digit left out; one break alone without its sign
block_otherwise : Gives (read_block false None) (
    (codes "|-\n  a\n", Some (codes "a"))
    ∷ (codes "|\n  a\n", Some (codes "a\n"))
    ∷ (codes "|\n  a\n\n", Some (codes "a\n"))
    ∷ (codes "|+\n  a\n\n", Some (codes "a\n\n"))
    ∷ (codes ">2-\n   aaaaaa\n  b", Some (codes " aaaaaa\nb"))
    ∷ (codes ">-\n  a\n\n   b", Some (codes "a\n\n b"))
    ∷ (codes ">-\n  a\n  b", Some (codes "a b"))
    ∷ (codes "|-\n   a", Some (codes "a"))
    ∷ (codes "|\n\n", Some [])
    ∷ [])
block_otherwise = refl

-- ---- canonical streams

-- the content of a stream of one document without a version
abbrev alone : List TagDirective → Content → Option (List DocumentContent)
alone directives content = Some (record { version = None; directives = directives; root = content } ∷ [])

abbrev a_scalar : ScalarTag → Text → Content
a_scalar tag value = scalar_content None tag value

-- a collection lacks its end, a key its sign, a value its sign; a name, a handle and a directive are cut short
canonical_without_reading : reads_none (canonical_content false)
    (codes "---\n[\n  \"a\",\n" ∷ codes "---\n{\n  \"a\"\n  : \"b\",\n}\n" ∷ codes "---\n{\n  ? \"a\"\n  \"b\",\n}\n"
    ∷ codes "---\n& \"a\"\n" ∷ codes "---\n!e \"a\"\n---\n!e! \"a\"\n" ∷ codes "%TAG !e!\n---\n\"a\"\n" ∷ codes "---\n[\"a\" \"b\",]\n" ∷ []) ≡ true
unfolding chars is_utf8 encode_utf8
canonical_without_reading = refl

-- a tag left out; the tag `!` left raw, which reads as the bare tag; a `%` left raw; a fold without its backslash
canonical_scalars_otherwise : Gives (canonical_content false) (
    (codes "---\n\"5\"\n", alone [] (a_scalar (untagged true) (codes "5")))
    ∷ (codes "---\n! \"5\"\n", alone [] (a_scalar (untagged false) (codes "5")))
    ∷ (codes "---\n!%41 \"5\"\n", alone [] (a_scalar (tagged (codes "!A")) (codes "5")))
    ∷ (codes "---\n\"aaaaaa\n   b\"\n", alone [] (a_scalar (untagged true) (codes "aaaaaa b")))
    ∷ [])
unfolding chars is_utf8 encode_utf8
canonical_scalars_otherwise = refl

-- a mapping's key and value exchanged, an item too many, a directive for a handle that means something else
canonical_trees_otherwise : Gives (canonical_content false) ((
  codes "---\n{\n  ? \"v\"\n  : \"k\",\n}\n",
  alone [] (mapping_content None None (content_pairs_and no_content_pairs (a_scalar (untagged true) (codes "v")) (a_scalar (untagged true) (codes "k")))),
)
    ∷ (codes "---\n[\n  [],\n]\n", alone [] (sequence_content None None (contents_and no_contents (sequence_content None None no_contents))))
    ∷ (
      codes "%TAG !! x:\n---\n!!str \"a\"\n",
      alone (record { handle = codes "!!"; prefix = codes "x:" } ∷ []) (a_scalar (tagged (codes "x:str")) (codes "a")),
    )
    ∷ [])
unfolding chars is_utf8 encode_utf8
canonical_trees_otherwise = refl
