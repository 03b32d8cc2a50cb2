-- Blanks that are literal, computed: the values that literal takes then, how they are written, and that readers take tabs in literal
-- text alone.
use Rattle.yaml_base.proofs.Common.{None, codes, false, true, [], ◌++◌, ◌∷◌, refl, ◌≡◌, Text, literal, folded, block, flow, Charset, allows_literal, Settings}
use Rattle.yaml_base.proofs.{Common.is_tidy, Common.agrees, Common.stream_trees, rows.Cases.Gives, rows.Cases.reads_none}
use Rattle.yaml_base.proofs.rows.RowEvents.{plain_settings, canonical_settings, untagged, leaf, sequence, mapping, alone, rendered_under}
use Rattle.yaml_base.proofs.rows.StreamTrees.{only, in_quotes, items}
use Rattle.std.specs.{Char.encode_utf8, Str.chars, Str.is_utf8}

abbrev ascii : Charset
ascii = record { unicode = false; breaks12 = false }

taken : Gives (allows_literal ascii) (
    (codes "a\tb", true)  -- a tab
    ∷ (codes "\ta", true)  -- a tab first
    ∷ (codes "a \nb", true)  -- a space before a break
    ∷ (codes "a ", true)  -- a space at the end
    ∷ (codes "a\n\n\n b", true)  -- empty lines
    ∷ (codes "\n", true)  -- a break alone
    ∷ ([], false)  -- nothing
    ∷ (codes " ", false)  -- a line of spaces alone
    ∷ (codes "\t", false)  -- of a tab alone
    ∷ (codes "a\n \t\nb", false)  -- of both, between others
    ∷ (codes "a\n ", false)  -- at the end
    ∷ (codes " \na", false)  -- at the start
    ∷ (codes "a\t\0", false)  -- an unprintable character
    ∷ (codes "a\t" ++ 0xE9 ∷ [], false)  -- one past ASCII
    ∷ (codes "a\r\tb", false)  -- CR
    ∷ [])
taken = refl

abbrev blanks_settings : Settings
blanks_settings = record plain_settings { literal_blanks = true }

-- a root for which literal is asked, with the setting and without it
abbrev as_literal : Text → Text
as_literal value = rendered_under blanks_settings (alone (untagged value literal ∷ []))

abbrev without : Text → Text
without value = rendered_under plain_settings (alone (untagged value literal ∷ []))

roots : Gives as_literal (
    (codes "a\tb\n", codes "|\n  a\tb\n")  -- a tab
    ∷ (codes "\ta\n", codes "|2\n  \ta\n")  -- a tab first takes a digit
    ∷ (codes " a\t", codes "|2-\n   a\t\n")  -- so does a space
    ∷ (codes "a \nb", codes "|-\n  a \n  b\n")  -- a space before a break
    ∷ (codes "a  ", codes "|-\n  a  \n")  -- spaces at the end
    ∷ (codes "a\n\tb\n\n", codes "|+\n  a\n  \tb\n\n...\n")  -- all last breaks
    ∷ (codes "a\n \nb", codes "\"a\\n \\nb\"\n")  -- a line of a space alone
    ∷ (codes "\t", codes "\"\\t\"\n")  -- of a tab alone
    ∷ (codes "a\t\u{7}", codes "\"a\\t\\a\"\n")  -- what must be escaped
    ∷ (codes "a\nb\n", codes "|\n  a\n  b\n")  -- no blanks
    ∷ [])
unfolding encode_utf8
roots = refl

roots_without : Gives without (
    (codes "a\tb\n", codes "\"a\\tb\\n\"\n")  -- a tab
    ∷ (codes "a \nb", codes "\"a \\nb\"\n")  -- a space before a break
    ∷ (codes "a ", codes "\"a \"\n")  -- a space at the end
    ∷ (codes "a\nb\n", codes "|\n  a\n  b\n")  -- no blanks
    ∷ [])
unfolding encode_utf8
roots_without = refl

-- folded stays as it is; so does literal in flow, as a simple key, in canonical mode, and a root in portable mode that would have a digit
others : (rendered_under blanks_settings (alone (untagged (codes "a\tb") folded ∷ [])) ≡ codes "\"a\\tb\"\n")
    × (rendered_under blanks_settings (alone (untagged (codes "a \nb") folded ∷ [])) ≡ codes "\"a \\nb\"\n")
    × (rendered_under blanks_settings (alone (sequence flow (untagged (codes "a\tb") literal ∷ []))) ≡ codes "[\"a\\tb\"]\n")
    × (rendered_under blanks_settings (alone (mapping block (untagged (codes "a\tb") literal ∷ leaf (codes "c") ∷ []))) ≡ codes "\"a\\tb\": c\n")
    × (rendered_under (record canonical_settings { literal_blanks = true }) (alone (untagged (codes "a\tb") literal ∷ []))
    ≡ codes "---\n\"a\\tb\"\n")
    × (rendered_under (record blanks_settings { portable = true }) (alone (untagged (codes "\ta") literal ∷ [])) ≡ codes "--- \"\\ta\"\n")
    × (rendered_under (record blanks_settings { portable = true }) (alone (untagged (codes "a\t") literal ∷ [])) ≡ codes "--- |-\n  a\t\n")
unfolding encode_utf8
others = (refl, refl, refl, refl, refl, refl, refl)

-- in a sequence the digit counts from its entries on
inside : rendered_under blanks_settings (alone (sequence block (untagged (codes "\ta \n") literal ∷ []))) ≡ codes "- |2\n  \ta \n"
unfolding encode_utf8
inside = refl

-- tidy if the style is literal alone; a line of blanks alone isn't
tidy : (is_tidy literal false None (codes "|\n \ta\tb\t") ≡ true)
    × (is_tidy folded false None (codes ">\n a\tb") ≡ false)
    × (is_tidy literal false None (codes "|\n  a\n  \t\n  b") ≡ false)
    × (is_tidy literal false None (codes "|\n\ta") ≡ false)
tidy = (refl, refl, refl, refl)

-- the written text reads back
read_back : (stream_trees false (codes "|\n  a\tb\n") ≡ only (in_quotes (codes "a\tb\n")))
    × (stream_trees false (codes "|2\n  \ta\n") ≡ only (in_quotes (codes "\ta\n")))
    × (stream_trees false (codes "|-\n  a  \n") ≡ only (in_quotes (codes "a  ")))
    × (stream_trees false (codes "- |2\n  \ta \n") ≡ only (items (in_quotes (codes "\ta \n") ∷ [])))
    × (agrees false (alone (untagged (codes "a\t\n b") literal ∷ [])) (stream_trees false (codes "|-\n  a\t\n   b\n")) ≡ true)
    × (agrees false (alone (untagged (codes "a\t\n b") literal ∷ [])) (stream_trees false (codes "|-\n  a\n   b\n")) ≡ false)
unfolding chars is_utf8 encode_utf8
read_back = (refl, refl, refl, refl, refl, refl)

-- a tab anywhere else: in text of the other styles and after it, between words, in a header, in place of indentation, on a line alone
refused_scalars : reads_none (stream_trees false) (codes "a\tb\n" ∷ codes "a\t\n" ∷ codes "\ta\n" ∷ codes "'a\tb'\n" ∷ codes "\"a\tb\"\n" ∷ codes "\"a\"\t\n"
    ∷ codes ">\n  a\tb\n" ∷ codes "|\t\n  a\n" ∷ codes "|\n\ta\n" ∷ codes "|\n  a\n  \t\n  b\n" ∷ []) ≡ true
unfolding chars is_utf8 encode_utf8
refused_scalars = refl

refused_words : reads_none (stream_trees false) (codes "a:\tb\n" ∷ codes "-\ta\n" ∷ codes "- \ta\n" ∷ codes "[a,\tb]\n" ∷ codes "[a]\t\n" ∷ codes "[a\t]\n"
    ∷ codes "{a:\tb}\n" ∷ codes "&a\tb\n" ∷ codes "!t\tb\n" ∷ codes "*a\t\n" ∷ codes "---\ta\n" ∷ codes "--- a\n...\t\n" ∷ codes "%YAML\t1.1\n--- a\n"
    ∷ codes "%TAG !e! x\t\n--- a\n" ∷ codes "a: b\n\t\nc: d\n" ∷ codes "\t\n" ∷ []) ≡ true
unfolding chars is_utf8 encode_utf8
refused_words = refl
