-- Plain and single-quoted scalars, computed: their rendered text, and that it reads back.
use Rattle.yaml_base.proofs.Common.{ℕ, Option, None, Some, codes, replicate, false, [], ◌++◌, ◌∷◌, refl, ◌≡◌, Text, Cursor, first_cursor, read_plain}
use Rattle.yaml_base.proofs.Common.{map, read_single}
use Rattle.yaml_base.{proofs.rows.Cases.Gives, proofs.rows.Cases.GivesOfTwo, specs.scalars.Plain.render_plain, specs.scalars.SingleQuoted.render_single_quoted}

-- a root in a block, indented by 2
abbrev plain_root : Option ℕ → Text → Text
plain_root limit value = (render_plain false limit 2 value first_cursor).text

abbrev single_root : Option ℕ → Text → Text
single_root limit value = (render_single_quoted limit 2 value first_cursor).text

-- not at the start of a line
abbrev later : Cursor
later = record { column = 2; whitespace = false; indention = false }

-- the texts after that cursor
abbrev plain_later : Text → Text
plain_later value = (render_plain false (Some 80) 2 value later).text

abbrev single_later : Text → Text
single_later value = (render_single_quoted (Some 80) 2 value later).text

-- a space before a word and before a quote, and nothing before nothing in a block
rendered_later : map plain_later ([] ∷ codes "b" ∷ []) ++ single_later (codes "b") ∷ [] ≡ [] ∷ codes " b" ∷ codes " 'b'" ∷ []
rendered_later = refl

-- the cursor is after the text, with no white space
cursors_after :
    (render_plain false (Some 5) 2 (codes "aaaaaa b") first_cursor).cursor ∷ (render_single_quoted (Some 80) 2 (codes "a\nbcd") later).cursor ∷ []
    ≡ record { column = 3; whitespace = false; indention = false } ∷ record { column = 6; whitespace = false; indention = false } ∷ []
cursors_after = refl

plain_roots : GivesOfTwo plain_root (
    (Some 80, codes "foo", codes "foo")  -- word
    ∷ (Some 5, codes "aaaaaa b", codes "aaaaaa\n  b")  -- fold
    -- a space at the width is not past it
    ∷ (Some 5, codes "aaaaa b", codes "aaaaa b")  -- no fold at the width
    ∷ (None, codes "aaaaaa b", codes "aaaaaa b")  -- no width
    ∷ (Some 5, codes "aaaaaa  b c", codes "aaaaaa  b\n  c")  -- no fold among spaces
    -- columns are counted in characters
    ∷ (Some 5, replicate 4 0xE9 ++ codes " b c", replicate 4 0xE9 ++ codes " b\n  c")  -- fold counts characters
    ∷ [])
plain_roots = refl

abbrev separated : Text
separated = 97 ∷ 0x2028 ∷ 98 ∷ []

abbrev separated_after_break : Text
separated_after_break = 97 ∷ 10 ∷ 0x2028 ∷ 98 ∷ []

abbrev separated_before_break : Text
separated_before_break = 97 ∷ 0x2028 ∷ 10 ∷ 98 ∷ []

single_quoted_roots : GivesOfTwo single_root (
    (Some 80, codes "a\nb", codes "'a\n\n  b'")  -- one break
    ∷ (Some 80, codes "\n", codes "'\n\n  '")  -- break alone
    ∷ (Some 0, codes " ", codes "' '")  -- space alone
    -- no fold at either end
    ∷ (Some 0, codes " a b ", codes "' a\n  b '")  -- no fold at the ends
    ∷ (Some 80, codes "'", codes "''''")  -- quote alone
    -- a doubled quote takes two columns
    ∷ (Some 5, codes "a''' b c", codes "'a''''''\n  b c'")  -- quotes take columns
    ∷ (Some 80, codes "a:", codes "'a:'")  -- key indicator
    ∷ (Some 80, codes "- x", codes "'- x'")  -- entry indicator
    ∷ (Some 80, [], codes "''")  -- nothing quoted
    -- U+2028 is written once
    ∷ (Some 80, separated, codes "'a" ++ 0x2028 ∷ codes "  b'")  -- separator
    ∷ (Some 80, separated_after_break, codes "'a\n\n" ++ 0x2028 ∷ codes "  b'")  -- separator after break
    ∷ (Some 80, separated_before_break, codes "'a" ++ 0x2028 ∷ codes "\n  b'")  -- separator before break
    ∷ [])
single_quoted_roots = refl

-- and each of these reads back

fold_reads : read_plain false false (codes "aaaaaa\n  b") ≡ Some (codes "aaaaaa b")
fold_reads = refl

single_quoted_roots_read : Gives (read_single false) (
    (codes "'a\n\n  b'", Some (codes "a\nb"))  -- one break
    ∷ (codes "'\n\n  '", Some (codes "\n"))  -- break alone
    ∷ (codes "' a\n  b '", Some (codes " a b "))  -- no fold at the ends
    ∷ (codes "''''", Some (codes "'"))  -- quote alone
    ∷ (codes "'a" ++ 0x2028 ∷ codes "  b'", Some separated)  -- separator
    ∷ (codes "'a\n\n" ++ 0x2028 ∷ codes "  b'", Some separated_after_break)  -- separator after break
    ∷ (codes "'a" ++ 0x2028 ∷ codes "\n  b'", Some separated_before_break)  -- separator before break
    ∷ (codes "' '", Some (codes " "))  -- space alone
    ∷ [])
single_quoted_roots_read = refl
