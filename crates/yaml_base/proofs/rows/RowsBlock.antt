-- Worked literal and folded scalars: their rendered text, and that each is read back.
use Rattle.yaml_base.proofs.Common.{ℕ, Option, None, Some, codes, false, true, [], ◌++◌, ◌∷◌, refl, ◌≡◌, Text, line_separator, first_cursor}
use Rattle.yaml_base.proofs.Common.{with_breaks_written, with_line_breaks_read, both_break, read_block}
use Rattle.yaml_base.specs.scalars.{BlockHeader.header_open_ended, Folded.folded_body, Folded.render_folded, Literal.literal_body, Literal.render_literal}
use Rattle.yaml_base.proofs.rows.Cases.{Gives, GivesOfThree, GivesOfTwo}

-- at the root of a stream, with an indent of 2
abbrev literal_text : Text → Text
literal_text value = (literal_body 2 2 value first_cursor).text

abbrev folded_text : Option ℕ → Text → Text
folded_text limit value = (folded_body limit 2 2 value first_cursor).text

abbrev read_root : Text → Option Text
read_root text = read_block false None text

-- U+2028 between two texts
abbrev separated : Text → Text → Text
separated before after = before ++ line_separator ∷ after

literal_texts : Gives literal_text (
    (codes "a\n\n", codes "|+\n  a\n\n")  -- two breaks
    ∷ (codes "\n", codes "|2+\n\n")  -- break alone
    ∷ [])
literal_texts = refl

literal_texts_read : Gives read_root (
    (codes "|+\n  a\n\n", Some (codes "a\n\n"))  -- two breaks
    ∷ (codes "|2+\n\n", Some (codes "\n"))  -- break alone
    ∷ (codes ">\n  a\n\n  b\n\n   c\n", Some (codes "a\nb\n\n c\n"))  -- spaced line
    ∷ (codes ">2-\n   aaaaaa b", Some (codes " aaaaaa b"))  -- unfolded line
    ∷ [])
literal_texts_read = refl

folded_texts : GivesOfTwo folded_text (
    (Some 80, codes "a\nb\n\n c\n", codes ">\n  a\n\n  b\n\n   c\n")  -- spaced line
    ∷ (Some 5, codes " aaaaaa b", codes ">2-\n   aaaaaa b")  -- unfolded line
    ∷ [])
folded_texts = refl

-- an item of a block sequence: the entries of the enclosing block are at column 0
item : (render_literal 2 2 (codes " a") (record { column = 1; whitespace = false; indention = true })).text ≡ codes " |2-\n   a"
item = refl

items_read : GivesOfThree read_block (
    (false, Some 0, codes "|2-\n   a", Some (codes " a"))  -- item
    -- with the line breaks of YAML 1.2, U+2028 is an ordinary character
    ∷ (true, None, separated (codes "|\n  a") (codes "b\n"), Some (separated (codes "a") (codes "b\n")))  -- separator ordinary
    ∷ [])
items_read = refl

folded_separators : GivesOfTwo folded_text (
    (Some 80, separated (codes "a\n") (codes "b"), separated (codes ">-\n  a\n\n") (codes "  b"))  -- break then separator
    ∷ (Some 80, separated (codes "a") (codes "\nb"), separated (codes ">-\n  a") (codes "\n  b"))  -- separator then break
    ∷ (Some 80, codes "\n\n", codes ">2+\n\n\n")  -- breaks alone
    ∷ (Some 80, codes "\n a", codes ">2-\n\n   a")  -- break first
    ∷ (Some 5, codes "aaaaaa  b", codes ">-\n  aaaaaa \n  b")  -- two spaces
    ∷ (Some 80, codes "\na\n", codes ">2\n\n  a\n")  -- break before line
    ∷ [])
folded_separators = refl

block_texts_read : Gives read_root (
    (separated (codes ">-\n  a\n\n") (codes "  b"), Some (separated (codes "a\n") (codes "b")))  -- break then separator
    ∷ (separated (codes ">-\n  a") (codes "\n  b"), Some (separated (codes "a") (codes "\nb")))  -- separator then break
    ∷ (with_line_breaks_read (codes "|\r\n  a\r\n"), Some (codes "a\n"))  -- both breaks
    ∷ (codes ">2+\n\n\n", Some (codes "\n\n"))  -- breaks alone
    ∷ (codes ">2-\n\n   a", Some (codes "\n a"))  -- break first
    ∷ (codes ">-\n  aaaaaa \n  b", Some (codes "aaaaaa  b"))  -- two spaces
    ∷ (codes ">2\n\n  a\n", Some (codes "\na\n"))  -- break before line
    -- texts that are read and never written: a sign before less indented lines, a digit that is too large, no break after the header, contents of
    -- blanks alone
    ∷ (codes "|\n  a\n b\n", None)  -- too few spaces
    ∷ (codes "|3\n  a\n", None)  -- digit too large
    ∷ (codes "|-", None)  -- no break
    ∷ (codes "a", None)  -- not block
    ∷ (codes ">\n", Some [])  -- header alone
    ∷ (codes "|\n\n\n", Some [])  -- breaks clipped
    ∷ (codes ">\n a\n \tb\n c\n", Some (codes "a\n\tb\nc\n"))  -- tabs keep breaks
    ∷ [])
block_texts_read = refl

both-breaks-written : with_breaks_written both_break (literal_text (codes "a\n")) ≡ codes "|\r\n  a\r\n"
both-breaks-written = refl

-- the cursor after the text, and the open-ended state
after-literal : (render_literal 4 2 (codes "a\nbc") first_cursor).cursor ≡ record { column = 6; whitespace = true; indention = false }
after-literal = refl

after-break : (render_folded (Some 80) 4 2 (codes "a\nb\n") first_cursor).cursor ≡ record { column = 0; whitespace = true; indention = true }
after-break = refl

open_ended_headers : Gives header_open_ended (
    (codes "a\n\n", 2)  -- open ended of two breaks
    ∷ (codes "\n", 2)  -- open ended of break alone
    ∷ (codes "a\n", 0)  -- open ended of one break
    ∷ [])
open_ended_headers = refl
