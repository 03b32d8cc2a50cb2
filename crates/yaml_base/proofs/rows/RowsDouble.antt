-- Worked double-quoted scalars, written and read back: each escape, the borders of the escapes' lengths, folds.
use Rattle.yaml_base.proofs.Common.{ℕ, Option, None, Some, codes, Bool, false, true, List, [], ◌++◌, ◌∷◌, refl, ◌≡◌, Text, first_cursor, read_double}
use Rattle.yaml_base.{proofs.rows.Cases.Gives, proofs.rows.Cases.GivesOfTwo, proofs.rows.Cases.ReadBack, specs.scalars.DoubleQuoted.render_double_quoted}

-- a text between two quotes
abbrev in_quotes : Text → Text
in_quotes text = codes "\"" ++ text ++ codes "\""

-- as a text's root, without a width
abbrev written : Bool → Text → Text
written unicode value = (render_double_quoted unicode None 2 value first_cursor).text

abbrev written_within : ℕ → Text → Text
written_within width value = (render_double_quoted false (Some width) 2 value first_cursor).text

abbrev read : Text → Option Text
read text = read_double false text

abbrev only : ℕ → Text
only c = c ∷ []

-- whether characters past ASCII stay, a text, and its written form, which reads back
abbrev escapes : List (Bool × Text × Text)
escapes =
    (true, only 0x0, in_quotes (codes "\\0"))  -- nul
    ∷ (true, only 0x7, in_quotes (codes "\\a"))  -- bell
    ∷ (true, only 0x8, in_quotes (codes "\\b"))  -- backspace
    ∷ (true, only 0x9, in_quotes (codes "\\t"))  -- tab
    ∷ (true, only 0xA, in_quotes (codes "\\n"))  -- line feed
    ∷ (true, only 0xB, in_quotes (codes "\\v"))  -- vertical tab
    ∷ (true, only 0xC, in_quotes (codes "\\f"))  -- form feed
    ∷ (true, only 0xD, in_quotes (codes "\\r"))  -- carriage return
    ∷ (true, only 0x1B, in_quotes (codes "\\e"))  -- escape
    ∷ (true, only 0x22, in_quotes (codes "\\\""))  -- quote
    ∷ (true, only 0x5C, in_quotes (codes "\\\\"))  -- backslash
    ∷ (true, only 0x85, in_quotes (codes "\\N"))  -- next line
    ∷ (false, only 0xA0, in_quotes (codes "\\_"))  -- no break space
    ∷ (true, only 0x2028, in_quotes (codes "\\L"))  -- line separator
    ∷ (true, only 0x2029, in_quotes (codes "\\P"))  -- paragraph separator
    ∷ []

escapes_written : GivesOfTwo written escapes
escapes_written = refl

escapes_read : ReadBack read escapes
escapes_read = refl

-- the borders of two, four and eight digits, and characters that are never kept
abbrev borders : List (Bool × Text × Text)
borders =
    (false, only 0xFF, in_quotes (codes "\\xFF"))  -- last of two
    ∷ (false, only 0x100, in_quotes (codes "\\u0100"))  -- first of four
    ∷ (false, only 0xFFFF, in_quotes (codes "\\uFFFF"))  -- last of four
    ∷ (false, only 0x10000, in_quotes (codes "\\U00010000"))  -- first of eight
    ∷ (false, only 0x10FFFF, in_quotes (codes "\\U0010FFFF"))  -- last of all
    ∷ (false, only 0xFEFF, in_quotes (codes "\\uFEFF"))  -- open ended
    ∷ (false, only 0xFFFE, in_quotes (codes "\\uFFFE"))  -- no character
    ∷ (false, only 0x7F, in_quotes (codes "\\x7F"))  -- delete
    ∷ (true, only 0xFEFF, in_quotes (codes "\\uFEFF"))  -- open ended even with unicode
    ∷ (true, only 0xFFFE, in_quotes (codes "\\uFFFE"))  -- no character even with unicode
    ∷ (true, only 0xFFFF, in_quotes (codes "\\uFFFF"))  -- last of four even with unicode
    ∷ (true, only 0xFF, in_quotes (only 0xFF))  -- last of two kept
    ∷ (true, only 0x100, in_quotes (only 0x100))  -- first of four kept
    ∷ (true, only 0x10000, in_quotes (only 0x10000))  -- first of eight kept
    ∷ (true, only 0x10FFFF, in_quotes (only 0x10FFFF))  -- last of all kept
    ∷ []

borders_written : GivesOfTwo written borders
borders_written = refl

borders_read : ReadBack read borders
borders_read = refl

-- folds
folds_written : Gives (written_within 5) (
    (codes "aaaaaa  b", codes "\"aaaaaa\n  \\ b\"")  -- two spaces
    ∷ (codes "aaaaaa b cccc d", codes "\"aaaaaa\n  b cccc\n  d\"")  -- one space
    -- the width itself isn't passed
    ∷ (codes "aaaa bb", codes "\"aaaa bb\"")  -- at the width
    -- the last character and the first stay
    ∷ (codes "aaaaaa ", codes "\"aaaaaa \"")  -- last space
    ∷ (codes "aaaaaa  ", codes "\"aaaaaa\n  \\ \"")  -- last spaces
    ∷ [])
folds_written = refl

folds_read : Gives read (
    (codes "\"aaaaaa\n  \\ b\"", Some (codes "aaaaaa  b"))  -- two spaces
    ∷ (codes "\"aaaaaa\n  b cccc\n  d\"", Some (codes "aaaaaa b cccc d"))  -- one space
    ∷ [])
folds_read = refl

first-space : (render_double_quoted false (Some 5) 2 (codes " a") (record first_cursor { column = 7 })).text ≡ codes "\" a\""
first-space = refl

-- a space goes before the quote if none precedes
lead : (render_double_quoted false None 2 (codes "a") (record first_cursor { whitespace = false })).text ≡ codes " \"a\""
lead = refl

many : written false (codes "\0\u{7}\"\\" ++ (0x85 ∷ 0x7F ∷ [])) ≡ codes "\"\\0\\a\\\"\\\\\\N\\x7F\""
many = refl

-- texts that are read and aren't written
other_texts_read : Gives read (
    (codes "\"a \t\n  b\"", Some (codes "a b"))  -- literal blanks before a break
    ∷ (codes "\"a\n\n  b\"", Some (codes "a\nb"))  -- two breaks
    ∷ (codes "\"\\U00000061\"", Some (codes "a"))  -- long form
    -- texts that have no reading: no quotes, an open quote, more after the quote, an unknown letter, a backslash before a break or a tab, lower-case
    -- digits, too few digits, no character's number
    ∷ (codes "a", None)  -- no quotes
    ∷ (codes "\"a", None)  -- open quote
    ∷ (codes "\"a\"b\"", None)  -- more after it
    ∷ (codes "\"\\q\"", None)  -- unknown letter
    ∷ (codes "\"a\\\nb\"", None)  -- backslash break
    ∷ (codes "\"a\\\tb\"", None)  -- backslash tab
    ∷ (codes "\"\\xff\"", None)  -- lower case
    ∷ (codes "\"\\u00F\"", None)  -- few digits
    ∷ (codes "\"\\uD800\"", None)  -- surrogate
    ∷ (codes "\"\\U00110000\"", None)  -- past the last
    ∷ [])
other_texts_read = refl
