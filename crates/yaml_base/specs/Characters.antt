-- Texts, the classes of characters (YAML 1.1, sections 5.1 to 5.5) and the escapes of double quotes (YAML 1.1, section 5.6).
use Rattle.std.specs.Prelude.{ℕ, zero, suc, Bool, List, [], ◌∷◌, ◌++◌, ◌==◌, ◌||◌, ◌&&◌, ◌+◌, ◌/◌, ◌%◌, not, nat_le, nat_lt, if◌then◌else◌}
use Rattle.std.specs.List.{list_any}

-- a text is the list of its characters' numbers
abbrev pub Text : Type 0
Text = List ℕ

-- true if a character is one of these
abbrev pub is_among : Text → ℕ → Bool
is_among text character = list_any (λ member. character == member) text

-- true if a character is the first, the last, or one between them
abbrev pub is_between : ℕ → ℕ → ℕ → Bool
is_between first last character = nat_le first character && nat_le character last

-- Characters by their names.
abbrev pub line_feed : ℕ
line_feed = 0xA

abbrev pub carriage_return : ℕ
carriage_return = 0xD

abbrev pub next_line : ℕ
next_line = 0x85

abbrev pub line_separator : ℕ
line_separator = 0x2028

abbrev pub paragraph_separator : ℕ
paragraph_separator = 0x2029

abbrev pub byte_order_mark : ℕ
byte_order_mark = 0xFEFF

abbrev pub space : ℕ
space = 0x20

abbrev pub tab : ℕ
tab = 0x9

abbrev pub backslash : ℕ
backslash = 0x5C

-- true if a character is an ASCII letter or digit, `_` or `-`
abbrev pub is_alpha : ℕ → Bool
is_alpha c = is_between 48 57 c || is_between 65 90 c || is_between 97 122 c || c == 95 || c == 45

-- true up to U+007F
abbrev pub is_ascii : ℕ → Bool
is_ascii c = nat_le c 0x7F

-- true of the space, not of the tab
abbrev pub is_space : ℕ → Bool
is_space c = c == space

-- true of the space and the tab (YAML 1.1, section 5.5)
abbrev pub is_blank : ℕ → Bool
is_blank c = c == space || c == tab

-- true of a line break (YAML 1.1, section 5.4)
abbrev pub is_break : ℕ → Bool
is_break c = c == line_feed || c == carriage_return || c == next_line || c == line_separator || c == paragraph_separator

-- true of the byte order mark (YAML 1.1, section 5.2)
abbrev pub is_bom : ℕ → Bool
is_bom c = c == byte_order_mark

-- true if a character may be itself in a text; a tab, CR and U+0085 may not
abbrev pub is_printable : ℕ → Bool
is_printable c =
    c == line_feed
    || is_between 0x20 0x7E c
    || is_between 0xA0 0xD7FF c
    || (is_between 0xE000 0xFFFD c && not (is_bom c))
    || is_between 0x10000 0x10FFFF c

-- an upper-case hexadecimal digit
abbrev pub hex_digit : ℕ → ℕ
hex_digit d = if nat_lt d 10 then 48 + d else 55 + d

-- that many of a number's hexadecimal digits, the last ones
abbrev pub hex_digits : ℕ → ℕ → Text
hex_digits zero n = []
hex_digits (suc count) n = hex_digits count (n / 16) ++ hex_digit (n % 16) ∷ []
