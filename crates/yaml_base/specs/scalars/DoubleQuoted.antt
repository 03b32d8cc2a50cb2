-- The layout of a double-quoted scalar.
-- Source, unless a definition names its own: libyaml's emitter.
use Rattle.std.specs.Prelude.{ℕ, Bool, true, false, Option, None, Some, List, [], ◌∷◌, ◌==◌, ◌||◌, ◌&&◌, not, nat_le, if◌then◌else◌}
use Rattle.yaml_base.specs.Characters.{Text, hex_digits, is_ascii, is_break, is_printable, is_space, backslash}
use Rattle.yaml_base.specs.Cursor.{Cursor, Rendered, indicator, is_past_width, new_line, render_nothing, space_if, render_text, render_then}

-- U+0022 (YAML 1.1, section 5.3 Indicator Characters, c-double-quote)
abbrev pub quote : ℕ
quote = 0x22

-- a character that has an escape of one letter (YAML 1.1, section 5.6 Escape Sequences, ns-esc-null to ns-esc-paragraph-separator)
pub record ShortEscape : Type 0 where
  pub character : ℕ
  pub letter : ℕ

-- an entry of the table below
abbrev pub short : (character letter : ℕ) → ShortEscape
short character letter = record { character = character; letter = letter }

-- NUL, bell, backspace, tab, LF, vertical tab, form feed, CR, escape, the quote, the backslash, U+0085,
-- U+00A0, U+2028 and U+2029 (YAML 1.1, section 5.6 Escape Sequences, ns-esc-null to ns-esc-paragraph-separator)
abbrev pub short_escapes : List ShortEscape
short_escapes =
    short 0 48 ∷ short 7 97 ∷ short 8 98 ∷ short 9 116 ∷ short 0xA 110 ∷ short 0xB 118 ∷ short 0xC 102
    ∷ short 0xD 114 ∷ short 0x1B 101 ∷ short 0x22 0x22 ∷ short 0x5C 0x5C ∷ short 0x85 78 ∷ short 0xA0 95
    ∷ short 0x2028 76 ∷ short 0x2029 80 ∷ []

-- the letter of a character that the table holds
abbrev pub letter_among : List ShortEscape → ℕ → Option ℕ
letter_among [] c = None
letter_among (entry ∷ more) c = if c == entry.character then Some entry.letter else letter_among more c

-- the text after the backslash: a letter alone, or `x`, `u`, `U` and two, four, eight digits, the fewest that suffice (YAML 1.1, section
-- 5.6 Escape Sequences, ns-esc-8-bit, ns-esc-16-bit, ns-esc-32-bit; the fewest is libyaml's rule)
abbrev pub escape_after_backslash : Option ℕ → ℕ → Text
escape_after_backslash (Some letter) c = letter ∷ []
escape_after_backslash None c =
    if nat_le c 0xFF then 120 ∷ hex_digits 2 c else (if nat_le c 0xFFFF then 117 ∷ hex_digits 4 c else 85 ∷ hex_digits 8 c)

-- an escape: a backslash and the text after it (YAML 1.1, section 5.6 Escape Sequences, ns-esc-char)
abbrev pub escape_text : ℕ → Text
escape_text c = backslash ∷ escape_after_backslash (letter_among short_escapes c) c

-- true of a character that needs an escape: unprintable, past ASCII if that isn't kept, a break, the quote or the backslash
abbrev pub needs_escape : Bool → ℕ → Bool
needs_escape unicode c =
    not (is_printable c) || (not unicode && not (is_ascii c)) || is_break c || c == quote || c == backslash

-- a character as an escape, or as itself (YAML 1.1, section 9.1.1 Double Quoted, nb-double-char)
abbrev pub character_text : Bool → ℕ → Text
character_text unicode c = if needs_escape unicode c then escape_text c else c ∷ []

-- true if there is a character and it is no space
abbrev pub is_some_non_space : Option ℕ → Bool
is_some_non_space None = false
is_some_non_space (Some c) = not (is_space c)

-- true if a space may be a fold: it is the first of a run, and neither the value's first character nor its last
abbrev pub may_fold : (before : Option ℕ) → (rest : Text) → Bool
may_fold before [] = false
may_fold before (c ∷ rest) = is_some_non_space before

-- a backslash that keeps the space after a fold, if one follows (YAML 1.1, section 5.6 Escape Sequences, ns-esc-space)
abbrev pub space_kept : Text → Text
space_kept [] = []
space_kept (c ∷ rest) = if is_space c then backslash ∷ [] else []

-- a new line in place of a space
abbrev pub double_fold : (indent : ℕ) → (rest : Text) → Cursor → Rendered
double_fold indent rest cursor = render_then (new_line indent cursor) (render_text (space_kept rest))

-- one character of the value, after another or at its start, before the rest
abbrev pub double_character :
    (unicode : Bool) → (limit : Option ℕ) → (indent : ℕ) → (before : Option ℕ) → ℕ → (rest : Text) → Cursor → Rendered
double_character unicode limit indent before c rest cursor =
    if is_space c && may_fold before rest && is_past_width limit cursor
    then double_fold indent rest cursor
    else render_text (character_text unicode c) cursor

-- one character after another
abbrev pub double_inside :
    (unicode : Bool) → (limit : Option ℕ) → (indent : ℕ) → (before : Option ℕ) → (value : Text) → Cursor → Rendered
double_inside unicode limit indent before [] cursor = render_nothing cursor
double_inside unicode limit indent before (c ∷ rest) cursor =
    render_then
    (double_character unicode limit indent before c rest cursor)
    (double_inside unicode limit indent (Some c) rest)

-- a quote, from which the cursor's flags are off (YAML 1.1, section 5.3 Indicator Characters, c-double-quote)
abbrev pub render_quote : Cursor → Rendered
render_quote cursor = indicator (quote ∷ []) false false false cursor

-- from quote to quote (YAML 1.1, section 9.1.1 Double Quoted, c-double-quoted(n,c))
abbrev pub double_quoted_body : (unicode : Bool) → (limit : Option ℕ) → (indent : ℕ) → (value : Text) → Cursor → Rendered
double_quoted_body unicode limit indent value cursor =
    render_then
    (render_then (render_quote cursor) (double_inside unicode limit indent None value))
    render_quote

-- a space before it, if none precedes
abbrev pub render_double_quoted : (unicode : Bool) → (limit : Option ℕ) → (indent : ℕ) → (value : Text) → Cursor → Rendered
render_double_quoted unicode limit indent value cursor =
    render_then (render_text (space_if true cursor) cursor) (double_quoted_body unicode limit indent value)
