-- The styles that a scalar's value allows, as tests on the whole value.
-- Source, unless a definition names its own: libyaml's emitter, in this project's form.
use Rattle.std.specs.Prelude.{ℕ, Bool, true, false, [], ◌∷◌, ◌==◌, ◌||◌, ◌&&◌, not, codes}
use Rattle.std.specs.List.{list_any}
use Rattle.yaml_base.specs.Characters.{Text, is_among, is_ascii, is_blank, is_break, is_printable, is_space, line_separator, paragraph_separator, tab}
use Rattle.yaml_base.specs.declared.scalars.Charset as declared
use Rattle.yaml_base.specs.declared.scalars.scalar_data_t.{scalar_data_t}

-- the characters that may be written as themselves (libyaml's emitter; `breaks12` is this project's)
abbrev pub Charset : Type 0
Charset = declared.Charset

-- the styles that a value allows, and whether it holds a break
abbrev pub Allowances : Type 0
Allowances = scalar_data_t

-- true if some character, seen together with the text after it, meets the test
abbrev pub somewhere : (ℕ → Text → Bool) → Text → Bool
somewhere test [] = false
somewhere test (c ∷ rest) = test c rest || somewhere test rest

-- true if there is a first character and it meets the test
abbrev pub begins_with : (ℕ → Bool) → Text → Bool
begins_with test [] = false
begins_with test (c ∷ rest) = test c

-- true if the text holds no character
abbrev pub is_empty : Text → Bool
is_empty [] = true
is_empty (c ∷ rest) = false

-- true of a blank, a break or NUL
abbrev pub is_gap : ℕ → Bool
is_gap c = is_blank c || is_break c || c == 0

-- true at the end of a text and before a gap
abbrev pub ends_word : Text → Bool
ends_word rest = is_empty rest || begins_with is_gap rest

-- true of a character that can't be itself in a text of this charset, so that only double quotes can write it (libyaml's emitter;
-- `breaks12` is this project's)
abbrev pub is_special : Charset → ℕ → Bool
is_special charset c =
    not (is_printable c)
    || (not charset.unicode && not (is_ascii c))
    || (charset.breaks12 && (c == line_separator || c == paragraph_separator))

-- true if a text begins with `---` or `...` (libyaml's emitter, for YAML 1.1, section 7.2 Document Boundary Markers, c-document-start,
-- c-document-end)
abbrev pub begins_like_marker : Text → Bool
begins_like_marker (a ∷ b ∷ c ∷ rest) = (a == 45 || a == 46) && b == a && c == a
begins_like_marker _ = false

-- true of a first character that has another meaning to a reader of plain text (YAML 1.1, section 5.3 Indicator Characters, c-indicator;
-- without `-`, `?` and `:`)
abbrev pub is_indicator : ℕ → Bool
is_indicator c = is_among (codes "#,[]{}&*!|>'\"%@`") c

-- true if the value begins as no plain text may: with a space, a mark, an indicator, or `?`, `:`, `-` by itself (libyaml's emitter, for
-- YAML 1.1, section 9.1.3 Plain, ns-plain-first-char(c))
abbrev pub begins_unlike_plain : Text → Bool
begins_unlike_plain [] = false
begins_unlike_plain (c ∷ rest) =
    is_space c
    || begins_like_marker (c ∷ rest)
    || is_indicator c
    || (is_among (codes "?:-") c && ends_word rest)

-- true of `:` before a gap or the end, and of a gap before `#` (libyaml's emitter, for YAML 1.1, section 9.1.3 Plain, ns-plain-char(c))
abbrev pub is_key_or_comment : ℕ → Text → Bool
is_key_or_comment c rest = (c == 58 && ends_word rest) || (is_gap c && begins_with (λ d. d == 35) rest)

-- true if a character bars plain: a special character, a break, a last space, a key or comment indicator; in flow also a flow indicator
-- (libyaml's emitter, for YAML 1.1, section 9.1.3 Plain, ns-plain(n,c))
abbrev pub bars_plain : Charset → Bool → ℕ → Text → Bool
bars_plain charset flow c rest =
    is_special charset c
    || is_break c
    || (is_space c && is_empty rest)
    || is_key_or_comment c rest
    || (flow && is_among (codes ",?:[]{}") c)

-- true of a space before a break
abbrev pub is_trailing_space : ℕ → Text → Bool
is_trailing_space c rest = is_space c && begins_with is_break rest

-- true if a character bars single quotes: a special character, or a space next to a break
abbrev pub bars_single_quoted : Charset → ℕ → Text → Bool
bars_single_quoted charset c rest =
    is_special charset c || is_trailing_space c rest || (is_break c && begins_with is_space rest)

-- true if a character bars both block styles: a special character, a last space, or a space before a break
abbrev pub bars_block : Charset → ℕ → Text → Bool
bars_block charset c rest =
    is_special charset c || is_trailing_space c rest || (is_space c && is_empty rest)

-- true of a special character other than a tab
abbrev pub is_special_but_tab : Charset → ℕ → Bool
is_special_but_tab charset c = not (c == tab) && is_special charset c

-- true if a text is blanks alone up to the end of its line
abbrev pub is_blank_to_line_end : Text → Bool
is_blank_to_line_end [] = true
is_blank_to_line_end (c ∷ rest) = is_break c || (is_blank c && is_blank_to_line_end rest)

-- true if the line that begins here is blanks alone, and isn't empty
abbrev pub begins_with_blanks_alone : Text → Bool
begins_with_blanks_alone [] = false
begins_with_blanks_alone (c ∷ rest) = is_blank c && is_blank_to_line_end rest

-- true if a character bars literal when blanks are literal: a special character other than a tab, or a break before a nonempty line of
-- blanks alone (this project)
abbrev pub bars_literal : Charset → ℕ → Text → Bool
bars_literal charset c rest = is_special_but_tab charset c || (is_break c && begins_with_blanks_alone rest)

-- true if a value may be plain, in flow or in a block; in a block the empty value may
abbrev pub allows_plain : Charset → Bool → Text → Bool
allows_plain charset flow value =
    not (is_empty value && flow) && not (begins_unlike_plain value || somewhere (bars_plain charset flow) value)

-- true if a value may be in single quotes; the empty value may
abbrev pub allows_single_quoted : Charset → Text → Bool
allows_single_quoted charset value = not (somewhere (bars_single_quoted charset) value)

-- true if a value may be literal and folded; the empty value may not
abbrev pub allows_block : Charset → Text → Bool
allows_block charset value = not (is_empty value || somewhere (bars_block charset) value)

-- true if a value may be literal when blanks are literal: also with tabs, and with spaces before a break and at the end; the empty value
-- may not (this project)
abbrev pub allows_literal : Charset → Text → Bool
allows_literal charset value =
    not (is_empty value || begins_with_blanks_alone value || somewhere (bars_literal charset) value)

-- all of these but the last, for one value
abbrev pub allowances : Charset → Text → Allowances
allowances charset value =
    record {
      multiline = list_any is_break value;
      flow_plain_allowed = allows_plain charset true value;
      block_plain_allowed = allows_plain charset false value;
      single_quoted_allowed = allows_single_quoted charset value;
      block_allowed = allows_block charset value;
    }
