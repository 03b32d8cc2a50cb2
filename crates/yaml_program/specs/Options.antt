-- The meaning of the options.
use Rattle.std.specs.Prelude.{◌≡◌, ℕ, ◌<◌, ◌^◌, ℤ, Bool, true, false, List, [], Option, None, Some, FitsSigned, codes, option_map, unwrap_or}
use mir.Syntax.{w32}
use Rattle.std.specs.Str.Parse.{IsNumeral, digits_value, signed_digits_value, without_leading_plus, without_leading_sign}
use Rattle.clap.specs.Words.{first_value, found_of, matched_of, one_text, raw_values}
use Rattle.clap.specs.declared.parser.matches.ArgMatches.{ArgMatches}
use Rattle.yaml_base.specs.Seen.{seen_break, seen_encoding}
use Rattle.yaml_base.specs.Settings.{Encoding, LineBreak, both_break, carriage_return_break, line_feed_break, utf16_big, utf16_little, utf8}
use Rattle.yaml_emitter.specs.Given.{is_double}
use Rattle.yaml_emitter.specs.declared.settings.Settings.{Settings}
use Rattle.yaml_writer.specs.Given.{given_for_values}
use Rattle.yaml_writer.specs.declared.settings.ValueSettings.{ValueSettings}

-- The text of an option's value, if it has one.
abbrev pub value_of : ArgMatches → List ℕ → Option (List ℕ)
value_of matches name = one_text (found_of matches) name

-- True if the setting of an option without a value is on if it was given, and off if it wasn't.
abbrev pub IsOn : Option (List ℕ) → Bool → Type 0
IsOn value on =
    (value ≡ None → on ≡ false) × (value ≡ Some (codes "false") → on ≡ false) × (value ≡ Some (codes "true") → on ≡ true)

-- True if the setting is off if the option was given, and on if it wasn't.
abbrev pub IsOff : Option (List ℕ) → Bool → Type 0
IsOff value on =
    (value ≡ None → on ≡ true) × (value ≡ Some (codes "false") → on ≡ true) × (value ≡ Some (codes "true") → on ≡ false)

-- True if the number is the default if the option wasn't given, and else the one that its text spells in decimal digits, with or
-- without a sign before them.
abbrev pub IsNumberOf : Option (List ℕ) → (default number : Option ℤ) → Type 0
IsNumberOf value default number =
    (value ≡ None → number ≡ default)
    × ((text : List ℕ) → value ≡ Some text → IsNumeral 10 (without_leading_sign text) → FitsSigned w32 (signed_digits_value 10 text)
    → number ≡ Some (signed_digits_value 10 text))

-- The same of a count, which has a default.
abbrev pub IsCountOf : Option (List ℕ) → (default count : ℕ) → Type 0
IsCountOf value default count =
    (value ≡ None → count ≡ default)
    × ((text : List ℕ) → value ≡ Some text → IsNumeral 10 (without_leading_plus text) → digits_value 10 (without_leading_plus text) < 2 ^ 64
    → count ≡ digits_value 10 (without_leading_plus text))

-- True if the encoding is the one that the option names, and none is asked for if it wasn't given.
abbrev pub IsEncodingOf : Option (List ℕ) → Option Encoding → Type 0
IsEncodingOf value encoding =
    (value ≡ None → encoding ≡ None)
    × (value ≡ Some (codes "utf-8") → encoding ≡ Some utf8)
    × (value ≡ Some (codes "utf-16le") → encoding ≡ Some utf16_little)
    × (value ≡ Some (codes "utf-16be") → encoding ≡ Some utf16_big)

-- The same of a line break.
abbrev pub IsBreakOf : Option (List ℕ) → Option LineBreak → Type 0
IsBreakOf value line_break =
    (value ≡ None → line_break ≡ None)
    × (value ≡ Some (codes "lf") → line_break ≡ Some line_feed_break)
    × (value ≡ Some (codes "cr") → line_break ≡ Some carriage_return_break)
    × (value ≡ Some (codes "crlf") → line_break ≡ Some both_break)

-- True if each of the emitter's settings is the one that the options ask for.
pub record AreWriterSettings (matches : ArgMatches) (settings : Settings) : Type 0 where
  pub encoding : IsEncodingOf (first_value (found_of matches) (codes "encoding")) (seen_encoding settings.encoding)
  pub canonical : IsOn (value_of matches (codes "canonical")) settings.canonical
  pub unicode : IsOff (value_of matches (codes "no-unicode")) settings.unicode
  pub quotes : IsOn (value_of matches (codes "double-quotes")) (is_double settings.quotes)
  pub indent : IsNumberOf (value_of matches (codes "indent")) None settings.indent
  pub width : IsNumberOf (value_of matches (codes "width")) given_for_values.width settings.width
  pub line_break : IsBreakOf (first_value (found_of matches) (codes "line-break")) (seen_break settings.line_break)
  pub breaks : IsOn (value_of matches (codes "no-document-start")) settings.line_breaks_1_2
  pub portable : settings.line_breaks_1_2 ≡ false → IsOff (value_of matches (codes "no-portable")) settings.portable
  pub left : settings.line_breaks_1_2 ≡ true → settings.portable ≡ false
  pub sequences : IsOff (value_of matches (codes "no-indented-sequences")) settings.indented_sequences
  pub blanks : IsOff (value_of matches (codes "no-literal-blanks")) settings.literal_blanks
  pub limit : IsCountOf (value_of matches (codes "limit")) given_for_values.limit settings.limit

-- True if the settings for writing values are those that the options ask for.
pub record AreValueSettings (matches : ArgMatches) (settings : ValueSettings) : Type 0 where
  pub emitter : AreWriterSettings matches settings.emitter
  pub flow : IsOn (value_of matches (codes "flow")) settings.flow
  pub depth : IsCountOf (value_of matches (codes "depth")) 1000 settings.depth

-- The files that are named, in order.
abbrev pub files_named : ArgMatches → List (List ℕ)
files_named matches = unwrap_or (option_map raw_values (matched_of (found_of matches) (codes "files"))) []
