-- The reasons why a text isn't TOML: their words, and what each says of the bytes at its place.
use Rattle.std.specs.Prelude.{ℕ, Bool, true, not, ◌&&◌, ◌||◌, ◌==◌, nat_lt, List, length, slice_index, codes}
use Rattle.std.specs.Char.{is_ascii_digit}
use Rattle.toml_parser.specs.Lexical.{first, is_bare, tab, line_feed, carriage_return, backslash, comma, dash, dot, equals, plus}
use Rattle.toml_parser.specs.Lexical.{left_brace, left_bracket, right_brace, right_bracket}
use Rattle.toml_parser.specs.Lexical as lexical
use Rattle.toml_parser.specs.Strings as strings
use Rattle.toml_parser.specs.declared.error.ErrorKind.{ErrorKind}
use Rattle.toml_parser.specs.declared.error.ErrorKind.TheVariants as kind
use Rattle.toml.specs.Parse as parse
use Rattle.toml_ordered.specs.declared.syntax.SyntaxError.{SyntaxError}
use Rattle.toml_ordered.specs.declared.syntax.SyntaxError.TheVariants as why

abbrev pub words : SyntaxError → List ℕ
words why.Other = codes "not TOML"
words why.Key = codes "expected a key"
words why.KeyOrEnd = codes "expected a key or '}'"
words why.Equals = codes "expected '='"
words why.Value = codes "expected a value"
words why.ItemOrEnd = codes "expected a value or ']'"
words why.LineEnd = codes "expected the end of the line"
words why.Bracket = codes "expected ']'"
words why.CommaOrBracket = codes "expected ',' or ']'"
words why.CommaOrBrace = codes "expected ',' or '}'"
words why.Quote = codes "expected a closing quote"
words why.Quotes = codes "too many quotes"
words why.Escape = codes "invalid escape"
words why.Control = codes "invalid control character"
words why.Return = codes "a carriage return without a line feed"
words why.Number = codes "invalid number"
words why.WideNumber = codes "a number outside 64 bits"
words why.Date = codes "invalid date or time"

-- the reason of an error in a string
abbrev pub string_error : ErrorKind → SyntaxError
string_error kind.String = why.Quote
string_error kind.Escape = why.Escape
string_error _ = why.Other

abbrev pub starts_newline : List ℕ → Bool
starts_newline rest = lexical.starts_newline rest

abbrev pub starts_string : List ℕ → Bool
starts_string rest = strings.starts_string rest

abbrev pub ends_line : List ℕ → Bool
ends_line rest = parse.ends_line rest

-- a carriage return that no line feed follows
abbrev pub is_return : List ℕ → Bool
is_return rest = first rest == carriage_return && not (slice_index rest 1 == line_feed)

-- a control character but a tab
abbrev pub is_control : ℕ → Bool
is_control c = (nat_lt c 32 && not (c == tab)) || c == 127

-- a control character that is no tab and begins no line break
abbrev pub is_stray : List ℕ → Bool
is_stray rest = (nat_lt 0 (length rest) && is_control (first rest)) && not (starts_newline rest)

-- a string, an array or a table in braces begins here
abbrev pub is_opened : List ℕ → Bool
is_opened rest = (starts_string rest || first rest == left_bracket) || first rest == left_brace

-- a digit, a sign or a point
abbrev pub is_numeric : ℕ → Bool
is_numeric c = ((is_ascii_digit c || c == plus) || c == dash) || c == dot

-- what a reason says of the bytes from its place on
abbrev pub holds : SyntaxError → List ℕ → Bool
holds why.Other rest = true
holds why.Key rest = not (is_bare (first rest)) && not (starts_string rest)
holds why.KeyOrEnd rest = (not (is_bare (first rest)) && not (starts_string rest)) && not (first rest == right_brace)
holds why.Equals rest = not (first rest == equals)
holds why.Value rest = not (is_opened rest)
holds why.ItemOrEnd rest = not (is_opened rest) && not (first rest == right_bracket)
holds why.LineEnd rest = not (ends_line rest)
holds why.Bracket rest = not (first rest == right_bracket)
holds why.CommaOrBracket rest = not (first rest == comma) && not (first rest == right_bracket)
holds why.CommaOrBrace rest = not (first rest == comma) && not (first rest == right_brace)
holds why.Quote rest = length rest == 0 || starts_newline rest
holds why.Quotes rest = starts_string rest
holds why.Escape rest = first rest == backslash
holds why.Control rest = is_stray rest
holds why.Return rest = is_return rest
holds why.Number rest = is_numeric (first rest)
holds why.WideNumber rest = is_numeric (first rest)
holds why.Date rest = is_ascii_digit (first rest)
