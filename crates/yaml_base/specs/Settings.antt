-- The settings that a caller gives, and those that result at the stream's start (libyaml's own rules).
use Rattle.std.specs.Prelude.{ℕ, ℤ, pos, Bool, false, Option, None, Some, ◌==◌, ◌||◌, ◌&&◌, ◌*◌, nat_le, if◌then◌else◌, unwrap_or}

-- the largest `i32`, which as a width means no limit
abbrev pub largest_i32 : ℕ
largest_i32 = 2147483647

-- the largest `usize`, which as a limit of the output's bytes means none
abbrev pub largest_usize : ℕ
largest_usize = 18446744073709551615

-- the encoding of characters as bytes (YAML 1.1, section 5.2)
pub data Encoding : Type 0 where
  utf8 : Encoding
  utf16_little : Encoding
  utf16_big : Encoding

-- the break that ends a line (YAML 1.1, section 5.4)
pub data LineBreak : Type 0 where
  carriage_return_break : LineBreak
  line_feed_break : LineBreak
  both_break : LineBreak

-- the last value given to each setter; none if it wasn't called or was given ANY
pub record Settings : Type 0 where
  pub encoding : Option Encoding
  pub canonical : Bool
  pub unicode : Bool
  pub double_quotes : Bool
  pub indent : Option ℤ
  pub width : Option ℤ
  pub line_break : Option LineBreak
  pub breaks12 : Bool
  pub portable : Bool
  pub indented_sequences : Bool
  pub literal_blanks : Bool
  pub limit : ℕ

-- the settings before any setter is called
abbrev pub nothing_given : Settings
nothing_given =
    record {
      encoding = None;
      canonical = false;
      unicode = false;
      double_quotes = false;
      indent = None;
      width = None;
      line_break = None;
      breaks12 = false;
      portable = false;
      indented_sequences = false;
      literal_blanks = false;
      limit = largest_usize;
    }

-- the settings that the layout follows; without a width there is no limit
pub record Effective : Type 0 where
  pub encoding : Encoding
  pub canonical : Bool
  pub unicode : Bool
  pub double_quotes : Bool
  pub indent : ℕ
  pub width : Option ℕ
  pub line_break : LineBreak
  pub breaks12 : Bool
  pub portable : Bool
  pub indented_sequences : Bool
  pub literal_blanks : Bool
  pub limit : ℕ

-- the indent in force: 2 to 9 is kept, any other becomes 2
abbrev pub effective_indent : Option ℤ → ℕ
effective_indent (Some (pos n)) = if nat_le 2 n && nat_le n 9 then n else 2
effective_indent _ = 2

-- the width in force: a negative one and the largest `i32` mean no limit; a width of at most twice the indent becomes 80
abbrev pub effective_width : Option ℤ → ℕ → Option ℕ
effective_width None indent = Some 80
effective_width (Some (pos n)) indent =
    if n == largest_i32 then None else Some (if nat_le n (2 * indent) then 80 else n)
effective_width (Some _) indent = None

-- the encoding in force: the emitter's, else the stream's, else UTF-8
abbrev pub effective_encoding : Option Encoding → Option Encoding → Encoding
effective_encoding (Some own) of_stream = own
effective_encoding None of_stream = unwrap_or of_stream utf8

-- the settings in force, from those that were given and the stream's encoding
abbrev pub effective : Settings → Option Encoding → Effective
effective given of_stream =
    let indent = effective_indent given.indent in
    record {
      encoding = effective_encoding given.encoding of_stream;
      canonical = given.canonical;
      unicode = given.unicode;
      double_quotes = given.double_quotes;
      indent = indent;
      width = effective_width given.width indent;
      line_break = unwrap_or given.line_break line_feed_break;
      breaks12 = given.breaks12;
      portable = given.portable;
      indented_sequences = given.indented_sequences;
      literal_blanks = given.literal_blanks;
      limit = given.limit;
    }

-- true if U+2028 and U+2029 are escaped: with the line breaks of YAML 1.2, and in portable mode, since readers of YAML 1.2 take them for
-- text
abbrev pub escapes_separators : Effective → Bool
escapes_separators s = s.breaks12 || s.portable
