-- The settings of an emitter that a C program's settings ask for.
use Rattle.std.specs.Prelude.{ℕ, ℤ, pos, negsuc, Option, None, Some, ◌==◌, if◌then◌else◌}
use Rattle.yaml_base.specs.Settings.{Settings, Encoding, LineBreak, largest_usize}
use Rattle.yaml_writer.specs.Given.{given_for_values}
use Rattle.yaml_c.specs.Arena.{is_off, is_on}
use Rattle.yaml_c.specs.EventRecords.{encoding_numbered, break_numbered}
use Rattle.yaml_c.specs.declared.settings.EmitterSettings.{EmitterSettings}
use Rattle.yaml_c.specs.declared.settings.ValueOptions.{ValueOptions}

-- The limit; 0 is none.
abbrev pub limit_given : ℕ → ℕ
limit_given limit = if limit == 0 then largest_usize else limit

-- The settings, if encoding and line break have a reading.
abbrev pub settings_from : EmitterSettings → Option (Option Encoding) → Option (Option LineBreak) → Option Settings
settings_from given (Some encoding) (Some line_break) =
    Some
    (record {
      encoding = encoding;
      canonical = is_on given.canonical;
      unicode = is_on given.unicode;
      double_quotes = is_on given.double_quotes;
      indent = Some given.indent;
      width = Some given.width;
      line_break = line_break;
      breaks12 = is_on given.line_breaks_1_2;
      portable = is_on given.portable;
      indented_sequences = is_on given.indented_sequences;
      literal_blanks = is_on given.literal_blanks;
      limit = limit_given given.limit;
    })
settings_from given encoding line_break = None

abbrev pub settings_given : EmitterSettings → Option Settings
settings_given given = settings_from given (encoding_numbered given.encoding) (break_numbered given.line_break)

-- The maximum nesting depth of collections; 0 is 1,000.
abbrev pub depth_given : ℕ → ℕ
depth_given depth = if depth == 0 then 1000 else depth

-- The width; 0 is none.
abbrev pub width_given : ℤ → ℤ
width_given (pos n) = if n == 0 then negsuc 0 else pos n
width_given (negsuc n) = negsuc n

-- The settings of the emitter that writes values: those for values, changed as the options say.
abbrev pub values_given : ValueOptions → Settings
values_given given =
    record given_for_values {
      canonical = is_on given.canonical;
      unicode = is_off given.ascii_only;
      breaks12 = is_on given.line_breaks_1_2;
      portable = is_off given.allow_unportable;
      indented_sequences = is_off given.compact_sequences;
      literal_blanks = is_off given.quoted_blanks;
      double_quotes = is_on given.double_quotes;
      indent = Some given.indent;
      width = Some (width_given given.width);
    }
