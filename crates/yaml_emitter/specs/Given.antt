-- The settings of an emitter, as the definitions see them.
use Rattle.std.specs.Prelude.{ℕ, ℤ, pos, negsuc, Bool, true, false, Option, None, Some, ◌==◌, if◌then◌else◌, unwrap_or}
use Rattle.yaml_base.specs.Settings as base
use Rattle.yaml_base.specs.Settings.{largest_i32, Effective, utf8, line_feed_break}
use Rattle.yaml_base.specs.Seen.{seen_encoding, seen_break}
use Rattle.yaml_emitter.specs.declared.settings.Quotes.{Quotes}
use Rattle.yaml_emitter.specs.declared.settings.Quotes.TheVariants.{Single, Double}
use Rattle.yaml_emitter.specs.declared.settings.Settings.{Settings}
use Rattle.yaml_emitter.specs.declared.effective.EffectiveSettings.{EffectiveSettings}

-- true if quotes are double
abbrev pub is_double : Quotes → Bool
is_double Single = false
is_double Double = true

-- the arguments of the setters, as the definitions see them
abbrev pub seen_settings : Settings → base.Settings
seen_settings settings =
    record {
      encoding = seen_encoding settings.encoding;
      canonical = settings.canonical;
      unicode = settings.unicode;
      double_quotes = is_double settings.quotes;
      indent = settings.indent;
      width = settings.width;
      line_break = seen_break settings.line_break;
      breaks12 = settings.line_breaks_1_2;
      portable = settings.portable;
      indented_sequences = settings.indented_sequences;
      literal_blanks = settings.literal_blanks;
      limit = settings.limit;
    }

-- a width in columns; the largest `i32` means no limit
abbrev pub seen_width : ℤ → Option ℕ
seen_width (pos n) = if n == largest_i32 then None else Some n
seen_width (negsuc n) = None

-- the settings that the layout uses
abbrev pub seen_effective : EffectiveSettings → Effective
seen_effective settings =
    record {
      encoding = unwrap_or (seen_encoding settings.encoding) utf8;
      canonical = settings.canonical;
      unicode = settings.unicode;
      double_quotes = settings.double_quotes;
      indent = settings.indent;
      width = seen_width settings.width;
      line_break = unwrap_or (seen_break settings.line_break) line_feed_break;
      breaks12 = settings.breaks12;
      portable = settings.portable;
      indented_sequences = settings.indented_sequences;
      literal_blanks = settings.literal_blanks;
      limit = settings.limit;
    }
