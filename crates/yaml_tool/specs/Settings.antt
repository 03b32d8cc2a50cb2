-- The view of a setting's line in contracts.
use Rattle.std.specs.Prelude.{Bool}
use Rattle.yaml_base.specs.scripts.Script as notation
use Rattle.yaml_base.specs.scripts.Script.{limit_set, encoding_set, canonical_set, unicode_set, indent_set, width_set, break_set, breaks12_set, portable_set}
use Rattle.yaml_base.specs.scripts.Script.{sequences_set, blanks_set}
use Rattle.yaml_base.specs.Seen.{seen_encoding, seen_break}
use Rattle.yaml_tool.specs.declared.settings.Setting.{Setting}
use Rattle.yaml_tool.specs.declared.settings.Setting.TheVariants.{Limit, Encoding, Canonical, Unicode, Indent, Width, LineBreak, Breaks12, Portable}
use Rattle.yaml_tool.specs.declared.settings.Setting.TheVariants.{IndentedSequences, LiteralBlanks}

-- a setting's line, its names as plain data
abbrev pub seen_setting : Setting → notation.Setting
seen_setting (Limit bytes) = limit_set bytes
seen_setting (Encoding encoding) = encoding_set (seen_encoding encoding)
seen_setting (Canonical on) = canonical_set on
seen_setting (Unicode on) = unicode_set on
seen_setting (Indent indent) = indent_set indent
seen_setting (Width width) = width_set width
seen_setting (LineBreak line_break) = break_set (seen_break line_break)
seen_setting (Breaks12 on) = breaks12_set on
seen_setting (Portable on) = portable_set on
seen_setting (IndentedSequences indented) = sequences_set indented
seen_setting (LiteralBlanks literal) = blanks_set literal

-- true if two settings have one name
abbrev pub sets_same : notation.Setting → notation.Setting → Bool
sets_same setting other = notation.is_word (notation.setting_name setting) (notation.setting_name other)
