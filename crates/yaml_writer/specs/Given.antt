-- The settings for values, if no others are asked for.
use Rattle.std.specs.Prelude.{true, Some, negsuc}
use Rattle.yaml_base.specs.Settings.{Settings, nothing_given}

-- portable, with sequences in mappings indented, blanks literal, no line folded, and characters past ASCII as themselves
abbrev pub given_for_values : Settings
given_for_values =
    record nothing_given { unicode = true; portable = true; indented_sequences = true; literal_blanks = true; width = Some (negsuc 0) }
