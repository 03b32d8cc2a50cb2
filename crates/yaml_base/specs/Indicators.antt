-- Indicators: punctuation, and the words of directives and markers; how each uses and sets the cursor's flags (YAML 1.1, section 5.3, for
-- the indicators; libyaml's own rules for the rest).
use Rattle.std.specs.Prelude.{Bool, true, false, codes}
use Rattle.yaml_base.specs.Characters.{Text}
use Rattle.yaml_base.specs.Cursor.{Cursor, Rendered, indicator}

-- an indicator's text; whether it needs white space before it; whether it counts as white space itself; and whether indentation goes on
-- after it
pub record Indicator : Type 0 where
  pub text : Text
  pub needs_space : Bool
  pub leaves_space : Bool
  pub keeps_indention : Bool

-- an indicator, written at a cursor
abbrev pub render_indicator : Indicator → Cursor → Rendered
render_indicator symbol cursor = indicator symbol.text symbol.needs_space symbol.leaves_space symbol.keeps_indention cursor

-- an indicator with a space before it and none after it
abbrev pub spaced : Text → Indicator
spaced text = record { text = text; needs_space = true; leaves_space = false; keeps_indention = false }

-- an opening bracket
abbrev pub opening_bracket : Text → Indicator
opening_bracket text = record { text = text; needs_space = true; leaves_space = true; keeps_indention = false }

-- an indicator without a space before it
abbrev pub tight : Text → Indicator
tight text = record { text = text; needs_space = false; leaves_space = false; keeps_indention = false }

-- the indicator of an entry in a block, which may be part of indentation
abbrev pub indented_indicator : Text → Indicator
indented_indicator text = record { text = text; needs_space = true; leaves_space = false; keeps_indention = true }

-- the indicator of a key that isn't simple, in flow or in a block
abbrev pub key : (in_block : Bool) → Indicator
key in_block = record { text = codes "?"; needs_space = true; leaves_space = false; keeps_indention = in_block }

-- Documents

abbrev pub document_start : Indicator
document_start = spaced (codes "---")

abbrev pub document_end : Indicator
document_end = spaced (codes "...")

abbrev pub yaml_directive : Indicator
yaml_directive = spaced (codes "%YAML")

abbrev pub version_1_1 : Indicator
version_1_1 = spaced (codes "1.1")

abbrev pub version_1_2 : Indicator
version_1_2 = spaced (codes "1.2")

abbrev pub tag_directive : Indicator
tag_directive = spaced (codes "%TAG")

-- Collections in flow

abbrev pub flow_sequence_start : Indicator
flow_sequence_start = opening_bracket (codes "[")

abbrev pub flow_sequence_end : Indicator
flow_sequence_end = tight (codes "]")

abbrev pub flow_mapping_start : Indicator
flow_mapping_start = opening_bracket (codes "{")

abbrev pub flow_mapping_end : Indicator
flow_mapping_end = tight (codes "}")

abbrev pub flow_entry : Indicator
flow_entry = tight (codes ",")

abbrev pub flow_key : Indicator
flow_key = key false

abbrev pub flow_value : Indicator
flow_value = spaced (codes ":")

-- Collections in blocks

abbrev pub block_entry : Indicator
block_entry = indented_indicator (codes "-")

abbrev pub block_key : Indicator
block_key = key true

abbrev pub block_value : Indicator
block_value = indented_indicator (codes ":")

-- the indicator of a value after a simple key, in flow and in blocks
abbrev pub simple_value : Indicator
simple_value = tight (codes ":")

-- Names and tags

abbrev pub anchor : Indicator
anchor = spaced (codes "&")

abbrev pub alias : Indicator
alias = spaced (codes "*")

abbrev pub verbatim_start : Indicator
verbatim_start = spaced (codes "!<")

abbrev pub verbatim_end : Indicator
verbatim_end = tight (codes ">")
