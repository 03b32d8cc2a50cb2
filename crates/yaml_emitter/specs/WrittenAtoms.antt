-- Atoms, and their text at a cursor.
use Rattle.std.specs.Prelude.{ℕ, Bool, true, false, Option, None, Some, ◌||◌, codes, chars, option_map}
use Rattle.std.specs.List.{list_any}
use Rattle.yaml_base.specs.Characters.{is_break}
use Rattle.yaml_base.specs.Cursor.{Cursor, Rendered, render_nothing, render_then, render_text, new_line, render_name}
use Rattle.yaml_base.specs.Indicators as indicators
use Rattle.yaml_base.specs.Layout.{Place, flow_break, render_handle, line_column, render_spelling, spelling_count}
use Rattle.yaml_base.specs.Percent.{percent_escaped, suffix_escaped, prefix_escaped}
use Rattle.yaml_base.specs.Settings.{Effective}
use Rattle.yaml_base.specs.Tags.{Spelling, shorthand}
use Rattle.yaml_emitter.specs.BorrowedTexts.{seen_spelling}
use Rattle.yaml_emitter.specs.declared.writing.indicators.IndicatorKind.{IndicatorKind}
use Rattle.yaml_emitter.specs.declared.writing.indicators.IndicatorKind.TheVariants.{DocumentStart, DocumentEnd, YamlDirective, Version11, Version12}
use Rattle.yaml_emitter.specs.declared.writing.indicators.IndicatorKind.TheVariants.{TagDirective, FlowSequenceStart, FlowSequenceEnd}
use Rattle.yaml_emitter.specs.declared.writing.indicators.IndicatorKind.TheVariants.{FlowMappingStart, FlowMappingEnd, FlowEntry, FlowKey, FlowValue}
use Rattle.yaml_emitter.specs.declared.writing.indicators.IndicatorKind.TheVariants.{BlockEntry, BlockKey, BlockValue, SimpleValue, Anchor, Alias}
use Rattle.yaml_emitter.specs.declared.writing.indicators.IndicatorKind.TheVariants.{VerbatimStart, VerbatimEnd}
use Rattle.yaml_emitter.specs.declared.writing.atoms.Atom.{Atom}
use Rattle.yaml_emitter.specs.declared.writing.atoms.Atom.TheVariants.{Nothing, Fixed, Line, FlowLine, Space, Name, Handle, TagText, Suffix, Prefix}
use Rattle.yaml_emitter.specs.declared.writing.spelling.SpelledTag.{SpelledTag}

-- an indicator, as the definitions have it
abbrev pub seen_indicator : IndicatorKind → indicators.Indicator
seen_indicator DocumentStart = indicators.document_start
seen_indicator DocumentEnd = indicators.document_end
seen_indicator YamlDirective = indicators.yaml_directive
seen_indicator Version11 = indicators.version_1_1
seen_indicator Version12 = indicators.version_1_2
seen_indicator TagDirective = indicators.tag_directive
seen_indicator FlowSequenceStart = indicators.flow_sequence_start
seen_indicator FlowSequenceEnd = indicators.flow_sequence_end
seen_indicator FlowMappingStart = indicators.flow_mapping_start
seen_indicator FlowMappingEnd = indicators.flow_mapping_end
seen_indicator FlowEntry = indicators.flow_entry
seen_indicator FlowKey = indicators.flow_key
seen_indicator FlowValue = indicators.flow_value
seen_indicator BlockEntry = indicators.block_entry
seen_indicator BlockKey = indicators.block_key
seen_indicator BlockValue = indicators.block_value
seen_indicator SimpleValue = indicators.simple_value
seen_indicator Anchor = indicators.anchor
seen_indicator Alias = indicators.alias
seen_indicator VerbatimStart = indicators.verbatim_start
seen_indicator VerbatimEnd = indicators.verbatim_end

-- the text of an atom at a place, at whose column lines begin
abbrev pub render_atom : Effective → Place → Atom → Cursor → Rendered
render_atom s place Nothing cursor = render_nothing cursor
render_atom s place (Fixed atom) cursor = indicators.render_indicator (seen_indicator atom) cursor
render_atom s place Line cursor = new_line (line_column place.column) cursor
render_atom s place FlowLine cursor = flow_break s place.column cursor
render_atom s place Space cursor = render_text (codes " ") cursor
render_atom s place (Name name) cursor = render_name (chars name.now) cursor
render_atom s place (Handle handle) cursor = render_handle (chars handle.now) cursor
render_atom s place (TagText content) cursor = render_name (percent_escaped (chars content.now)) cursor
render_atom s place (Suffix suffix) cursor = render_name (suffix_escaped s.portable (chars suffix.now)) cursor
render_atom s place (Prefix prefix) cursor = render_handle (prefix_escaped s.portable (chars prefix.now)) cursor

-- the text of three atoms in order
abbrev pub render_atoms : Effective → Place → Atom × Atom × Atom → Cursor → Rendered
render_atoms s place atoms cursor =
    render_then (render_then (render_atom s place atoms.0 cursor) (render_atom s place atoms.1)) (render_atom s place atoms.2)

-- true if an atom is a name or a handle that holds a break
abbrev pub atom_breaks : Atom → Bool
atom_breaks (Name name) = list_any is_break (chars name.now)
atom_breaks (Handle handle) = list_any is_break (chars handle.now)
atom_breaks _ = false

-- true if one of three atoms holds a break
abbrev pub some_atom_breaks : Atom × Atom × Atom → Bool
some_atom_breaks atoms = atom_breaks atoms.0 || atom_breaks atoms.1 || atom_breaks atoms.2

-- a tag as it is spelled, if one is written
abbrev pub seen_tag : Option SpelledTag → Option Spelling
seen_tag tag = option_map seen_spelling tag

-- the text of a written tag, or of the bare tag
abbrev pub render_spelled_tag : (portable : Bool) → Option Spelling → (bare : Bool) → Cursor → Rendered
render_spelled_tag portable (Some spelled) bare cursor = render_spelling portable spelled cursor
render_spelled_tag portable None true cursor = render_handle (codes "!") cursor
render_spelled_tag portable None false cursor = render_nothing cursor

-- true if a tag is spelled with a handle that holds a break
abbrev pub spelling_breaks : Option Spelling → Bool
spelling_breaks (Some (shorthand handle suffix)) = list_any is_break handle
spelling_breaks _ = false

-- the length of a tag as it is spelled; zero if none is written
abbrev pub spelled_count : Option Spelling → ℕ
spelled_count None = 0
spelled_count (Some spelled) = spelling_count spelled
