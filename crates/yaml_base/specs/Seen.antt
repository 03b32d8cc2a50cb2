-- The public types as contracts see them: each value as plain data, a text as its characters, without capacity and allocator.
use Rattle.std.specs.Prelude.{Option, None, Some, List, String, map, option_map}
use Rattle.std.specs.Str.{chars}
use Rattle.std.specs.String.{string_bytes}
use Rattle.yaml_base.specs.Characters.{Text}
use Rattle.yaml_base.specs.Settings.{Encoding, utf8, utf16_little, utf16_big, LineBreak, carriage_return_break, line_feed_break, both_break}
use Rattle.yaml_base.specs.Event.{ScalarStyle, any_style, plain, single_quoted, double_quoted, literal, folded, CollectionStyle, any_layout, block, flow}
use Rattle.yaml_base.specs.Event.{Version, TagDirective, Event, stream_start, stream_end, document_start, document_end, alias, scalar, sequence_start}
use Rattle.yaml_base.specs.Event.{sequence_end, mapping_start, mapping_end}
use Rattle.yaml_base.specs.declared.encodings.yaml_encoding_t.{yaml_encoding_t}
use Rattle.yaml_base.specs.declared.encodings.yaml_encoding_t.TheVariants.{YAML_ANY_ENCODING, YAML_UTF8_ENCODING, YAML_UTF16LE_ENCODING, YAML_UTF16BE_ENCODING}
use Rattle.yaml_base.specs.declared.encodings.yaml_break_t.{yaml_break_t}
use Rattle.yaml_base.specs.declared.encodings.yaml_break_t.TheVariants.{YAML_ANY_BREAK, YAML_CR_BREAK, YAML_LN_BREAK, YAML_CRLN_BREAK}
use Rattle.yaml_base.specs.declared.styles.yaml_scalar_style_t.{yaml_scalar_style_t}
use Rattle.yaml_base.specs.declared.styles.yaml_scalar_style_t.TheVariants.{YAML_ANY_SCALAR_STYLE, YAML_PLAIN_SCALAR_STYLE, YAML_SINGLE_QUOTED_SCALAR_STYLE}
use Rattle.yaml_base.specs.declared.styles.yaml_scalar_style_t.TheVariants.{YAML_DOUBLE_QUOTED_SCALAR_STYLE, YAML_LITERAL_SCALAR_STYLE}
use Rattle.yaml_base.specs.declared.styles.yaml_scalar_style_t.TheVariants.{YAML_FOLDED_SCALAR_STYLE}
use Rattle.yaml_base.specs.declared.styles.yaml_sequence_style_t.{yaml_sequence_style_t}
use Rattle.yaml_base.specs.declared.styles.yaml_sequence_style_t.TheVariants.{YAML_ANY_SEQUENCE_STYLE, YAML_BLOCK_SEQUENCE_STYLE, YAML_FLOW_SEQUENCE_STYLE}
use Rattle.yaml_base.specs.declared.styles.yaml_mapping_style_t.{yaml_mapping_style_t}
use Rattle.yaml_base.specs.declared.styles.yaml_mapping_style_t.TheVariants.{YAML_ANY_MAPPING_STYLE, YAML_BLOCK_MAPPING_STYLE, YAML_FLOW_MAPPING_STYLE}
use Rattle.yaml_base.specs.declared.directives.yaml_version_directive_t.{yaml_version_directive_t}
use Rattle.yaml_base.specs.declared.directives.yaml_tag_directive_t.{yaml_tag_directive_t}
use Rattle.yaml_base.specs.declared.events.yaml_event_t.{yaml_event_t}
use Rattle.yaml_base.specs.declared.events.yaml_event_t.TheVariants.{YAML_STREAM_START_EVENT, YAML_STREAM_END_EVENT, YAML_DOCUMENT_START_EVENT}
use Rattle.yaml_base.specs.declared.events.yaml_event_t.TheVariants.{YAML_DOCUMENT_END_EVENT, YAML_ALIAS_EVENT, YAML_SCALAR_EVENT, YAML_SEQUENCE_START_EVENT}
use Rattle.yaml_base.specs.declared.events.yaml_event_t.TheVariants.{YAML_SEQUENCE_END_EVENT, YAML_MAPPING_START_EVENT, YAML_MAPPING_END_EVENT}

-- an encoding; ANY asks for none
abbrev pub seen_encoding : yaml_encoding_t → Option Encoding
seen_encoding YAML_ANY_ENCODING = None
seen_encoding YAML_UTF8_ENCODING = Some utf8
seen_encoding YAML_UTF16LE_ENCODING = Some utf16_little
seen_encoding YAML_UTF16BE_ENCODING = Some utf16_big

-- a line break; ANY asks for none
abbrev pub seen_break : yaml_break_t → Option LineBreak
seen_break YAML_ANY_BREAK = None
seen_break YAML_CR_BREAK = Some carriage_return_break
seen_break YAML_LN_BREAK = Some line_feed_break
seen_break YAML_CRLN_BREAK = Some both_break

-- a scalar's style
abbrev pub seen_scalar_style : yaml_scalar_style_t → ScalarStyle
seen_scalar_style YAML_ANY_SCALAR_STYLE = any_style
seen_scalar_style YAML_PLAIN_SCALAR_STYLE = plain
seen_scalar_style YAML_SINGLE_QUOTED_SCALAR_STYLE = single_quoted
seen_scalar_style YAML_DOUBLE_QUOTED_SCALAR_STYLE = double_quoted
seen_scalar_style YAML_LITERAL_SCALAR_STYLE = literal
seen_scalar_style YAML_FOLDED_SCALAR_STYLE = folded

-- a sequence's style
abbrev pub seen_sequence_style : yaml_sequence_style_t → CollectionStyle
seen_sequence_style YAML_ANY_SEQUENCE_STYLE = any_layout
seen_sequence_style YAML_BLOCK_SEQUENCE_STYLE = block
seen_sequence_style YAML_FLOW_SEQUENCE_STYLE = flow

-- a mapping's style
abbrev pub seen_mapping_style : yaml_mapping_style_t → CollectionStyle
seen_mapping_style YAML_ANY_MAPPING_STYLE = any_layout
seen_mapping_style YAML_BLOCK_MAPPING_STYLE = block
seen_mapping_style YAML_FLOW_MAPPING_STYLE = flow

-- a text's characters
abbrev pub seen_text : {A : Type 0} → String A → Text
seen_text text = chars (string_bytes text)

-- a version
abbrev pub seen_version : yaml_version_directive_t → Version
seen_version version = record { major = version.major; minor = version.minor }

-- a directive, with the characters of its texts
abbrev pub seen_directive : {A : Type 0} → yaml_tag_directive_t A → TagDirective
seen_directive directive = record { handle = seen_text directive.handle; prefix = seen_text directive.prefix }

-- an event, case by case; the styles of sequences and of mappings are seen alike
abbrev pub seen_event : {A : Type 0} → yaml_event_t A → Event
seen_event (YAML_STREAM_START_EVENT encoding) = stream_start (seen_encoding encoding)
seen_event YAML_STREAM_END_EVENT = stream_end
seen_event (YAML_DOCUMENT_START_EVENT version directives implicit) =
    document_start record { version = option_map seen_version version; directives = map seen_directive directives.items; implicit = implicit }
seen_event (YAML_DOCUMENT_END_EVENT implicit) = document_end implicit
seen_event (YAML_ALIAS_EVENT anchor) = alias (seen_text anchor)
seen_event (YAML_SCALAR_EVENT anchor tag value plain_implicit quoted_implicit style) =
    scalar
    record {
      anchor = option_map seen_text anchor;
      tag = option_map seen_text tag;
      value = seen_text value;
      plain_implicit = plain_implicit;
      quoted_implicit = quoted_implicit;
      style = seen_scalar_style style;
    }
seen_event (YAML_SEQUENCE_START_EVENT anchor tag implicit style) =
    sequence_start record { anchor = option_map seen_text anchor; tag = option_map seen_text tag; implicit = implicit; style = seen_sequence_style style }
seen_event YAML_SEQUENCE_END_EVENT = sequence_end
seen_event (YAML_MAPPING_START_EVENT anchor tag implicit style) =
    mapping_start record { anchor = option_map seen_text anchor; tag = option_map seen_text tag; implicit = implicit; style = seen_mapping_style style }
seen_event YAML_MAPPING_END_EVENT = mapping_end

-- events, in order
abbrev pub seen_events : {A : Type 0} → List (yaml_event_t A) → List Event
seen_events events = map seen_event events
