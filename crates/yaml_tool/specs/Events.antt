-- The view of the fields of events in contracts.
use Rattle.std.specs.Prelude.{Bool, Option, None, [], ◌∷◌, option_map, option_and_then, List, codes}
use Rattle.yaml_base.specs.Characters.{Text}
use Rattle.yaml_base.specs.Event.{Event, ScalarStyle, Collection, CollectionStyle, any_layout, block, flow, stream_end, sequence_start}
use Rattle.yaml_base.specs.Event.{sequence_end, mapping_start, mapping_end}
use Rattle.yaml_base.specs.scripts.Script.{Field, quoted, text_or_none, scalar_with, stream_start_of, alone, document_start_of, document_end_of}
use Rattle.yaml_base.specs.scripts.Script.{alias_of, scalar_of, collection_of}
use Rattle.yaml_base.specs.declared.kinds.CollectionKind.{CollectionKind}
use Rattle.yaml_base.specs.declared.kinds.CollectionKind.TheVariants.{Sequence, Mapping}
use Rattle.yaml_tool.specs.declared.words.CollectionStyle as collection
use Rattle.yaml_tool.specs.declared.words.CollectionStyle.TheVariants as style
use Rattle.yaml_tool.specs.declared.words.EventName.{EventName}
use Rattle.yaml_tool.specs.declared.words.EventName.TheVariants as name

-- the word that names an event
abbrev pub event_word : EventName → Text
event_word name.StreamStart = codes "+STR"
event_word name.StreamEnd = codes "-STR"
event_word name.DocumentStart = codes "+DOC"
event_word name.DocumentEnd = codes "-DOC"
event_word name.Alias = codes "=ALI"
event_word name.Scalar = codes "=VAL"
event_word name.SequenceStart = codes "+SEQ"
event_word name.SequenceEnd = codes "-SEQ"
event_word name.MappingStart = codes "+MAP"
event_word name.MappingEnd = codes "-MAP"

-- the event of a name and its fields, if these have a meaning
abbrev pub event_by : EventName → Option (List Field) → Option Event
event_by name.StreamStart fields = option_and_then stream_start_of fields
event_by name.StreamEnd fields = option_and_then (alone stream_end) fields
event_by name.DocumentStart fields = option_and_then document_start_of fields
event_by name.DocumentEnd fields = option_and_then document_end_of fields
event_by name.Alias fields = option_and_then alias_of fields
event_by name.Scalar fields = option_and_then scalar_of fields
event_by name.SequenceStart fields = option_map sequence_start (option_and_then collection_of fields)
event_by name.SequenceEnd fields = option_and_then (alone sequence_end) fields
event_by name.MappingStart fields = option_map mapping_start (option_and_then collection_of fields)
event_by name.MappingEnd fields = option_and_then (alone mapping_end) fields

-- the scalar of a style, two flags and the fields after them: an anchor, a tag, a value
abbrev pub scalar_from : Option ScalarStyle → Option Bool → Option Bool → List Field → Option Event
scalar_from style plain_implicit quoted_implicit (anchor ∷ tag ∷ quoted value ∷ []) =
    scalar_with style plain_implicit quoted_implicit (text_or_none anchor) (text_or_none tag) value
scalar_from style plain_implicit quoted_implicit _ = None

-- a collection's style as plain data
abbrev pub seen_collection_style : collection.CollectionStyle → CollectionStyle
seen_collection_style style.Any = any_layout
seen_collection_style style.Block = block
seen_collection_style style.Flow = flow

-- the start of a collection of this kind
abbrev pub start_of : CollectionKind → Collection → Event
start_of Sequence all = sequence_start all
start_of Mapping all = mapping_start all
