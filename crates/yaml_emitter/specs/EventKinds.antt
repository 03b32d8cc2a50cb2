-- The kinds of events.
use Rattle.yaml_base.specs.Event.{Event, stream_start, stream_end, document_start, document_end, alias, scalar, sequence_start, sequence_end}
use Rattle.yaml_base.specs.Event.{mapping_start, mapping_end}
use Rattle.yaml_emitter.specs.declared.kinds.EventKind.{EventKind}
use Rattle.yaml_emitter.specs.declared.kinds.EventKind.TheVariants as kinds

-- the kind of an event
abbrev pub kind_of : Event → EventKind
kind_of (stream_start encoding) = kinds.StreamStart
kind_of stream_end = kinds.StreamEnd
kind_of (document_start start) = kinds.DocumentStart
kind_of (document_end implicit) = kinds.DocumentEnd
kind_of (alias name) = kinds.Alias
kind_of (scalar content) = kinds.Scalar
kind_of (sequence_start start) = kinds.SequenceStart
kind_of sequence_end = kinds.SequenceEnd
kind_of (mapping_start start) = kinds.MappingStart
kind_of mapping_end = kinds.MappingEnd
