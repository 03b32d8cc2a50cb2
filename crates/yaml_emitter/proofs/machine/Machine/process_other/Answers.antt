use Rattle.std.proofs.Common.{ap, sym, ◌∙◌}
use Rattle.yaml_base.specs.{Seen.seen_sequence_style, Seen.seen_mapping_style, Seen.seen_event}
use Rattle.yaml_base.specs.Event.{sequence_start, mapping_start}
use Rattle.yaml_emitter.{proofs.events_done.ProcessedBy.processed_as, specs.BorrowedTexts.seen_collection}
use Rattle.yaml_emitter.proofs.machine.Machine.process_other.Goals as goal

pub returns-in-YAML_ALIAS_EVENT : goal.returns-in-YAML_ALIAS_EVENT
returns-in-YAML_ALIAS_EVENT g c = λ other. rw (c.in-YAML_ALIAS_EVENT.is, ← c.as_str.ensures.value) (c.alias.ensures c.args.empty)

pub returns-in-YAML_SEQUENCE_START_EVENT : goal.returns-in-YAML_SEQUENCE_START_EVENT
returns-in-YAML_SEQUENCE_START_EVENT g c = λ other.
    let style = seen_sequence_style c.in-YAML_SEQUENCE_START_EVENT.style in
    processed_as (seen_event c.args.event.now) (sequence_start (seen_collection c.collection_content-content.result style)) c.args.empty
    c.args.self.now c.start_collection.new.self c.start_collection.result
    (ap seen_event c.in-YAML_SEQUENCE_START_EVENT.is ∙ ap sequence_start (sym (c.collection_content-content.ensures style)))
    (c.start_collection.ensures style (sym c.is_flow_sequence.ensures))

pub returns-in-YAML_MAPPING_START_EVENT : goal.returns-in-YAML_MAPPING_START_EVENT
returns-in-YAML_MAPPING_START_EVENT g c = λ other.
    let style = seen_mapping_style c.in-YAML_MAPPING_START_EVENT.style in
    processed_as (seen_event c.args.event.now)
    (mapping_start (seen_collection c.collection_content-content-in-YAML_MAPPING_START_EVENT.result style)) c.args.empty
    c.args.self.now c.start_collection-in-YAML_MAPPING_START_EVENT.new.self c.start_collection-in-YAML_MAPPING_START_EVENT.result
    (ap seen_event c.in-YAML_MAPPING_START_EVENT.is
    ∙ ap mapping_start (sym (c.collection_content-content-in-YAML_MAPPING_START_EVENT.ensures style)))
    (c.start_collection-in-YAML_MAPPING_START_EVENT.ensures style (sym c.is_flow_mapping.ensures))

pub returns-in-YAML_SEQUENCE_END_EVENT : goal.returns-in-YAML_SEQUENCE_END_EVENT
returns-in-YAML_SEQUENCE_END_EVENT g c = λ other. rw c.in-YAML_SEQUENCE_END_EVENT.is (c.end_collection.ensures c.args.empty)

pub returns-in-YAML_MAPPING_END_EVENT : goal.returns-in-YAML_MAPPING_END_EVENT
returns-in-YAML_MAPPING_END_EVENT g c = λ other. rw c.in-YAML_MAPPING_END_EVENT.is (c.end_collection-in-YAML_MAPPING_END_EVENT.ensures c.args.empty)

pub returns-in-YAML_STREAM_START_EVENT : goal.returns-in-YAML_STREAM_START_EVENT
returns-in-YAML_STREAM_START_EVENT g c = λ other. rw c.in-YAML_STREAM_START_EVENT.is (c.start_stream.ensures c.args.empty)

pub returns-in-YAML_DOCUMENT_START_EVENT : goal.returns-in-YAML_DOCUMENT_START_EVENT
returns-in-YAML_DOCUMENT_START_EVENT g c = λ other.
    rw (c.in-YAML_DOCUMENT_START_EVENT.is, ← c.as_slice.ensures.value) (c.start_document.ensures c.args.empty)

pub returns-in-YAML_DOCUMENT_END_EVENT : goal.returns-in-YAML_DOCUMENT_END_EVENT
returns-in-YAML_DOCUMENT_END_EVENT g c = λ other. rw c.in-YAML_DOCUMENT_END_EVENT.is (c.end_document.ensures c.args.empty)

pub returns-in-YAML_STREAM_END_EVENT : goal.returns-in-YAML_STREAM_END_EVENT
returns-in-YAML_STREAM_END_EVENT g c = λ other. rw c.in-YAML_STREAM_END_EVENT.is (c.end_stream.ensures c.args.empty)
