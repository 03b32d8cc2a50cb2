-- The names that most proofs here cite, passed on from one place. Declares nothing.
pub use Rattle.yaml_base.proofs.Common.{suc, ℕ, ◌+◌, ◌≤◌, Bool, false, true, Option, None, Some, List, [], ◌++◌, ◌∷◌, refl, ◌≡◌, append-nil, append_assoc, sym}
pub use Rattle.yaml_base.proofs.Common.{subst, arith, chars, Event, scalar, sequence_start, sequence_end, mapping_start, mapping_end, most_open, is_sound, ◌⊎◌}
pub use Rattle.yaml_base.proofs.Common.{IsAccepted, yaml_number, inl, inr, ap, ◌∙◌, Text, Scalar, plain, is_none, is_some, ◌||◌, ◌-◌, ◌<◌, length, ◌==◌, codes}
pub use Rattle.yaml_base.proofs.Common.{length-append, not, ◌&&◌, and_from, not_from_false, list_all, are_digits, is_json_number, JsonNumber, is_empty, cond}
pub use Rattle.yaml_base.proofs.Common.{is_plain, if◌then◌else◌, and_parts, false≢true, option_and_then, resolved_by_core, zero, map, list_any, unwrap_or, Tree}
pub use Rattle.yaml_base.proofs.Common.{Document, Documents, no_documents, documents_and, Stream, directives_in_force, has_scalar_texts, Settings, Effective}
pub use Rattle.yaml_base.proofs.Common.{scalar_tag, collection_tag, scalar_node, Nodes, Pairs, no_nodes, nodes_and, no_pairs, pairs_and, resolved_by_11}
pub use Rattle.yaml_base.proofs.Common.{open_count, begins_collection, list_all-append}
pub use Rattle.std.proofs.{lemmas.Bool.cases_lt, Math.Path.subst₂}
pub use Rattle.std.specs.Prelude.{IfSome, flat_map}
pub use Rattle.yaml_base.proofs.stream_nodes.StreamAgrees.{node_tree}
pub use Rattle.yaml_base.specs.Prefix.{IsPrefix}
pub use Rattle.yaml_base.specs.values.TypedValues.{bool_tag, bool_text}
pub use Rattle.yaml_writer.proofs.Common.{Err, GaveEvent, IfErr, Ok, OnOk, Result, State, WriterState, ap₂, end_event}
pub use Rattle.yaml_writer.proofs.Common.{float_tag, fraction_or_default, int_tag, is_json_integer}
pub use Rattle.yaml_writer.specs.Contents.{bool_content, collection_in, number_content, text_content, word_content}
pub use Rattle.yaml_writer.specs.Means.{Schema}
pub use Rattle.yaml_writer.specs.NumberParts.{number_in}
pub use Rattle.yaml_writer.specs.WasGiven.{IsBare, WasGiven, WroteEvent, start_event}
pub use Rattle.yaml_writer.specs.Writing.{EndsInnermost, closing, mapping_event, number_event, number_tag, opening, sequence_event, text_event, with_collection}
pub use Rattle.std.specs.{Prelude.max, Prelude.nat_lt, Fmt.signed_decimal, Str.Parse.digits_value}
pub use Rattle.std.proofs.{Common.◌^◌, Common.string_bytes, Common.pos, Common.ℤ, lemmas.Option.none-some, lemmas.Grind.common_steps}
pub use Rattle.toml_datetime.specs.Text.{datetime_text}
pub use Rattle.toml_ordered.specs.{Grammar.ordered_document, Keys.table_view, declared.fault.Fault.Fault, declared.tree.Origin.TheVariants.Header}
pub use Rattle.toml_ordered.specs.Data.{TomlNode, TomlNodes, items_view, node, node_view, table}
pub use Rattle.yaml_base.specs.{declared.errors.yaml_error_t.TheVariants.Memory, declared.errors.yaml_error_t.yaml_error_t}
pub use Rattle.yaml_base.specs.declared.kinds.CollectionKind.{CollectionKind}
pub use Rattle.yaml_base.specs.declared.kinds.CollectionKind.TheVariants.{Mapping, Sequence}
pub use Rattle.yaml_toml.specs.{Depth.document_nesting, Depth.items_nesting, Depth.keys_nesting, Depth.toml_nesting, Means.by_11, Means.by_core}
pub use Rattle.yaml_toml.specs.{OpenCounts.count_after, declared.error.TomlError.TomlError, declared.walk.Rest.Rest, declared.walk.Stop.Stop}
pub use Rattle.yaml_toml.specs.Events.{date_content, decimal_content, infinite, integer_content, json_word, keys_events, moment_content, special_content}
pub use Rattle.yaml_toml.specs.Events.{toml_events, toml_items_events}
pub use Rattle.yaml_toml.specs.Walk.{GaveSome, HasNumbers, IsStopOf, ItemsHaveNumbers, KeysHaveNumbers, Moved, PendingHaveNumbers, RestHasNumbers, fault_error}
pub use Rattle.yaml_toml.specs.Walk.{kinds_of, pending, pending_size, rest_events, rest_kind, rest_size, toml_writers_error}
pub use Rattle.yaml_toml.specs.WalkSteps.{TomlStep, collection_due, rest_due, value_due, walk_at}
pub use Rattle.yaml_writer.proofs.{AnswerLemmas.kept_then, GivenLemmas.on_ok, OpenLevels.gave_events_then}
pub use Rattle.yaml_writer.specs.{Floats.special_text, Times.ClockTime, Times.Moment, TomlDates.moment_of, declared.settings.ValueSettings.ValueSettings}
