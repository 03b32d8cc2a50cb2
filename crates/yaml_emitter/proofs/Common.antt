-- The names that most proofs here cite, passed on from one place. Declares nothing.
pub use Rattle.yaml_base.proofs.Common.{suc, zero, ℕ, ◌%◌, ◌+◌, ◌-◌, ◌/◌, ◌<◌, ◌≤◌, if◌then◌else◌, ◌==◌, fold, count_by, is_some, unwrap_or, option_map, Option}
pub use Rattle.yaml_base.proofs.Common.{option_and_then, None, Some, codes, nat_le, nat_lt, negsuc, pos, ℤ, drop, length, replicate, slice_index_or, take, Bool}
pub use Rattle.yaml_base.proofs.Common.{cond, false, not, true, ◌&&◌, ◌||◌, List, [], map, ◌++◌, ◌∷◌, ◌⊎◌, refl, ◌≡◌, eqb-true, le-ltb, ne_eqb, length-append}
pub use Rattle.yaml_base.proofs.Common.{true≢false, append-nil, append_assoc, inl, inr, ap, subst, sym, ◌∙◌, arith, and_parts, and_from, or_parts, false≢true}
pub use Rattle.yaml_base.proofs.Common.{nat_tests, flat_map-append, length-map, map-append, list_all-append, chars-IsAscii, list_all, list_any, option_or, Text}
pub use Rattle.yaml_base.proofs.Common.{all_scalars, chars, line_feed, carriage_return, next_line, space, is_alpha, is_space, is_break, is_printable, Cursor}
pub use Rattle.yaml_base.proofs.Common.{Rendered, render_nothing, render_then, new_line, space_if, indicator, is_past_width, encode, cut, ScalarStyle, plain}
pub use Rattle.yaml_base.proofs.Common.{any_style, single_quoted, double_quoted, literal, folded, any_layout, Version, TagDirective, DocumentStart, Scalar}
pub use Rattle.yaml_base.proofs.Common.{Collection, Event, stream_start, stream_end, document_start, document_end, alias, scalar, sequence_start, sequence_end}
pub use Rattle.yaml_base.proofs.Common.{mapping_start, mapping_end, scalar_tag, collection_tag, Node, alias_node, scalar_node, Nodes, sequence_node, Pairs}
pub use Rattle.yaml_base.proofs.Common.{mapping_node, no_nodes, nodes_and, no_pairs, pairs_and, Document, Documents, no_documents, documents_and, Stream, push}
pub use Rattle.yaml_base.proofs.Common.{node_events, documents_events, stream_events, at_item, at_key, at_value, Partial, before_stream, within_document, Piece}
pub use Rattle.yaml_base.proofs.Common.{after_stream, pushed, partial_of, render_if, render_closing_marker, render_version, render_tag_directives, is_explicit}
pub use Rattle.yaml_base.proofs.Common.{has_directives, render_document_marker, render_document_start, document_start_piece, document_end_piece, root_place}
pub use Rattle.yaml_base.proofs.Common.{first_standing, stream_end_piece, layout, piece_text, text_of, Standing, RenderedPieces, render_anchor, render_alias}
pub use Rattle.yaml_base.proofs.Common.{render_properties, render_separation, render_body, allowed_by_quotes, allowed_by_blanks, allowed_under, charset_of}
pub use Rattle.yaml_base.proofs.Common.{style_asked_at, choice_of, body_at, start_piece, is_written_in_flow, Brackets, square, curly, render_end, render_node}
pub use Rattle.yaml_base.proofs.Common.{Role, as_root, as_item, as_key, as_value, Place, is_key, line_column, deeper, byte_count, name_count, entry_place, utf8}
pub use Rattle.yaml_base.proofs.Common.{tag_count, is_short, is_simple_scalar, has_no_nodes, has_no_pairs, flow_break, opening_or_comma, render_flow_place}
pub use Rattle.yaml_base.proofs.Common.{render_place, break_text, with_breaks_written, is_rendered_text, has_scalar_values, directive_scalars, has_scalar_texts}
pub use Rattle.yaml_base.proofs.Common.{encoding_asked, settings_for, text_written, bytes_written, output_of, percent_escaped, suffix_escaped, prefix_escaped}
pub use Rattle.yaml_base.proofs.Common.{completion, list_layout, first_ends_collection, awaited, is_balanced, nonempty_prefixes, is_ready, written, some_if}
pub use Rattle.yaml_base.proofs.Common.{name_or_tag_fault, content_fault, most_open, begins_collection, ends_collection, refusal_at, refusal, is_sound, Frame}
pub use Rattle.yaml_base.proofs.Common.{open_count, IsAccepted, Encoding, utf16_little, utf16_big, LineBreak, carriage_return_break, line_feed_break, Settings}
pub use Rattle.yaml_base.proofs.Common.{both_break, Effective, effective, Stage, at_stream, at_document, at_node, at_document_end, at_nothing, next_place, step}
pub use Rattle.yaml_base.proofs.Common.{stage_after, ends_next, Steps, steps, reads_alike, name_fault, anchor_fault, alias_fault, tag_fault, version_fault}
pub use Rattle.yaml_base.proofs.Common.{exclamation_mark, handle_fault, prefix_fault, directive_fault, gives_handle, next_directive_fault, directives_fault}
pub use Rattle.yaml_base.proofs.Common.{directives_fault_after, directives_in_force, Spelling, verbatim, spelling, spelled, canonical_content, DocumentContent}
pub use Rattle.yaml_base.proofs.Common.{Charset, Allowances, is_empty, is_special, allowances, needs_escape, ChosenStyle, lacks_tag_and_flags, is_plain}
pub use Rattle.yaml_base.proofs.Common.{fits_plain}
pub use Rattle.yaml_base.proofs.Common.{requested_style, quoted_style, fitting_style, chosen, agrees, stream_trees}
pub use Rattle.std.proofs.Common.{add-one, drop-cons, drop-drop, length-take-le, of_z, rules, take-append-drop, take_all, take_at, to_z, w32, zero-add}
pub use Rattle.std.proofs.lemmas.{Grind.common_steps, Grind.elements, Int.ints, Int.to_z-of_z, List.drop-map, List.Elements.All-nil, List.Elements.All-cons}
pub use Rattle.std.proofs.lemmas.{List.Sums.fold-append, Result.err_from_is_err_and}
pub use Rattle.std.specs.List.{All}
pub use Rattle.std.specs.Prelude.{Err, FitsSigned, Ok, Result, vec_len, vec_capacity, filter, IsErrAnd, IsSome, IsErr, OnOk}
pub use Rattle.yaml_base.{proofs.Accepted.stands_from_begins, proofs.Accepted.refused_exactly, proofs.BreakLaws.rendered-append, proofs.NoFaults.neither}
pub use Rattle.yaml_base.{proofs.Completions.pushed-append, proofs.Completions.prefix_is_partial, proofs.Prefixes.prefix_same, proofs.Prefixes.prefix_then}
pub use Rattle.yaml_base.{proofs.Progress.written-append, proofs.QueueLaws.written_within, proofs.QueueLaws.open_at_written, proofs.Trees.stream_pushed}
pub use Rattle.yaml_base.{proofs.Trees.tree_of-stream_events, proofs.stream_documents.StreamEachDocument.all_of_both, specs.Encoding.text_bytes}
pub use Rattle.yaml_base.{specs.Indicators.render_indicator, specs.Indicators.spaced, specs.Indicators.yaml_directive, specs.Meaning.BodyMeans}
pub use Rattle.yaml_base.{specs.Meaning.option_scalars, specs.Output.flushes, specs.Output.last_flushes, specs.Pieces.pieces, specs.Prefix.IsPrefix}
pub use Rattle.yaml_base.{specs.Pieces.last_begins_collection, specs.Ready.held_back, specs.Refusal.properties_fault, specs.Refusal.IsAcceptedPrefix}
pub use Rattle.yaml_base.specs.Settings.{nothing_given}
pub use Rattle.yaml_base.{specs.Tags.last_from, specs.Tags.without_last, specs.Tags.default_directives, specs.WrittenTexts.HoldsRaw, specs.Characters.backslash}
pub use Rattle.yaml_base.{specs.reading.Content.documents_content, specs.scalars.Analysis.begins_with, specs.scalars.Analysis.allows_plain}
pub use Rattle.yaml_base.{specs.scalars.DoubleQuoted.quote, specs.scalars.DoubleQuoted.double_quoted_body}
pub use Rattle.yaml_base.proofs.PieceLaws.{steps-append, steps_same, list_layout_steps, prefix_layout}
pub use Rattle.yaml_base.proofs.TagForms.{IsHandle, handle_form, AreFound, spelling_is, in_force_found}
pub use Rattle.yaml_base.specs.Layout.{render_tag_directive, is_simple_alias, render_handle, render_spelling, render_tag, stream_start_piece}
pub use Rattle.yaml_base.specs.Layout.{render_block_place, scalar_lead, scalar_piece, alias_piece, end_piece}
pub use Rattle.yaml_base.specs.Seen.{seen_encoding, seen_scalar_style, seen_version, seen_directive, seen_event, seen_events}
pub use Rattle.yaml_base.specs.Steps.{is_first, node_step, stage_refusal, progress}
pub use Rattle.yaml_base.specs.reading.CanonicalReader.{node_awaited, Head, Reading, within, token_read, documents_read}
pub use Rattle.yaml_base.specs.reading.CanonicalTokens.{Token, version_line, tag_line, document_begins, document_ends, anchor_token, alias_token, tag_token}
pub use Rattle.yaml_base.specs.reading.CanonicalTokens.{scalar_token, opens_sequence, closes_sequence, opens_mapping, closes_mapping, key_token, value_token}
pub use Rattle.yaml_base.specs.reading.CanonicalTokens.{comma, free, moves_to, step_between_tokens, tokens_from}
pub use Rattle.yaml_emitter.specs.{Atoms.name_breaks, Atoms.some_handle_breaks, BorrowedTexts.seen_name, BorrowedTexts.seen_scalar, Given.seen_effective}
pub use Rattle.yaml_emitter.specs.{BorrowedTexts.seen_collection, Inside.state_of, Inside.IsEngine, MachineInside.machine_state, MachineInside.IsMachine}
pub use Rattle.yaml_emitter.specs.{NodeEvents.start_of_kind, NodeEvents.end_of_kind, NodeEvents.brackets_of, Queue.is_head_ready, ScalarTexts.style_fits}
pub use Rattle.yaml_emitter.specs.{ScalarTexts.render_scalar_text, Stages.seen_stage, StaysFlushed.StaysFlushed, StaysFlushed.whole_documents, Uncut.IsUncut}
pub use Rattle.yaml_emitter.specs.{StaysFlushed.KeepsDocuments, SimpleAsciiScalars.StandsPlain, WrittenPieces.piece_at, WrittenPieces.seen_open_ended}
pub use Rattle.yaml_emitter.specs.{WrittenPieces.render_document_end}
pub use Rattle.yaml_emitter.specs.Places.{is_mapping, seen_role, seen_place, seen_frame}
pub use Rattle.yaml_emitter.specs.Processing.{closes_at_once, event_stepped, render_event, refusal_now, Keeps, WritesPage, WritesEvent, CutPage, unwritten}
pub use Rattle.yaml_emitter.specs.Processing.{partly_written, CutShort, Processed}
pub use Rattle.yaml_emitter.specs.Promises.{RefusedAt, BeginsOutput, OutputBegins, IsRefusal, ends_stream, EndsExactly, Promised}
pub use Rattle.yaml_emitter.specs.StandsAfter.{IsPage, HoldsPiecesWith, HoldsPieces, HasProgress, StandsWithoutError, FailedAt, closes_last, StandsRefused}
pub use Rattle.yaml_emitter.specs.StandsAfter.{HoldsCut, holds_before, holds_part, StandsCut, StandsUnflushed, StandsStopped, at_event, between_events}
pub use Rattle.yaml_emitter.specs.StandsAfter.{StandsFailed, MachineStands, StateStands, StandsAfter, HasReached, failed_by, ReachedOn, ProcessedFirst}
pub use Rattle.yaml_emitter.specs.State.{State, MachineState, machine_of, new_machine, standing_of, FitsPage, with_all_taken, is_at_stream, KeepsGiven}
pub use Rattle.yaml_emitter.specs.State.{KeepsSet}
pub use Rattle.yaml_emitter.specs.WrittenAtoms.{seen_indicator, render_atoms, seen_tag, render_spelled_tag, spelled_count}
pub use Rattle.yaml_pen.{proofs.Adding.encode-append, proofs.Writing.none_from_result, proofs.Writing.some_from_result, specs.Wrote.Grows, specs.Wrote.Wrote}
pub use Rattle.yaml_pen.{specs.Wrote.Flushed}
pub use Rattle.yaml_pen.proofs.Composing.{wrote_all, wrote_then, wrote_failed, wrote_as, wrote_exit}
pub use Rattle.yaml_pen.specs.Page.{Page, encoded, all_taken, IsUntouched, IsReady, result_of_error, IsFlushedOutput, new_page}
pub use Rattle.yaml_scalar.proofs.{LineTexts.any_both, LineTexts.any_one, Sparing.is_graph, Sparing.Spares, Sparing.lacks_line}
