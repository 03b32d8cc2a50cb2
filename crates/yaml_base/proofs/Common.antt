-- The names that most proofs here cite, passed on from one place. Declares nothing.
pub use Rattle.std.proofs.Math.Bool.{or-true, and-false, and-true}
pub use Rattle.std.{proofs.lemmas.Grind.flat_map-append, proofs.lemmas.List.length-map, proofs.lemmas.List.map-append}
pub use Rattle.std.{proofs.lemmas.List.Folds.list_all-append, proofs.lemmas.List.Folds.list_any-append, proofs.lemmas.List.Splits.slice_split-cons_yes}
pub use Rattle.std.{proofs.lemmas.List.Splits.slice_split-cons_no, proofs.lemmas.List.Sums.sum_by-append, proofs.lemmas.List.Sums.take_while-cons}
pub use Rattle.std.{proofs.lemmas.Slice.Eq.bytes_eq-Decides, specs.Char.digit_value, specs.Char.len_utf8, specs.Fmt.digit_glyph, specs.Fmt.digits_onto}
pub use Rattle.std.{specs.Option.option_or, specs.Str.all_scalars, specs.Str.chars, specs.Str.encode_utf8_all, specs.Str.Parse.digits_value}
pub use Rattle.std.proofs.Common.{ap, append-nil, append_assoc, arith, eq-eqb, eqb-true, inl, inr, le-leb, le-ltb, leb-true, length-append, lt-ltb, ltb-true}
pub use Rattle.std.proofs.Common.{ne_eqb, subst, sym, true≢false, ◌∙◌, int_eq}
pub use Rattle.std.proofs.lemmas.Bool.{false≢true, not-false, not-true, cases_eq, and_from, and_cases, and_left, and_right, or_parts, or_from, or_left}
pub use Rattle.std.proofs.lemmas.Bool.{or_right, not_from_false, or_cases, agree_below_at, and_parts}
pub use Rattle.std.proofs.lemmas.Bool.Decides.{nat_tests, same_from_decides, Decides-eqb, Decides-int_eq}
pub use Rattle.std.proofs.lemmas.List.Elements.{All-head, All-tail, Contains-append_left, Contains-append_right, filter_map-append}
pub use Rattle.std.proofs.lemmas.Str.{length-encode, len_utf8_bounds, length-le-encodes, chars-encodes, chars-IsAscii}
pub use Rattle.std.specs.List.{concat, filter, filter_map, flat_map, list_all, list_any, onto_first, position, position_or_len, slice_split, take_while}
pub use Rattle.std.specs.Prelude.{Bool, List, None, Option, Some, [], codes, cond, drop, encode_utf8, false, length, map, nat_le, nat_lt, neg_ℤ, negsuc, not}
pub use Rattle.std.specs.Prelude.{pos, refl, replicate, slice_index_or, suc, take, true, zero, ℕ, ℤ, ◌%◌, ◌&&◌, ◌*◌, ◌++◌, ◌+ℤ◌, ◌+◌, ◌-◌, ◌/◌, ◌<◌, ◌||◌}
pub use Rattle.std.specs.Prelude.{◌∷◌, ◌≡◌, ◌≤◌, ◌⊎◌, if◌then◌else◌, is_some, is_none, ⊤, unwrap_or, slice_index, ◌==◌, option_map, All, Contains}
pub use Rattle.std.specs.Prelude.{option_and_then, bytes_eq, fold, count_by}
pub use lib.Utf8.{scalar_cases, scalars}
pub use Rattle.yaml_base.specs.{Encoding.encode, Encoding.cut, Indicators.version_1_1, Indicators.version_1_2, Places.most_key_bytes, TidyBodies.BodyIsTidy}
pub use Rattle.yaml_base.specs.{Words.is_word, Words.named, WrittenTexts.BodiesAreTidy, graphs.Dumped.IsDumpOf, graphs.Isomorphic.label_at, scalars.Plain.runs}
pub use Rattle.yaml_base.specs.{graphs.Isomorphic.Isomorphic, graphs.SeenNodes.numbers_of_pairs, graphs.SeenNodes.all_numbers, graphs.SeenNodes.first_outside}
pub use Rattle.yaml_base.specs.{reading.ReadBytes.characters_read, reading.ReadFolding.FoldUnit, reading.ReadFolding.unit_of, reading.ReadFolding.folding_read}
pub use Rattle.yaml_base.specs.{reading.ReadPercent.is_uri_character, reading.ReadPercent.percent_read, reading.ReadSingle.unquoted, scalars.Lines.parts}
pub use Rattle.yaml_base.specs.{reading.ReadSingle.read_single, scalars.Folded.folded_parts, scalars.Plain.render_runs, scalars.SingleQuoted.quotes_doubled}
pub use Rattle.yaml_base.specs.{scalars.SingleQuoted.single_quote, streams.StreamReader.stream_trees}
pub use Rattle.yaml_base.specs.Characters.{Text, is_among, is_between, line_feed, carriage_return, next_line, line_separator, paragraph_separator, space, tab}
pub use Rattle.yaml_base.specs.Characters.{is_alpha, is_ascii, is_space, is_blank, is_break, is_printable, hex_digit, hex_digits}
pub use Rattle.yaml_base.specs.Cursor.{Cursor, Rendered, first_cursor, render_nothing, render_then, column_after, breaks_line, new_line, space_if, indicator}
pub use Rattle.yaml_base.specs.Cursor.{is_past_width}
pub use Rattle.yaml_base.specs.Event.{ScalarStyle, any_style, plain, single_quoted, double_quoted, literal, folded, any_layout, block, flow, Version}
pub use Rattle.yaml_base.specs.Event.{TagDirective, DocumentStart, Scalar, Collection, Event, stream_start, stream_end, document_start, document_end, alias}
pub use Rattle.yaml_base.specs.Event.{scalar, sequence_start, sequence_end, mapping_start, mapping_end, scalar_tag, collection_tag}
pub use Rattle.yaml_base.specs.Grammar.{Node, alias_node, scalar_node, Nodes, sequence_node, Pairs, mapping_node, no_nodes, nodes_and, no_pairs, pairs_and}
pub use Rattle.yaml_base.specs.Grammar.{Document, Documents, no_documents, documents_and, Stream, node_events, nodes_events, pairs_events, document_events}
pub use Rattle.yaml_base.specs.Grammar.{documents_events, stream_events, Level, at_item, at_key, at_value, Partial, before_stream, between_documents, with_node}
pub use Rattle.yaml_base.specs.Grammar.{within_document, after_root, after_stream, closed, push_within, push, pushed, partial_of, finish_stream, tree_of}
pub use Rattle.yaml_base.specs.Layout.{Role, Body, as_root, as_item, as_key, render_if, as_value, Piece, Place, is_key, render_closing_marker, piece_text}
pub use Rattle.yaml_base.specs.Layout.{is_in_mapping, text_of, is_undented, bodies_of, render_version, line_column, Standing, deeper, RenderedPiece, one_piece}
pub use Rattle.yaml_base.specs.Layout.{entries_column, RenderedPieces, byte_count, then_pieces, render_tag_directives, name_count, piece_without_body, is_short}
pub use Rattle.yaml_base.specs.Layout.{tag_count, has_directives, is_explicit, render_anchor, render_document_marker, is_simple_scalar, render_document_start}
pub use Rattle.yaml_base.specs.Layout.{is_simple_collection, has_no_nodes, document_start_piece, has_no_pairs, is_simple, document_end_piece, render_properties}
pub use Rattle.yaml_base.specs.Layout.{root_place, render_alias, render_document, is_simple_at, flow_break, render_separation, has_no_documents, render_body}
pub use Rattle.yaml_base.specs.Layout.{opening_or_comma, render_documents, key_indicator, render_flow_place, first_standing, stream_end_piece, open_ended_after}
pub use Rattle.yaml_base.specs.Layout.{charset_of, style_asked_at, choice_of, layout, body_at, render_place, start_piece, allowed_by_quotes, allowed_by_blanks}
pub use Rattle.yaml_base.specs.Layout.{allowed_under, asks_flow, is_written_in_flow, Brackets, square, curly, empty_or_comma, render_end, entry_place}
pub use Rattle.yaml_base.specs.Layout.{render_node, render_nodes, render_pairs}
pub use Rattle.yaml_base.specs.LineBreaks.{break_text, with_breaks_written, with_line_breaks_read, is_read_break, is_rendered_text, is_indented_text}
pub use Rattle.yaml_base.specs.Meaning.{read_in_style, has_scalar_values, MeaningIsKept, directive_scalars, has_scalar_texts}
pub use Rattle.yaml_base.specs.Output.{encoding_asked, settings_for, text_written, bytes_written, output_of}
pub use Rattle.yaml_base.specs.Percent.{percent_sign, is_tag_character, byte_escaped, character_written, percent_escaped, is_suffix_character, suffix_escaped}
pub use Rattle.yaml_base.specs.Percent.{prefix_escaped}
pub use Rattle.yaml_base.specs.Pieces.{empty_scalar, outer_missing, levels_missing, missing, missing_after, completion, list_layout, first_ends_collection}
pub use Rattle.yaml_base.specs.Pieces.{last_closes_at_once}
pub use Rattle.yaml_base.specs.Ready.{awaited, is_balanced, nonempty_prefixes, is_ready, written}
pub use Rattle.yaml_base.specs.Refusal.{some_if, name_or_tag_fault, content_fault, expected, place_fault, most_open, begins_collection, ends_collection}
pub use Rattle.yaml_base.specs.Refusal.{open_levels, depth_fault, refusal_at, refusal, is_sound, open_count, IsAccepted}
pub use Rattle.yaml_base.specs.Settings.{Encoding, utf8, utf16_little, utf16_big, LineBreak, carriage_return_break, line_feed_break, both_break, Settings}
pub use Rattle.yaml_base.specs.Settings.{Effective, effective_indent, effective}
pub use Rattle.yaml_base.specs.Steps.{Frame, Stage, at_stream, at_document, at_node, at_document_end, at_nothing, next_place, stage_after, Stepped, leaf_step}
pub use Rattle.yaml_base.specs.Steps.{frame_opened, start_step, step, ends_next, Steps, then_steps, steps}
pub use Rattle.yaml_base.specs.StreamLaw.{is_written_as_nothing, loses_document, document_has_flow_indicator, all_read_alike, reads_alike}
pub use Rattle.yaml_base.specs.Tags.{name_fault, anchor_fault, alias_fault, tag_fault, version_fault, exclamation_mark, handle_fault, prefix_fault}
pub use Rattle.yaml_base.specs.Tags.{directive_fault, gives_handle, next_directive_fault, directives_fault_after, directives_fault, directives_in_force}
pub use Rattle.yaml_base.specs.Tags.{Spelling, shorthand, verbatim, spelling, spelled}
pub use Rattle.yaml_base.specs.graphs.Meetings.{NumberPair, Held, scalar_held, sequence_held, mapping_held, GraphNode, Graph, node_numbered, numbers_held}
pub use Rattle.yaml_base.specs.graphs.Meetings.{numbers_in, children, is_whole, Step, enters, leaves, meets_again, is_entry_of, steps_from, node_met_again}
pub use Rattle.yaml_base.specs.graphs.Meetings.{first_of_each, shared_nodes, numbered_name, anchor_of, string_tag, sequence_tag, mapping_tag}
pub use Rattle.yaml_base.specs.graphs.Meetings.{opening_event_of, opening_events, closing_event_of, closing_events, step_events, document_event_list}
pub use Rattle.yaml_base.specs.graphs.Unfolding.{scalar_kind, sequence_kind, mapping_kind, Label, Shape, no_shapes, node_shape_of, nodes_shapes, pairs_shapes}
pub use Rattle.yaml_base.specs.graphs.Unfolding.{Placed, alias_placed, PlacedNodes, node_placed, none_placed, placed_and, number_at, numbers_at, label_of}
pub use Rattle.yaml_base.specs.graphs.Unfolding.{HasShape, HaveShapes, Occurrence, alias_occurrence, node_occurrence, occurrences, occurrences_below, IsReached}
pub use Rattle.yaml_base.specs.graphs.Unfolding.{has_anchor, is_occurrence_of, NamesItsNode, NameTheirNodes, first_reached, child_reached, TreeUnfolds}
pub use Rattle.yaml_base.specs.graphs.Unfolding.{ContentUnfolds, IsWholeGraph}
pub use Rattle.yaml_base.specs.reading.CanonicalReader.{shorthand_read, verbatim_read, read_tag, canonical_content}
pub use Rattle.yaml_base.specs.reading.Content.{tagged, untagged, Content, scalar_content, sequence_content, mapping_content, no_contents, contents_and}
pub use Rattle.yaml_base.specs.reading.Content.{no_content_pairs, content_pairs_and, DocumentContent, node_content}
pub use Rattle.yaml_base.specs.reading.ReadBlock.{elements, strip, digit_first, after_digit, chomping_first, after_chomping, after_break, read_lines}
pub use Rattle.yaml_base.specs.reading.ReadBlock.{read_block}
pub use Rattle.yaml_base.specs.reading.ReadDouble.{QuotePlace, between, goes_on, gives, ends_quotes, has_no_reading, Quoted, with_unit, after_step}
pub use Rattle.yaml_base.specs.reading.ReadDouble.{quoted_from, quoted_reading, value_before, value_alone, read_double}
pub use Rattle.yaml_base.specs.reading.ReadPlain.{is_read_white, begins_white, begins_with_three, begins_no_plain, begins_with_hash, holds_no_plain, read_plain}
pub use Rattle.yaml_base.specs.reading.ReadTags.{ParsedTag, bare_parsed, name_parsed, CutText, prefix_among, directives_assumed, cut_after_exclamation}
pub use Rattle.yaml_base.specs.reading.ReadTags.{name_joined, without_closing_angle, parse_tag}
pub use Rattle.yaml_base.specs.reading.TidyText.{begins_with_spaces, begins_with_blank_line, begins_with_deep_line, has_deep_lines, has_no_space_before_break}
pub use Rattle.yaml_base.specs.reading.TidyText.{ends_white, has_clean_edges, is_tidy_style, is_tidy_character, is_tidy}
pub use Rattle.yaml_base.specs.scalars.Analysis.{Charset, Allowances, somewhere, is_empty, is_special, bars_block, allows_block, allowances}
pub use Rattle.yaml_base.specs.scalars.Analysis.{is_special_but_tab, is_blank_to_line_end, begins_with_blanks_alone, bars_literal, allows_literal}
pub use Rattle.yaml_base.specs.scalars.BlockHeader.{ending, indentation_hint, ending_hint, render_hint, ends_in_break}
pub use Rattle.yaml_base.specs.scalars.DoubleQuoted.{short_escapes, letter_among, escape_after_backslash, escape_text, needs_escape, character_text}
pub use Rattle.yaml_base.specs.scalars.DoubleQuoted.{double_inside, render_quote}
pub use Rattle.yaml_base.specs.scalars.Style.{ChosenStyle, lacks_tag_and_flags, is_plain, is_block, is_literal, requested_style, quoted_style, fitting_style}
pub use Rattle.yaml_base.specs.scalars.Style.{fits_plain, chosen}
pub use Rattle.yaml_base.specs.streams.StreamContent.{Stood, stood_plain, stood_quoted, stood_bare, Tagging, with_tag, without_tag, Tree, alias_tree}
pub use Rattle.yaml_base.specs.streams.StreamContent.{scalar_tree, Trees, sequence_tree, TreePairs, mapping_tree, no_trees, trees_and, no_tree_pairs}
pub use Rattle.yaml_base.specs.streams.StreamContent.{tree_pairs_and, DocumentTree, document_agrees, documents_in_order, agrees}
pub use Rattle.yaml_base.specs.streams.StreamDocuments.{begins_with_marker, start_marker, end_marker, no_exclamation, marker_of, Section, Sections, sections_of}
pub use Rattle.yaml_base.specs.streams.StreamDocuments.{Prologue, no_prologue, prologue_read, stands_at_margin, root_below, after_prologue, with_read_document}
pub use Rattle.yaml_base.specs.streams.StreamDocuments.{with_prologue, section_by_kind, directive_lines, document_lines, begins_with_percent, prefix_kind}
pub use Rattle.yaml_base.specs.streams.StreamDocuments.{lines_before_marker_read, documents_at_end, sections_read, documents_of}
pub use Rattle.yaml_base.specs.streams.StreamFlow.{is_alias, longest_key, is_key_text, no_key, key_due, key_held, OpenFlow, in_sequence, in_mapping, at_once}
pub use Rattle.yaml_base.specs.streams.StreamFlow.{after_blank, after_white, Awaited, collection_awaited, entry_awaited, node_awaited, comma_awaited}
pub use Rattle.yaml_base.specs.streams.StreamFlow.{colon_awaited, FlowReading, failed, done, within, with_tree, word_step, level_opened, opened, flow_step}
pub use Rattle.yaml_base.specs.streams.StreamFlow.{tree_at_end, flow_read}
pub use Rattle.yaml_base.specs.streams.StreamLines.{Line, prepend_to_first_line, prepend_character, lines_of, text_of_lines, is_spaces, without_skipped_lines}
pub use Rattle.yaml_base.specs.streams.StreamLines.{first_line_is_skipped, ends_indicator, begins_with_indicator, belongs_to_entry, all_deeper, Indented}
pub use Rattle.yaml_base.specs.streams.StreamLines.{indented_step, past_indentation, spaces, blanked}
pub use Rattle.yaml_base.specs.streams.StreamNodes.{SimpleKey, without_last_space, word_but_alias, word_of_alias, key_of_text, key_ends, key_from, key_of_line}
pub use Rattle.yaml_base.specs.streams.StreamNodes.{LinesReader, key_entry, value_entry, simple_entry, prepend_to_trimmed, trimmed, word_text, kind_of_text}
pub use Rattle.yaml_base.specs.streams.StreamNodes.{is_space_or_break, text_by_kind, text_read, NodeKind, begins_sequence, begins_mapping, begins_text, node_at}
pub use Rattle.yaml_base.specs.streams.StreamNodes.{kind_of_node, ReadsText, node_by_kind, node_lines, begins_properties, after_properties, text_or_properties}
pub use Rattle.yaml_base.specs.streams.StreamNodes.{node_read}
pub use Rattle.yaml_base.specs.streams.StreamScalars.{Rules, Properties, no_properties, PropertiesRead, cut_before_space, name_read, anchor_of_word}
pub use Rattle.yaml_base.specs.streams.StreamScalars.{tag_of_word, leading_tag, properties_read, collection_tag_parsed, tagging_of}
pub use Rattle.yaml_base.specs.streams.StreamScalars.{style_of_first_character, stood_in_style, scalar_parsed, scalar_of_style, an_alias, empty_sequence}
pub use Rattle.yaml_base.specs.streams.StreamScalars.{empty_mapping, a_scalar, kind_of_word, word_by_kind, word_after, word_read}
pub use Rattle.yaml_base.specs.streams.StreamTokens.{FlowToken, word, opens, symbol, blank, line_end, FlowPlace, free, FlowStep, FlowClass, is_white_blank}
pub use Rattle.yaml_base.specs.streams.StreamTokens.{is_white_break, is_flow_indicator, begins_property, begins_double, begins_single, begins_bracket}
pub use Rattle.yaml_base.specs.streams.StreamTokens.{begins_plain, class_of, begun_token, bracket_step, is_pair, flow_tokens}
pub use Rattle.yaml_base.specs.values.JsonNumbers.{JsonExponent, JsonNumber, is_json_number, minus, exponent_negative, exponent_value, json_value}
pub use Rattle.yaml_base.specs.values.JsonNumbers.{exponent_spelled, yaml_number, number_meant, means_number}
pub use Rattle.yaml_base.specs.values.Resolved.{Decimal, Resolved, meant_integer, meant_decimal, meant_timestamp, meant_text, first_reading, words_of_core}
pub use Rattle.yaml_base.specs.values.Resolved.{words_of_11, is_point, is_exponent_letter, is_plus_or_minus, is_decimal, first_meets, past_sign, is_negative}
pub use Rattle.yaml_base.specs.values.Resolved.{signed, are_digits, counted_digits, decimal_of_digits, exponent_read, times_power_of_ten, scientific}
pub use Rattle.yaml_base.specs.values.SchemaCore.{core_integer, core_based, core_mantissa, core_decimal, resolved_by_core}
pub use Rattle.yaml_base.specs.values.SchemaOf11.{is_underscore, ungrouped, are_grouped, begins_grouped, is_leading, based_11, octal_11, decimal_11}
pub use Rattle.yaml_base.specs.values.SchemaOf11.{are_sixtieths, is_colon, sixties_11, fine_sixties_11, mantissa_11, exponent_11, float_11, has_more_points}
pub use Rattle.yaml_base.specs.values.SchemaOf11.{more_points_11, points_11, past, is_hyphen, is_date, is_time_after_date, in_date, timestamp_11, numbers_11}
pub use Rattle.yaml_base.specs.values.SchemaOf11.{resolved_by_11}
pub use Rattle.yaml_base.specs.values.SurelyText.{is_reserved, is_symbol, is_based, is_number_letter, in_number, is_numeric}
