-- The names that most proofs here cite, passed on from one place. Declares nothing.
pub use Rattle.std.proofs.Common.{FitsSigned, map, rules, vec_len, w64}
pub use Rattle.std.proofs.lemmas.List.Elements.{All-append, All-cons, All-nil, All-weaker}
pub use Rattle.std.proofs.lemmas.Str.{IsUtf8-from_ascii, IsUtf8-past_char, IsUtf8-string_bytes, encode_ascii, encode_same, encodes-append, encodes-chars}
pub use Rattle.std.proofs.lemmas.Str.{scalars-chars}
pub use Rattle.std.specs.Prelude.{Err, IfErr, IfOk, IfSome, MatchOption, Ok, Result, String, Vec, ℤ, ◌^◌}
pub use Rattle.yaml_base.proofs.Common.{All, All-head, All-tail, Bool, Contains, Document, Event, Graph, GraphNode, Held, IsWholeGraph, Isomorphic, List, None}
pub use Rattle.yaml_base.proofs.Common.{Option, Some, Step, Text, [], agree_below_at, alias, alias_fault, alias_node, all_scalars, anchor_fault, anchor_of}
pub use Rattle.yaml_base.proofs.Common.{and_from, and_parts, any_layout, ap, append-nil, append_assoc, arith, bytes_eq, bytes_eq-Decides, canonical_content}
pub use Rattle.yaml_base.proofs.Common.{character_text, chars, chars-IsAscii, chars-encodes, children, closing_event_of, closing_events, codes, cond}
pub use Rattle.yaml_base.proofs.Common.{document_end, document_event_list, document_events, document_start, documents_and, drop, encode, encode_utf8}
pub use Rattle.yaml_base.proofs.Common.{encode_utf8_all, enters, eqb-true, escape_after_backslash, escape_text, false, false≢true, flat_map, flat_map-append}
pub use Rattle.yaml_base.proofs.Common.{hex_digit, hex_digits, if◌then◌else◌, inl, inr, is_alpha, is_between, is_some, is_tag_character, leaves, length}
pub use Rattle.yaml_base.proofs.Common.{length-append, length-le-encodes, letter_among, line_feed, list_all, list_all-append, ltb-true, mapping_end}
pub use Rattle.yaml_base.proofs.Common.{mapping_held, mapping_start, meets_again, name_fault, nat_le, nat_lt, nat_tests, needs_escape, negsuc, no_documents}
pub use Rattle.yaml_base.proofs.Common.{node_content, node_events, node_numbered, nodes_events, not, not-true, numbers_in, opening_event_of, opening_events}
pub use Rattle.yaml_base.proofs.Common.{option_and_then, option_map, or_parts, pairs_events, percent_escaped, pos, refl, replicate, scalar_cases, scalar_held}
pub use Rattle.yaml_base.proofs.Common.{sequence_end, sequence_held, sequence_start, short_escapes, space, spelled, step_events, stream_end, stream_start}
pub use Rattle.yaml_base.proofs.Common.{subst, suc, sym, tag_fault, take, true, true≢false, unwrap_or, utf8, verbatim, zero, ℕ, ◌%◌, ◌&&◌, ◌*◌, ◌++◌, ◌+◌, ◌-◌}
pub use Rattle.yaml_base.proofs.Common.{◌/◌, ◌<◌, ◌==◌, ◌||◌, ◌∙◌, ◌∷◌, ◌≡◌, ◌≤◌, ◌⊎◌}
pub use Rattle.yaml_base.specs.graphs.DumpedText.{anchor_text, closing_line, document_text, dumped_text, in_quotes, line_at, node_pairs_text, node_text}
pub use Rattle.yaml_base.specs.graphs.DumpedText.{nodes_text, tag_text, value_text}
pub use Rattle.yaml_base.specs.values.TypedValues.{Has64Bits, Have64Bits, PairsHave64Bits, TypedPairs, TypedValue, TypedValues, WritesValue, bool_text}
pub use Rattle.yaml_base.specs.values.TypedValues.{bool_value, int_value, list_value, map_value, most_nested, nesting, no_value_pairs, no_values, null_value}
pub use Rattle.yaml_base.specs.values.TypedValues.{text_value, value_nodes, value_pairs, value_pairs_and, value_pairs_nesting, values_and, values_nesting}
pub use Rattle.yaml_read.specs.Awaits.{EntryStands, LeadStands, can_end, closing_event, seen_await, seen_awaits}
pub use Rattle.yaml_read.specs.Beginnings.{IsOpeningRead, NoEscaped, NoName, NoOpening, NoTag, ReadOr}
pub use Rattle.yaml_read.specs.DocumentTexts.{AreDumpedBytes, IsWritable, unstyled_graph, unstyled_node}
pub use Rattle.yaml_read.specs.EventSteps.{GoesTo, ReadsEvent, await_opened, bytes_behind, open_behind_opening, open_now, text_behind_lead}
pub use Rattle.yaml_read.specs.EventSteps.{trail_behind_opening}
pub use Rattle.yaml_read.specs.EventTexts.{BeginsNode, HasRunText, IsAnchor, IsInNode, IsOver, Pending, begins_node, closing_text, ends_in_name, ends_mapping}
pub use Rattle.yaml_read.specs.EventTexts.{ends_name, ends_sequence, event_text, is_alias, is_mapping, is_scalar, is_sequence, item_awaited, key_awaited}
pub use Rattle.yaml_read.specs.EventTexts.{lead_text, left_open, may_come, more_come, next_awaited, next_open, opening_text, outside, root_ends, trail_text}
pub use Rattle.yaml_read.specs.EventTexts.{value_awaited}
pub use Rattle.yaml_read.specs.Grammar.{behind_tag, behind_value, characters, entry_end, integer, levels_then, line_then, node, nothing, quoted_text}
pub use Rattle.yaml_read.specs.Grammar.{these_or_those, truth, unless_deep, word_then}
pub use Rattle.yaml_read.specs.HeldKeys.{FollowedBy, FollowsKeys, InnermostIsNew, KeyStopsAt}
pub use Rattle.yaml_read.specs.Opened.{HasRead, IsOpen, OpenCanBeRead, list_begun, map_begun, opened_text}
pub use Rattle.yaml_read.specs.Places.{BreaksAt, BreaksInValue, BreaksOff, CannotStand, IsHere, IsHereOrMemory, IsWholeWord, IsWordPlace, LacksEnd}
pub use Rattle.yaml_read.specs.Places.{OpensPastDepth, StopsAt, StopsIn, behind_all, behind_node, in_node, more_follows, no_end, no_level}
pub use Rattle.yaml_read.specs.Readable.{AllCanBeReadAt, CanBeRead, CanBeReadAt, HasScalarTexts, HaveScalarTexts, PairsCanBeReadAt, PairsHaveScalarTexts}
pub use Rattle.yaml_read.specs.Remaining.{Completes, IsDue, column_in, item_follows, list_ends, map_ends, pair_follows, text_ends, value_follows}
pub use Rattle.yaml_read.specs.RunPlaces.{IsEventPlace, IsNodePlace, NoEventBegins, RunStops, StopsBy, bare_start, in_document}
pub use Rattle.yaml_read.specs.Settled.{BeginsLevel, Ended, Moved, NextMoved, begins_list, begins_map, level_opened, none_ended, one_ended, value_given}
pub use Rattle.yaml_read.specs.Sound.{IsCharacter, IsInteger, IsScalarValue, IsTruth}
pub use Rattle.yaml_read.specs.Stepped.{BehindRead, EntryLacks, IsEmptyLevel, NextShorter, NodeStepped, closed_value, empty_list_level, empty_map_level}
pub use Rattle.yaml_read.specs.Stepped.{no_bracket, no_lead, no_memory, no_room}
pub use Rattle.yaml_read.specs.Words.{Cuts, IsMemory, OrMemory, past_word}
pub use Rattle.yaml_read.specs.WrittenTags.{HasHeldText, byte_in_tag, ends_tag, is_spelled_by, mapping_opened, opens_document, opens_type, opens_whole}
pub use Rattle.yaml_read.specs.WrittenTags.{sequence_opened, type_prefix, value_quoted}
pub use Rattle.yaml_value.specs.OpenLevels.{OpenLevel, items_open, pairs_open, seen_level, seen_levels, value_due, with_value}
pub use denote.Shadow.{shadow}
pub use denote.Text.{Utf8}
pub use Rattle.std.{proofs.Math.Seq.take-append_seam, proofs.lemmas.Fmt.IsAscii-signed, proofs.lemmas.Fmt.parse-signed_decimal, proofs.lemmas.Int.to_z-of_z}
pub use Rattle.std.{proofs.lemmas.List.append_cancel_left, proofs.lemmas.List.map-append, proofs.lemmas.List.replicate-append-replicate}
pub use Rattle.std.{proofs.lemmas.Option.IfSome_then, proofs.lemmas.Option.none-some, proofs.lemmas.Option.same_Some, proofs.lemmas.Result.IfOk-weaker}
pub use Rattle.std.{specs.BTreeSet.contains_text, specs.Borrow.Bor, specs.Fmt.signed_decimal, specs.Int.Signed.mag, specs.List.prefix_len}
pub use Rattle.std.{specs.Str.IsCharBoundary, specs.Str.IsUtf8, specs.Str.Parse.ParsesSigned, specs.String.string_bytes, specs.String.string_vec}
pub use Rattle.yaml_base.{proofs.AllPass.all_pass, proofs.AsciiWords.ascii_of, proofs.ContentsUnfold.content_unfolds, proofs.Decoding.text_bytes-utf8}
pub use Rattle.yaml_base.{proofs.DocumentsUnfold.document_unfolds, proofs.PercentLaws.are_bytes, proofs.PercentLaws.escaped_stands}
pub use Rattle.yaml_base.{proofs.PercentLaws.stands_written, proofs.SameShapes.same_shape, proofs.Unstyled.unstyled, specs.Characters.backslash}
pub use Rattle.yaml_base.{specs.Seen.seen_event, specs.Seen.seen_text, specs.Settings.largest_usize, specs.Tags.behind, specs.Tags.spelling_by}
pub use Rattle.yaml_base.{specs.declared.errors.yaml_error_t.yaml_error_t, specs.declared.errors.yaml_error_t.TheVariants.AliasAlphabet}
pub use Rattle.yaml_base.{specs.declared.errors.yaml_error_t.TheVariants.AnchorAlphabet, specs.declared.places.Position.Position}
pub use Rattle.yaml_base.{specs.graphs.Documents.graph_of, specs.graphs.Meetings.graph_steps, specs.graphs.Unfolding.Unfolds}
pub use Rattle.yaml_base.{specs.graphs.Unfolding.content_shape, specs.reading.ReadDouble.digit_meaning, specs.reading.ReadDouble.letter_meaning}
pub use Rattle.yaml_base.{specs.reading.ReadDouble.meaning_among, specs.scalars.DoubleQuoted.quote, specs.values.UniqueKeys.HasUniqueKeys}
pub use Rattle.yaml_base.{specs.values.UniqueKeys.IsNewKey}
pub use Rattle.yaml_read.specs.{AllowedKeys.KeysAllow, AllowedKeys.OpenHasUniqueKeys, AllowedKeys.OpenKeysAllow, DocumentPlaces.AreRunBytes}
pub use Rattle.yaml_read.specs.{DocumentPlaces.DocumentStops, DocumentPlaces.IsDocumentPlaced, Errors.Tells, Heads.ReadsCharacter, Heads.tag_word}
pub use Rattle.yaml_read.specs.{ReadBack.IsJust, RepeatedKeys.IsPlacedBy, RepeatedKeys.key_bytes, declared.errors.KeyStop.KeyStop}
pub use Rattle.yaml_read.specs.{declared.errors.ReadError.ReadError, declared.errors.Stop.Stop, declared.heads.Kind.Kind, declared.keys.OpenKeys.OpenKeys}
pub use Rattle.yaml_read.specs.{declared.leads.Await.Await, declared.levels.Entry.Entry, declared.levels.Entry.TheVariants.Another}
pub use Rattle.yaml_read.specs.{declared.levels.Entry.TheVariants.End, declared.levels.Next.Next}
pub use Rattle.yaml_value.{proofs.SeenLevels.level_more, proofs.SeenLevels.seen_string, proofs.SeenLevels.seen_truth, specs.SeenValues.seen_value}
pub use Rattle.yaml_value.{specs.declared.keys.Keys.Keys, specs.declared.levels.Level.Level, specs.declared.value.Value.Value}
