-- The names that most proofs here cite, passed on from one place. Declares nothing.
pub use Rattle.yaml_base.proofs.Common.{flat_map-append, map-append, list_all-append, bytes_eq-Decides, chars, ap, append-nil, append_assoc, arith, eqb-true}
pub use Rattle.yaml_base.proofs.Common.{inl, inr, length-append, subst, sym, ◌∙◌, false≢true, and_from, not_from_false, and_parts, list_all, list_any, Bool}
pub use Rattle.yaml_base.proofs.Common.{List, None, Option, Some, [], codes, cond, drop, false, length, map, not, refl, slice_index_or, suc, take, true, zero}
pub use Rattle.yaml_base.proofs.Common.{ℕ, ◌&&◌, ◌++◌, ◌+◌, ◌-◌, ◌<◌, ◌||◌, ◌∷◌, ◌≡◌, ◌≤◌, ◌⊎◌, if◌then◌else◌, is_some, is_none, unwrap_or, ◌==◌}
pub use Rattle.yaml_base.proofs.Common.{option_and_then, bytes_eq, Text, ScalarStyle, plain, Scalar, Event, scalar, sequence_start, sequence_end}
pub use Rattle.yaml_base.proofs.Common.{mapping_start, mapping_end, scalar_tag, collection_tag, scalar_node, Nodes, Pairs, no_nodes, nodes_and, no_pairs}
pub use Rattle.yaml_base.proofs.Common.{pairs_and, Document, Documents, no_documents, documents_and, Stream, after_stream, partial_of, has_scalar_texts}
pub use Rattle.yaml_base.proofs.Common.{most_open, begins_collection, is_sound, open_count, IsAccepted, Settings, Effective, directives_in_force, is_empty}
pub use Rattle.yaml_base.proofs.Common.{is_plain, Tree, JsonNumber, is_json_number, minus, yaml_number, are_digits, resolved_by_core, resolved_by_11}
pub use Rattle.std.proofs.{Math.Nat.le-max_left, Math.Nat.le-max_right, lemmas.Bool.both_ways, lemmas.Bool.cases_lt, lemmas.List.append_cancel_right}
pub use Rattle.std.proofs.Common.{Bor, ap₂, length-drop, length-take-le, take-append-drop, take_all}
pub use Rattle.std.specs.Io.KnownBytes.{Appends}
pub use Rattle.std.specs.Prelude.{Err, Ok, Result, IfSome, IfErr, IsSome, OnErr, OnOk, flat_map}
pub use Rattle.json.{proofs.Nesting.value-depth, specs.Lex.tokens, specs.Reads.token_of, specs.Token.Token}
pub use Rattle.json.proofs.Grammar.{left, value_is, members_no_key, left_some}
pub use Rattle.json.specs.Json.{Json, null, boolean, number, string, Items, array, Members, object, no_items, item, no_members, member, parse_map}
pub use Rattle.json.specs.Json.{after_end_array, read_key, value, skip_value}
pub use Rattle.json.specs.Tree.{json_tokens, items_tokens, members_tokens, depth, HasNumbers}
pub use Rattle.yaml_base.{proofs.Trees.stream_pushed, proofs.stream_nodes.StreamAgrees.node_tree, specs.Prefix.IsPrefix}
pub use Rattle.yaml_base.{specs.values.JsonNumbers.fraction_or_default, specs.values.JsonNumbers.is_json_integer}
pub use Rattle.yaml_base.specs.values.TypedValues.{null_tag, bool_tag, int_tag, bool_text}
pub use Rattle.yaml_emitter.{proofs.Common.some_from_result, specs.Promises.RefusedAt, specs.StandsAfter.StateStands, specs.State.State}
pub use Rattle.yaml_json.specs.{Begins.BeginsWithinDepth, Begins.NoneGoesOn, Cuts.HasScanned, Cuts.CutsAt, HeldNames.HaveNames, HeldNames.HoldsNames}
pub use Rattle.yaml_json.specs.{HeldNames.AddsName, Texts.after_byte, Texts.texts_in, Texts.CutsFirstText, TokenEvents.token_events, TokenEvents.tokens_events}
pub use Rattle.yaml_writer.specs.Means.{Schema}
pub use Rattle.yaml_writer.specs.Failing.{FailedHaving}
pub use Rattle.yaml_writer.specs.WasGiven.{between, IsBare, WasGiven, WroteEvent, start_event}
pub use Rattle.yaml_json.specs.Failing.{failure_of, emitter_error_of, FailedInText, events_with_separators}
pub use Rattle.yaml_json.specs.JsonEvents.{json_events, items_events, members_events}
pub use Rattle.yaml_writer.specs.Contents.{word_content, null_content, bool_content, number_content, text_content, collection_in}
pub use Rattle.yaml_json.specs.Names.{IsNewName, inner_names, names_after, NamesOnce, all_names_after}
pub use Rattle.yaml_json.specs.Refused.{RefusesText, TokensBreakOff, OpensTooDeep, NamesTwice, ExplainsError, HaveNamesOnce}
pub use Rattle.yaml_json.specs.Sent.{Advances, StopsWithin, IsScanned}
pub use Rattle.yaml_json.specs.Walk.{unwind, LeavesOpen, IsScalar, opener, closer, KeepsNames, FitsNames, KeepsNamesAfter, HasUniqueNames, BeganValue, Refuses}
pub use Rattle.yaml_json.specs.Walk.{BeginFailed, RefusesToken, BeganFirstValue, FirstFailed, RefusesFirst, WhyStopped, WalkProgress}
pub use Rattle.yaml_json.specs.Wrote.{WroteText, AreJson, parts_events, ReadsTexts}
pub use Rattle.yaml_writer.{specs.NumberParts.number_in, specs.NumberParts.IsNumber}
pub use Rattle.yaml_writer.specs.Writing.{WriterState, opening, closing, float_tag, number_tag, number_event, text_style, text_event, mapping_event}
pub use Rattle.yaml_writer.specs.Writing.{sequence_event, end_event, with_collection, IsNewWriter, PassedEvents, GaveEvent, EndsInnermost}
pub use Prim.Native.Nat.{min}
pub use Rattle.std.proofs.{lemmas.Bool.Decides.nat_tests, lemmas.Bool.false_from_ne_true, lemmas.Bool.ne_eqb, lemmas.Bool.true≢false, lemmas.Grind.common_steps}
pub use Rattle.std.proofs.{lemmas.Simd.mask_l-mod, lemmas.Simd.zip2_of_maps, lemmas.Simd.zip2_splat, lemmas.Simd.map-map, lemmas.Str.IsCharBoundary-after_ascii}
pub use Rattle.std.proofs.Common.{◌%◌, ◌*◌, ◌^◌, rules, bit_and, eqb, nat_eq, ltb, get_or, replicate, ◌↔◌}
pub use Rattle.std.proofs.lemmas.List.{drop_more, drop_all, length-map, drop-drop, get_or-drop}
pub use Rattle.json.proofs.Unique.Spelling.{value-json_tokens_back}
pub use Rattle.json.specs.{Strict.HasUniqueKeys, Text.after_backslash, Text.after_high, Text.after_u, Text.content, Text.prepend}
pub use Rattle.json.specs.Lex.{Class, Lexeme, after_comma, after_key, after_value, backslash, begins_colon, class, colon, comma, fresh, if_allowed, in_escape}
pub use Rattle.json.specs.Lex.{in_string, in_word, lex, lex_byte, may_begin, may_close, operator, other, place_token, quote, space, string_token, token}
pub use Rattle.json.specs.Token.{bad, begin_array, begin_object, end_array, end_object, key}
pub use Rattle.json.specs.Word.{after_digits, after_exponent, after_fraction, after_minus, after_sign, after_whole, ends_word, head, is_operator, is_space}
pub use Rattle.json.specs.Word.{literal, number_before, word}
pub use Rattle.yaml_base.proofs.Common.{or_parts}
pub use Rattle.std.specs.{Char.encode_utf8, Char.is_ascii_digit, Int.bit_at, List.prefix_len, List.starts_with, Str.IsCharBoundary, String.string_bytes}
pub use Rattle.yaml_base.specs.{declared.errors.yaml_error_t.TheVariants.Memory, declared.errors.yaml_error_t.yaml_error_t, declared.places.Position.Position}
pub use Rattle.yaml_base.specs.declared.kinds.CollectionKind.{CollectionKind}
pub use Rattle.yaml_base.specs.declared.kinds.CollectionKind.TheVariants.{Mapping, Sequence}
pub use Rattle.yaml_json.specs.{Ahead.IsTidy, Ahead.IsTrimmed, Ahead.StepsFrom, Ahead.ahead, Ahead.place_of, Begins.BeginsSome, Failing.Grew, Failing.Kept}
pub use Rattle.yaml_json.specs.{Failing.writers_error, Faults.Fault, Faults.FaultsAt, Faults.content_fault, Faults.said_at, Lexemes.ArePlain, Lexemes.Unescapes}
pub use Rattle.yaml_json.specs.{Lexemes.first_unit, Lexemes.is_stop, Offsets.PassesLexeme, Places.HasPlaceWithin, Places.IsAny, Places.IsPositionAfter}
pub use Rattle.yaml_json.specs.{Places.MovesPosition, Reached.AreFrom, Reached.Reader, Refused.IsByText, Stopped.StopsInText, WalkSteps.at}
pub use Rattle.yaml_json.specs.{declared.cuts.Cut.Cut, declared.cuts.Scan.Scan, declared.error.JsonError.JsonError, declared.error.StreamError.StreamError}
pub use Rattle.yaml_json.specs.{declared.expecting.Expected.Expected, declared.expecting.Last.Last, declared.tokens.Stage.Stage}
pub use Rattle.yaml_json.specs.{declared.tokens.Stage.TheVariants.Open, declared.tokens.Stage.TheVariants.Over, declared.tokens.Stage.TheVariants.Owed}
pub use Rattle.yaml_json.specs.{declared.values.Spot.Spot, declared.values.Spot.TheVariants.At, declared.values.Spot.TheVariants.PastString}
pub use Rattle.yaml_json.specs.{declared.values.Spot.TheVariants.PastValue, declared.values.Stop.Stop}
pub use Rattle.yaml_json.specs.Expected.{StandingInJson, expected_by, innermost, standing_over, start}
pub use Rattle.yaml_json.specs.Lexing.{EndsWord, Leads, LeadsFrom, MayBegin, mode_after, mode_over}
pub use Rattle.yaml_json.specs.Sent.{SentSoFar, StopsInPart, StopsPartAt, StopsSending, emitter_error}
pub use Rattle.yaml_json.specs.Walk.{GaveTokens, NoStringNext, ReadsNone, StepFailed, TextStopsWriting, closes}
pub use Rattle.yaml_json.specs.declared.expecting.Last.TheVariants.{Colon, Comma, First, Nothing, Opener, Value}
pub use Rattle.yaml_writer.proofs.{AnswerLemmas.kept_then, GivenLemmas.bare_awaits_none, OpenLevels.gave_same, OpenLevels.usable_by}
pub use Rattle.yaml_writer.specs.{Answering.FailsAt, WasGiven.GaveEvents, WasGiven.levels_after, WasGiven.levels_after_event}
pub use lib.Lanes.{chunk, mask_l, top, zip2}
