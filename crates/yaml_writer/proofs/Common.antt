-- The names that most proofs here cite, passed on from one place. Declares nothing.
pub use Rattle.yaml_base.proofs.Common.{suc, zero, ℕ, ◌<◌, ◌≤◌, if◌then◌else◌, ◌==◌, is_some, is_none, option_map, Option, None, Some, codes, nat_lt, drop}
pub use Rattle.yaml_base.proofs.Common.{length, take, Bool, false, not, true, ◌&&◌, ◌||◌, List, [], map, ◌++◌, ◌∷◌, refl, ◌≡◌, eqb-true, ltb-true}
pub use Rattle.yaml_base.proofs.Common.{length-append, true≢false, append-nil, append_assoc, inr, ap, subst, sym, ◌∙◌, arith, and_parts, and_from, and_left}
pub use Rattle.yaml_base.proofs.Common.{and_right, or_from, not_from_false, not-true, list_all-append, take_while-cons, digit_value, list_all, list_any}
pub use Rattle.yaml_base.proofs.Common.{take_while, option_or, encode_utf8_all, Text, is_among, is_ascii, is_space, is_break, plain, Event, stream_end}
pub use Rattle.yaml_base.proofs.Common.{document_end, alias, scalar, sequence_start, mapping_start, settings_for, list_layout, written, IsAccepted, Settings}
pub use Rattle.yaml_base.proofs.Common.{Effective, is_word, Allowances, requested_style, fitting_style, fits_plain, JsonExponent, JsonNumber, is_json_number}
pub use Rattle.yaml_base.proofs.Common.{minus, exponent_spelled, yaml_number, is_decimal, first_meets, are_digits}
pub use Rattle.yaml_emitter.proofs.Common.{IsRefusal, Promised, StandsAfter, State}
pub use Rattle.std.{proofs.lemmas.Grind.common_steps, proofs.lemmas.Int.to_z-of_z, proofs.lemmas.List.nil_from_length, proofs.lemmas.Str.encodes-chars}
pub use Rattle.std.{proofs.lemmas.Str.Parse.digit_from_value, proofs.lemmas.Str.Pattern.strip_prefix_char, specs.Char.to_ascii_lowercase}
pub use Rattle.std.{specs.Fmt.signed_decimal, specs.Str.IsUtf8, specs.String.string_bytes}
pub use Rattle.std.proofs.Common.{ap₂, lit<, rules, w64}
pub use Rattle.std.specs.Prelude.{Err, Ok, Result, chars, IfErr, OnOk}
pub use Rattle.yaml_base.proofs.{Literals.chars-literal, NumberCuts.digit_unlike, Prefixes.prefix_then, SurelyTexts.surely_text}
pub use Rattle.yaml_base.specs.Seen.{seen_scalar_style, seen_sequence_style, seen_mapping_style, seen_text, seen_event}
pub use Rattle.yaml_base.specs.values.{SurelyText.reserved_words, SurelyText.ascii_prefix, SurelyText.is_doubtful, TypedValues.int_tag}
pub use Rattle.yaml_base.specs.values.JsonNumbers.{is_whole_part, exponent_text, json_text, fraction_or_default, is_json_integer}
pub use Rattle.yaml_emitter.{proofs.EndedStreams.ends_last, specs.Promises.HasRoomAndMemory}
pub use Rattle.yaml_pen.{proofs.Writing.none_from_result, proofs.Writing.some_from_result, specs.Page.output_left, specs.Page.result_of_error}
pub use Rattle.yaml_pen.{specs.Wrote.Grows}
pub use Rattle.yaml_writer.specs.{Inside.writer_state_of, SeenNumbers.seen_parts, Spellings.is_spelled, Unfinished.RefusesOne, Unfinished.PassesLimit}
pub use Rattle.yaml_writer.specs.{Unfinished.IsUnfinishedBy, Words.is_reserved_word}
pub use Rattle.yaml_writer.specs.NumberParts.{IsNumber, IsNoNumber, is_fraction, is_exponent}
pub use Rattle.yaml_writer.specs.Writing.{WriterState, plain_start, is_implicit, closing_by, word_event, float_tag, end_event}
pub use Rattle.yaml_writer.specs.Writing.{PassedEvents, GaveEvent, FinishesBy}
