-- The names that most proofs here cite, passed on from one place. Declares nothing.
pub use Rattle.yaml_base.proofs.Common.{suc, zero, ℕ, ◌%◌, ◌+◌, ◌-◌, ◌/◌, ◌<◌, ◌≤◌, if◌then◌else◌, ◌==◌, slice_index, option_map, Option, None, Some, codes, ℤ}
pub use Rattle.yaml_base.proofs.Common.{nat_le, nat_lt, negsuc, pos, length, replicate, take, Bool, false, not, true, ◌&&◌, ◌||◌, List, [], map, ◌++◌, ◌∷◌, ◌⊎◌}
pub use Rattle.yaml_base.proofs.Common.{refl, ◌≡◌, eqb-true, le-leb, le-ltb, leb-true, lt-ltb, true≢false, append-nil, append_assoc, inl, inr, ap, subst, sym}
pub use Rattle.yaml_base.proofs.Common.{◌∙◌, arith, and_parts, and_from, and_right, or_parts, or_from, or_left, or_right, not_from_false, agree_below_at, Text}
pub use Rattle.yaml_base.proofs.Common.{not-false, not-true, false≢true, nat_tests, list_all-append, list_any-append, list_all, list_any, all_scalars, is_among}
pub use Rattle.yaml_base.proofs.Common.{is_between, line_feed, carriage_return, next_line, line_separator, paragraph_separator, space, tab, is_ascii, is_space}
pub use Rattle.yaml_base.proofs.Common.{is_blank, is_break, is_printable, hex_digit, hex_digits, Cursor, Rendered, first_cursor, render_then, column_after}
pub use Rattle.yaml_base.proofs.Common.{breaks_line, new_line, space_if, indicator, is_past_width, with_breaks_written, with_line_breaks_read, is_read_break}
pub use Rattle.yaml_base.proofs.Common.{is_rendered_text, is_indented_text, LineBreak, elements, read_block, between, with_unit, quoted_from, read_double, runs}
pub use Rattle.yaml_base.proofs.Common.{FoldUnit, unit_of, folding_read, is_read_white, begins_no_plain, holds_no_plain, read_plain, read_single, Charset}
pub use Rattle.yaml_base.proofs.Common.{begins_with_spaces, begins_with_blank_line, begins_with_deep_line, has_deep_lines, Allowances, somewhere, is_empty}
pub use Rattle.yaml_base.proofs.Common.{is_special, bars_block, allows_block, allowances, ending, indentation_hint, is_special_but_tab, is_blank_to_line_end}
pub use Rattle.yaml_base.proofs.Common.{begins_with_blanks_alone, bars_literal, allows_literal, ending_hint, render_hint, short_escapes, letter_among, parts}
pub use Rattle.yaml_base.proofs.Common.{escape_after_backslash, escape_text, needs_escape, character_text, double_inside, render_quote, folded_parts}
pub use Rattle.yaml_base.proofs.Common.{ChosenStyle}
pub use Rattle.yaml_base.proofs.Common.{render_runs, quotes_doubled, single_quote, chosen}
pub use Rattle.std.{proofs.Math.Bool.and-false, proofs.Math.Bool.and-true, proofs.Math.Utf8.scalar, proofs.lemmas.Bool.false_from_ne_true}
pub use Rattle.std.{proofs.lemmas.Bool.cases_Bool, proofs.lemmas.Int.ints, proofs.lemmas.Int.to_z-of_z, proofs.lemmas.List.nil_from_length}
pub use Rattle.std.{proofs.lemmas.Result.IfOk-from_err, specs.Char.encode_utf8, specs.Str.IsAscii, specs.Str.IsCharBoundary, specs.Str.Iter.chars_rest}
pub use Rattle.std.proofs.Common.{length-take-le, rules, take_all, w32}
pub use Rattle.std.proofs.lemmas.Str.{chars-nil, IsUtf8-encode, IsUtf8-take, IsUtf8-drop, IsUtf8-past_char, encodes-chars, scalars-chars, chars_past_char}
pub use Rattle.std.specs.Prelude.{Err, FitsSigned, Ok, Result, encode_utf8_all, ◌≤ℤ◌, chars, IsUtf8, IfOk}
pub use Rattle.yaml_base.proofs.BreakLaws.{breaks-round, rendered-append, indented-written}
pub use Rattle.yaml_base.specs.{Cursor.next_column, Cursor.render_text, Indicators.Indicator, LineBreaks.begins_indented, reading.TidyText.begins_with_break}
pub use Rattle.yaml_base.specs.{scalars.Literal.indented, scalars.Literal.literal_body, scalars.Literal.render_literal}
pub use Rattle.yaml_base.specs.{scalars.SingleQuoted.single_quoted_body, scalars.SingleQuoted.render_single_quoted}
pub use Rattle.yaml_base.specs.reading.ReadBlock.{Element, content, line_end, all_unindented, has_content, kept_lines, final_ends, joined, begins_unindented}
pub use Rattle.yaml_base.specs.reading.ReadBlock.{next_content_unindented, unfolded, chomped}
pub use Rattle.yaml_base.specs.reading.ReadFolding.{literal_blank, literal_break, itself, FoldState, fold_state_text, prepend_unit, fold_state_of}
pub use Rattle.yaml_base.specs.scalars.Analysis.{begins_with, is_gap, ends_word, begins_like_marker, begins_unlike_plain, bars_plain, is_trailing_space}
pub use Rattle.yaml_base.specs.scalars.Analysis.{bars_single_quoted, allows_plain, allows_single_quoted}
pub use Rattle.yaml_base.specs.scalars.BlockHeader.{begins_blank, render_hints, render_lines, block_body, Encloses}
pub use Rattle.yaml_base.specs.scalars.DoubleQuoted.{quote, ShortEscape, is_some_non_space, may_fold, space_kept, double_fold, double_character}
pub use Rattle.yaml_base.specs.Characters.{backslash}
pub use Rattle.yaml_base.specs.scalars.DoubleQuoted.{double_quoted_body, render_double_quoted}
pub use Rattle.yaml_base.specs.scalars.Folded.{is_past_limit, folds, cut_from, cut_line, next_line_unindented, folded_body, render_folded}
pub use Rattle.yaml_base.specs.scalars.Lines.{Part, line, line_break, begun}
pub use Rattle.yaml_base.specs.scalars.Plain.{kind_of, is_same_kind, indentation, plain_body, render_plain}
pub use Rattle.yaml_base.specs.declared.scalars.{CharacterKind.CharacterKind, Ending.Ending}
pub use Rattle.yaml_base.specs.declared.scalars.CharacterKind.TheVariants.{Space, Break, Other}
pub use Rattle.yaml_base.specs.declared.scalars.Ending.TheVariants.{WithoutBreak, OneBreak, MoreBreaks}
pub use Rattle.yaml_pen.{proofs.Cuts.chars-cut, specs.Page.Page, specs.Page.natural, specs.Wrote.Wrote}
pub use Rattle.yaml_pen.proofs.Composing.{wrote_all, wrote_then, wrote_failed, wrote_as, wrote_changing, wrote_text_then, wrote_text_failed, wrote_exit}
pub use Rattle.yaml_pen.proofs.Composing.{wrote_failed_as}
pub use Rattle.yaml_scalar.specs.{Batch.AreBatched, BlockCode.is_folded, ByteClasses.is_free, ByteClasses.IsFreeRun, ByteClasses.ImpliesTest, Width.limit_of}
pub use Rattle.yaml_scalar.specs.{EscapeBytes.is_unbroken_ascii, ReadsBack.ReadsBack, ShortRuns.most_short, ShortRuns.IsShortRun, ShortRuns.IsShortLine}
pub use Rattle.yaml_scalar.specs.{SimpleAsciiTexts.has_simple_ascii_ends, SimpleAsciiTexts.is_simple_ascii_character, Width.limit_where}
pub use Rattle.yaml_scalar.specs.{declared.analysis.BarredStyles.BarredStyles}
pub use Rattle.yaml_scalar.specs.Barred.{barred_by, barred_in, none_barred, either, is_ordinary, is_quiet, barred_by_space, allowed_by}
pub use Rattle.yaml_scalar.specs.BlockSteps.{place_after, render_content, render_inner, is_doubled, render_block_break, render_step, stays_at, lines_from}
pub use Rattle.yaml_scalar.specs.BlockSteps.{separated_header, header_end}
pub use Rattle.yaml_scalar.specs.LineSteps.{written_as, begins_kind, step_text, render_steps}
pub use Rattle.yaml_scalar.specs.WholeRuns.{has_limit, stays_where, stays, stays_in_line, IsRun, HasRoom}
pub use Rattle.yaml_base.specs.Tags.{last_from}
