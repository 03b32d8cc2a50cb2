-- The names that most proofs here cite, passed on from one place. Declares nothing.
pub use Rattle.yaml_base.proofs.Common.{suc, zero, ℕ, ◌+◌, ◌-◌, ◌<◌, ◌≤◌, if◌then◌else◌, ◌==◌, unwrap_or, Option, None, Some, length, replicate, slice_index_or}
pub use Rattle.yaml_base.proofs.Common.{take, Bool, false, true, List, [], ◌++◌, ◌∷◌, refl, ◌≡◌, length-append, append-nil, append_assoc, inl, inr, ap, subst}
pub use Rattle.yaml_base.proofs.Common.{sym, ◌∙◌, arith, and_from, or_parts, false≢true, nat_tests, chars-IsAscii, len_utf8, list_any, all_scalars, chars, Text}
pub use Rattle.yaml_base.proofs.Common.{encode_utf8_all, line_feed, space, is_break, Cursor, Rendered, render_nothing, render_then, column_after, encode, utf8}
pub use Rattle.yaml_base.proofs.Common.{break_text, with_breaks_written, Encoding, utf16_little, utf16_big, LineBreak, line_feed_break}
pub use Rattle.std.{proofs.Common.add-one, proofs.lemmas.Bool.cases_lt, proofs.lemmas.Grind.elements, proofs.lemmas.List.nil_from_length}
pub use Rattle.std.{proofs.lemmas.List.take-replicate, specs.Fmt.is_char_start, specs.Str.IsAscii, specs.Str.Iter.chars_rest}
pub use Rattle.std.proofs.lemmas.Str.{chars-nil, IsUtf8-from_ascii, encodes-chars, scalars-chars}
pub use Rattle.std.specs.Prelude.{Err, Ok, Result, min, IsUtf8, IsSome}
pub use base.Logic.{emp, ent}
pub use denote.RattleType.{owns}
pub use denote.Shadow.{pure_i}
pub use denote.Triple.Entry.{alive}
pub use denote.Triple.Walked.{Stays, ends_at, says}
pub use mir.Val.{vnil, vstruct}
pub use seplogic.Ra.Ura.{Ura}
pub use types.ByLocal.{alloc_all, free_all, look_at, pass_all, sets}
pub use types.Kit.{ !, done, move, qed, raw, suffices, ‵, ◌$◌, ◌∵◌}
pub use types.Logic.{Logic}
pub use types.Part.{agg}
pub use types.Run.{enter, no_more, returns}
pub use Rattle.yaml_base.{proofs.Prefixes.prefix_same, specs.Cursor.render_text, specs.Decode.decode, specs.Encoding.character_bytes}
pub use Rattle.yaml_base.{specs.Encoding.text_bytes, specs.Prefix.IsPrefix, specs.Seen.seen_encoding, specs.Seen.seen_break}
pub use Rattle.yaml_pen.specs.{Lines.spaces_to, Lines.line_begun, Outlet.OutletState, Outlet.HasSoundOutput, Pen.page_of, Pen.IsPen, Wrote.named_text}
pub use Rattle.yaml_pen.specs.{Wrote.Wrote}
pub use Rattle.yaml_pen.specs.Page.{Page, has_bom, IsReady, result_of_error, IsFlushedOutput}
