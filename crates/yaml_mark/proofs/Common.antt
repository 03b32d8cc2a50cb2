-- The names that most proofs here cite, passed on from one place. Declares nothing.
pub use Rattle.yaml_base.proofs.Common.{suc, ℕ, ◌%◌, ◌+◌, ◌<◌, ◌==◌, bytes_eq, Option, None, Some, drop, length, slice_index_or, take, encode_utf8, Bool}
pub use Rattle.yaml_base.proofs.Common.{cond, false, not, true, ◌||◌, List, [], map, ◌++◌, ◌∷◌, refl, ◌≡◌, eqb-true, ne_eqb, length-append, ap, subst, sym}
pub use Rattle.yaml_base.proofs.Common.{◌∙◌, arith, and_parts, and_from, same_from_decides, bytes_eq-Decides, list_all, list_any, position_or_len, chars}
pub use Rattle.yaml_base.proofs.Common.{Text, is_break, hex_digit, is_tag_character, byte_escaped, percent_escaped, suffix_escaped, prefix_escaped}
pub use Rattle.yaml_base.proofs.Common.{exclamation_mark, gives_handle}
pub use Rattle.std.{proofs.Common.lit<, proofs.Common.take-append-drop, proofs.Common.⊎_elim, proofs.Math.Seq.take-append_seam, proofs.lemmas.Bool.cases_lt}
pub use Rattle.std.{proofs.lemmas.List.Sums.prefix_len-le-length, proofs.lemmas.Str.Pattern.strip_prefix_char, specs.Str.IsCharBoundary}
pub use Rattle.std.proofs.lemmas.Str.{chars-nil, IsUtf8-string_bytes, encode_ascii, IsCharBoundary-before_ascii, encodes-append, IsUtf8-past_char}
pub use Rattle.std.proofs.lemmas.Str.{encodes-chars, chars-append, chars_past_char}
pub use Rattle.std.specs.Prelude.{Err, Ok, encode_utf8_all, ◌≢◌, string_bytes, slice_get, IsUtf8, MatchOption, flat_map, position}
pub use Rattle.yaml_base.specs.{Cursor.render_text, Indicators.Indicator, Seen.seen_directive}
pub use Rattle.yaml_mark.specs.{Escaping.are_escaped, Escaping.IsPrefixRun, Spelled.fits}
pub use Rattle.yaml_pen.{proofs.Composing.wrote_text_then, proofs.Composing.wrote_exit, proofs.Composing.wrote_cut, specs.Wrote.Wrote}
