-- The names that most proofs here cite, passed on from one place. Declares nothing.
pub use Rattle.yaml_base.proofs.Common.{suc, ℕ, ◌*◌, ◌+◌, ◌-◌, ◌<◌, ◌≤◌, if◌then◌else◌, ◌==◌, option_map, option_and_then, Option, None, Some, drop, length}
pub use Rattle.yaml_base.proofs.Common.{take, Bool, false, true, ◌||◌, List, [], map, ◌++◌, ◌∷◌, refl, ◌≡◌, length-append, append-nil, append_assoc, ap}
pub use Rattle.yaml_base.proofs.Common.{subst, sym, ◌∙◌, arith, nat_tests, map-append, list_any-append, digit_value, list_any, onto_first, chars}
pub use Rattle.yaml_base.proofs.Common.{encode_utf8_all, Text, line_feed, Event, Settings}
pub use Rattle.yaml_emitter.proofs.Common.{State}
pub use Rattle.std.{proofs.Common.add-one, proofs.Common.take-append-drop, proofs.lemmas.Option.MatchOption-at_some, specs.Char.encode_utf8}
pub use Rattle.std.{specs.Io.KnownBytes.Appends, specs.Prelude.Err, specs.Prelude.Result, specs.Prelude.IfSome, specs.Result.IfErr, specs.Str.IsUtf8}
pub use Rattle.std.{specs.Str.bytes_eq, specs.String.string_bytes, specs.Vec.Iter.into_iter_items}
pub use Rattle.std.proofs.lemmas.Str.{chars-nil, IsUtf8-string_bytes, IsUtf8-take, encodes-append, IsUtf8-past_char, chars_from_encodes, encodes-chars}
pub use Rattle.std.proofs.lemmas.Str.{chars-append, chars_past_char}
pub use Rattle.memchr.specs.Find.{Nowhere, NoneBefore, Passes, is_byte2}
pub use Rattle.yaml_base.specs.Seen.{seen_text, seen_directive, seen_event}
pub use Rattle.yaml_base.specs.scripts.Script.{at_character, Numbered, Script, understood, text_from, Field, bare, quoted, outside, separates, pieces_from}
pub use Rattle.yaml_base.specs.scripts.Script.{field_read, field_and, fields_read, version_of, line_read, script_of}
pub use Rattle.yaml_emitter.specs.Given.{seen_settings}
pub use Rattle.yaml_tool.specs.{Numbers.number_after, Settings.seen_setting}
pub use Rattle.yaml_tool.specs.Cuts.{IsFree, IsCut, cut_at, prefix_of, SkipsTo}
pub use Rattle.yaml_tool.specs.Fields.{seen_field_state, prepend_to_first_piece, SkipsRunTo, later_fields, prepend_field, FieldOrUnparsed}
pub use Rattle.yaml_tool.specs.Runs.{events_in, RefusesAt, ReadsAll, IsFault, LastLine}
pub use Rattle.yaml_tool.specs.Scripts.{seen_numbered, seen_progress, IsFaultOf, script_after_lines}
