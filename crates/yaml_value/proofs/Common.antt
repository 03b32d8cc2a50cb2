-- The names that most proofs here cite, passed on from one place. Declares nothing.
pub use Rattle.yaml_base.proofs.Common.{suc, ℕ, ◌+◌, ◌<◌, ◌≤◌, Some, codes, nat_le, length, slice_index_or, take, Bool, false, true, ◌&&◌, List, [], map}
pub use Rattle.yaml_base.proofs.Common.{◌++◌, ◌∷◌, ◌⊎◌, refl, ◌≡◌, append_assoc, inr, ap, subst, sym, ◌∙◌, arith, nat_tests, map-append, list_all, chars}
pub use Rattle.yaml_base.proofs.Common.{Text, Event, node_events, nodes_events, pairs_events, IsAccepted, sequence_tag, mapping_tag}
pub use Rattle.std.proofs.{Common.ap₂, Common.rules, Common.take_all, Math.Nat.le-max_left, Math.Nat.le-max_right}
pub use Rattle.std.specs.Fmt.{signed_decimal}
pub use Rattle.std.specs.Prelude.{Result, max, min, IfErr, OnOk}
pub use Rattle.yaml_base.{proofs.Literals.chars-literal, specs.Seen.seen_events, specs.Settings.largest_usize}
pub use Rattle.yaml_base.specs.values.TypedValues.{TypedValue, null_value, bool_value, int_value, text_value, TypedValues, list_value, TypedPairs, map_value}
pub use Rattle.yaml_base.specs.values.TypedValues.{no_values, values_and, no_value_pairs, value_pairs_and, null_tag, bool_tag, int_tag, bool_text}
pub use Rattle.yaml_base.specs.values.TypedValues.{values_count, value_pairs_count, nesting, values_nesting, value_pairs_nesting, most_nested, Has64Bits}
pub use Rattle.yaml_base.specs.values.TypedValues.{Have64Bits, PairsHave64Bits, tagged_collection, value_node, value_nodes, value_pairs, value_stream}
pub use Rattle.yaml_base.specs.values.TypedValues.{value_events, typed_settings, WritesValue}
pub use Rattle.yaml_value.specs.SeenValues.{values_of, pairs_of, seen_value, seen_values, seen_pairs}
