-- The names that most proofs here cite, passed on from one place. Declares nothing.
pub use Rattle.std.proofs.{NetLemmas.Options.map_some, lemmas.Grind.common_steps, lemmas.Slice.Eq.bytes_eq-Decides, lemmas.List.length-append}
pub use Rattle.std.proofs.Common.{suc, zero, ℕ, ◌+◌, ◌-◌, ◌<◌, ◌≤◌, ◌==◌, slice_index, option_and_then, option_map, bytes_eq, Option, None, Some, Result, Err}
pub use Rattle.std.proofs.Common.{Ok, string_bytes, String, Vec, Global, rules, codes, drop, get_or, length, set, take, Bool, cond, false, true, ◌&&◌, ◌||◌}
pub use Rattle.std.proofs.Common.{List, [], map, reverse, ◌++◌, ◌∷◌, inl, inr, ap, refl, subst, sym, ◌∙◌, ◌≡◌, arith}
pub use Rattle.std.proofs.lemmas.Bool.{cases_Bool, eq-eqb, eqb-true, ne_eqb, false≢true}
pub use Rattle.std.proofs.lemmas.Option.{none-some, same_Some}
pub use Rattle.std.specs.{BTreeMap.get_by_text, List.prefix_len, Prelude.◌⊎◌}
pub use Rattle.toml.specs.Parse.{after_byte, after_element, ends_line, key_equals, read_map}
pub use Rattle.toml_ordered.specs.{Counts.member_count, Counts.node_count, Inside.IsFoundHere, Keys.HasKey, Keys.keys_view, Keys.sealed, Keys.table_view}
pub use Rattle.toml_ordered.specs.{Passing.AreFilled, Passing.PassesSteps, Passing.held, Sorted.sorted_value, declared.fault.Fault.Fault}
pub use Rattle.toml_ordered.specs.{declared.route.Way.Way, declared.tree.Node.Table, declared.tree.Node.the_lemmas, declared.tree.Origin.Origin}
pub use Rattle.toml_ordered.specs.{declared.tree.Origin.TheVariants.Closed, declared.tree.holder.Holder.Holder}
pub use Rattle.toml_ordered.specs.Data.{Items, TomlNode, TomlNodes, array, decimal, infinity, items_view, no_items, node_view, not_a_number, push_item, string}
pub use Rattle.toml_ordered.specs.Data.{table, tables}
pub use Rattle.toml_ordered.specs.Firsts.{AddsFirsts, FaultTells, Firsts, HasFirst, IsAgain, IsShutAt, NeitherTells, keys_firsts, no_firsts, table_firsts}
pub use Rattle.toml_ordered.specs.Grammar.{atom, expression, is_doubled, keyval, line, scalar_node, val}
pub use Rattle.toml_ordered.specs.Nesting.{ClashesIn, ExpressionNestsPast, HasLongKey, KeyTells, NestsPast, PairClashes, after_items, own_key}
pub use Rattle.toml_ordered.specs.Places.{EndsWith, IsReworded, IsShutInBraces, PairAt, ReadsUpTo, key_parts, moved_to}
pub use Rattle.toml_ordered.specs.Reading.{IsGrammarRefusal, IsMemory, ParsesTo, definition_view, document_view}
pub use Rattle.toml_ordered.specs.Tables.{Definition, Edit, Expression, TomlDocument, append, array_table, define, key_value, passed, put, redefine, std_table}
pub use Rattle.toml_ordered.specs.Tables.{steps_along}
pub use Rattle.toml_parser.specs.{Lexical.Read, Lexical.first, Lexical.is_bare, Lexical.skip_blank, Lexical.skip_ws, Numbers.word_len, Reading.key_view}
pub use Rattle.toml_parser.specs.{Reading.path_view, Strings.Key, Strings.quoted, Strings.recursion_limit, Strings.starts_string}
pub use denote.Shadow.{shadow}
pub use denote.Text.{Utf8}
