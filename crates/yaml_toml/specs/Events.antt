-- The events of a value of TOML.
use Rattle.std.specs.Prelude.{ℕ, ℤ, Bool, Option, None, Some, List, [], ◌∷◌, ◌++◌, drop, is_some, ◌||◌, ◌==◌, if◌then◌else◌}
use Rattle.std.specs.Fmt.{signed_decimal}
use Rattle.std.specs.Str.{chars}
use Rattle.toml_datetime.specs.Text.{datetime_text}
use Rattle.toml_datetime.specs.declared.datetime.Datetime.{Datetime}
use Rattle.toml_parser.specs.Lexical.{first, plus}
use Rattle.toml_ordered.specs.Data.{TomlNode, string, integer, decimal, infinity, not_a_number, boolean, datetime, array, table, tables, Items, no_items, item}
use Rattle.toml_ordered.specs.Data.{TomlNodes}
use Rattle.toml_ordered.specs.Data.{no_nodes, node}
use Rattle.yaml_base.specs.Event.{plain, Event, Scalar, scalar, sequence_start, sequence_end, mapping_start, mapping_end}
use Rattle.yaml_base.specs.values.TypedValues.{int_tag}
use Rattle.yaml_writer.specs.Contents.{content_with, word_content, bool_content, number_content, text_content, collection_in}
use Rattle.yaml_writer.specs.Floats.{special_text}
use Rattle.yaml_writer.specs.NumberParts.{number_in}
use Rattle.yaml_writer.specs.Times.{Moment, timestamp_text}
use Rattle.yaml_writer.specs.Writing.{float_tag, timestamp_tag}
use Rattle.yaml_writer.specs.declared.floats.SpecialFloat.{SpecialFloat}
use Rattle.yaml_writer.specs.declared.floats.SpecialFloat.TheVariants.{Infinity, NegativeInfinity, NotANumber}
use Rattle.yaml_writer.specs.TomlDates.{moment_of}

-- a decimal as JSON spells numbers: without the `+` that may begin it
abbrev pub json_word : List ℕ → List ℕ
json_word word = if first word == plus then drop 1 word else word

abbrev pub integer_content : (canonical : Bool) → ℤ → Scalar
integer_content canonical z = word_content canonical int_tag (signed_decimal z)

abbrev pub decimal_content : (canonical : Bool) → List ℕ → Scalar
decimal_content canonical word = number_content canonical (number_in (json_word word))

-- infinity by its sign
abbrev pub infinite : (negative : Bool) → SpecialFloat
infinite negative = if negative then NegativeInfinity else Infinity

abbrev pub special_content : (canonical : Bool) → SpecialFloat → Scalar
special_content canonical value = word_content canonical float_tag (special_text value)

-- a timestamp has its tag if it has a time of day, and in canonical form
abbrev pub moment_content : (canonical : Bool) → Moment → Scalar
moment_content canonical moment =
    content_with (if canonical || is_some moment.time then Some timestamp_tag else None) (timestamp_text moment) plain

-- a date or a time that YAML 1.1 has no timestamp of is a text, spelled as in TOML
abbrev pub date_content : (canonical : Bool) → Datetime → Option Moment → Scalar
date_content canonical date (Some moment) = moment_content canonical moment
date_content canonical date None = text_content (chars (datetime_text date))

-- the events of a value, of the values of an array, of the keys and values of a table
abbrev mutual
  pub toml_events : (canonical in_flow : Bool) → TomlNode → List Event
  toml_events canonical in_flow (string text) = scalar (text_content (chars text)) ∷ []
  toml_events canonical in_flow (integer z) = scalar (integer_content canonical z) ∷ []
  toml_events canonical in_flow (decimal word) = scalar (decimal_content canonical word) ∷ []
  toml_events canonical in_flow (infinity negative) = scalar (special_content canonical (infinite negative)) ∷ []
  toml_events canonical in_flow not_a_number = scalar (special_content canonical NotANumber) ∷ []
  toml_events canonical in_flow (boolean flag) = scalar (bool_content canonical flag) ∷ []
  toml_events canonical in_flow (datetime date) = scalar (date_content canonical date (moment_of date)) ∷ []
  toml_events canonical in_flow (array items) =
      sequence_start (collection_in in_flow) ∷ (toml_items_events canonical in_flow items ++ sequence_end ∷ [])
  toml_events canonical in_flow (table origin keys) =
      mapping_start (collection_in in_flow) ∷ (keys_events canonical in_flow keys ++ mapping_end ∷ [])
  toml_events canonical in_flow (tables done last) =
      sequence_start (collection_in in_flow) ∷ (toml_items_events canonical in_flow done
      ++ mapping_start (collection_in in_flow) ∷ (keys_events canonical in_flow last ++ mapping_end ∷ sequence_end ∷ []))

  pub toml_items_events : (canonical in_flow : Bool) → Items → List Event
  toml_items_events canonical in_flow no_items = []
  toml_items_events canonical in_flow (item x items) = toml_events canonical in_flow x ++ toml_items_events canonical in_flow items

  pub keys_events : (canonical in_flow : Bool) → TomlNodes → List Event
  keys_events canonical in_flow no_nodes = []
  keys_events canonical in_flow (node key x keys) =
      scalar (text_content (chars key)) ∷ (toml_events canonical in_flow x ++ keys_events canonical in_flow keys)
