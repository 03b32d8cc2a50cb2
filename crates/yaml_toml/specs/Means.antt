-- The meaning of a tree by a schema, and when that is a value of TOML.
use Rattle.std.specs.Prelude.{◌≡◌, ℕ, Bool, true, Option, None, Some, List, [], ◌∷◌, ◌++◌, is_none}
use Rattle.toml_datetime.specs.Text.{datetime_text}
use Rattle.toml_datetime.specs.declared.datetime.Datetime.{Datetime}
use Rattle.toml_ordered.specs.Data.{TomlNode, string, integer, decimal, infinity, not_a_number, boolean, datetime, array, table, tables, Items, no_items, item}
use Rattle.toml_ordered.specs.Data.{TomlNodes}
use Rattle.toml_ordered.specs.Data.{no_nodes, node}
use Rattle.toml_ordered.specs.Grammar.{ordered_document}
use Rattle.toml_ordered.specs.declared.tree.Origin.TheVariants.{Header}
use Rattle.yaml_base.specs.Characters.{Text}
use Rattle.yaml_base.specs.Settings.{Settings}
use Rattle.yaml_base.specs.streams.StreamContent.{stood_plain, Tagging, with_tag, without_tag, Tree, scalar_tree, sequence_tree, mapping_tree, TreePairs}
use Rattle.yaml_base.specs.streams.StreamReader.{stream_trees}
use Rattle.yaml_base.specs.values.Resolved.{Resolved, meant_boolean, meant_integer, meant_infinity, meant_nan, meant_text, meant_timestamp}
use Rattle.yaml_base.specs.values.SchemaCore.{resolved_by_core}
use Rattle.yaml_base.specs.values.SchemaOf11.{resolved_by_11}
use Rattle.yaml_writer.specs.Means.{Schema, scalar_meant, trees_in_order, pairs_in_order, MeansNumber, MeansText, plain_document}
use Rattle.yaml_writer.specs.Times.{Moment, moment_in}
use Rattle.yaml_writer.specs.Writing.{IsStream, opening, closing, timestamp_tag}
use Rattle.yaml_writer.specs.TomlDates.{moment_of}
use Rattle.yaml_toml.specs.Events.{json_word, toml_events}

-- a schema, and its reading of a plain date: a timestamp by YAML 1.1, a text by the core schema
pub record SchemaReader : Type 0 where
  pub schema : Schema
  pub date : Resolved

abbrev pub by_11 : SchemaReader
by_11 = record { schema = resolved_by_11; date = meant_timestamp }

abbrev pub by_core : SchemaReader
by_core = record { schema = resolved_by_core; date = meant_text }

-- a timestamp is named by its tag; a date alone may also be plain, if the schema reads it as it reads plain dates
abbrev pub IsDated : SchemaReader → Moment → Tagging → Text → Type 0
IsDated reader moment (with_tag tag) value = tag ≡ timestamp_tag
IsDated reader moment (without_tag stood_plain) value = (is_none moment.time ≡ true) × (reader.schema value ≡ reader.date)
IsDated reader moment (without_tag _) value = ⊥

-- a tree is this moment, spelled as YAML 1.1 reads it
abbrev pub MeansMoment : SchemaReader → Moment → Tree → Type 0
MeansMoment reader moment (scalar_tree anchor tagging value) = IsDated reader moment tagging value × (moment_in value ≡ Some moment)
MeansMoment reader moment _ = ⊥

-- dates and times that YAML 1.1 has are timestamps, all others texts
abbrev pub MeansDate : SchemaReader → Datetime → Option Moment → Tree → Type 0
MeansDate reader date (Some moment) tree = MeansMoment reader moment tree
MeansDate reader date None tree = MeansText reader.schema (datetime_text date) tree

-- A tree means this value: the items of an array and the keys and values of a table, all of them in order; the tables of an array, the last
-- after those that are complete.
abbrev mutual
  pub MeansToml : SchemaReader → TomlNode → Tree → Type 0
  MeansToml reader (string text) tree = MeansText reader.schema text tree
  MeansToml reader (integer z) (scalar_tree anchor tagging value) = scalar_meant reader.schema tagging value ≡ meant_integer z
  MeansToml reader (decimal word) (scalar_tree anchor tagging value) = MeansNumber (json_word word) (scalar_meant reader.schema tagging value)
  MeansToml reader (infinity negative) (scalar_tree anchor tagging value) = scalar_meant reader.schema tagging value ≡ meant_infinity negative
  MeansToml reader not_a_number (scalar_tree anchor tagging value) = scalar_meant reader.schema tagging value ≡ meant_nan
  MeansToml reader (boolean flag) (scalar_tree anchor tagging value) = scalar_meant reader.schema tagging value ≡ meant_boolean flag
  MeansToml reader (datetime date) tree = MeansDate reader date (moment_of date) tree
  MeansToml reader (array items) (sequence_tree anchor None trees) = ItemsMeanToml reader items (trees_in_order trees)
  MeansToml reader (table origin keys) (mapping_tree anchor None pairs) = KeysMean reader keys (pairs_in_order pairs)
  MeansToml reader (tables done last) (sequence_tree anchor None trees) =
      (before : List Tree) × (pairs : TreePairs) × (trees_in_order trees ≡ before ++ mapping_tree None None pairs ∷ [])
      × ItemsMeanToml reader done before × KeysMean reader last (pairs_in_order pairs)
  MeansToml reader _ _ = ⊥

  pub ItemsMeanToml : SchemaReader → Items → List Tree → Type 0
  ItemsMeanToml reader no_items [] = Unit {0}
  ItemsMeanToml reader (item x items) (tree ∷ trees) = MeansToml reader x tree × ItemsMeanToml reader items trees
  ItemsMeanToml reader _ _ = ⊥

  pub KeysMean : SchemaReader → TomlNodes → List (Tree × Tree) → Type 0
  KeysMean reader no_nodes [] = Unit {0}
  KeysMean reader (node key x keys) (pair ∷ pairs) = MeansText reader.schema key pair.0 × MeansToml reader x pair.1 × KeysMean reader keys pairs
  KeysMean reader _ _ = ⊥

-- The reader of whole streams finds in some bytes one document without directives, whose root means this table by the type repository of
-- YAML 1.1 and by the core schema of YAML 1.2.
pub record ReadsAsToml (breaks12 : Bool) (bytes : List ℕ) (root : TomlNodes) : Type 0 where
  pub tree : Tree
  pub read : stream_trees breaks12 bytes ≡ Some (plain_document tree ∷ [])
  pub means_by_11 : MeansToml by_11 (table Header root) tree
  pub means_by_core : MeansToml by_core (table Header root) tree

-- the text is a document of TOML, the bytes are the stream of its one document, and both schemas read them as its table, in portable
-- mode with the line breaks of YAML 1.1 and with those of 1.2
pub record IsYamlOfToml (given : Settings) (in_flow : Bool) (text bytes : List ℕ) : Type 0 where
  pub root : TomlNodes
  pub read : ordered_document text ≡ Some root
  pub stream : IsStream given (opening ++ toml_events given.canonical in_flow (table Header root) ++ closing) bytes
  pub reads : ReadsAsToml given.breaks12 bytes root
  pub reads_with_either_breaks : given.portable ≡ true → (breaks12 : Bool) → ReadsAsToml breaks12 bytes root
