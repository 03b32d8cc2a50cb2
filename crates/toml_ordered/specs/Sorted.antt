-- An ordered document beside the table that `toml` reads: the keys of each table of that ascend.
use Rattle.std.specs.Prelude.{◌≡◌, ℕ, List, Float, Option, Some, option_map}
use Rattle.std.specs.Float.Ieee.{inf, nan}
use Rattle.std.specs.Ordering.{nat_cmp, match_ordering}
use Rattle.std.specs.Cmp.Lexicographic.{slice_cmp}
use Rattle.toml_parser.specs.Numbers.{plain_number}
use Rattle.toml_parser.specs.declared.scalar.Scalar.{Scalar}
use Rattle.toml_parser.specs.declared.scalar.Scalar.TheVariants as scalar
use Rattle.toml.specs.Data as plain
use Rattle.toml.specs.Parse.{parse_document}
use Rattle.toml_ordered.specs.Data.{TomlNode, string, integer, decimal, infinity, not_a_number, boolean, datetime, array, table, tables}
use Rattle.toml_ordered.specs.Data.{Items, no_items, item, TomlNodes, no_nodes, node}
use Rattle.toml_ordered.specs.Grammar.{ordered_document}

-- the float of a decimal's characters
abbrev pub float_in : Option Scalar → Float
float_in (Some (scalar.Float x)) = x
float_in _ = nan

-- a key and its value, at its place in the order
abbrev pub put_sorted : List ℕ → plain.Data → plain.Members → plain.Members
put_sorted k x plain.no_members = plain.member k x plain.no_members
put_sorted k x (plain.member l y ms) =
    match_ordering (slice_cmp nat_cmp k l) (plain.member k x (plain.member l y ms)) (plain.member l x ms) (plain.member l y (put_sorted k x ms))

-- a value, with the tables in it sorted; a table, sorted
abbrev mutual
  pub sorted_value : TomlNode → plain.Data
  sorted_value (string text) = plain.string text
  sorted_value (integer z) = plain.integer z
  sorted_value (decimal word) = plain.float (float_in (plain_number word))
  sorted_value (infinity negative) = plain.float (inf negative)
  sorted_value not_a_number = plain.float nan
  sorted_value (boolean flag) = plain.boolean flag
  sorted_value (datetime d) = plain.datetime d
  sorted_value (array xs) = plain.array (sorted_items xs)
  sorted_value (table origin ns) = plain.table (sorted_keys ns)
  sorted_value (tables done last) = plain.array (plain.push_item (sorted_items done) (plain.table (sorted_keys last)))

  pub sorted_items : Items → plain.Items
  sorted_items no_items = plain.no_items
  sorted_items (item x xs) = plain.item (sorted_value x) (sorted_items xs)

  pub sorted_keys : TomlNodes → plain.Members
  sorted_keys no_nodes = plain.no_members
  sorted_keys (node k x ns) = put_sorted k (sorted_value x) (sorted_keys ns)

-- The ordered document, its tables sorted, is the table that `toml` reads; and one is refused if and only if the other is.
abbrev pub OrderedIsSorted : Type 0
OrderedIsSorted = (text : List ℕ) → option_map sorted_keys (ordered_document text) ≡ parse_document text
