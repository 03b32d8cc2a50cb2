-- A value of the reader beside the one that contracts see, and a step seen so.
use Rattle.yaml_toml.proofs.Common.{◌≡◌, Bool, ℤ, string_bytes, node_view}
use Rattle.std.proofs.Common.{String, Global, rules}
use Rattle.toml_datetime.specs.declared.datetime.Datetime.{Datetime as DatetimeValue}
use Rattle.toml_ordered.specs.declared.tree.Node.{Text, Integer, Decimal, Infinity, NotANumber, Boolean, Datetime, the_lemmas}
use Rattle.toml_ordered.specs.Data as toml

pub node_view-Text : (s : String Global) → node_view (Text s) ≡ toml.string (string_bytes s)
node_view-Text s = search (rules, the_lemmas)

pub node_view-Integer : (z : ℤ) → node_view (Integer z) ≡ toml.integer z
node_view-Integer z = search (rules, the_lemmas)

pub node_view-Decimal : (s : String Global) → node_view (Decimal s) ≡ toml.decimal (string_bytes s)
node_view-Decimal s = search (rules, the_lemmas)

pub node_view-Infinity : (negative : Bool) → node_view (Infinity negative) ≡ toml.infinity negative
node_view-Infinity negative = search (rules, the_lemmas)

pub node_view-NotANumber : node_view NotANumber ≡ toml.not_a_number
node_view-NotANumber = search (rules, the_lemmas)

pub node_view-Boolean : (flag : Bool) → node_view (Boolean flag) ≡ toml.boolean flag
node_view-Boolean flag = search (rules, the_lemmas)

pub node_view-Datetime : (d : DatetimeValue) → node_view (Datetime d) ≡ toml.datetime d
node_view-Datetime d = search (rules, the_lemmas)
