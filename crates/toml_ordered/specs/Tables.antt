-- The rules by which keys and headers define tables (TOML 1.1, Keys, Table, Inline Table and Array of Tables). A new key comes after those
-- that are there.
use Rattle.std.specs.Prelude.{◌≡◌, ℕ, List, [], ◌∷◌, ◌++◌, map, Option, Some, None, option_map, bytes_eq, if◌then◌else◌}
use Rattle.toml_parser.specs.Strings.{Key}
use Rattle.toml_ordered.specs.Data.{TomlNode, table, tables, TomlNodes, no_nodes, node, no_items, push_item}
use Rattle.toml_ordered.specs.declared.route.Way.{Way}
use Rattle.toml_ordered.specs.declared.route.Way.TheVariants as way
use Rattle.toml_ordered.specs.declared.tree.Origin.{Origin}
use Rattle.toml_ordered.specs.declared.tree.Origin.TheVariants.{Implicit, Dotted, Header, Closed}

abbrev pub get_node : List ℕ → TomlNodes → Option TomlNode
get_node k no_nodes = None
get_node k (node l x ns) = if bytes_eq k l then Some x else get_node k ns

-- the nodes, and a new key after them
abbrev pub append : TomlNodes → List ℕ → TomlNode → TomlNodes
append no_nodes k x = node k x no_nodes
append (node l y ns) k x = node l y (append ns k x)

-- the nodes with another value at a key that they have
abbrev pub replace : List ℕ → TomlNode → TomlNodes → TomlNodes
replace k x no_nodes = no_nodes
replace k x (node l y ns) = if bytes_eq k l then node l x ns else node l y (replace k x ns)

-- the nodes with this value at a key that they have, unless the value is refused
abbrev pub changed : List ℕ → Option TomlNode → TomlNodes → Option TomlNodes
changed k value ns = option_map (λ y. replace k y ns) value

-- a change of a table, which the rules may refuse
abbrev pub Edit : Type 0
Edit = TomlNodes → Option TomlNodes

-- a header passes through any table that isn't complete
abbrev pub past_header : Edit → Origin → TomlNodes → Option TomlNode
past_header edit Closed inner = None
past_header edit origin inner = option_map (table origin) (edit inner)

-- a dotted key passes through no table that a header defined, either
abbrev pub past_dot : Edit → Origin → TomlNodes → Option TomlNode
past_dot edit Closed inner = None
past_dot edit Header inner = None
past_dot edit origin inner = option_map (table Dotted) (edit inner)

-- a value after a change of the table that it is; a header passes into the last table of an array
abbrev pub passed : Way → Edit → TomlNode → Option TomlNode
passed way.Header edit (table origin inner) = past_header edit origin inner
passed way.Header edit (tables done last) = option_map (tables done) (edit last)
passed way.Dots edit (table origin inner) = past_dot edit origin inner
passed by edit other = None

-- True if no key passes the value in this way.
abbrev pub LetsNoPass : Way → TomlNode → Type 0
LetsNoPass by x = (edit : Edit) → passed by edit x ≡ None

-- the origin of a table that a key makes by passing
abbrev pub made_by : Way → Origin
made_by way.Header = Implicit
made_by way.Dots = Dotted

-- the change, made in the table of a key; a missing table is made first
abbrev pub at_step : Way → List ℕ → Edit → TomlNodes → Option TomlNode → Option TomlNodes
at_step by k edit ns None = option_map (λ inner. append ns k (table (made_by by) inner)) (edit no_nodes)
at_step by k edit ns (Some x) = changed k (passed by edit x) ns

-- the change, made in the table at the end of a path
unfoldable pub along : List (Way × List ℕ) → Edit → Edit
along [] edit ns = edit ns
along (step ∷ steps) edit ns = at_step step.0 step.1 (along steps edit) ns (get_node step.1 ns)

-- a path through the keys of a header, and on through those of a dotted key
abbrev pub steps_by : Way → List (List ℕ) → List (Way × List ℕ)
steps_by by path = map (λ k. (by, k)) path

abbrev pub steps_along : (header dots : List (List ℕ)) → List (Way × List ℕ)
steps_along header dots = steps_by way.Header header ++ steps_by way.Dots dots

-- a definition, without its key
pub data Definition : Type 0 where
  key_value : TomlNode → Definition
  std_table : Definition
  array_table : Definition

-- the value of a key that was missing
abbrev pub new_node : Definition → TomlNode
new_node (key_value x) = x
new_node std_table = table Header no_nodes
new_node array_table = tables no_items no_nodes

-- A key is defined once. But a header may name a table that other headers only passed through, and a header in double brackets adds
-- a table to its array.
abbrev pub redefine : Definition → TomlNode → Option TomlNode
redefine std_table (table Implicit inner) = Some (table Header inner)
redefine array_table (tables done last) = Some (tables (push_item done (table Closed last)) no_nodes)
redefine _ _ = None

abbrev pub at_found : List ℕ → Definition → TomlNodes → Option TomlNode → Option TomlNodes
at_found k what ns None = Some (append ns k (new_node what))
at_found k what ns (Some x) = changed k (redefine what x) ns

-- the definition, made at the last part of a key
unfoldable pub at_key : List ℕ → Definition → Edit
at_key k what ns = at_found k what ns (get_node k ns)

-- a key-value pair, in a table in braces
abbrev pub put : Key → TomlNode → Edit
put key x = along (steps_along [] key.0) (at_key key.1 (key_value x))

-- the root table, and the key of the last header
abbrev pub TomlDocument : Type 0
TomlDocument = TomlNodes × List (List ℕ)

-- a pair goes into the table of the last header, and a header starts from the root
abbrev pub defined_pair : TomlDocument → Key → TomlNode → Option TomlDocument
defined_pair doc key x = option_map (λ root. (root, doc.1)) (along (steps_along doc.1 key.0) (at_key key.1 (key_value x)) doc.0)

abbrev pub defined_header : TomlDocument → Key → Definition → Option TomlDocument
defined_header doc key what = option_map (λ root. (root, key.0 ++ key.1 ∷ [])) (along (steps_along key.0 []) (at_key key.1 what) doc.0)

abbrev pub define_as : TomlDocument → Key → Definition → Option TomlDocument
define_as doc key (key_value x) = defined_pair doc key x
define_as doc key what = defined_header doc key what

-- an expression that is not empty
abbrev pub Expression : Type 0
Expression = Key × Definition

-- the document after one more expression
unfoldable pub define : TomlDocument → Expression → Option TomlDocument
define doc e = define_as doc e.0 e.1
