-- The results of reading, compared with those of the grammar.
use Rattle.std.specs.Prelude.{◌≡◌, ℕ, ◌<◌, ◌≤◌, String, string_bytes, List, [], ◌∷◌, ◌++◌, map, length, Result, MatchResult, Option, Some, None}
use Rattle.std.specs.Borrow.{Bor}
use Rattle.std.specs.declared.alloc.Global.{Global}
use Rattle.toml_parser.specs.Lexical.{Read}
use Rattle.toml_parser.specs.Reading.{path_view, key_view}
use Rattle.toml_parser.specs.declared.error.ParseError.{ParseError}
use Rattle.toml_parser.specs.declared.error.ParseError.TheVariants as parse
use Rattle.toml_parser.specs.declared.key.Key as code_key
use Rattle.toml_ordered.specs.Data.{TomlNodes, node_view}
use Rattle.toml_ordered.specs.Keys.{sealed, table_view}
use Rattle.toml_ordered.specs.Firsts.{AddsFirsts, IfAgain, IsAgain, IsOther, IsShutAt, table_firsts}
use Rattle.toml_ordered.specs.Syntax.{string_error}
use Rattle.toml_ordered.specs.Tables.{Definition, TomlDocument, Edit, Expression, key_value, std_table, array_table, steps_along, along, at_key}
use Rattle.toml_ordered.specs.declared.route.Way.{Way}
use Rattle.toml_ordered.specs.declared.document.Document.{Document as CodeDocument}
use Rattle.toml_ordered.specs.declared.fault.Fault.{Fault}
use Rattle.toml_ordered.specs.declared.fault.Fault.TheVariants as fault
use Rattle.toml_ordered.specs.declared.route.Route.{Route}
use Rattle.toml_ordered.specs.declared.tables.Definition as code_definition
use Rattle.toml_ordered.specs.declared.tables.Entry.{Entry}
use Rattle.toml_ordered.specs.declared.tree.Node.{Node as CodeNode}
use Rattle.toml_ordered.specs.declared.tree.Table.{Table as CodeTable}
use Rattle.toml_ordered.specs.declared.tables.Definition.TheVariants.{Value, Table, Tables}

-- an allocation failed
abbrev pub IsMemory : Fault → Type 0
IsMemory e = e ≡ fault.Memory

-- the fault of an error of `toml_parser`
abbrev pub fault_of : ParseError → Fault
fault_of parse.OutOfMemory = fault.Memory
fault_of (parse.At kind from to) = fault.NotToml from (string_error kind)

-- True if the result, seen through f, is the grammar's, unless an allocation failed.
abbrev pub ParsesTo : {A B : Type 0} → (A → B) → Result A Fault → Option B → Type 0
ParsesTo f r expected = MatchResult r (λ a. expected ≡ Some (f a)) (λ e. (IsMemory e → ⊥) → expected ≡ None)

-- True if the grammar gives nothing, unless an allocation failed, and the fault tells the truth.
abbrev pub IsGrammarRefusal : {B : Type 0} → Option B → (tells : Fault → Type 0) → Fault → Type 0
IsGrammarRefusal expected tells found = ((IsMemory found → ⊥) → expected ≡ None) × tells found

-- True if the result, seen through f, is the grammar's, and less text is left; or the text is refused.
abbrev pub ReadsExpected : {A B : Type 0} → (A → B) → (text : List ℕ) → Read B → (tells : Fault → Type 0) → Result (A × Bor (List ℕ)) Fault → Type 0
ReadsExpected f text expected tells r =
    MatchResult r (λ p. (expected ≡ Some (f p.0, p.1.now)) × (length p.1.now < length text)) (IsGrammarRefusal expected tells)

-- the same of a reader that only passes a part of the text
abbrev pub ReadsPast : (text : List ℕ) → Option (List ℕ) → Result (Bor (List ℕ)) Fault → Type 0
ReadsPast text expected r = MatchResult r (λ rest. (expected ≡ Some rest.now) × (length rest.now ≤ length text)) (IsGrammarRefusal expected IsOther)

-- True if the table is the one that the rules give after a definition along the whole path, here; or the definition is refused.
abbrev pub Defines : {A : Type 0} → Option A → (new : A) → (whole : List (List ℕ)) → (here : ℕ) → (Shut : (path : List (List ℕ)) → (key : List ℕ) → Type 0)
    → (from to : CodeTable) → Result (Unit {0}) Fault → Type 0
Defines expected new whole here Shut from to r =
    MatchResult r
    (λ _. (expected ≡ Some new) × AddsFirsts whole here (table_view from) (table_firsts from) (table_firsts to))
    (IsGrammarRefusal expected (IsAgain whole here (table_firsts from) Shut))

abbrev pub definition_view : code_definition.Definition → Definition
definition_view (Value x) = key_value (sealed (node_view x))
definition_view Table = std_table
definition_view Tables = array_table

abbrev pub expression_view : code_key.Key × code_definition.Definition → Expression
expression_view e = (key_view e.0, definition_view e.1)

-- the keys of a route
abbrev pub steps_of : Route → List (Way × List ℕ)
steps_of route = steps_along (path_view route.header.now) (path_view route.dots.now)

-- the whole path of an entry at the end of a route
abbrev pub path_of : Route → List (List ℕ)
path_of route = map (λ step. step.1) (steps_of route)

abbrev pub whole_of : Route → Entry → List (List ℕ)
whole_of route entry = path_of route ++ string_bytes entry.key ∷ []

-- the change that an entry makes in the table at the end of a route
abbrev pub along_route : Route → Entry → Edit
along_route route entry = along (steps_of route) (at_key (string_bytes entry.key) (definition_view entry.what))

-- the keys that an entry finds shut in the table at the end of a route
abbrev pub IsShutTo : Route → Entry → TomlNodes → (path : List (List ℕ)) → (key : List ℕ) → Type 0
IsShutTo route entry = IsShutAt (steps_of route) (string_bytes entry.key) (definition_view entry.what)

-- the fault of a key that is there and takes no more, here
abbrev pub IsPassed : (key : List ℕ) → (first here : ℕ) → Fault → Type 0
IsPassed key first here found = IfAgain found (λ k place second. (k ≡ key) × (place ≡ first) × (second ≡ here))

-- True if a key and its place are as before.
abbrev pub IsSameKey : (old new : String Global × CodeNode × ℕ) → Type 0
IsSameKey old new = (new.0 ≡ old.0) × (new.2 ≡ old.2)

-- the part of a document that was read
abbrev pub document_view : CodeDocument → TomlDocument
document_view document = (table_view document.root, path_view document.section.items)
