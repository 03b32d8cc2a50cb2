-- The places at which a text is refused: as far as its expressions are read.
use Rattle.std.specs.Prelude.{◌≡◌, ◌⊎◌, ℕ, zero, suc, ◌-◌, ◌<◌, ◌≤◌, true, List, [], ◌∷◌, ◌++◌, drop, length, min, Option, Some, None, IfSome}
use Rattle.std.specs.Prelude.{String, option_and_then, option_map}
use Rattle.std.specs.declared.alloc.Global.{Global}
use Rattle.toml_parser.specs.Lexical.{right_brace, skip_blank}
use Rattle.toml_parser.specs.Strings.{Key}
use Rattle.toml.specs.Parse.{after_element, key_equals, skip_bom}
use Rattle.toml_ordered.specs.Data.{TomlNode, TomlNodes, no_nodes}
use Rattle.toml_ordered.specs.Firsts.{IsNewKey, IsOther, IsShutAt, PassesKey}
use Rattle.toml_ordered.specs.Grammar.{keyval, line, val}
use Rattle.toml_ordered.specs.Syntax.{holds}
use Rattle.toml_ordered.specs.Tables.{Definition, TomlDocument, Expression, define, key_value, put, steps_along}
use Rattle.toml_ordered.specs.declared.route.Way.{Way}
use Rattle.toml_ordered.specs.declared.fault.Fault.{Fault}
use Rattle.toml_ordered.specs.declared.fault.Fault.TheVariants as fault

-- the number of bytes that are left of the text at the place of a refusal
abbrev pub place_left : Fault → Option ℕ
place_left fault.Memory = None
place_left (fault.NotToml left why) = Some left
place_left (fault.TooDeep left) = Some left
place_left (fault.DefinedAgain key name first second) = Some second

-- the fault with its place here
abbrev pub moved_to : ℕ → Fault → Fault
moved_to here fault.Memory = fault.Memory
moved_to here (fault.NotToml left why) = fault.NotToml here why
moved_to here (fault.TooDeep left) = fault.TooDeep here
moved_to here (fault.DefinedAgain key name first second) = fault.DefinedAgain key name first here

-- True of a fault with a reason if its place is in the text, and the reason holds of the bytes from there on.
abbrev pub HoldsHere : (text : List ℕ) → Fault → Type 0
HoldsHere text (fault.NotToml left why) = (left ≤ length text) × (holds why (drop (length text - left) text) ≡ true)
HoldsHere text other = Unit {0}

abbrev pub IsNotToml : Fault → Type 0
IsNotToml (fault.NotToml left why) = Unit {0}
IsNotToml other = ⊥

-- the fault with its place here or after; of one with a reason the place may be another, and the reason holds there
abbrev pub IsSettled : (start : List ℕ) → (old new : Fault) → Type 0
IsSettled start fault.Memory new = new ≡ fault.Memory
IsSettled start (fault.NotToml left why) new = IsNotToml new × HoldsHere start new
IsSettled start (fault.TooDeep left) new = new ≡ fault.TooDeep (min left (length start))
IsSettled start (fault.DefinedAgain key name first second) new = new ≡ fault.DefinedAgain key name first (min second (length start))

-- True of a fault that says the same in other words: with another place and reason if it isn't TOML, with another name of the key that is
-- defined again, or with no memory for it.
abbrev pub IsReworded : (old new : Fault) → Type 0
IsReworded fault.Memory new = new ≡ fault.Memory
IsReworded (fault.NotToml left why) new = IsOther new
IsReworded (fault.TooDeep left) new = new ≡ fault.TooDeep left
IsReworded (fault.DefinedAgain key name first second) new =
    (new ≡ fault.Memory) ⊎ ((other : String Global) × (new ≡ fault.DefinedAgain key other first second))

-- a document and the rest of a text after one more expression
abbrev pub next_expression : TomlDocument × List ℕ → Option (TomlDocument × List ℕ)
next_expression at = option_and_then (λ e. option_map (λ next. (next, e.1)) (define at.0 e.0)) (line (skip_blank at.1))

-- the document and the rest after the first expressions of the text, so many
abbrev pub after_lines : ℕ → (text : List ℕ) → Option (TomlDocument × List ℕ)
after_lines zero text = Some ((no_nodes, []), skip_bom text)
after_lines (suc count) text = option_and_then next_expression (after_lines count text)

-- the text is read up to the rest, as this document
abbrev pub ReadsUpTo : (text : List ℕ) → TomlDocument → (rest : List ℕ) → Type 0
ReadsUpTo text doc rest = (count : ℕ) × (after_lines count text ≡ Some (doc, rest))

-- No expression has its line here, and the place is here or after; or an expression does that defines a key that takes no more, and the
-- place is here.
abbrev pub RefusesNext : TomlDocument → (start : List ℕ) → (left : ℕ) → Type 0
RefusesNext doc start left =
    ((line start ≡ None) × (left ≤ length start))
    ⊎ ((e : Expression) × (after : List ℕ) × (line start ≡ Some (e, after)) × (define doc e ≡ None) × (left ≡ length start))

-- the text is read up to an expression that is refused, with this much left
pub record StopsAtExpression (text : List ℕ) (left : ℕ) : Type 0 where
  pub doc : TomlDocument
  pub rest : List ℕ
  pub read : ReadsUpTo text doc rest
  pub refused : RefusesNext doc (skip_blank rest) left

-- of a fault that has a place
abbrev pub FaultIsPlaced : List ℕ → Fault → Type 0
FaultIsPlaced text found = IfSome (place_left found) (StopsAtExpression text)

-- the text ends so
abbrev pub EndsWith : (text end : List ℕ) → Type 0
EndsWith text end = (front : List ℕ) × (text ≡ front ++ end)

-- the parts of a key
abbrev pub key_parts : Key → List (List ℕ)
key_parts key = key.0 ++ key.1 ∷ []

-- the whole path of the definition of an expression: that of a pair goes on from the last header
abbrev pub whole_path : TomlDocument → Key → Definition → List (List ℕ)
whole_path doc key (key_value x) = doc.1 ++ key_parts key
whole_path doc key header = key_parts key

-- the steps to the own key of an expression: those of a pair go on from the last header
abbrev pub steps_to : TomlDocument → Key → Definition → List (Way × List ℕ)
steps_to doc key (key_value x) = steps_along doc.1 key.0
steps_to doc key header = steps_along key.0 []

-- True if the key, in the table at the end of the path, takes no more of the expression, or of a pair of a table in braces.
abbrev pub IsShutFor : TomlDocument → Key → Definition → (path : List (List ℕ)) → (key : List ℕ) → Type 0
IsShutFor doc name what = IsShutAt (steps_to doc name what) name.1 what doc.0

abbrev pub IsShutInBraces : (found : TomlNodes) → (name : Key) → TomlNode → (path : List (List ℕ)) → (key : List ℕ) → Type 0
IsShutInBraces found name value = IsShutAt (steps_along [] name.0) name.1 (key_value value) found

-- an expression begins with this much left, after the text that is read as this document
pub record ExpressionAt (text : List ℕ) (doc : TomlDocument) (e : Expression) (left : ℕ) : Type 0 where
  pub rest : List ℕ
  pub after : List ℕ
  pub read : ReadsUpTo text doc rest
  pub begins : line (skip_blank rest) ≡ Some (e, after)
  pub here : left ≡ length (skip_blank rest)

-- The expression that begins here is the first to define the key in the table at the end of the path, itself or on the way to its own key.
pub record FirstDefines (text : List ℕ) (path : List (List ℕ)) (key : List ℕ) (left : ℕ) : Type 0 where
  pub doc : TomlDocument
  pub e : Expression
  pub at : ExpressionAt text doc e left
  pub new : IsNewKey (whole_path doc e.0 e.1) doc.0 path key

-- An expression first defined the key, and a later one, which is refused, meets the key again, which takes no more.
pub record ExpressionsConflict (text : List ℕ) (key : List ℕ) (first second : ℕ) : Type 0 where
  pub path : List (List ℕ)
  pub before : FirstDefines text path key first
  pub doc : TomlDocument
  pub e : Expression
  pub at : ExpressionAt text doc e second
  pub passes : PassesKey (whole_path doc e.0 e.1) path key
  pub shut : IsShutFor doc e.0 e.1 path key
  pub refused : define doc e ≡ None
  pub order : second < first

-- the keys and the rest of the text after one more pair of a table in braces
abbrev pub next_pair : (depth : ℕ) → TomlNodes × List ℕ → Option (TomlNodes × List ℕ)
next_pair depth at =
    option_and_then (λ e. option_and_then (λ more. option_map (λ rest. (more, rest)) (after_element right_brace e.1)) (put e.0.0 e.0.1 at.0))
    (keyval (val depth) (skip_blank at.1))

-- the keys and the rest after the first pairs, so many, of the text after a brace
abbrev pub after_pairs : (depth : ℕ) → ℕ → (text : List ℕ) → Option (TomlNodes × List ℕ)
after_pairs depth zero text = Some (no_nodes, text)
after_pairs depth (suc count) text = option_and_then (next_pair depth) (after_pairs depth count text)

-- A pair begins with this much left, after the text that is read as these keys; the text is that of a table in braces, after the brace.
pub record PairAt (depth : ℕ) (text : List ℕ) (found : TomlNodes) (name : Key) (left : ℕ) : Type 0 where
  pub rest : List ℕ
  pub after : List ℕ
  pub ends : EndsWith text rest
  pub count : ℕ
  pub read : after_pairs depth count text ≡ Some (found, rest)
  pub begins : key_equals (skip_blank rest) ≡ Some (name, after)
  pub here : left ≡ length (skip_blank rest)

-- the pair that begins here is the first to define the key in the table at the end of the path
pub record PairFirstDefines (depth : ℕ) (text : List ℕ) (path : List (List ℕ)) (key : List ℕ) (left : ℕ) : Type 0 where
  pub found : TomlNodes
  pub name : Key
  pub at : PairAt depth text found name left
  pub new : IsNewKey (key_parts name) found path key

-- A pair first defined the key, and a later one in the same table in braces, which is refused, meets the key again, which takes no more; the
-- text is that of the table, after the brace.
pub record PairsClash (depth : ℕ) (inside : List ℕ) (key : List ℕ) (first second : ℕ) : Type 0 where
  pub path : List (List ℕ)
  pub before : PairFirstDefines depth inside path key first
  pub found : TomlNodes
  pub name : Key
  pub at : PairAt depth inside found name second
  pub value : TomlNode
  pub after : List ℕ
  pub pair : keyval (val depth) (skip_blank at.rest) ≡ Some ((name, value), after)
  pub passes : PassesKey (key_parts name) path key
  pub shut : IsShutInBraces found name value path key
  pub refused : put name value found ≡ None
  pub order : second < first
