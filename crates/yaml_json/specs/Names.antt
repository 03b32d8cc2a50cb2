-- Names that are given twice in one object, token by token. Names are compared by their bytes, with no escapes left.
use Rattle.std.specs.Prelude.{◌≢◌, ⊤, ℕ, List, [], ◌∷◌}
use Rattle.json.specs.Token.{Token}

-- a name is none of these
abbrev pub IsNewName : List (List ℕ) → List ℕ → Type 0
IsNewName [] name = ⊤
IsNewName (other ∷ names) name = (other ≢ name) × IsNewName names name

-- the names of the innermost of some arrays and objects that are open, the innermost first; and those of the others
abbrev pub inner_names : List (List (List ℕ)) → List (List ℕ)
inner_names [] = []
inner_names (names ∷ outer) = names

abbrev pub outer_names : List (List (List ℕ)) → List (List (List ℕ))
outer_names [] = []
outer_names (names ∷ outer) = outer

-- the names of the arrays and objects that are open after a token more; an array has none
abbrev pub names_after : List (List (List ℕ)) → Token → List (List (List ℕ))
names_after levels Token.begin_object = [] ∷ levels
names_after levels Token.end_object = outer_names levels
names_after levels Token.begin_array = [] ∷ levels
names_after levels Token.end_array = outer_names levels
names_after levels (Token.key name) = (name ∷ inner_names levels) ∷ outer_names levels
names_after levels (Token.string text) = levels
names_after levels (Token.number text) = levels
names_after levels (Token.boolean flag) = levels
names_after levels Token.null = levels
names_after levels Token.bad = levels

-- the token is no name that its object has
abbrev pub IsNewNameIn : List (List (List ℕ)) → Token → Type 0
IsNewNameIn levels (Token.key name) = IsNewName (inner_names levels) name
IsNewNameIn levels _ = ⊤

-- no name comes twice
abbrev pub NamesOnce : List (List (List ℕ)) → List Token → Type 0
NamesOnce levels [] = ⊤
NamesOnce levels (token ∷ more) = IsNewNameIn levels token × NamesOnce (names_after levels token) more

-- the names of the arrays and objects that are open after some tokens
abbrev pub all_names_after : List (List (List ℕ)) → List Token → List (List (List ℕ))
all_names_after levels [] = levels
all_names_after levels (token ∷ more) = all_names_after (names_after levels token) more
