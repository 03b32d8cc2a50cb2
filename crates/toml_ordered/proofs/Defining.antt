-- The definition of an expression, or of a pair of a table in braces, by the one along a route.
use Rattle.toml_ordered.proofs.Common.{◌≡◌, ℕ, List, [], ◌∷◌, ◌++◌, map, Option, Result, Ok, Err, option_map, refl, sym, ap, subst, ◌∙◌, Key, TomlNode}
use Rattle.toml_ordered.proofs.Common.{node_view, sealed, table_view, AddsFirsts, IsAgain, IsShutAt, table_firsts, IsShutInBraces, key_parts, ParsesTo}
use Rattle.toml_ordered.proofs.Common.{definition_view, Definition, TomlDocument, key_value, put, steps_along, Fault}
use Rattle.std.{proofs.lemmas.List.append_assoc, specs.Result.IfErr, specs.Result.IfOk}
use Rattle.toml_ordered.{proofs.FirstKeys.path_steps, specs.Places.IsShutFor, specs.Places.whole_path, specs.Reading.Defines}
use Rattle.toml_ordered.{specs.declared.tables.Definition.TheVariants.Value, specs.declared.tree.Node.Node, specs.declared.tree.Table.Table as CodeTable}
use Rattle.toml_ordered.specs.Tables.{along, at_key, define, defined_header, defined_pair}
use Rattle.toml_ordered.specs.declared.tables.Definition as code

abbrev Keys : Type 1
Keys = (path : List (List ℕ)) → (key : List ℕ) → Type 0

-- the definition, the places of first definitions, and the refusal
pub defines : {A : Type 0} (expected : Option A) (new : A) (whole : List (List ℕ)) (here : ℕ) (Shut : Keys) (from to : CodeTable)
    (r : Result (Unit {0}) Fault) → ParsesTo (λ _. new) r expected
    → IfOk r (λ _. AddsFirsts whole here (table_view from) (table_firsts from) (table_firsts to))
    → IfErr r (IsAgain whole here (table_firsts from) Shut) → Defines expected new whole here Shut from to r
defines expected new whole here Shut from to (Ok u) value firsts again = (value, firsts)
defines expected new whole here Shut from to (Err fault) value firsts again = (value, again)

-- the definition in the root table
pub in_document : {A B : Type 0} (f : A → B) (expected : Option A) (new : A) (whole : List (List ℕ)) (here : ℕ) (Shut : Keys) (from to : CodeTable)
    (r : Result (Unit {0}) Fault) → Defines expected new whole here Shut from to r → Defines (option_map f expected) (f new) whole here Shut from to r
in_document f expected new whole here Shut from to (Ok u) defines = (ap (option_map f) defines.0, defines.1)
in_document f expected new whole here Shut from to (Err fault) refused = (λ real. ap (option_map f) (refused.0 real), refused.1)

module _ (from to : CodeTable) (here : ℕ) (r : Result (Unit {0}) Fault) where
  -- a definition along the keys of a header and of a dotted key, with this whole path
  abbrev DefinesBy : (header dots : List (List ℕ)) (last : List ℕ) (what : Definition) (whole : List (List ℕ)) → Type 0
  DefinesBy header dots last what whole =
      Defines (along (steps_along header dots) (at_key last what) (table_view from)) (table_view to) whole here
      (IsShutAt (steps_along header dots) last what (table_view from)) from to r

  -- the whole path of a route
  pub along_route : (last : List ℕ) (what : Definition) (header dots : List (List ℕ))
      → DefinesBy header dots last what (map (λ step. step.1) (steps_along header dots) ++ last ∷ [])
      → DefinesBy header dots last what (header ++ (dots ++ last ∷ []))
  along_route last what header dots =
      subst (DefinesBy header dots last what) (ap (λ (path : List (List ℕ)). path ++ last ∷ []) (path_steps header dots) ∙ append_assoc header dots (last ∷ []))

  -- a pair of a table in braces, and one of a document
  pub put_defines : (key : Key) (x : TomlNode) (dots : List (List ℕ)) → dots ≡ key.0 → DefinesBy [] dots key.1 (key_value x) (dots ++ key.1 ∷ [])
      → Defines (put key x (table_view from)) (table_view to) (key_parts key) here (IsShutInBraces (table_view from) key x) from to r
  put_defines key x dots same = subst (λ (d : List (List ℕ)). DefinesBy [] d key.1 (key_value x) (d ++ key.1 ∷ [])) same

  pub pair_defines : (section : List (List ℕ)) (key : Key) (x : TomlNode) (header dots : List (List ℕ)) → header ≡ section → dots ≡ key.0
      → DefinesBy header dots key.1 (key_value x) (header ++ (dots ++ key.1 ∷ []))
      → Defines (defined_pair (table_view from, section) key x) (table_view to, section) (section ++ key_parts key) here
      (IsShutFor (table_view from, section) key (key_value x)) from to r
  pair_defines section key x header dots one two defines =
      in_document {B = TomlDocument} (λ root. (root, section)) _ _ _ here _ from to r
      (subst (λ (h : List (List ℕ)). DefinesBy h key.0 key.1 (key_value x) (h ++ key_parts key)) one
      (subst (λ (d : List (List ℕ)). DefinesBy header d key.1 (key_value x) (header ++ (d ++ key.1 ∷ []))) two defines))

  pub header_defines : (key : Key) (what : Definition) (header : List (List ℕ)) (name : List ℕ) → header ≡ key.0 → name ≡ key.1
      → DefinesBy header [] name what (header ++ name ∷ [])
      → Defines {A = TomlDocument} (option_map (λ root. (root, key_parts key)) (along (steps_along key.0 []) (at_key key.1 what) (table_view from)))
      (table_view to, key_parts key) (key_parts key) here (IsShutAt (steps_along key.0 []) key.1 what (table_view from)) from to r
  header_defines key what header name one two defines =
      in_document {B = TomlDocument} (λ root. (root, key_parts key)) _ _ _ here _ from to r
      (subst (λ (h : List (List ℕ)). DefinesBy h [] key.1 what (h ++ key.1 ∷ [])) one
      (subst (λ (n : List ℕ). DefinesBy header [] n what (header ++ n ∷ [])) two defines))

-- an expression
module _ (doc next : TomlDocument) (key : Key) (here : ℕ) (from to : CodeTable) (r : Result (Unit {0}) Fault) where
  pub value_defines : (d : code.Definition) (node : Node) → d ≡ Value node
      → Defines (defined_pair doc key (sealed (node_view node))) next (doc.1 ++ key_parts key) here
      (IsShutFor doc key (key_value (sealed (node_view node)))) from to r
      → Defines (define doc (key, definition_view d)) next (whole_path doc key (definition_view d)) here (IsShutFor doc key (definition_view d)) from to r
  unfolding define
  value_defines d node is defines =
      subst (λ (what : code.Definition). Defines (define doc (key, definition_view what)) next (whole_path doc key (definition_view what)) here
      (IsShutFor doc key (definition_view what)) from to r) (sym is) defines

  pub other_defines : (d : code.Definition) → ((node : Node) → d ≡ Value node → ⊥)
      → Defines (defined_header doc key (definition_view d)) next (key_parts key) here (IsShutAt (steps_along key.0 []) key.1 (definition_view d) doc.0)
      from to r
      → Defines (define doc (key, definition_view d)) next (whole_path doc key (definition_view d)) here (IsShutFor doc key (definition_view d)) from to r
  unfolding define
  other_defines (Value node) other defines = absurd (other node refl)
  other_defines _ other defines = defines
