-- How keys pass through tables: the table inside of a value is taken out, and put back once more is defined in it.
use Rattle.std.specs.Prelude.{◌≡◌, ℕ, zero, suc, List, [], ◌∷◌, ◌++◌, map, String, Some, None, option_map}
use Rattle.std.specs.declared.alloc.Global.{Global}
use Rattle.toml_ordered.specs.Data.{node_view}
use Rattle.toml_ordered.specs.Keys.{held_view, table_view}
use Rattle.toml_ordered.specs.Firsts.{AddsFirsts, IsAgain, IsShutAt, node_firsts, table_firsts, keys_in}
use Rattle.toml_ordered.specs.Reading.{IsMemory}
use Rattle.toml_ordered.specs.Tables.{Definition, Edit, LetsNoPass, along, passed}
use Rattle.toml_ordered.specs.declared.tree.Node.{Node as CodeNode, Table, Tables}
use Rattle.toml_ordered.specs.declared.tree.Table.{Table as CodeTable}
use Rattle.toml_ordered.specs.declared.fault.Fault.{Fault}
use Rattle.toml_ordered.specs.declared.route.Way.{Way}
use Rattle.toml_ordered.specs.declared.tree.holder.Holder.{Holder}
use Rattle.toml_ordered.specs.declared.tree.holder.Holder.TheVariants as holder
use Rattle.toml_ordered.specs.declared.passed.Passed.{Passed}

-- the value that holds a table
abbrev pub held : Holder → CodeTable → CodeNode
held (holder.Table origin) inner = Table origin inner
held (holder.Tables done) inner = Tables done inner

-- the keys, with another value at a place
abbrev pub with_value_at : ℕ → CodeNode → List (String Global × CodeNode × ℕ) → List (String Global × CodeNode × ℕ)
with_value_at at x [] = []
with_value_at zero x (m ∷ ms) = (m.0, x, m.2) ∷ ms
with_value_at (suc at) x (m ∷ ms) = m ∷ with_value_at at x ms

-- the whole is a table with an inner one in the value at a place
abbrev pub Fills : CodeTable → ℕ → Holder → (inner whole : CodeTable) → Type 0
Fills t at h inner whole = (whole.keys.items ≡ with_value_at at (held h inner) t.keys.items) × (whole.index ≡ t.index)

-- the whole is the table that was passed, with the inner table put back
abbrev pub IsFilled : Passed → (inner whole : CodeTable) → Type 0
IsFilled p = Fills p.table p.at p.holder

-- the same of several, the innermost first
abbrev pub AreFilled : List Passed → (inner whole : CodeTable) → Type 0
AreFilled [] inner whole = whole ≡ inner
AreFilled (p ∷ ps) inner whole = (outer : CodeTable) × IsFilled p inner outer × AreFilled ps outer whole

-- an edit that passes the value is made in this table, which is then held so; the keys inside of the value are the table's
abbrev pub IsOpened : Way → CodeNode → Holder → CodeTable → Type 0
IsOpened by x h inner =
    ((edit : Edit) → passed by edit (node_view x) ≡ option_map (held_view h) (edit (table_view inner)))
    × (keys_in (Some (node_view x)) ≡ table_view inner) × (node_firsts x ≡ table_firsts inner)

-- no edit passes the value
abbrev pub IsShut : Way → CodeNode → Type 0
IsShut by x = LetsNoPass by (node_view x)

-- the keys of steps
abbrev pub keys_of : List (Way × List ℕ) → List (List ℕ)
keys_of steps = map (λ step. step.1) steps

-- All the steps in the outer table define the same as the rest of them in the inner one: if a new table takes the place of the inner one,
-- the whole, which Fill tells, takes the place of the outer one.
pub record PassesSteps (all rest : List (Way × List ℕ)) (left : ℕ) (outer inner : CodeTable) (Fill : CodeTable → CodeTable → Type 0) : Type 0 where
  pub value : (edit : Edit) (new whole : CodeTable) → Fill new whole → along rest edit (table_view inner) ≡ Some (table_view new)
      → along all edit (table_view outer) ≡ Some (table_view whole)
  pub refused : (edit : Edit) → along rest edit (table_view inner) ≡ None → along all edit (table_view outer) ≡ None
  pub firsts : (key : List ℕ) (new whole : CodeTable) → Fill new whole
      → AddsFirsts (keys_of rest ++ key ∷ []) left (table_view inner) (table_firsts inner) (table_firsts new)
      → AddsFirsts (keys_of all ++ key ∷ []) left (table_view outer) (table_firsts outer) (table_firsts whole)
  pub again : (key : List ℕ) (what : Definition) (fault : Fault)
      → IsAgain (keys_of rest ++ key ∷ []) left (table_firsts inner) (IsShutAt rest key what (table_view inner)) fault
      → IsAgain (keys_of all ++ key ∷ []) left (table_firsts outer) (IsShutAt all key what (table_view outer)) fault

-- nothing is defined by the steps in the table, and why
pub record RefusesSteps (all : List (Way × List ℕ)) (left : ℕ) (outer : CodeTable) (fault : Fault) : Type 0 where
  pub value : (edit : Edit) → (IsMemory fault → ⊥) → along all edit (table_view outer) ≡ None
  pub again : (key : List ℕ) (what : Definition)
      → IsAgain (keys_of all ++ key ∷ []) left (table_firsts outer) (IsShutAt all key what (table_view outer)) fault
