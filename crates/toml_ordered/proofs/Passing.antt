-- A table is taken out of another, and put back.
use Rattle.toml_ordered.proofs.Common.{length, List, [], ◌∷◌, ◌++◌, Some, None, string_bytes, option_map, ◌≡◌, ℕ, zero, suc, ◌<◌, inl, inr, refl, sym, ap}
use Rattle.toml_ordered.proofs.Common.{subst, ◌∙◌, arith, set, get_or, reverse, TomlNode, TomlNodes, node_view, table, keys_view, table_view, Firsts}
use Rattle.toml_ordered.proofs.Common.{AddsFirsts, HasFirst, IsAgain, keys_firsts, table_firsts, no_firsts, IsShutAt, held, AreFilled, PassesSteps, IsReworded}
use Rattle.toml_ordered.proofs.Common.{Edit, append, passed, Fault, Way, Holder, Origin, Closed, Table}
use Rattle.std.proofs.lemmas.List.{reverse-append}
use Rattle.toml_ordered.proofs.{KeyPlaces.found_here, KeyPlaces.written_here, Trees.Entry, Trees.Places, Trees.held_is, Trees.node_view-Table}
use Rattle.toml_ordered.proofs.FirstKeys.{adds_inside, adds_missing, again_here, again_inside, again_nothing, again_reworded, held_firsts, node_firsts-Table}
use Rattle.toml_ordered.proofs.FirstKeys.{reworded_memory}
use Rattle.toml_ordered.proofs.Turns.{along_found, along_refused, along_new, along_new_refused}
use Rattle.toml_ordered.specs.{Data.no_nodes, Keys.IsFoundAt, Keys.held_view, Firsts.node_firsts, Firsts.keys_in, Reading.IsPassed, Reading.IsSameKey}
use Rattle.toml_ordered.specs.{declared.passed.Passed.Passed, declared.tree.Node.Node as CodeNode, declared.tree.Table.Table as CodeTable}
use Rattle.toml_ordered.specs.Passing.{with_value_at, Fills, IsFilled, IsOpened, IsShut, RefusesSteps, keys_of}
use Rattle.toml_ordered.specs.Tables.{along, get_node, made_by, replace}
use Rattle.toml_ordered.specs.declared.tree.holder.Holder.TheVariants as holder
use Rattle.toml_ordered.specs.declared.route.Way.TheVariants as way

-- ---- another value at a place

pub with_value_at-set : (at : ℕ) (x : CodeNode) (es : List Entry) (w : Entry) → with_value_at at x (set es at w) ≡ set es at (w.0, x, w.2)
with_value_at-set at x [] w = refl
with_value_at-set zero x (e ∷ es) w = refl
with_value_at-set (suc at) x (e ∷ es) w = ap (λ (ds : List Entry). e ∷ ds) (with_value_at-set at x es w)

pub with_value_at-here : (at : ℕ) (x : CodeNode) (es : List Entry) (e : Entry) → at < length es → get_or es at e ≡ e
    → set es at (e.0, x, e.2) ≡ with_value_at at x es
with_value_at-here at x [] e within is = refl
with_value_at-here zero x (d ∷ es) e within is = ap (λ (m : Entry). (m.0, x, m.2) ∷ es) (sym is)
with_value_at-here (suc at) x (d ∷ es) e within is = ap (λ (ds : List Entry). d ∷ ds) (with_value_at-here at x es e (omega (arith, within)) is)

with_value_at-last : (x : CodeNode) (es : List Entry) (w : Entry) → with_value_at (length es) x (es ++ w ∷ []) ≡ es ++ (w.0, x, w.2) ∷ []
with_value_at-last x [] w = refl
with_value_at-last x (e ∷ es) w = ap (λ (ds : List Entry). e ∷ ds) (with_value_at-last x es w)

-- ---- the holder of a table

-- the table in a value that lets a key pass
pub opened : (by : Way) (origin after : Origin) (t : CodeTable) (x : CodeNode) → x ≡ Table origin t
    → ((edit : Edit) (inner : TomlNodes) → passed by edit (table origin inner) ≡ option_map (table after) (edit inner))
    → IsOpened by x (holder.Table after) t
opened by origin after t x is passes =
    let view = ap node_view is ∙ node_view-Table origin t in (
      λ edit. ap (passed by edit) view ∙ passes edit (table_view t),
      ap (λ (y : TomlNode). keys_in (Some y)) view,
      ap node_firsts is ∙ node_firsts-Table origin t grows,
    )
  where
    shut : (way : Way) → passed way (λ ns. Some ns) (table Closed no_nodes) ≡ None
    shut way.Header = refl
    shut way.Dots = refl

    some_none : Some (table after no_nodes) ≡ None → ⊥
    some_none e = cc

    grows : origin ≡ Closed → ⊥
    grows closed = some_none (sym (passes (λ ns. Some ns) no_nodes) ∙ ap (λ (o : Origin). passed by (λ ns. Some ns) (table o no_nodes)) closed ∙ shut by)

-- nothing more is defined in it than in the table
adds_held : (whole : List (List ℕ)) (here : ℕ) (ns : TomlNodes) (old : Firsts) (h : Holder) (t : CodeTable)
    → AddsFirsts whole here ns old (table_firsts t) → AddsFirsts whole here ns old (node_firsts (held h t))
adds_held whole here ns old h t adds = elim (held_firsts h t) [
  | inl same ↦ subst (AddsFirsts whole here ns old) (sym same) adds
  | inr none ↦ λ path key left first. absurd (subst (λ (f : Firsts). HasFirst f path key left) none first)
]

-- ---- one table that is passed

-- a key that is there
module _ (by : Way) (k : List ℕ) (rest : List (Way × List ℕ)) (left at : ℕ) (outer : CodeTable) (e : Entry)
    (has : IsFoundAt k at outer.keys.items outer.index) (is : get_or outer.keys.items at e ≡ e) where
  found : get_node k (table_view outer) ≡ Some (node_view e.1)
  found = found_here k at outer.keys.items e outer.index has is

  pub refuses_there : (fault : Fault) → IsPassed (string_bytes e.0) e.2 left fault → IsShut by e.1 → RefusesSteps ((by, k) ∷ rest) left outer fault
  refuses_there fault own shut = record {
    value = λ edit real. along_refused by k rest edit (table_view outer) (node_view e.1) found (shut (along rest edit));
    again = λ key what. again_here k (keys_of rest ++ key ∷ []) left at outer.keys.items e (IsShutAt ((by, k) ∷ rest) key what (table_view outer)) fault has.1
        is own (λ real. (refl, node_view e.1, found, shut));
  }

  -- w is in its place after the table inside is taken out
  module _ (w : Entry) (h : Holder) (inner t : CodeTable) (same : IsSameKey e w) (opened : IsOpened by e.1 h inner)
      (keys : t.keys.items ≡ set outer.keys.items at w) (index : t.index ≡ outer.index) where
    abbrev now : CodeTable → Entry
    now new = (w.0, held h new, w.2)

    items_are : (new whole : CodeTable) → Fills t at h new whole → whole.keys.items ≡ set outer.keys.items at (now new)
    items_are new whole fills = fills.0 ∙ ap (with_value_at at (held h new)) keys ∙ with_value_at-set at (held h new) outer.keys.items w

    view_is : (new whole : CodeTable) → Fills t at h new whole → table_view whole ≡ replace k (held_view h (table_view new)) (table_view outer)
    view_is new whole fills =
        ap (λ (es : List Entry). keys_view es whole.index) (items_are new whole fills)
        ∙ ap (λ (places : Places). keys_view (set outer.keys.items at (now new)) places) (fills.1 ∙ index)
        ∙ written_here k at outer.keys.items e (now new) outer.index has is same.0
        ∙ ap (λ (x : TomlNode). replace k x (table_view outer)) (held_is h new)

    adds_there : (key : List ℕ) (new whole : CodeTable) → Fills t at h new whole
        → AddsFirsts (keys_of rest ++ key ∷ []) left (table_view inner) (table_firsts inner) (table_firsts new)
        → AddsFirsts (k ∷ keys_of rest ++ key ∷ []) left (table_view outer) (table_firsts outer) (table_firsts whole)
    adds_there key new whole fills adds =
        let path = keys_of rest ++ key ∷ [] in
        let inside : AddsFirsts path left (keys_in (Some (node_view e.1))) (node_firsts e.1) (node_firsts (held h new)) =
        subst (λ (ns : TomlNodes). AddsFirsts path left ns (node_firsts e.1) (node_firsts (held h new))) (sym opened.1) (subst (λ (f : Firsts). AddsFirsts path
        left (table_view inner) f (node_firsts (held h new))) (sym opened.2) (adds_held path left (table_view inner) (table_firsts inner) h new adds)) in
        subst (λ (es : List Entry). AddsFirsts (k ∷ path) left (table_view outer) (table_firsts outer) (keys_firsts es)) (sym (items_are new whole fills))
        (adds_inside k path left (table_view outer) (node_view e.1) at outer.keys.items e (now new) found has.1 is same inside)

    pub passes_there : PassesSteps ((by, k) ∷ rest) rest left outer inner (Fills t at h)
    passes_there = record {
      value = λ edit new whole fills known. along_found by k rest edit (table_view outer) (node_view e.1) (held_view h (table_view new)) (table_view whole)
          found (opened.0 (along rest edit) ∙ ap (option_map (held_view h)) known) (view_is new whole fills);
      refused = λ edit none.
          along_refused by k rest edit (table_view outer) (node_view e.1) found (opened.0 (along rest edit) ∙ ap (option_map (held_view h)) none);
      firsts = adds_there;
      again = λ key what fault again. again_inside k (keys_of rest ++ key ∷ []) left at outer.keys.items e (IsShutAt rest key what (table_view inner))
          (IsShutAt ((by, k) ∷ rest) key what (table_view outer))
          (λ path l shut. (refl, subst (λ (ns : TomlNodes). IsShutAt rest key what ns path l) (sym (ap keys_in found ∙ opened.1)) shut)) fault has.1 is
          (subst (λ (f : Firsts). IsAgain (keys_of rest ++ key ∷ []) left f (IsShutAt rest key what (table_view inner)) fault) (sym opened.2) again);
    }

-- a key that is missing, and is put after the others with some value
module _ (by : Way) (rest : List (Way × List ℕ)) (left at : ℕ) (outer inner t : CodeTable) (w : Entry) (origin : Origin) where
  abbrev made : CodeTable → Entry
  made new = (w.0, held (holder.Table origin) new, w.2)

  module _ (none : get_node (string_bytes w.0) (table_view outer) ≡ None) (here : w.2 ≡ left) (empty : inner.keys.items ≡ [])
      (place : at ≡ length outer.keys.items) (is : origin ≡ made_by by) (keys : t.keys.items ≡ outer.keys.items ++ w ∷ [])
      (view : (x : CodeNode) → keys_view (outer.keys.items ++ (w.0, x, w.2) ∷ []) t.index ≡ append (table_view outer) (string_bytes w.0) (node_view x)) where
    items_made : (new whole : CodeTable) → Fills t at (holder.Table origin) new whole → whole.keys.items ≡ outer.keys.items ++ made new ∷ []
    items_made new whole fills =
        fills.0 ∙ ap (λ (n : ℕ). with_value_at n (made new).1 t.keys.items) place
        ∙ ap (with_value_at (length outer.keys.items) (made new).1) keys ∙ with_value_at-last (made new).1 outer.keys.items w

    view_made : (new whole : CodeTable) → Fills t at (holder.Table origin) new whole
        → table_view whole ≡ append (table_view outer) (string_bytes w.0) (table (made_by by) (table_view new))
    view_made new whole fills =
        ap (λ (es : List Entry). keys_view es whole.index) (items_made new whole fills)
        ∙ ap (λ (places : Places). keys_view (outer.keys.items ++ made new ∷ []) places) fills.1 ∙ view (made new).1
        ∙ ap (append (table_view outer) (string_bytes w.0)) (held_is (holder.Table origin) new ∙ ap (λ (o : Origin). table o (table_view new)) is)

    nothing_in : table_view inner ≡ no_nodes
    nothing_in = ap (λ (es : List Entry). keys_view es inner.index) empty

    pub passes_new : PassesSteps ((by, string_bytes w.0) ∷ rest) rest left outer inner (Fills t at (holder.Table origin))
    passes_new = record {
      value = λ edit new whole fills known. along_new by (string_bytes w.0) rest edit (table_view outer) (table_view new) (table_view whole) none
          (ap (along rest edit) (sym nothing_in) ∙ known) (view_made new whole fills);
      refused = λ edit bad. along_new_refused by (string_bytes w.0) rest edit (table_view outer) none (ap (along rest edit) (sym nothing_in) ∙ bad);
      firsts = λ key new whole fills adds.
          let path = keys_of rest ++ key ∷ [] in
          let inside : AddsFirsts path left no_nodes no_firsts (node_firsts (made new).1) =
          adds_held path left no_nodes no_firsts (holder.Table origin) new
          (subst (λ (es : List Entry). AddsFirsts path left (keys_view es inner.index) (keys_firsts es) (table_firsts new)) empty adds) in
          adds_missing (string_bytes w.0) path _ (table_view outer) outer.keys.items _ (made new) refl here none inside (items_made new whole fills);
      again = λ key what fault again. again_nothing (keys_of rest ++ key ∷ []) (string_bytes w.0 ∷ keys_of rest ++ key ∷ []) left (table_firsts outer)
          (IsShutAt rest key what (table_view inner)) (IsShutAt ((by, string_bytes w.0) ∷ rest) key what (table_view outer)) fault
          (subst (λ (es : List Entry). IsAgain (keys_of rest ++ key ∷ []) left (keys_firsts es) (IsShutAt rest key what (table_view inner)) fault) empty again);
    }

-- a fault in other words
pub refuses_reworded : (all : List (Way × List ℕ)) (left : ℕ) (outer : CodeTable) (was now : Fault) → IsReworded was now → RefusesSteps all left outer was
    → RefusesSteps all left outer now
refuses_reworded all left outer was now is refuses = record {
  value = λ edit real. refuses.value edit (λ memory. real (reworded_memory was now is memory));
  again = λ key what.
      again_reworded (keys_of all ++ key ∷ []) left (table_firsts outer) (IsShutAt all key what (table_view outer)) was now is (refuses.again key what);
}

-- ---- several

-- one more
pub passes_on : (all middle rest : List (Way × List ℕ)) (left : ℕ) (outer here inner : CodeTable) (ps : List Passed) (p : Passed)
    → PassesSteps all middle left outer here (AreFilled (reverse ps)) → PassesSteps middle rest left here inner (IsFilled p)
    → PassesSteps all rest left outer inner (AreFilled (reverse (ps ++ p ∷ [])))
passes_on all middle rest left outer here inner ps p before step =
    subst (λ (qs : List Passed). PassesSteps all rest left outer inner (AreFilled qs)) (sym (reverse-append ps (p ∷ []))) record {
      value = λ edit new whole fills known. before.value edit fills.0 whole fills.2 (step.value edit new fills.0 fills.1 known);
      refused = λ edit none. before.refused edit (step.refused edit none);
      firsts = λ key new whole fills adds. before.firsts key fills.0 whole fills.2 (step.firsts key new fills.0 fills.1 adds);
      again = λ key what fault found. before.again key what fault (step.again key what fault found);
    }

pub refused_on : (all middle : List (Way × List ℕ)) (left : ℕ) (outer here : CodeTable) (Fill : CodeTable → CodeTable → Type 0) (fault : Fault)
    → PassesSteps all middle left outer here Fill → RefusesSteps middle left here fault → RefusesSteps all left outer fault
refused_on all middle left outer here Fill fault before refused = record {
  value = λ edit real. before.refused edit (refused.value edit real);
  again = λ key what. before.again key what fault (refused.again key what);
}

-- the last of them is filled first
pub filled_before : (all before : List Passed) (p : Passed) (inner outer whole : CodeTable) → all ≡ before ++ p ∷ [] → IsFilled p inner outer
    → AreFilled (reverse before) outer whole → AreFilled (reverse all) inner whole
filled_before all before p inner outer whole is fills filled =
    subst (λ (ps : List Passed). AreFilled ps inner whole) (sym (ap reverse is ∙ reverse-append before (p ∷ []))) (outer, fills, filled)
