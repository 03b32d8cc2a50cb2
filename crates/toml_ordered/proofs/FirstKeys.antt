-- The places at which the keys of a table were first defined, before and after a definition.
use Rattle.toml_ordered.proofs.Common.{Option, Ok, Err, ◌≡◌, ℕ, zero, suc, List, [], ◌∷◌, ◌++◌, map, Some, None, String, Vec, Global, string_bytes, refl, sym}
use Rattle.toml_ordered.proofs.Common.{ap, subst, ◌∙◌, inl, inr, ◌⊎◌, rules, set, get_or, Result, bytes_eq-Decides, Table, the_lemmas, Origin, Closed, Fault}
use Rattle.toml_ordered.proofs.Common.{Holder, TomlNode, TomlNodes, held, HasKey, Firsts, no_firsts, HasFirst, keys_firsts, table_firsts, AddsFirsts, IsAgain}
use Rattle.toml_ordered.proofs.Common.{IsReworded, IsGrammarRefusal, ParsesTo, IsMemory, steps_along}
use Rattle.std.{proofs.lemmas.Result.IfOk-weaker, proofs.lemmas.Result.IfErr-weaker, specs.Result.IfOk, specs.Result.IfErr}
use Rattle.toml_ordered.{specs.declared.tree.Node.Node as CodeNode, specs.declared.tree.Node.Tables, specs.declared.tree.Table.Table as CodeTable}
use Rattle.toml_ordered.{specs.Data.no_nodes, specs.Reading.IsPassed, specs.Reading.IsSameKey, specs.Tables.get_node, proofs.Trees.Entry}
use Rattle.toml_ordered.specs.declared.tree.Origin.TheVariants.{Implicit, Dotted, Header}
use Rattle.toml_ordered.specs.Firsts.{node_firsts, keys_in, keys_at, PassesKey, IsNewKey}
use Rattle.toml_ordered.specs.declared.fault.Fault.TheVariants as fault
use Rattle.toml_ordered.specs.declared.tree.holder.Holder.TheVariants as holder

-- ---- values

pub node_firsts-Closed : (t : CodeTable) → node_firsts (Table Closed t) ≡ no_firsts
node_firsts-Closed t = search (rules, the_lemmas)

pub node_firsts-Tables : (done : Vec CodeNode Global) (last : CodeTable) → node_firsts (Tables done last) ≡ table_firsts last
node_firsts-Tables done last = search (rules, the_lemmas)

pub node_firsts-Table : (origin : Origin) (t : CodeTable) → (origin ≡ Closed → ⊥) → node_firsts (Table origin t) ≡ table_firsts t
node_firsts-Table Closed t grows = absurd (grows refl)
node_firsts-Table _ t grows = search (rules, the_lemmas)

-- a value has those of the table that it holds, or none
pub held_firsts : (h : Holder) (t : CodeTable) → (node_firsts (held h t) ≡ table_firsts t) ⊎ (node_firsts (held h t) ≡ no_firsts)
held_firsts (holder.Tables done) t = inl (node_firsts-Tables done t)
held_firsts (holder.Table Implicit) t = inl (node_firsts-Table Implicit t (λ e. cc))
held_firsts (holder.Table Dotted) t = inl (node_firsts-Table Dotted t (λ e. cc))
held_firsts (holder.Table Header) t = inl (node_firsts-Table Header t (λ e. cc))
held_firsts (holder.Table Closed) t = inr (node_firsts-Closed t)

-- ---- lists of keys

abbrev Path : Type 0
Path = List (List ℕ)

-- of keys, each in the table at the end of a path
abbrev pub Keys : Type 1
Keys = (path : Path) → (key : List ℕ) → Type 0

-- inside of a key
abbrev Under : (step : List ℕ) → (inner : Firsts) → Path → (key : List ℕ) → (left : ℕ) → Type 0
Under step inner path key left = (path' : Path) × (path ≡ step ∷ path') × HasFirst inner path' key left

-- a key that goes last
pub of_last : (es : List Entry) (w : Entry) (path : Path) (key : List ℕ) (left : ℕ) → HasFirst (keys_firsts (es ++ w ∷ [])) path key left
    → HasFirst (keys_firsts es) path key left ⊎ HasFirst (keys_firsts (w ∷ [])) path key left
of_last [] w path key left has = inr has
of_last (e ∷ es) w [] key left (inl here) = inl (inl here)
of_last (e ∷ es) w [] key left (inr has) = elim (of_last es w [] key left has) [
  | inl old ↦ inl (inr old)
  | inr new ↦ inr new
]
of_last (e ∷ es) w (step ∷ path) key left (inl here) = inl (inl here)
of_last (e ∷ es) w (step ∷ path) key left (inr has) = elim (of_last es w (step ∷ path) key left has) [
  | inl old ↦ inl (inr old)
  | inr new ↦ inr new
]

-- another value at the place of a key
pub of_written : (k : List ℕ) (at : ℕ) (es : List Entry) (d w : Entry) → HasKey k at es → w.0 ≡ (get_or es at d).0 → w.2 ≡ (get_or es at d).2
    → (path : Path) (key : List ℕ) (left : ℕ) → HasFirst (keys_firsts (set es at w)) path key left
    → HasFirst (keys_firsts es) path key left ⊎ Under (string_bytes w.0) (node_firsts w.1) path key left
of_written k at [] d w has name place path key left first = absurd has
of_written k zero (e ∷ es) d w has name place [] key left (inl here) = inl (inl (here.0 ∙ ap (λ (s : String Global). string_bytes s) name, here.1 ∙ place))
of_written k zero (e ∷ es) d w has name place [] key left (inr first) = inl (inr first)
of_written k zero (e ∷ es) d w has name place (step ∷ path) key left (inl here) = inr (path, ap (λ (s : List ℕ). s ∷ path) here.0, here.1)
of_written k zero (e ∷ es) d w has name place (step ∷ path) key left (inr first) = inl (inr first)
of_written k (suc at) (e ∷ es) d w has name place [] key left (inl here) = inl (inl here)
of_written k (suc at) (e ∷ es) d w has name place [] key left (inr first) = elim (of_written k at es d w has name place [] key left first) [
  | inl old ↦ inl (inr old)
  | inr new ↦ inr new
]
of_written k (suc at) (e ∷ es) d w has name place (step ∷ path) key left (inl here) = inl (inl here)
of_written k (suc at) (e ∷ es) d w has name place (step ∷ path) key left (inr first) =
    elim (of_written k at es d w has name place (step ∷ path) key left first) [
      | inl old ↦ inl (inr old)
      | inr new ↦ inr new
    ]

-- a key's own place, and the keys inside of it
pub has_own : (k : List ℕ) (at : ℕ) (es : List Entry) (d : Entry) → HasKey k at es → HasFirst (keys_firsts es) [] k (get_or es at d).2
has_own k at [] d has = absurd has
has_own k zero (e ∷ es) d has = inl ((bytes_eq-Decides k (string_bytes e.0)).0 has, refl)
has_own k (suc at) (e ∷ es) d has = inr (has_own k at es d has)

pub has_inside : (k : List ℕ) (at : ℕ) (es : List Entry) (d : Entry) → HasKey k at es → (path : Path) (key : List ℕ) (left : ℕ)
    → HasFirst (node_firsts (get_or es at d).1) path key left → HasFirst (keys_firsts es) (k ∷ path) key left
has_inside k at [] d has path key left first = absurd has
has_inside k zero (e ∷ es) d has path key left first = inl ((bytes_eq-Decides k (string_bytes e.0)).0 has, first)
has_inside k (suc at) (e ∷ es) d has path key left first = inr (has_inside k at es d has path key left first)

name_is : (k : List ℕ) (at : ℕ) (es : List Entry) (d : Entry) → HasKey k at es → k ≡ string_bytes (get_or es at d).0
name_is k at [] d has = absurd has
name_is k zero (e ∷ es) d has = (bytes_eq-Decides k (string_bytes e.0)).0 has
name_is k (suc at) (e ∷ es) d has = name_is k at es d has

-- ---- definitions

pub passes_behind : (k : List ℕ) (whole path : Path) (key : List ℕ) → PassesKey whole path key → PassesKey (k ∷ whole) (k ∷ path) key
passes_behind k whole path key passes = (passes.0, ap (λ (p : Path). k ∷ p) passes.1)

new_behind : (k : List ℕ) (whole : Path) (ns inner : TomlNodes) (path : Path) (key : List ℕ) → keys_in (get_node k ns) ≡ inner → IsNewKey whole inner path key
    → IsNewKey (k ∷ whole) ns (k ∷ path) key
new_behind k whole ns inner path key is new = (passes_behind k whole path key new.0, ap (λ (keys : TomlNodes). get_node key (keys_at path keys)) is ∙ new.1)

-- a definition inside of a key that is there
pub adds_inside : (k : List ℕ) (whole : Path) (here : ℕ) (ns : TomlNodes) (x : TomlNode) (at : ℕ) (es : List Entry) (e w : Entry)
    → get_node k ns ≡ Some x → HasKey k at es → get_or es at e ≡ e → IsSameKey e w
    → AddsFirsts whole here (keys_in (Some x)) (node_firsts e.1) (node_firsts w.1)
    → AddsFirsts (k ∷ whole) here ns (keys_firsts es) (keys_firsts (set es at w))
adds_inside k whole here ns x at es e w found has is_e same inner path key left first =
    elim (of_written k at es e w has (same.0 ∙ ap (λ (d : Entry). d.0) (sym is_e)) (same.1 ∙ ap (λ (d : Entry). d.2) (sym is_e)) path key left first) [
      | inl old ↦ inl old
      | inr under ↦
          let name : string_bytes w.0 ≡ k =
          ap (λ (n : String Global). string_bytes n) same.0 ∙ ap (λ (d : Entry). string_bytes d.0) (sym is_e) ∙ sym (name_is k at es e has) in
          let is : path ≡ k ∷ under.0 = under.1 ∙ ap (λ (s : List ℕ). s ∷ under.0) name in
          elim (inner under.0 key left under.2) [
            | inl old ↦
                inl (subst (λ (p : Path). HasFirst (keys_firsts es) p key left) (sym is)
                (has_inside k at es e has under.0 key left (subst (λ (d : Entry). HasFirst (node_firsts d.1) under.0 key left) (sym is_e) old)))
            | inr new ↦
                inr (
                  new.0,
                  subst (λ (p : Path). IsNewKey (k ∷ whole) ns p key) (sym is) (new_behind k whole ns (keys_in (Some x)) under.0 key (ap keys_in found) new.1),
                )
          ]
    ]

-- a key that is missing, and a definition inside of it
pub adds_missing : (k : List ℕ) (whole : Path) (here : ℕ) (ns : TomlNodes) (es after : List Entry) (w : Entry) → string_bytes w.0 ≡ k → w.2 ≡ here
    → get_node k ns ≡ None → AddsFirsts whole here no_nodes no_firsts (node_firsts w.1) → after ≡ es ++ w ∷ []
    → AddsFirsts (k ∷ whole) here ns (keys_firsts es) (keys_firsts after)
adds_missing k whole here ns es after w name place none inner is path key left first =
    elim (of_last es w path key left (subst (λ (ds : List Entry). HasFirst (keys_firsts ds) path key left) is first)) [
      | inl old ↦ inl old
      | inr last ↦ inr (by path last)
    ]
  where
    by : (p : Path) → HasFirst (keys_firsts (w ∷ [])) p key left → (left ≡ here) × IsNewKey (k ∷ whole) ns p key
    by [] (inl own) =
        let same : key ≡ k = own.0 ∙ name in
        (own.1 ∙ place, ((whole, ap (λ (j : List ℕ). j ∷ whole) (sym same)), ap (λ (j : List ℕ). get_node j ns) same ∙ none))
    by [] (inr other) = absurd other
    by (step ∷ p) (inl own) = elim (inner p key left own.1) [
      | inl old ↦ absurd old
      | inr new ↦
          let same : step ≡ k = own.0 ∙ name in
          (new.0, subst (λ (j : List ℕ). IsNewKey (k ∷ whole) ns (j ∷ p) key) (sym same) (new_behind k whole ns no_nodes p key (ap keys_in none) new.1))
    ]
    by (step ∷ p) (inr other) = absurd other

-- no first definition adds none
pub adds_none : (whole : Path) (here : ℕ) (ns : TomlNodes) (inner : Firsts) → inner ≡ no_firsts → AddsFirsts whole here ns no_firsts inner
adds_none whole here ns inner is path key left first = absurd (subst (λ (f : Firsts). HasFirst f path key left) is first)

-- a value in place of another, with the same inside of it, or nothing
pub adds_nothing : (whole : Path) (here : ℕ) (ns : TomlNodes) (old new : Firsts) → (new ≡ old) ⊎ (new ≡ no_firsts) → AddsFirsts whole here ns old new
adds_nothing whole here ns old new (inl same) path key left first = inl (subst (λ (f : Firsts). HasFirst f path key left) same first)
adds_nothing whole here ns old new (inr gone) path key left first = absurd (subst (λ (f : Firsts). HasFirst f path key left) gone first)

-- ---- keys that are defined again

-- a fault of an allocation
pub again_memory : (whole : Path) (here : ℕ) (old : Firsts) (Shut : Keys) (fault : Fault) → IsMemory fault → IsAgain whole here old Shut fault
again_memory whole here old Shut fault is = subst (IsAgain whole here old Shut) (sym is) tt

-- a fault in other words
pub reworded_memory : (was now : Fault) → IsReworded was now → IsMemory was → IsMemory now
reworded_memory fault.Memory now is memory = is
reworded_memory _ now is memory = absurd (cc)

pub again_reworded : (whole : Path) (here : ℕ) (old : Firsts) (Shut : Keys) (was now : Fault) → IsReworded was now → IsAgain whole here old Shut was
    → IsAgain whole here old Shut now
again_reworded whole here old Shut fault.Memory now is again = subst (IsAgain whole here old Shut) (sym is) tt
again_reworded whole here old Shut (fault.NotToml left why) now is again = absurd again
again_reworded whole here old Shut (fault.TooDeep left) now is again = absurd again
again_reworded whole here old Shut (fault.DefinedAgain key name first second) now (inl is) again = subst (IsAgain whole here old Shut) (sym is) tt
again_reworded whole here old Shut (fault.DefinedAgain key name first second) now (inr (other, is)) again = subst (IsAgain whole here old Shut) (sym is) again

pub refused_reworded : {B : Type 0} (expected : Option B) (whole : Path) (here : ℕ) (old : Firsts) (Shut : Keys) (was now : Fault) → IsReworded was now
    → IsGrammarRefusal expected (IsAgain whole here old Shut) was → IsGrammarRefusal expected (IsAgain whole here old Shut) now
refused_reworded expected whole here old Shut was now is refused =
    ((λ real. refused.0 (λ memory. real (reworded_memory was now is memory))), again_reworded whole here old Shut was now is refused.1)

-- none was defined before in an empty table
pub again_nothing : (whole all : Path) (here : ℕ) (old : Firsts) (Inner Shut : Keys) (found : Fault) → IsAgain whole here no_firsts Inner found
    → IsAgain all here old Shut found
again_nothing whole all here old Inner Shut fault.Memory again = tt
again_nothing whole all here old Inner Shut (fault.NotToml left why) again = again
again_nothing whole all here old Inner Shut (fault.TooDeep left) again = again
again_nothing whole all here old Inner Shut (fault.DefinedAgain key name first second) again = absurd again.2

-- the key itself, at the beginning of the whole path
pub again_here : (k : List ℕ) (rest : Path) (here : ℕ) (at : ℕ) (es : List Entry) (e : Entry) (Shut : Keys) (found : Fault) → HasKey k at es
    → get_or es at e ≡ e → IsPassed (string_bytes e.0) e.2 here found → ((IsMemory found → ⊥) → Shut [] k) → IsAgain (k ∷ rest) here (keys_firsts es) Shut found
again_here k rest here at es e Shut fault.Memory has is_e passed shut = tt
again_here k rest here at es e Shut (fault.NotToml left why) has is_e passed shut = passed
again_here k rest here at es e Shut (fault.TooDeep left) has is_e passed shut = passed
again_here k rest here at es e Shut (fault.DefinedAgain key name first second) has is_e passed shut =
    let is_key : string_bytes key ≡ k = passed.0 ∙ ap (λ (d : Entry). string_bytes d.0) (sym is_e) ∙ sym (name_is k at es e has) in
    let is_first : first ≡ (get_or es at e).2 = passed.1 ∙ ap (λ (d : Entry). d.2) (sym is_e) in (
      passed.2,
      [],
      subst (λ (l : List ℕ). HasFirst (keys_firsts es) [] l first) (sym is_key)
          (subst (λ (n : ℕ). HasFirst (keys_firsts es) [] k n) (sym is_first) (has_own k at es e has)),
      (rest, ap (λ (l : List ℕ). l ∷ rest) (sym is_key)),
      subst (Shut []) (sym is_key) (shut λ memory. cc),
    )

-- a key inside of it
pub again_inside : (k : List ℕ) (whole : Path) (here : ℕ) (at : ℕ) (es : List Entry) (e : Entry) (Inner Shut : Keys)
    → ((path : Path) (key : List ℕ) → Inner path key → Shut (k ∷ path) key) → (found : Fault) → HasKey k at es → get_or es at e ≡ e
    → IsAgain whole here (node_firsts e.1) Inner found → IsAgain (k ∷ whole) here (keys_firsts es) Shut found
again_inside k whole here at es e Inner Shut outwards fault.Memory has is_e again = tt
again_inside k whole here at es e Inner Shut outwards (fault.NotToml left why) has is_e again = again
again_inside k whole here at es e Inner Shut outwards (fault.TooDeep left) has is_e again = again
again_inside k whole here at es e Inner Shut outwards (fault.DefinedAgain key name first second) has is_e again = (
  again.0,
  k ∷ again.1,
  has_inside k at es e has again.1 (string_bytes key) first
      (subst (λ (d : Entry). HasFirst (node_firsts d.1) again.1 (string_bytes key) first) (sym is_e) again.2),
  passes_behind k whole again.1 (string_bytes key) again.3,
  outwards again.1 (string_bytes key) again.4,
)

-- the first definitions that an edit in the value of a key adds, or the key that it finds to be defined again
module _ (all : Path) (k : List ℕ) (whole : Path) (here at : ℕ) (es : List Entry) (e : Entry) (r : Result (Unit {0}) Fault) where
  pub adds_along : (ns : TomlNodes) (x : TomlNode) (w : Entry) → all ≡ k ∷ whole → get_node k ns ≡ Some x → HasKey k at es → get_or es at e ≡ e → IsSameKey e w
      → IfOk r (λ _. AddsFirsts whole here (keys_in (Some x)) (node_firsts e.1) (node_firsts w.1))
      → IfOk r (λ _. AddsFirsts all here ns (keys_firsts es) (keys_firsts (set es at w)))
  adds_along ns x w is found has is_e same adds =
      IfOk-weaker r _ _ (λ _ inner. subst (λ (p : Path). AddsFirsts p here ns (keys_firsts es) (keys_firsts (set es at w))) (sym is)
      (adds_inside k whole here ns x at es e w found has is_e same inner)) adds

  pub again_along : (Shut : Keys) → all ≡ k ∷ whole → HasKey k at es → get_or es at e ≡ e
      → IfErr r (λ fault. IsPassed (string_bytes e.0) e.2 here fault × ((IsMemory fault → ⊥) → Shut [] k)) → IfErr r (IsAgain all here (keys_firsts es) Shut)
  again_along Shut is has is_e again =
      IfErr-weaker r _ _ (λ fault found. subst (λ (p : Path). IsAgain p here (keys_firsts es) Shut fault) (sym is)
      (again_here k whole here at es e Shut fault has is_e found.0 found.1)) again

-- an error with the refusal of the definition
pub with_refusal : {B : Type 0} (r : Result (Unit {0}) Fault) (given : B) (expected : Option B) (Says : Fault → Type 0) → ParsesTo (λ _. given) r expected
    → IfErr r Says → IfErr r (λ fault. Says fault × ((IsMemory fault → ⊥) → expected ≡ None))
with_refusal (Ok done) given expected Says parses says = tt
with_refusal (Err fault) given expected Says parses says = (says, parses)

-- ---- routes

pub path_steps : (header dots : Path) → map (λ step. step.1) (steps_along header dots) ≡ header ++ dots
path_steps [] [] = refl
path_steps [] (k ∷ dots) = ap (λ (p : Path). k ∷ p) (path_steps [] dots)
path_steps (k ∷ header) dots = ap (λ (p : Path). k ∷ p) (path_steps header dots)
