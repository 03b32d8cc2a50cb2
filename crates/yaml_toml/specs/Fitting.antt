-- Whether the rest of a document nests no deeper than is allowed.
use Rattle.std.specs.Prelude.{◌↔◌, ℕ, suc, max, ◌<◌, ◌≤◌, ◌-◌, Result, Ok, Err, List, [], ◌∷◌, length}
use Rattle.toml_ordered.specs.Data.{TomlNodes, items_view}
use Rattle.toml_ordered.specs.Keys.{live_view}
use Rattle.yaml_toml.specs.Depth.{document_nesting, items_nesting, keys_nesting}
use Rattle.yaml_toml.specs.declared.walk.Rest.{Rest}
use Rattle.yaml_toml.specs.declared.walk.Rest.TheVariants as rest
use Rattle.yaml_toml.specs.declared.walk.Stop.{Stop}
use Rattle.yaml_toml.specs.declared.walk.Stop.TheVariants as stop

-- the depth of the rest of a collection within it
abbrev pub rest_nesting : Rest → ℕ
rest_nesting (rest.Items items) = items_nesting (items_view items.now)
rest_nesting (rest.Tables done last) = max (items_nesting (items_view done.now)) (suc (keys_nesting (live_view last)))
rest_nesting (rest.Members keys) = keys_nesting (live_view keys)

-- True if the rests of the collections that are open within so many others nest no deeper than is allowed.
abbrev pub PendingFits : (depth around : ℕ) → List Rest → Type 0
PendingFits depth around [] = Unit {0}
PendingFits depth around (outer ∷ inner) = (rest_nesting outer ≤ depth - suc around) × PendingFits depth (suc around) inner

-- the same of them and a value in the innermost, which nests so deep
abbrev pub NodeFits : (depth nested : ℕ) → List Rest → Type 0
NodeFits depth nested opened = (nested ≤ depth - length opened) × PendingFits depth 0 opened

-- the same of them and the rest of one more, which nests so deep
abbrev pub RestFits : (depth nested : ℕ) → List Rest → Type 0
RestFits depth nested opened = (nested ≤ depth - suc (length opened)) × PendingFits depth 0 opened

-- After a success the rests fit if and only if the due part did; after `TooDeep` that didn't.
abbrev pub FitsAfter : (depth : ℕ) → (due : Type 0) → Result (Unit {0}) Stop → List Rest → Type 0
FitsAfter depth due (Ok done) opened = PendingFits depth 0 opened ↔ due
FitsAfter depth due (Err stop.TooDeep) opened = due → ⊥
FitsAfter depth due (Err (stop.Failed error)) opened = Unit {0}

-- the same of a whole document
abbrev pub NestsAfter : (depth : ℕ) → (root : TomlNodes) → Result (Unit {0}) Stop → Type 0
NestsAfter depth root (Ok done) = document_nesting root ≤ depth
NestsAfter depth root (Err stop.TooDeep) = depth < document_nesting root
NestsAfter depth root (Err (stop.Failed error)) = Unit {0}
