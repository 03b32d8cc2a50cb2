use Rattle.toml_ordered.proofs.Common.{[], ◌∷◌, string_bytes, refl, sym, IsShutAt, redefine, node_view, table_view, definition_view}
use Rattle.std.{proofs.lemmas.Result.IfOk-weaker, proofs.lemmas.Result.IfErr-weaker, specs.Vec.with_item}
use Rattle.toml_ordered.proofs.{Defining.defines, KeyPlaces.found_here, KeyPlaces.written_here, Turns.at_key_there, Turns.at_key_new}
use Rattle.toml_ordered.proofs.FirstKeys.{adds_along, adds_missing, adds_none, adds_nothing, again_along, again_memory, with_refusal}
use Rattle.toml_ordered.specs.declared.tree.Table.{Table as CodeTable}
use Rattle.toml_ordered.proofs.tables.at_key.Goals as goal

pub returns-in-Some : goal.returns-in-Some
returns-in-Some c =
    let k = string_bytes c.args.entry.key in
    let what = definition_view c.args.entry.what in
    let left = c.args.entry.left in
    let table = c.args.table.now in
    let es = table.keys.items in
    let at = c.in-Some.at in
    let e = c.index_mut.result.now in
    let w = c.redefine.new.member in
    let has = rw c.as_str.ensures.value at c.in-Some.ensures.found in
    let here = sym c.index_mut.ensures.value in
    let found = found_here k at es e table.index has here in
    let known = c.redefine.ensures in
    let after : CodeTable = record { keys = with_item table.keys at w; index = table.index } in
    defines _ _ _ left _ table after c.redefine.result (at_key_there k (table_view table) (node_view e.1) (node_view w.1) _ what c.redefine.result found
    (written_here k at es e w table.index has here known.same_key.0) known.value)
    (adds_along (k ∷ []) k [] left at es e c.redefine.result (table_view table) (node_view e.1) w refl found has.1 here known.same_key
    (IfOk-weaker c.redefine.result _ _ (λ _ same. adds_nothing [] left _ _ _ same) known.firsts))
    (again_along (k ∷ []) k [] left at es e c.redefine.result (IsShutAt [] k what (table_view table)) refl has.1 here
    (IfErr-weaker c.redefine.result _ _ (λ _ both. (both.0, λ real. (refl, node_view e.1, found, both.1 real)))
    (with_refusal c.redefine.result (node_view w.1) (redefine what (node_view e.1)) _ known.value known.again)))

pub returns-in-Ok : goal.returns-in-Ok
returns-in-Ok c =
    let k = string_bytes c.args.entry.key in
    let left = c.args.entry.left in
    let table = c.args.table.now in
    let none = rw c.as_str.ensures.value at c.in-None.ensures.found in
    let node = c.in-Ok.ensures in
    defines _ _ _ left _ table c.append.new.self c.append.result
    (rw (at_key_new k (definition_view c.args.entry.what) _ none) (rw node.value at c.append.ensures.value)) (IfOk-weaker c.append.result _ _
    (λ _ last. adds_missing k [] left (table_view table) table.keys.items _ (c.args.entry.key, c.in-Ok.node, left) refl refl none
    (adds_none [] left _ _ node.firsts) last) c.append.ensures.last) (IfErr-weaker c.append.result _ _ (again_memory (k ∷ []) left _ _) c.append.ensures.failed)
