use Rattle.toml_ordered.proofs.Common.{◌≡◌, sym, ap, ◌∙◌, arith, node_count}
use Rattle.toml_ordered.{proofs.tree.Node.end.Goals.In-Tables, specs.Counts.tables_count}
use Rattle.toml_ordered.proofs.Counts.{none_in, node_counts, node_count-Array, node_count-Table, node_count-Tables}
use Rattle.toml_ordered.proofs.tree.Node.end.Goals as goal

pub destroy_empty-requires : goal.destroy_empty-requires
destroy_empty-requires c =
    let one = sym (node_count-Array c.in-Array.items) ∙ ap node_count (sym c.in-Array.is) ∙ c.requires in
    none_in _ node_counts c.in-Array.items (omega (arith, one))

pub end-requires : goal.end-requires
end-requires c =
    let it = c.in-Table in
    let one = sym (node_count-Table it._origin it.table) ∙ ap node_count (sym it.is) ∙ c.requires in
    none_in _ (λ m. node_counts m.1) it.table.keys (omega (arith, one))

one : (c : In-Tables) → tables_count c.in-Tables.done.items c.in-Tables.last ≡ 1
one c = let it = c.in-Tables in sym (node_count-Tables it.done it.last) ∙ ap node_count (sym it.is) ∙ c.requires

pub destroy_empty-requires-in-Tables : goal.destroy_empty-requires-in-Tables
destroy_empty-requires-in-Tables c = none_in _ node_counts c.in-Tables.done (omega (arith, one c))

pub end-requires-in-Tables : goal.end-requires-in-Tables
end-requires-in-Tables c = none_in _ (λ m. node_counts m.1) c.in-Tables.last.keys (omega (arith, one c.before))
