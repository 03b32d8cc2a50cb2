use Rattle.yaml_toml.proofs.Common.{List, ap, ap₂, sym, ◌∙◌, items_view, node_view, Header}
use Rattle.toml_ordered.{proofs.Trees.node_view-Array, proofs.Trees.node_view-Table, proofs.Trees.node_view-Tables, specs.declared.tree.Node.Node as CodeNode}
use Rattle.toml_ordered.specs.Data as toml
use Rattle.yaml_toml.proofs.walk.rest_of.Goals as goal

pub returns-in-Array : goal.returns-in-Array
returns-in-Array c = (
  Header,
  ap node_view c.in-Array.is ∙ node_view-Array c.in-Array.items ∙ ap (λ (xs : List CodeNode). toml.array (items_view xs)) (sym c.as_slice.ensures.value),
)

pub returns-in-Table : goal.returns-in-Table
returns-in-Table c =
    let it = c.in-Table in (it.field-0, ap node_view it.is ∙ node_view-Table it.field-0 it.table ∙ ap (toml.table it.field-0) (sym c.live_keys.ensures))

pub returns-in-Tables : goal.returns-in-Tables
returns-in-Tables c =
    let it = c.in-Tables in (
      Header,
      ap node_view it.is ∙ node_view-Tables it.done it.last
          ∙ ap₂ (λ (xs : List CodeNode) (ns : toml.TomlNodes). toml.tables (items_view xs) ns) (sym c.as_slice-in-Tables.ensures.value)
          (sym c.live_keys-in-Tables.ensures),
    )
