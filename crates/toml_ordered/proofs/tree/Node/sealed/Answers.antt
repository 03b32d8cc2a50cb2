use Rattle.toml_ordered.proofs.Common.{sym, ap, ◌∙◌, TomlNode, Items, array, push_item, items_view, node_view, sealed, Closed}
use Rattle.toml_ordered.proofs.Trees.{items_view-push, node_view-Table, node_view-Tables, node_view-Array}
use Rattle.toml_ordered.proofs.tree.Node.sealed.Goals as goal

pub returns-in_ok-push-in-Tables-clause-value : goal.returns-in_ok-push-in-Tables-clause-value
returns-in_ok-push-in-Tables-clause-value c =
    let it = c.in-Tables in
    let pushed = c.in_ok-push-in-Tables.ensures.items in
    node_view-Array c.push.new.self
    ∙ ap (λ (xs : Items). array xs) (ap items_view pushed ∙ items_view-push _ _ ∙ ap (push_item (items_view it.done.items)) (node_view-Table _ _))
    ∙ sym (ap (λ (x : TomlNode). sealed x) (ap node_view it.is ∙ node_view-Tables it.done it.last))
