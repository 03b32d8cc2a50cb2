use Rattle.toml_ordered.proofs.Common.{◌≡◌, ◌-◌, false, length, take, sym, ◌∙◌, starts_string, node_view, scalar_node}
use Rattle.toml_ordered.proofs.Turns.{atom_scalar}
use Rattle.toml_ordered.proofs.values.atom.Goals as goal

pub returns-in-Ok-scalar_node : goal.returns-in-Ok-scalar_node
returns-in-Ok-scalar_node c =
    let s = c.args.s.now in
    let rest = c.in-Ok-unquoted.rest.now in
    let other : starts_string s ≡ false = sym c.starts_string.ensures ∙ c.if-starts_string.false in
    let is : node_view c.in-Ok-scalar_node.node ≡ scalar_node (take (length s - length rest) s) c.in-Ok-unquoted.scalar =
    rw c.as_bytes.ensures.value at c.in-Ok-scalar_node.ensures in
    (atom_scalar s c.in-Ok-unquoted.scalar rest (node_view c.in-Ok-scalar_node.node) other c.in-Ok-unquoted.ensures.value is, c.in-Ok-unquoted.ensures.shorter)
