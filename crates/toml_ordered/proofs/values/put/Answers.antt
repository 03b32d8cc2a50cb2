use Rattle.toml_ordered.proofs.Common.{[], ap, string_bytes, key_view, path_view, node_view, sealed, key_value}
use Rattle.toml_ordered.proofs.Defining.{along_route, put_defines}
use Rattle.toml_ordered.proofs.values.put.Goals as goal

pub returns : goal.returns
returns c =
    let from = c.args.table.now in
    let to = c.define_at.new.table in
    let x = sealed (node_view c.args.value) in
    let dots = path_view c.deref.result.now in
    put_defines from to c.args.left c.define_at.result (key_view c.args.key) x dots (ap path_view c.deref.ensures.value)
    (along_route from to c.args.left c.define_at.result (string_bytes c.args.key.last) (key_value x) [] dots c.define_at.ensures)
