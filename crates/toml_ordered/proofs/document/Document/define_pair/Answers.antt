use Rattle.toml_ordered.proofs.Common.{ap, string_bytes, key_view, path_view, node_view, sealed, key_value}
use Rattle.toml_ordered.proofs.Defining.{along_route, pair_defines}
use Rattle.toml_ordered.proofs.document.Document.define_pair.Goals as goal

pub returns : goal.returns
returns c =
    let from = c.args.self.now.root in
    let to = c.define_at.new.table in
    let x = sealed (node_view c.args.node) in
    let header = path_view c.deref.result.now in
    let dots = path_view c.deref-2.result.now in
    pair_defines from to c.args.left c.define_at.result (path_view c.args.self.now.section.items) (key_view c.args.key) x header dots
    (ap path_view c.deref.ensures.value) (ap path_view c.deref-2.ensures.value)
    (along_route from to c.args.left c.define_at.result (string_bytes c.args.key.last) (key_value x) header dots c.define_at.ensures)
