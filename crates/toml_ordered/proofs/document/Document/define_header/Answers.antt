use Rattle.toml_ordered.proofs.Common.{◌≡◌, ◌∷◌, [], ◌++◌, ℕ, List, Ok, Err, Some, ap, sym, ◌∙◌, string_bytes, key_view, path_view, table_view, definition_view}
use Rattle.std.proofs.lemmas.List.{map-append}
use Rattle.toml_ordered.proofs.Defining.{along_route, header_defines}
use Rattle.toml_ordered.proofs.document.Document.define_header.Goals as goal

pub returns-in-Err : goal.returns-in-Err
returns-in-Err c =
    let from = c.args.self.now.root in
    let to = c.define_at.new.table in
    let what = definition_view c.args.what in
    let header = path_view c.deref.result.now in
    let name = string_bytes c.in-Ok.key in
    header_defines from to c.args.left (Err c.in-Err.fault) (key_view c.args.key) what header name (ap path_view c.deref.ensures.value) c.in-Ok.ensures.cases
    (along_route from to c.args.left (Err c.in-Err.fault) name what header [] c.in-Err.ensures)

pub returns : goal.returns
returns c =
    let from = c.args.self.now.root in
    let to = c.define_at.new.table in
    let what = definition_view c.args.what in
    let header = path_view c.deref.result.now in
    let name = string_bytes c.in-Ok.key in
    let defines =
    header_defines from to c.args.left (Ok tt) (key_view c.args.key) what header name (ap path_view c.deref.ensures.value) c.in-Ok.ensures.cases
    (along_route from to c.args.left (Ok tt) name what header [] c.in_default-define_at.ensures) in
    let section : path_view c.push.new.self.items ≡ path_view c.args.key.path.items ++ string_bytes c.args.key.last ∷ [] =
    ap path_view c.in_default-push.ensures.items ∙ map-append string_bytes c.args.key.path.items (c.args.key.last ∷ []) in
    (defines.0 ∙ ap (λ (path : List (List ℕ)). Some (table_view to, path)) (sym section), defines.1)
