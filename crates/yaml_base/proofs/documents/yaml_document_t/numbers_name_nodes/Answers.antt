use Rattle.yaml_base.proofs.{Common.length, Common.all_numbers, Common.first_outside, NumbersOutside.whole_graph, NumbersOutside.none_of_test}
use Rattle.yaml_base.proofs.documents.yaml_document_t.numbers_name_nodes.Goals as goal

pub returns : goal.returns
returns g c =
    let document = c.args.self.now in
    whole_graph document.version_directive document.tag_directives.items document.nodes.items document.start_implicit document.end_implicit
    (none_of_test (first_outside (length document.nodes.items) (all_numbers document.nodes.items)) document.whole)
