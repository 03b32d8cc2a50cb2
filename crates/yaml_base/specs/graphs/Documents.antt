-- Documents as contracts see them.
use Rattle.yaml_base.specs.graphs.Meetings.{Graph}
use Rattle.yaml_base.specs.graphs.SeenNodes.{seen_document}
use Rattle.yaml_base.specs.declared.documents.yaml_document_t.{yaml_document_t}

-- a document as a graph of numbered nodes, with its directives
abbrev pub graph_of : {A : Type 0} → yaml_document_t A → Graph
graph_of document = seen_document document.version_directive document.tag_directives.items document.nodes.items document.start_implicit document.end_implicit
