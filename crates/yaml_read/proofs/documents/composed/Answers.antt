use Rattle.yaml_read.proofs.{Common.◌≡◌, Common.◌∙◌, Common.sym, Common.graph_of, DocumentsRead.has_nodes}
use Rattle.yaml_dump.specs.declared.composing.ComposeError.TheVariants as compose
use Rattle.yaml_read.proofs.documents.composed.Goals as goal

pub returns-in-Ok : goal.returns-in-Ok
returns-in-Ok g c node is =
    let has = c.in-Ok.ensures.has_events ∙ is in (
      record { whole = c.numbers_name_nodes.ensures; has_nodes = has_nodes (graph_of c.in-Ok.document) node has },
      has,
      λ graph whole list. c.in-Ok.ensures.composes graph whole (list ∙ sym is),
    )

not_memory : compose.NotDumped ≡ compose.Memory → ⊥
not_memory is = cc
