use Rattle.yaml_caller.proofs.Common.{sym, ◌∙◌, graph_of}
use Rattle.yaml_caller.proofs.GraphsCompared.{first_empty, second_empty}
use Rattle.yaml_caller.proofs.graphs.same_graph.Goals as goal

pub returns-then-first_is_empty-clause-same : goal.returns-then-first_is_empty-clause-same
returns-then-first_is_empty-clause-same g c =
    first_empty (graph_of c.args.first) (graph_of c.args.second) c.is_empty-second_is_empty.result
    (sym c.is_empty-first_is_empty.ensures ∙ c.if-first_is_empty.true) c.is_empty-second_is_empty.ensures

pub returns-then-second_is_empty-clause-same : goal.returns-then-second_is_empty-clause-same
returns-then-second_is_empty-clause-same g c =
    second_empty (graph_of c.args.first) (graph_of c.args.second)
    (sym c.is_empty-first_is_empty.ensures ∙ c.if-first_is_empty.false) (sym c.is_empty-second_is_empty.ensures ∙ c.if-second_is_empty.true)
