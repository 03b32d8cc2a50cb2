use Rattle.yaml_caller.proofs.Common.{◌==◌, length, false, [], ◌∷◌, refl, ◌≡◌, ap, subst, sym, ◌∙◌, Err, Settings, Graph, GraphsRead, graph_of, cycle_graph}
use Rattle.yaml_caller.proofs.Common.{cycle_settings}
use Rattle.yaml_base.specs.declared.errors.yaml_error_t.TheVariants.{Memory}
use Rattle.yaml_dump.specs.GraphTrees.{GraphsReadBack}
use Rattle.yaml_caller.specs.Alone.{DumpedAlone, DumpsAlone}
use Rattle.yaml_caller.proofs.{CycleFits.cycle_failed, Dumped.all_portable, Dumped.cycle_row, OnlyMemory.passed_on}
use Rattle.std.proofs.lemmas.Result.{IfOk-from_err}
use Rattle.yaml_caller.proofs.cycles.cycle_written.Goals as goal

pub returns-in_err-dump_alone-clause-bytes : goal.returns-in_err-dump_alone-clause-bytes
returns-in_err-dump_alone-clause-bytes g c = IfOk-from_err c.from_residual.result _ c.from_residual.ensures.0

pub returns-in_err-dump_alone-clause-graph : goal.returns-in_err-dump_alone-clause-graph
returns-in_err-dump_alone-clause-graph g c = IfOk-from_err c.from_residual.result _ c.from_residual.ensures.0

pub returns-in_err-dump_alone-clause-trees : goal.returns-in_err-dump_alone-clause-trees
returns-in_err-dump_alone-clause-trees g c = IfOk-from_err c.from_residual.result _ c.from_residual.ensures.0

pub dump_alone-requires-clause-nonempty : goal.dump_alone-requires-clause-nonempty
dump_alone-requires-clause-nonempty g c = ap (λ (graph : Graph). length graph.nodes == 0) c.in-Ok-cycle.ensures.graph

pub returns : goal.returns
returns g c =
    let output = c.dump_alone.new.emitter.page.output in
    let same = c.yaml_emitter_take_output.ensures.untaken (c.dump_alone.ensures.taken ∙ c.in-Ok.ensures.untaken) in
    let dumped = subst (λ (graph : Graph). DumpedAlone cycle_settings graph output) c.in-Ok-cycle.ensures.graph
    (subst (λ (given : Settings). DumpedAlone given (graph_of c.in-Ok-cycle.document) output) c.in-Ok.ensures.made.1
    (c.in_ok-dump_alone.ensures.dumps c.in-Ok.ensures.made.0)) in
    record {
      bytes = same ∙ dumped.output_is ∙ cycle_row;
      graph = subst (GraphsRead false (cycle_graph ∷ [])) (sym same) (dumped.reads refl);
      trees = subst (GraphsReadBack false (cycle_graph ∷ [])) (sym same) (dumped.trees all_portable);
      memory = tt;
    }

pub returns-in_err-dump_alone-clause-memory : goal.returns-in_err-dump_alone-clause-memory
returns-in_err-dump_alone-clause-memory g c =
    let error = c.in_err-dump_alone.field-0.0 in
    passed_on (λ error. error ≡ Memory) error c.from_residual.result
    (cycle_failed _ c.dump_alone.new.emitter error c.in-Ok-cycle.ensures.graph
    (subst (λ (given : Settings). DumpsAlone given (graph_of c.in-Ok-cycle.document) (Err error) c.dump_alone.new.emitter) c.in-Ok.ensures.made.1
    (c.in_err-dump_alone.ensures.dumps c.in-Ok.ensures.made.0)))
    c.from_residual.ensures
