use Rattle.yaml_caller.proofs.Common.{bytes_eq, ◌⊎◌, ◌≡◌, rules, graph_of, IsRefused}
use Rattle.yaml_base.specs.declared.errors.yaml_error_t.TheVariants.{Memory, TagEmpty, TooDeep}
use Rattle.yaml_caller.proofs.GraphsCompared.{graphs_decide, is_document, named_so, first_refused, second_refused}
use Rattle.yaml_caller.proofs.OnlyMemory.{passed_on}
use Rattle.std.proofs.lemmas.Result.{IfOk-from_err}
use Rattle.yaml_caller.proofs.graphs.same_nodes.Goals as goal

pub returns-in_err-one-clause-same : goal.returns-in_err-one-clause-same
returns-in_err-one-clause-same g c = IfOk-from_err c.from_residual.result _ c.from_residual.ensures.0

pub returns-in_err-other-clause-same : goal.returns-in_err-other-clause-same
returns-in_err-other-clause-same g c = IfOk-from_err c.from_residual-in_err-other.result _ c.from_residual-in_err-other.ensures.0

pub returns-clause-same : goal.returns-clause-same
returns-clause-same g c =
    let first = graph_of c.args.first in
    let second = graph_of c.args.second in
    let is : c.eq.result ≡ bytes_eq c.in_ok-one.one.items c.in_ok-other.other.items = search rules in
    graphs_decide first second c.in_ok-one.one.items c.in_ok-other.other.items c.eq.result
    (is_document first c.numbers_name_nodes.ensures c.requires.first_nodes)
    (is_document second c.numbers_name_nodes-2.ensures c.requires.second_nodes)
    c.in_ok-one.ensures.written c.in_ok-other.ensures.written is

pub returns-in_err-one-clause-failed : goal.returns-in_err-one-clause-failed
returns-in_err-one-clause-failed g c =
    let first = graph_of c.args.first in
    let second = graph_of c.args.second in
    passed_on (λ error. (error ≡ Memory) ⊎ (IsRefused first error ⊎ IsRefused second error)) c.in_err-one.field-0.0 c.from_residual.result
    (first_refused first second c.in_err-one.field-0.0 c.in_err-one.ensures.failed) c.from_residual.ensures

pub returns-in_err-one-clause-named : goal.returns-in_err-one-clause-named
returns-in_err-one-clause-named g c =
    let first = graph_of c.args.first in
    passed_on (λ error. (error ≡ Memory) ⊎ ((error ≡ TagEmpty) ⊎ (error ≡ TooDeep))) c.in_err-one.field-0.0 c.from_residual.result
    (named_so first c.in_err-one.field-0.0 (is_document first c.numbers_name_nodes.ensures c.requires.first_nodes) c.in_err-one.ensures.failed)
    c.from_residual.ensures

pub returns-in_err-other-clause-failed : goal.returns-in_err-other-clause-failed
returns-in_err-other-clause-failed g c =
    let first = graph_of c.args.first in
    let second = graph_of c.args.second in
    passed_on (λ error. (error ≡ Memory) ⊎ (IsRefused first error ⊎ IsRefused second error)) c.in_err-other.field-0.0
    c.from_residual-in_err-other.result
    (second_refused first second c.in_err-other.field-0.0 c.in_err-other.ensures.failed) c.from_residual-in_err-other.ensures

pub returns-in_err-other-clause-named : goal.returns-in_err-other-clause-named
returns-in_err-other-clause-named g c =
    let second = graph_of c.args.second in
    passed_on (λ error. (error ≡ Memory) ⊎ ((error ≡ TagEmpty) ⊎ (error ≡ TooDeep))) c.in_err-other.field-0.0 c.from_residual-in_err-other.result
    (named_so second c.in_err-other.field-0.0 (is_document second c.numbers_name_nodes-2.ensures c.requires.second_nodes)
    c.in_err-other.ensures.failed)
    c.from_residual-in_err-other.ensures
