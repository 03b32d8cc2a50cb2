use Rattle.yaml_c.proofs.Common.{true, None, Some, length, ◌≡◌, ◌≤◌, ap, ◌∙◌}
use Rattle.std.proofs.Common.{arith}
use Rattle.yaml_base.specs.graphs.{Meetings.Graph, SeenNodes.seen_document}
use Rattle.yaml_c.proofs.NodeLemmas.{is_document, no_document}
use Rattle.yaml_c.proofs.nodes.document_with.Goals as goal

pub returns-in-Ok : goal.returns-in-Ok
returns-in-Ok g c =
    let nodes = c.args.nodes.items in
    let some : length nodes ≡ 0 → ⊥ = grind (arith, c.if-is_empty.ensures, c.args.nodes.ok.0) in
    let few : length nodes ≤ 2147483647 = omega (arith, c.if-len.false, c.len.ensures, c.args.nodes.ok.0) in
    ap (λ (graph : Graph). Some graph)
    (c.in-Ok.ensures.made ∙ ap (λ tags. seen_document None tags nodes true true) c.new.ensures.items)
    ∙ is_document nodes some few c.in-Ok.ensures.whole

pub returns-in-Err : goal.returns-in-Err
returns-in-Err g c =
    let nodes = c.args.nodes.items in
    let some : length nodes ≡ 0 → ⊥ = grind (arith, c.if-is_empty.ensures, c.args.nodes.ok.0) in
    let few : length nodes ≤ 2147483647 = omega (arith, c.if-len.false, c.len.ensures, c.args.nodes.ok.0) in
    no_document nodes some few c.in-Err.field-0.0 c.in-Err.ensures.whole
