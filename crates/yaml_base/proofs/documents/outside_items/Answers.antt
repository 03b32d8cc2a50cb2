use Rattle.std.{proofs.Common.rules, proofs.Common.w32, proofs.lemmas.Int.to_z-of_z, specs.Prelude.FitsSigned}
use Rattle.yaml_base.{proofs.NumbersOutside.found_at, proofs.NumbersOutside.passed_at, proofs.NumbersOutside.none_left, specs.graphs.SeenNodes.names_node}
use Rattle.yaml_base.proofs.Common.{pos, Some, ℤ, not, slice_index_or as get_or, ap, sym, ◌∙◌, arith}
use Rattle.yaml_base.proofs.documents.outside_items.Goals as goal

pub returns-then-not-names_node : goal.returns-then-not-names_node
returns-then-not-names_node c =
    let outside : ℤ → _ = λ (number : ℤ). not (names_node c.args.count number) in
    let item = get_or c.args.items.now c.loop-item.item-index (pos 0) in
    let fits : FitsSigned w32 item = search (rules, c.well_formed) in
    let same = to_z-of_z w32 item fits in
    ap Some same
    ∙ sym (c.loop-item.invariant
    ∙ found_at outside c.args.items.now c.loop-item.item-index (pos 0) (omega arith) (ap outside (sym same) ∙ ap not (sym c.if-not-names_node.ensures)))

pub loop-item-preserved : goal.loop-item-preserved
loop-item-preserved c =
    let outside : ℤ → _ = λ (number : ℤ). not (names_node c.args.count number) in
    let item = get_or c.args.items.now c.loop-item.item-index (pos 0) in
    let fits : FitsSigned w32 item = search (rules, c.well_formed) in
    c.loop-item.invariant
    ∙ passed_at outside _ c.loop-item.item-index (pos 0) (omega arith) (ap outside (sym (to_z-of_z w32 item fits)) ∙ ap not (sym c.if-not-names_node.ensures))

pub returns : goal.returns
returns c = sym (c.loop-item.invariant ∙ none_left (λ number. not (names_node c.args.count number)) c.args.items.now c.loop-item.item-index (omega arith))
