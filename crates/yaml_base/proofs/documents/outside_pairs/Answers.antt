use Rattle.std.{proofs.Common.rules, proofs.Common.w32, proofs.lemmas.Int.to_z-of_z, proofs.lemmas.List.drop_all, specs.Prelude.FitsSigned}
use Rattle.yaml_base.proofs.NumbersOutside.{key_outside, value_outside, pair_within}
use Rattle.yaml_base.specs.graphs.SeenNodes.{names_node}
use Rattle.yaml_base.proofs.Common.{pos, Some, first_outside, numbers_of_pairs, slice_index_or as get_or, ap, sym, ◌∙◌, arith}
use Rattle.yaml_base.proofs.documents.outside_pairs.Goals as goal

pub returns-then-not-names_node : goal.returns-then-not-names_node
returns-then-not-names_node c =
    let pair = get_or c.args.pairs.now c.loop-pair.pair-index (record { key = pos 0; value = pos 0 }) in
    let fits : FitsSigned w32 pair.key = search (rules, c.well_formed) in
    let same = to_z-of_z w32 pair.key fits in
    ap Some same
    ∙ sym (c.loop-pair.invariant
    ∙ key_outside c.args.count c.loop-pair.pair-index c.args.pairs.now (record { key = pos 0; value = pos 0 }) (omega arith)
    (ap (names_node c.args.count) (sym same) ∙ sym c.if-not-names_node.ensures))

pub returns-then-not-names_node-2 : goal.returns-then-not-names_node-2
returns-then-not-names_node-2 c =
    let pair = get_or c.args.pairs.now c.loop-pair.pair-index (record { key = pos 0; value = pos 0 }) in
    let key_fits : FitsSigned w32 pair.key = search (rules, c.well_formed) in
    let value_fits : FitsSigned w32 pair.value = search (rules, c.well_formed) in
    let same = to_z-of_z w32 pair.value value_fits in
    ap Some same
    ∙ sym (c.loop-pair.invariant
    ∙ value_outside c.args.count c.loop-pair.pair-index c.args.pairs.now (record { key = pos 0; value = pos 0 }) (omega arith)
    (ap (names_node c.args.count) (sym (to_z-of_z w32 pair.key key_fits)) ∙ sym c.if-not-names_node.ensures)
    (ap (names_node c.args.count) (sym same) ∙ sym c.if-not-names_node-2.ensures))

pub loop-pair-preserved : goal.loop-pair-preserved
loop-pair-preserved c =
    let pair = get_or c.args.pairs.now c.loop-pair.pair-index (record { key = pos 0; value = pos 0 }) in
    let key_fits : FitsSigned w32 pair.key = search (rules, c.well_formed) in
    let value_fits : FitsSigned w32 pair.value = search (rules, c.well_formed) in
    c.loop-pair.invariant
    ∙ pair_within c.args.count c.loop-pair.pair-index c.args.pairs.now (record { key = pos 0; value = pos 0 }) (omega arith)
    (ap (names_node c.args.count) (sym (to_z-of_z w32 pair.key key_fits)) ∙ sym c.if-not-names_node.ensures)
    (ap (names_node c.args.count) (sym (to_z-of_z w32 pair.value value_fits)) ∙ sym c.if-not-names_node-2.ensures)

pub returns : goal.returns
returns c =
    sym (c.loop-pair.invariant
    ∙ ap (λ pairs. first_outside c.args.count (numbers_of_pairs pairs)) (drop_all c.loop-pair.pair-index c.args.pairs.now (omega arith)))
