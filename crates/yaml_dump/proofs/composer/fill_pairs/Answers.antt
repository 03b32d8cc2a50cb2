use Rattle.std.proofs.Common.{pos, ◌∷◌, ◌+◌, arith, ◌∙◌, ap, map, ◌*◌, drop, rules, w32, slice_index_or as get_or, FitsSigned}
use Rattle.yaml_base.specs.graphs.SeenNodes.{seen_number}
use Rattle.yaml_dump.specs.Composition.{pairs_of_list}
use Rattle.yaml_dump.proofs.ComposerLemmas.{pairs_kept, pairs_more, pair_seen, all_paired}
use Rattle.std.proofs.lemmas.Result.{IfOk-from_err}
use Rattle.yaml_dump.proofs.composer.fill_pairs.Goals as goal

pub returns-in_err-made : goal.returns-in_err-made
returns-in_err-made g c = IfOk-from_err c.from_residual.result _ c.from_residual.ensures.0

pub returns-in_err-push : goal.returns-in_err-push
returns-in_err-push g c = IfOk-from_err c.from_residual-in_err-push.result _ c.from_residual-in_err-push.ensures.0

pub loop-place-preserved : goal.loop-place-preserved
loop-place-preserved g c =
    let numbers = c.args.numbers.now in
    let place = c.loop-place.place in
    let key = get_or numbers (2 * place) (pos 0) in
    let value = get_or numbers (2 * place + 1) (pos 0) in
    let key_fits : FitsSigned w32 key = search (rules, c.well_formed) in
    let value_fits : FitsSigned w32 value = search (rules, c.well_formed) in
    pairs_kept numbers c.loop-place.made.items c.push.new.self.items place _ c.in_ok-push.ensures.items
    (pairs_more numbers place (pos 0) (omega (arith, c.loop-place-test.true))
    ∙ ap (λ pair. pair ∷ pairs_of_list (map seen_number (drop (2 * (place + 1)) numbers))) (pair_seen key value key_fits value_fits)) c.loop-place.invariant

pub returns : goal.returns
returns g c = all_paired c.args.numbers.now c.loop-place.made.items c.loop-place.place (omega (arith, c.loop-place-test.false)) c.loop-place.invariant
