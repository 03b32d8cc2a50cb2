use Rattle.yaml_c.proofs.Common.{ℤ, pos, ◌+◌, ◌<◌, drop, length, slice_index_or as get_or, List, [], map, ◌++◌, ◌∷◌, ◌≡◌, ap, sym, ◌∙◌, of_z, rules, to_z, w32}
use Rattle.std.proofs.{Common.arith, lemmas.List.map_push}
use Rattle.yaml_base.specs.graphs.{Meetings.NumberPair, SeenNodes.seen_pair}
use Rattle.yaml_c.proofs.NodeLemmas.{pairs_more, pairs_odd}
use Rattle.yaml_c.proofs.ReadingLemmas.{behind}
use Rattle.yaml_c.specs.NodeRecords.{pairs_recorded}
use Rattle.yaml_c.proofs.nodes.pairs_of.Goals as goal

pub returns-then-at-numbers : goal.returns-then-at-numbers
returns-then-at-numbers g c =
    pairs_odd c.args.numbers.now c.pairs.at (map seen_pair c.pairs.pairs.items) c.pairs.invariant.1 (pos 0) (omega (arith, c.if-at-numbers.true))

pub pairs-preserved : goal.pairs-preserved
pairs-preserved g c =
    let now = c.pairs in
    let all = c.args.numbers.now in
    let low : now.at + 1 < length all = grind (arith, c.pairs-test.true, c.if-at-numbers.false) in
    let before : List NumberPair = map seen_pair now.pairs.items in
    let key : ℤ = get_or all now.at (pos 0) in
    let value : ℤ = get_or all (now.at + 1) (pos 0) in
    let same_key : to_z w32 (of_z w32 key) ≡ key = search rules in
    let same_value : to_z w32 (of_z w32 value) ≡ value = search rules in
    let pushed : map seen_pair c.push.new.self.items ≡ before ++ seen_pair (record { key = key; value = value }) ∷ [] =
    ap (map seen_pair) c.in_ok-push.ensures.items
    ∙ map_push seen_pair now.pairs.items _
    ∙ ap (λ (k : ℤ). before ++ seen_pair (record { key = k; value = to_z w32 (of_z w32 value) }) ∷ []) same_key
    ∙ ap (λ (v : ℤ). before ++ seen_pair (record { key = key; value = v }) ∷ []) same_value in
    let more = pairs_more all now.at before now.invariant.1 (pos 0) (pos 0) low in
    (omega (arith, low), more ∙ ap (λ (xs : List NumberPair). behind xs (pairs_recorded (drop (now.at + 2) all))) (sym pushed))
