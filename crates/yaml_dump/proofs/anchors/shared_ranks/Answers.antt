use Rattle.yaml_dump.proofs.Common.{ℕ, drop, length, slice_index_or as get_or, take, [], map, ◌++◌, ◌∷◌, ◌≡◌, ap, subst, sym, ◌∙◌, arith}
use Rattle.yaml_dump.proofs.Common.{Places, anchor_of_place, seen_step}
use Rattle.std.proofs.{Common.take_all, lemmas.List.length-replicate}
use Rattle.yaml_dump.proofs.AnchorLemmas.{step_numbered, seen_more, whole_slice, anchor_placed, none_placed}
use Rattle.yaml_dump.specs.declared.steps.Step.TheVariants.{Enters}
use Rattle.yaml_dump.proofs.anchors.shared_ranks.Goals as goal

pub place_met-shared-requires-clause-numbered :
    goal.place_met-shared-requires-clause-numbered
place_met-shared-requires-clause-numbered g c =
    step_numbered c.args.walk.now c.args.count c.loop-step.step-index _ (Enters 0) c.requires c.loop-step-test.true
    (ap length c.as_mut_slice.ensures.value ∙ c.loop-step.invariant.each)

pub loop-step-preserved : goal.loop-step-preserved
loop-step-preserved g c =
    let now = c.loop-step in
    let slice = c.as_mut_slice.result.now in
    let written = c.place_met-shared.new.places in
    let kept : length written ≡ length now.places.items = c.place_met-shared.auto.places ∙ ap length c.as_mut_slice.ensures.value in
    let whole : take now.places.len (written ++ drop (length written) now.places.items)
    ≡ written = whole_slice now.places.len written now.places.items (now.places.ok.0 ∙ sym kept) in
    let before : Places (map seen_step (take now.step-index c.args.walk.now)) now.shared slice =
    subst (λ places. Places (map seen_step (take now.step-index c.args.walk.now)) now.shared places) (sym c.as_mut_slice.ensures.value) now.invariant.placed in
    record {
      each = ap length whole ∙ kept ∙ now.invariant.each;
      few = omega (arith, c.place_met-shared.ensures.counted);
      placed =
          subst (λ steps. Places steps c.place_met-shared.result (take now.places.len (written ++ drop (length written) now.places.items)))
          (sym (seen_more c.args.walk.now now.step-index (Enters 0) c.loop-step-test.true))
          (subst (λ places. Places (map seen_step (take now.step-index c.args.walk.now) ++ seen_step (get_or c.args.walk.now now.step-index (Enters 0)) ∷ [])
          c.place_met-shared.result places) (sym whole)
          (c.place_met-shared.ensures.placed (map seen_step (take now.step-index c.args.walk.now)) before));
    }

pub returns-in_default : goal.returns-in_default
returns-in_default g c = record { each = tt; placed = tt; anchors = tt }

pub returns-clause-each : goal.returns-clause-each
returns-clause-each g c = c.loop-step.invariant.each

pub returns-clause-placed : goal.returns-clause-placed
returns-clause-placed g c =
    let now = c.loop-step in
    let whole = ap (map seen_step) (take_all now.step-index c.args.walk.now c.loop-step-test.false) in
    (subst (λ steps. Places steps now.shared now.places.items) whole now.invariant.placed).given

pub returns-clause-anchors : goal.returns-clause-anchors
returns-clause-anchors g c number first last =
    let now = c.loop-step in
    let walk = map seen_step c.args.walk.now in
    ap anchor_of_place ((returns-clause-placed g c).placed number first (omega (arith, last, now.invariant.each))) ∙ sym (anchor_placed walk number)

pub loop-step-init : goal.loop-step-init
loop-step-init g c =
    let zeros = c.in-Ok.ensures.items_if_clones_equal (λ y same. same) in
    record {
      each = ap length zeros ∙ length-replicate {A = ℕ} c.args.count 0;
      few = omega arith;
      placed = none_placed c.args.count c.in-Ok.places.items zeros;
    }
