use Rattle.yaml_dump.proofs.Common.{◌+◌, ◌-◌, length, slice_set as set, [], ◌++◌, ◌∷◌, subst, sym, arith, IsNumbered, Places, seen_step}
use Rattle.yaml_dump.proofs.AnchorLemmas.{meets_none, other_step, met_before, met_first}
use Rattle.yaml_dump.proofs.anchors.place_met.Goals as goal

pub returns-in_default : goal.returns-in_default
returns-in_default c = record {
  placed = λ walk before. other_step walk (seen_step c.args.step) c.args.shared c.args.places.now (meets_none c.args.step c.in_default.not-MeetsAgain) before;
  counted = omega arith;
}

pub returns-then-places-number-ne0-clause-placed :
    goal.returns-then-places-number-ne0-clause-placed
returns-then-places-number-ne0-clause-placed c walk before =
    let places = c.args.places.now in
    let numbered = subst (λ step. IsNumbered (length places) (seen_step step)) c.in-MeetsAgain.is c.requires.numbered in
    subst (λ step. Places (walk ++ seen_step step ∷ []) c.args.shared places) (sym c.in-MeetsAgain.is)
    (met_before walk c.in-MeetsAgain.number c.args.shared places numbered.first numbered.last c.if-places-number-ne0.true before)

pub returns-clause-placed : goal.returns-clause-placed
returns-clause-placed c walk before =
    let places = c.args.places.now in
    let numbered = subst (λ step. IsNumbered (length places) (seen_step step)) c.in-MeetsAgain.is c.requires.numbered in
    subst (λ step. Places (walk ++ seen_step step ∷ []) (c.args.shared + 1) (set places (c.in-MeetsAgain.number - 1) (c.args.shared + 1)))
    (sym c.in-MeetsAgain.is)
    (met_first walk c.in-MeetsAgain.number c.args.shared places numbered.first numbered.last c.if-places-number-ne0.false before)
