use Rattle.yaml_json.proofs.Common.{◌<◌, arith}
use Rattle.yaml_json.proofs.PassingSpecials.{left_first, left_none, left_others, others_fewer, place_within, special_passed}
use Rattle.yaml_json.proofs.cuts.pass_vector.Goals as goal

pub specials-init : goal.specials-init
specials-init c = left_first c.args.text.now c.args.cut c.args.found c.requires.inside c.requires.scanned c.requires.small c.requires.room c.requires.specials

pub bounds-text-at : goal.bounds-text-at
bounds-text-at c =
    let some : 0 < c.specials.left = omega arith in
    omega (arith, place_within c.args.text.now c.args.cut.scanned c.specials.scan c.specials.left c.specials.invariant c.requires.room some)

pub returns-then-not-is_inside-clause-scanned : goal.returns-then-not-is_inside-clause-scanned
returns-then-not-is_inside-clause-scanned c =
    let some : 0 < c.specials.left = omega arith in
    special_passed _ _ _ _ c.specials.invariant c.requires.room some _ c.inside-scan.ensures

pub specials-preserved : goal.specials-preserved
specials-preserved c =
    let some : 0 < c.specials.left = omega arith in
    left_others _ _ _ _ c.specials.invariant c.requires.room some _ c.inside-scan.ensures (c.is_inside.ensures.0 c.if-not-is_inside.false)

pub returns-clause-scanned : goal.returns-clause-scanned
returns-clause-scanned c = left_none c.args.text.now c.args.cut.scanned c.specials.scan c.specials.left c.specials.invariant c.requires.room (omega arith)
