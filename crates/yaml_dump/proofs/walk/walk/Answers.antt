use Rattle.yaml_dump.proofs.Common.{length, reverse, FitsSigned, rules, ap, w32, arith, to_z-of_z, graph_of, seen_walker}
use Rattle.std.proofs.{Math.IntN.nat_abs, lemmas.Bool.eqb-false, lemmas.List.nil_from_length}
use Rattle.yaml_dump.proofs.WalkStateLemmas.{steps_whole, stands_first, stands_popped, stands_behind, steps_fewer, innermost_named, walk_named}
use Rattle.std.proofs.lemmas.Result.{IfOk-from_err}
use Rattle.yaml_dump.proofs.walk.walk.Goals as goal

pub returns-in_err-walker-clause-walked : goal.returns-in_err-walker-clause-walked
returns-in_err-walker-clause-walked g c = IfOk-from_err c.from_residual.result _ c.from_residual.ensures.0

pub returns-in_err-walker-clause-named : goal.returns-in_err-walker-clause-named
returns-in_err-walker-clause-named g c = IfOk-from_err c.from_residual.result _ c.from_residual.ensures.0

pub loop-visit-init : goal.loop-visit-init
loop-visit-init g c =
    let nodes = (graph_of c.args.document.now).nodes in
    let nonempty = eqb-false (length nodes) 0 c.requires.nonempty in
    let fits : FitsSigned w32 c.node_count.result = search rules in
    let count = simp to_z-of_z at c.in_ok-walker.ensures in
    stands_first (graph_of c.args.document.now) _ (seen_walker c.in_ok-walker.walker) (seen_walker c.meet.new.self) (omega (arith, nonempty))
    (ap nat_abs c.node_count.ensures) count c.in-Ok.ensures

pub resume-requires-clause-named : goal.resume-requires-clause-named
resume-requires-clause-named g c =
    let walker = c.loop-visit.walker in
    innermost_named (graph_of c.args.document.now) c.in-Some.visit (seen_walker (record walker { visits = c.pop.new.self }))
    (stands_popped (graph_of c.args.document.now) walker c.pop.new.self c.in-Some.visit c.in-Some.ensures.items c.loop-visit.invariant)

pub loop-visit-smaller : goal.loop-visit-smaller
loop-visit-smaller g c =
    let walker = c.loop-visit.walker in
    steps_fewer (graph_of c.args.document.now) c.in-Some.visit (seen_walker (record walker { visits = c.pop.new.self }))
    (seen_walker c.resume.new.self) c.numbers_name_nodes.ensures
    (stands_popped (graph_of c.args.document.now) walker c.pop.new.self c.in-Some.visit c.in-Some.ensures.items c.loop-visit.invariant)
    c.in-Ok-resume.ensures

pub loop-visit-preserved : goal.loop-visit-preserved
loop-visit-preserved g c =
    let walker = c.loop-visit.walker in
    stands_behind (graph_of c.args.document.now) c.in-Some.visit (seen_walker (record walker { visits = c.pop.new.self }))
    (seen_walker c.resume.new.self) c.numbers_name_nodes.ensures
    (stands_popped (graph_of c.args.document.now) walker c.pop.new.self c.in-Some.visit c.in-Some.ensures.items c.loop-visit.invariant)
    c.in-Ok-resume.ensures

pub returns-clause-walked : goal.returns-clause-walked
returns-clause-walked g c =
    let visits = c.loop-visit.walker.visits in
    let none = nil_from_length visits.items (omega (arith, c.in_default-pop.ensures.cases, visits.ok)) in
    steps_whole (graph_of c.args.document.now) (seen_walker c.loop-visit.walker) (ap reverse none) c.loop-visit.invariant

pub returns-clause-named : goal.returns-clause-named
returns-clause-named g c = walk_named (length (graph_of c.args.document.now).nodes) c.loop-visit.walker.steps.items c.loop-visit.invariant.sound.steps_named
