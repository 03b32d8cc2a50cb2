use Rattle.yaml_read.proofs.Common.{◌≡◌, ◌-◌, ap, arith, length, length-append, subst, IsCharBoundary}
use Rattle.std.proofs.lemmas.Str.{IsCharBoundary-at_seam}
use Rattle.yaml_read.proofs.keys.with_key.Goals as goal

pub range-requires-clause-end_boundary : goal.range-requires-clause-end_boundary
range-requires-clause-end_boundary g c =
    let start = c.args.held.start.now in
    let rest = c.args.rest.now in
    let front = c.requires.0 in
    let count : length front ≡ length start - length rest = omega (arith, ap length c.requires.1, length-append front rest) in
    subst (IsCharBoundary start) count (IsCharBoundary-at_seam start front rest c.requires.1 c.utf8.rest)
