use Rattle.std.{proofs.Common.arith, proofs.Common.refl}
use Rattle.yaml_program.specs.Conversions.{EndsOtherwise, IsDoneBeside, IsUndoneBeside}
use Rattle.yaml_program.proofs.Doing.{next_done, next_some}
use Rattle.yaml_program.proofs.each.convert_each.Goals as goal

pub loop-name-preserved : goal.loop-name-preserved
loop-name-preserved g c =
    let l = c.loop-name in (
      omega arith,
      refl,
      c.worse-status.ensures.known,
      (
          λ zero.
          next_done (IsDoneBeside g.F.Format.is_yaml g.F.Format.ending (g.S.Sources.bytes_of c.args.sources.now) c.args.conversion.now)
          c.as_slice-names.result.now l.name-index _ c.loop-name-test.true
          (l.invariant.3 (c.worse-status.ensures.first zero)) (c.convert_beside-one.ensures.done (c.worse-status.ensures.second zero))
          ),
      next_some (IsUndoneBeside g.F.Format.is_yaml g.F.Format.ending (g.S.Sources.bytes_of c.args.sources.now) c.args.conversion.now)
          c.as_slice-names.result.now l.name-index _ 1 l.status c.convert_beside-one.result c.worse-status.result c.loop-name-test.true
          c.worse-status.ensures.one l.invariant.4 c.convert_beside-one.ensures.undone,
      next_some (EndsOtherwise g.F.Format.ending)
          c.as_slice-names.result.now l.name-index _ 2 l.status c.convert_beside-one.result c.worse-status.result c.loop-name-test.true
          c.worse-status.ensures.one l.invariant.5 c.convert_beside-one.ensures.otherwise,
    )
