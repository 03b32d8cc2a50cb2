use Rattle.yaml_emitter.proofs.Common.{Ok, refl, map, subst, take_all, arith, render_tag_directives, seen_directive, wrote_exit, Wrote}
use Rattle.yaml_pen.proofs.Composing.{wrote_cut}
use Rattle.yaml_emitter.proofs.pieces.WritingDirectives.{wrote_next_directive, failed_next_directive, next_handle}
use Rattle.yaml_emitter.proofs.writing.directives.write_tag_directives.Goals as goal

pub write_tag_directive-requires-clause-no_break : goal.write_tag_directive-requires-clause-no_break
write_tag_directive-requires-clause-no_break g c =
    next_handle c.args.settings.now.portable seen_directive c.args.directives.now c.loop-directive.directive-index c.directive-item.result
    c.loop-directive-test.true c.directive-item.is c.requires.handles

pub returns-in_err-write_tag_directive : goal.returns-in_err-write_tag_directive
returns-in_err-write_tag_directive g c =
    wrote_exit c.from_residual-in_err-write_tag_directive.ensures
    (failed_next_directive c.args.settings.now.portable seen_directive c.args.directives.now c.loop-directive.directive-index c.directive-item.result
    c.loop-directive-test.true c.directive-item.is
    c.loop-directive.invariant c.in_err-write_tag_directive.ensures)

pub loop-directive-preserved : goal.loop-directive-preserved
loop-directive-preserved g c =
    wrote_next_directive c.args.settings.now.portable seen_directive c.args.directives.now c.loop-directive.directive-index c.directive-item.result
    c.loop-directive-test.true c.directive-item.is
    c.loop-directive.invariant c.in_ok-write_tag_directive.ensures

pub returns-in_err-write_nothing : goal.returns-in_err-write_nothing
returns-in_err-write_nothing g c =
    let all = render_tag_directives c.args.settings.now.portable (map seen_directive c.args.directives.now) in
    wrote_exit c.from_residual.ensures (wrote_cut all (all c.args.pen.now.cursor).text refl c.in_err-write_nothing.ensures)

pub returns : goal.returns
returns g c =
    let directives = c.args.directives.now in
    let whole = take_all c.loop-directive.directive-index directives (omega (arith, c.loop-directive-test.false)) in
    subst (λ some. Wrote (render_tag_directives c.args.settings.now.portable (map seen_directive some)) c.args.pen.now c.loop-directive.pen (Ok tt))
    whole c.loop-directive.invariant
