use Rattle.yaml_pen.proofs.Common.{subst, IsPrefix, OutletState}
use Rattle.yaml_pen.{proofs.Outlets.last_flushes_grows, specs.Outlet.whole_output}
use Rattle.yaml_pen.proofs.outlet.Outlet.flush.Goals as goal

pub returns-in-Err-clause-output : goal.returns-in-Err-clause-output
returns-in-Err-clause-output g c =
    let taken = c.self.inside.taken.bytes in
    let after = whole_output taken c.flush_after_taken-answer.new.output.items in
    subst (λ (bytes : OutletState). IsPrefix bytes.output after) c.self.view_is
    (last_flushes_grows c.as_slice.result.now (whole_output taken c.self.inside.output.items) after c.self.inside.limit c.flush_after_taken-answer.result
    c.self.invariant.sound_output.within c.flush_after_taken-answer.ensures.sound_output)
