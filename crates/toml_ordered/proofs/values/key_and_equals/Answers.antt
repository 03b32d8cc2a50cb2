use Rattle.std.proofs.Common.{arith}
use Rattle.toml_ordered.proofs.Heads.{key_equals_by}
use Rattle.toml_ordered.proofs.values.key_and_equals.Goals as goal

pub returns-in-Ok : goal.returns-in-Ok
returns-in-Ok c =
    let key = c.in-Ok.ensures.1 in
    let blank = c.skip_ws.ensures.within in (rw (key_equals_by c.args.s.now, c.in-Ok.ensures.0, c.skip_ws.ensures.rest), omega (arith, key, blank))

pub returns-in-Err : goal.returns-in-Err
returns-in-Err c = (λ real. rw (key_equals_by c.args.s.now, c.in-Err.ensures.0 real), c.in-Err.ensures.1)
