use Rattle.yaml_json.proofs.{Common.◌<◌, Common.◌≤◌, Common.length, Common.arith, Cutting.one_scanned}
use Rattle.yaml_json.proofs.cuts.pass_bytes.Goals as goal

pub bytes-preserved : goal.bytes-preserved
bytes-preserved c =
    let less : c.bytes.next.scanned < length c.args.text.now = omega arith in
    let further : c.args.cut.scanned ≤ c.bytes.next.scanned = c.bytes.invariant.1 in
    (one_scanned c.args.text.now c.bytes.next c.bytes.invariant.0 less c.inside-next.result c.inside-next.ensures, omega (arith, further))
