use Rattle.yaml_json.proofs.{Common.◌<◌, Common.length, Common.arith, Cutting.one_scanned, Cutting.one_cut}
use Rattle.yaml_json.proofs.cuts.find_end.Goals as goal

pub returns-in-None : goal.returns-in-None
returns-in-None c =
    let text = c.args.text.now in
    let less : c.pass_bytes-next.result.scanned < length text = grind arith in
    one_cut text c.pass_bytes-next.result c.pass_bytes-next.ensures.scanned less (grind arith)

pub bytes-preserved : goal.bytes-preserved
bytes-preserved c =
    let text = c.args.text.now in
    let less : c.pass_bytes-next.result.scanned < length text = grind arith in
    one_scanned text c.pass_bytes-next.result c.pass_bytes-next.ensures.scanned less c.in-Some.scan (grind arith)
