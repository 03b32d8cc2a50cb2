use Rattle.yaml_serde.proofs.Handing.{hands_kept}
use Rattle.yaml_serde.proofs.outlet.hand_on.Goals as goal

pub returns-in-Kept-clause-hands : goal.returns-in-Kept-clause-hands
returns-in-Kept-clause-hands g c = hands_kept g.W.Write.contents c.args.outlet.now c.args.writer.now c.in-Kept.is
