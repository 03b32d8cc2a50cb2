use Rattle.std.proofs.Common.{ap, map, reverse, FitsSigned, w32, rules}
use Rattle.yaml_base.specs.graphs.SeenNodes.{seen_node}
use Rattle.yaml_dump.specs.{Composition.Composition, SeenComposer.seen_unended}
use Rattle.yaml_dump.proofs.ComposerLemmas.{carrier_set}
use Rattle.yaml_dump.proofs.composer.Composer.carry.Goals as goal

pub returns-then-number-len : goal.returns-then-number-len
returns-then-number-len g c =
    let composer = c.args.self.now in
    let fits : FitsSigned w32 c.args.carrier = search rules in
    ap {B = Composition} (λ carriers. record {
      nodes = map seen_node composer.nodes.items;
      unended = reverse (map seen_unended composer.unended.items);
      carriers = carriers;
    })
    (carrier_set composer.carriers.items c.args.number c.args.carrier fits)
