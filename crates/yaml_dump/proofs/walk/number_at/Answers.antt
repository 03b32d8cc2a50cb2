use Rattle.yaml_dump.proofs.{Common.arith, ChildLemmas.pairs_countable}
use Rattle.yaml_dump.proofs.walk.number_at.Goals as goal

pub returns-in-Mapping-clause-countable : goal.returns-in-Mapping-clause-countable
returns-in-Mapping-clause-countable g c =
    pairs_countable c.as_slice-in-Mapping.result.now c.args.place c.number_in_pairs.result
    (omega (arith, c.as_slice-in-Mapping.ensures.len, c.in-Mapping.pairs.ok)) c.number_in_pairs.ensures
