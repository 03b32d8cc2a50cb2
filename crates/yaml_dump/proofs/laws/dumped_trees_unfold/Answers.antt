use Rattle.yaml_dump.proofs.laws.dumped_trees_unfold.Goals as goal
use Rattle.yaml_dump.proofs.GraphTreeLemmas as lemma

pub returns : goal.returns
returns c = lemma.dumped_trees_unfold
