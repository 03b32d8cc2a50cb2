use Rattle.yaml_base.proofs.TagReads as law
use Rattle.yaml_mark.proofs.laws.written_tag_reads.Goals as goal

pub returns : goal.returns
returns c = law.written_tag_reads
