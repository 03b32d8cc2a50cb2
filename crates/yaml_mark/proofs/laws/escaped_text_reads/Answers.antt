use Rattle.yaml_base.proofs.PercentLaws as percent
use Rattle.yaml_mark.proofs.laws.escaped_text_reads.Goals as goal

pub returns : goal.returns
returns c = record { tag = percent.decoded_escaped; suffix = percent.decoded_suffix; prefix = percent.decoded_prefix }
