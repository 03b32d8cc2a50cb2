use Rattle.yaml_dump.proofs.{Emissions.each_emits, Emissions.keeps_dumping, Emissions.keeps_each, Emissions.unclosed_failing}
use Rattle.yaml_dump.proofs.GraphLemmas.{graphs_read, trees_read}
use Rattle.yaml_dump.proofs.Common.{document_unfolds}
use Rattle.yaml_dump.proofs.laws.dumps_tell.Goals as goal

pub returns : goal.returns
returns c =
    record {
      emits = each_emits;
      each = keeps_each;
      dumps = keeps_dumping;
      unclosed = unclosed_failing;
      unfolds = document_unfolds;
      reads = λ after promised none. (graphs_read after promised none, trees_read after promised none);
    }
