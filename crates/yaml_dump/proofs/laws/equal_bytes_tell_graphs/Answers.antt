use Rattle.yaml_dump.proofs.laws.equal_bytes_tell_graphs.Goals as goal
use Rattle.yaml_dump.proofs.EqualBytesLemmas as lemma

pub returns : goal.returns
returns c =
    record {
      canonical = lemma.equal_bytes_tell_graphs;
      readable = lemma.equal_readable_bytes_tell_graphs;
      read = lemma.one_reading;
      read_back = lemma.one_reading_back;
    }
