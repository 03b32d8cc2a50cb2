use Rattle.yaml_base.proofs.TagWords as law
use Rattle.yaml_mark.proofs.laws.written_tag_stays_one_word.Goals as goal

pub returns : goal.returns
returns c = record {
  escaped = law.escaped_never_separates;
  one_word = law.written_tag_ends_no_word;
  not_bare = law.written_tag_is_not_bare;
}
