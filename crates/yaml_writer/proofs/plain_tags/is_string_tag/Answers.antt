use Rattle.yaml_writer.proofs.Common.{refl, ◌∙◌}
use Rattle.yaml_base.proofs.AsciiWords.{ascii_of, same_word}
use Rattle.yaml_base.specs.graphs.Meetings.{string_tag}
use Rattle.yaml_writer.proofs.plain_tags.is_string_tag.Goals as goal

pub returns : goal.returns
returns c = c.eq.ensures ∙ same_word c.args.tag.now string_tag c.utf8.tag (ascii_of string_tag refl)
