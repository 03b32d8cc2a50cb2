use Rattle.yaml_read.proofs.Common.{◌∙◌, ascii_of}
use Rattle.yaml_base.proofs.AsciiWords.{same_word}
use Rattle.yaml_read.proofs.nodes.is_tag.Goals as goal

pub returns : goal.returns
returns c = c.eq.ensures ∙ same_word c.args.tag.now c.args.wanted.now c.utf8.tag (ascii_of c.args.wanted.now c.requires)
