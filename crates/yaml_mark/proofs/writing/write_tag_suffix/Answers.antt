use Rattle.yaml_mark.proofs.Common.{false, chars, suffix_escaped, wrote_exit}
use Rattle.yaml_mark.proofs.EscapingLemmas.{content_cut}
use Rattle.yaml_mark.proofs.writing.write_tag_suffix.Goals as goal

pub returns-in_err-begin_tag : goal.returns-in_err-begin_tag
returns-in_err-begin_tag g c =
    wrote_exit c.from_residual.ensures (content_cut false (suffix_escaped c.args.portable (chars c.args.suffix.now)) c.in_err-begin_tag.ensures)
