use Rattle.yaml_mark.proofs.Common.{chars, percent_escaped, wrote_exit}
use Rattle.yaml_mark.proofs.EscapingLemmas.{content_cut, content_whole}
use Rattle.yaml_mark.proofs.writing.write_tag_content.Goals as goal

pub returns-in_err-begin_tag : goal.returns-in_err-begin_tag
returns-in_err-begin_tag g c =
    wrote_exit c.from_residual.ensures (content_cut c.args.need_whitespace (percent_escaped (chars c.args.content.now)) c.in_err-begin_tag.ensures)

pub returns : goal.returns
returns g c = content_whole c.args.need_whitespace (percent_escaped (chars c.args.content.now)) c.in_ok-begin_tag.ensures c.write_escaped.ensures
