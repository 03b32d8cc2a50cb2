use Rattle.yaml_mark.proofs.Common.{ap, false, subst, chars-nil, list_any, is_break, Text, Wrote}
use Rattle.yaml_base.specs.Cursor.{indicator}
use Rattle.yaml_mark.proofs.writing.begin_tag.Goals as goal

pub write_indicator-requires-clause-no_break : goal.write_indicator-requires-clause-no_break
write_indicator-requires-clause-no_break g c = ap (list_any is_break) chars-nil

pub returns : goal.returns
returns g c =
    subst (λ (t : Text). Wrote (indicator t c.args.need_whitespace false false) c.args.pen.now c.write_indicator.new.self c.write_indicator.result)
    chars-nil c.write_indicator.ensures.written
