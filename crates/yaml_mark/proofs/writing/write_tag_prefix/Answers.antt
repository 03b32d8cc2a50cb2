use Rattle.yaml_mark.proofs.Common.{Err, true, subst, chars, Text, render_text, percent_escaped, prefix_escaped, wrote_text_then, wrote_exit, Wrote}
use Rattle.yaml_mark.proofs.EscapingLemmas.{content_cut, content_whole, prefix_parts, prefix_unbroken}
use Rattle.yaml_pen.proofs.Composing.{wrote_text_failed}
use Rattle.yaml_mark.proofs.writing.write_tag_prefix.Goals as goal

pub write_run-requires-clause-no_break : goal.write_run-requires-clause-no_break
write_run-requires-clause-no_break g c = prefix_unbroken c.prefix_run_length.ensures c.split_at.ensures.front

pub returns-in_err-begin_tag : goal.returns-in_err-begin_tag
returns-in_err-begin_tag g c =
    wrote_exit c.from_residual.ensures (content_cut true (prefix_escaped c.args.portable (chars c.args.prefix.now)) c.in_err-begin_tag.ensures)

pub returns-in_err-write_run : goal.returns-in_err-write_run
returns-in_err-write_run g c =
    let is = prefix_parts c.prefix_run_length.ensures c.split_at.ensures.front c.split_at.ensures.back in
    wrote_exit c.from_residual-in_err-write_run.ensures
    (content_whole true (prefix_escaped c.args.portable (chars c.args.prefix.now)) c.in_ok-begin_tag.ensures
    (subst (λ (t : Text). Wrote (render_text t) c.begin_tag.new.pen c.write_run.new.self (Err c.in_err-write_run.field-0.0)) is
    (wrote_text_failed (percent_escaped (chars c.split_at.result.1.now)) c.in_err-write_run.ensures.written)))

pub returns : goal.returns
returns g c =
    let is = prefix_parts c.prefix_run_length.ensures c.split_at.ensures.front c.split_at.ensures.back in
    content_whole true (prefix_escaped c.args.portable (chars c.args.prefix.now)) c.in_ok-begin_tag.ensures
    (subst (λ (t : Text). Wrote (render_text t) c.begin_tag.new.pen c.write_escaped.new.pen c.write_escaped.result) is
    (wrote_text_then c.in_ok-write_run.ensures.written c.write_escaped.ensures))
