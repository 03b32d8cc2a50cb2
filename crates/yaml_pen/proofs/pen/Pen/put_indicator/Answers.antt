use Rattle.yaml_base.proofs.Common.{Bool, ◌&&◌, ◌++◌, refl, ap, ◌∙◌, chars, Cursor, space_if}
use Rattle.yaml_base.specs.{Cursor.render_text, Indicators.render_indicator}
use Rattle.yaml_pen.proofs.Common.{Err, Ok, subst, sym, or_parts, list_any, Text, is_break, Wrote}
use Rattle.yaml_pen.proofs.AsciiRuns.{one_byte_ascii, one_byte_chars}
use Rattle.yaml_pen.proofs.Composing.{wrote_then, wrote_as, wrote_changing, render_text-append, wrote_exit, wrote_cut, wrote_failed_as}
use Rattle.yaml_pen.specs.{Indicators.seen_indicator_row, Page.Page}
use Rattle.yaml_pen.proofs.pen.Pen.put_indicator.Goals as goal
use Rattle.yaml_pen.proofs.pen.Pen.put_indicator.Goals.{in-len1+in_ok-put-in-len1, in_default+in_ok-write_run-in_default}

pub put-requires-clause-ascii : goal.put-requires-clause-ascii
put-requires-clause-ascii g c = one_byte_ascii c.as_bytes.result.now c.as_bytes.ensures.utf8 c.in-len1.len_at_least c.in-len1.len_below

pub put-requires-clause-no_break : goal.put-requires-clause-no_break
put-requires-clause-no_break g c =
    let one = one_byte_chars c.as_bytes.result.now c.as_bytes.ensures.utf8 c.in-len1.len_at_least c.in-len1.len_below in
    (or_parts _ _ (ap (list_any is_break) one ∙ ap (λ b. list_any is_break (chars b)) c.as_bytes.ensures.value ∙ c.requires.no_break)).0

pub returns-in_err-separate_if : goal.returns-in_err-separate_if
returns-in_err-separate_if g c = record {
  written =
      wrote_exit c.from_residual.ensures
      (wrote_cut (render_indicator (seen_indicator_row c.args.indicator.now)) (chars c.args.indicator.now.text.now) refl c.in_err-separate_if.ensures.written);
}

pub returns-in_err-put-in-len1 : goal.returns-in_err-put-in-len1
returns-in_err-put-in-len1 g c = record {
  written =
      let one = one_byte_chars c.as_bytes.result.now c.as_bytes.ensures.utf8 c.in-len1.len_at_least c.in-len1.len_below in
      let text = subst (λ (t : Text). Wrote (render_text t) c.separate_if.new.self c.put.new.self (Err c.in_err-put-in-len1.field-0.0))
      (one ∙ ap chars c.as_bytes.ensures.value) c.in_err-put-in-len1.ensures.written in
      wrote_exit c.from_residual-in_err-put-in-len1.ensures
      (wrote_failed_as (render_indicator (seen_indicator_row c.args.indicator.now)) refl (wrote_then c.in_ok-separate_if.ensures.written text));
}

pub returns-in_err-write_run-in_default : goal.returns-in_err-write_run-in_default
returns-in_err-write_run-in_default g c = record {
  written =
      wrote_exit c.from_residual-in_err-write_run-in_default.ensures
      (wrote_failed_as (render_indicator (seen_indicator_row c.args.indicator.now)) refl
      (wrote_then c.in_ok-separate_if.ensures.written c.in_err-write_run-in_default.ensures.written));
}

pub returns : goal.returns
returns g c = record {
  written =
      let row = c.args.indicator.now in
      let behind = λ (p : Page). Wrote (render_text (chars row.text.now)) c.separate_if.new.self p (Ok tt) in
      let body : behind c.if-as_bytes-lt1.self = elim c.if-as_bytes-lt1.branch [
        | in-len1+in_ok-put-in-len1 w ↦
            let one = one_byte_chars c.as_bytes.result.now c.as_bytes.ensures.utf8 w.in-len1.len_at_least w.in-len1.len_below in
            subst behind (sym w.self-is)
            (subst (λ (t : Text). Wrote (render_text t) c.separate_if.new.self w.put.new.self (Ok tt)) (one ∙ ap chars c.as_bytes.ensures.value)
            w.in_ok-put-in-len1.ensures.written)
        | in_default+in_ok-write_run-in_default w ↦ subst behind (sym w.self-is) w.in_ok-write_run-in_default.ensures.written
      ] in
      let text = wrote_as (λ (cursor : Cursor). render_text (space_if row.needs_space cursor ++ chars row.text.now) cursor)
      (render_text-append (space_if row.needs_space c.args.self.now.cursor) (chars row.text.now) c.args.self.now.cursor)
      (wrote_then c.in_ok-separate_if.ensures.written body) in
      let page = c.set_whitespace.new.self in
      wrote_changing (λ (cursor : Cursor). record cursor { indention = cursor.indention && row.keeps_indention })
      (wrote_changing (λ (cursor : Cursor). record cursor { whitespace = row.leaves_space }) text c.set_whitespace.ensures)
      (c.set_indention.ensures
      ∙ ap (λ (b : Bool). let more : Page = record page { cursor = record page.cursor { indention = b && row.keeps_indention } } in more) c.indention.ensures);
}
