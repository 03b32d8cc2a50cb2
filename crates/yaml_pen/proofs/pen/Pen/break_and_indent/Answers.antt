use Rattle.yaml_pen.{proofs.NewLines.break-then-spaces, specs.Lines.render_line_break}
use Rattle.yaml_pen.proofs.Common.{if◌then◌else◌, Ok, Bool, [], ◌∷◌, ap, subst, sym, ◌∙◌, line_feed, render_text, render_nothing, line_begun, Page}
use Rattle.yaml_pen.proofs.Common.{Wrote}
use Rattle.yaml_pen.proofs.Composing.{wrote_then, wrote_as}
use Rattle.yaml_pen.proofs.pen.Pen.break_and_indent.Goals as goal
use Rattle.yaml_pen.proofs.pen.Pen.break_and_indent.Goals.{then-breaks_line+in_ok-put_break, else-breaks_line+in_ok-write_nothing}

pub returns : goal.returns
returns g c = record {
  written =
      let at = c.args.at in
      let cursor = c.args.self.now.cursor in
      let breaks = λ (b : Bool). if b then render_text (line_feed ∷ []) cursor else render_nothing cursor in
      let behind = λ (p : Page). Wrote (render_line_break at) c.args.self.now p (Ok tt) in
      let broken : behind c.if-breaks_line.self = elim c.if-breaks_line.branch [
        | then-breaks_line+in_ok-put_break w ↦
            subst behind (sym w.self-is)
            (wrote_as (render_line_break at) (ap breaks (sym w.if-breaks_line.true ∙ c.breaks_line.ensures)) w.in_ok-put_break.ensures.written)
        | else-breaks_line+in_ok-write_nothing w ↦
            subst behind (sym w.self-is)
            (wrote_as (render_line_break at) (ap breaks (sym w.if-breaks_line.false ∙ c.breaks_line.ensures)) w.in_ok-write_nothing.ensures)
      ] in
      wrote_as (line_begun at) (break-then-spaces at cursor) (wrote_then broken c.write_spaces_to.ensures.written);
}
