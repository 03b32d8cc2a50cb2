use Rattle.yaml_pen.proofs.Common.{ℕ, List, ap, subst, ◌∙◌, IsUtf8-from_ascii, chars-IsAscii, list_any, chars, Text, is_break, render_text, Wrote}
use Rattle.yaml_pen.proofs.pen.Pen.write_ascii_characters.Goals as goal

pub write_characters-requires-clause-no_break : goal.write_characters-requires-clause-no_break
write_characters-requires-clause-no_break g c =
    ap (λ (l : List ℕ). list_any is_break (chars l)) c.in-Ok.ensures.cases.0 ∙ ap (list_any is_break) (chars-IsAscii c.args.text.now c.requires.ascii)
    ∙ c.requires.no_break

pub returns-in-Ok : goal.returns-in-Ok
returns-in-Ok g c = record {
  written =
      subst (λ (t : Text). Wrote (render_text t) c.args.self.now c.write_characters.new.self c.write_characters.result)
      (ap chars c.in-Ok.ensures.cases.0 ∙ chars-IsAscii c.args.text.now c.requires.ascii) c.write_characters.ensures.written;
}

pub returns-in-Err : goal.returns-in-Err
returns-in-Err g c = record { written = absurd (c.in-Err.ensures.cases.0 (IsUtf8-from_ascii c.args.text.now c.requires.ascii)) }
