use Rattle.yaml_tool.proofs.Common.{subst, sym, seen_field_state, SkipsRunTo}
use Rattle.yaml_tool.proofs.FieldLemmas.{runs_outside, runs_inside, runs_nowhere}
use Rattle.yaml_tool.proofs.fields.FieldState.skip_run.Goals as goal

pub returns-in-Outside : goal.returns-in-Outside
returns-in-Outside c =
    let text = c.args.text.now in
    let end = c.skip_word.result.now in
    subst (λ standing. SkipsRunTo (seen_field_state standing) text end) (sym c.in-Outside.is) (runs_outside text end c.utf8.text c.skip_word.ensures)

pub returns-in-Inside : goal.returns-in-Inside
returns-in-Inside c =
    let text = c.args.text.now in
    let end = c.from_delimiter.result.now in
    subst (λ standing. SkipsRunTo (seen_field_state standing) text end) (sym c.in-Inside.is) (runs_inside text end c.utf8.text c.from_delimiter.ensures)

pub returns-in-Escaped : goal.returns-in-Escaped
returns-in-Escaped c = runs_nowhere (seen_field_state c.args.self) c.args.text.now c.utf8.text
