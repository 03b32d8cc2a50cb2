use Rattle.std.{proofs.Common.[], proofs.Common.codes}
use Rattle.yaml_program.{specs.Messages.IsNameLine, proofs.Parts.named_line, proofs.Parts.tells}
use Rattle.yaml_program.proofs.checking.tell_missing.Goals as goal

pub returns-clause-told : goal.returns-clause-told
returns-clause-told g c =
    let program = c.args.faults.now.words.now.name.now in
    tells _ _ _ c.part-shown.new.self _ (IsNameLine program c.args.name.now (codes " would be written")) c.part-shown.ensures.kept
    (λ kept. named_line program c.args.name.now (codes " would be written") [] _ _ _
    (c.part-shown.ensures.shown kept) c.as_str.ensures.value c.line_of.ensures) c.tell.ensures
