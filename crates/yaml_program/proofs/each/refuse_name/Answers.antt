use Rattle.std.{proofs.Common.◌++◌, proofs.Common.codes, specs.Fmt.InlineText.inline_text}
use Rattle.yaml_program.{specs.Messages.IsNameLine, proofs.Parts.named_line, proofs.Parts.tells}
use Rattle.yaml_program.proofs.each.refuse_name.Goals as goal

pub returns-clause-told : goal.returns-clause-told
returns-clause-told g c =
    let program = c.args.faults.now.words.now.name.now in
    let why = codes ": --each wants names that end in " in
    tells g.W.Write.contents c.args.faults.now c.tell.new.self c.part-shown.new.self _ (IsNameLine program c.args.name.now (why ++ c.args.ending.now))
    c.part-shown.ensures.kept (λ kept. named_line program c.args.name.now why c.args.ending.now (inline_text c.part-shown.result) c.as_str.result.now _
    (c.part-shown.ensures.shown kept) c.as_str.ensures.value c.line_of.ensures) c.tell.ensures
