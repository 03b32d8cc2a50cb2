use Rattle.yaml_program.proofs.Parts.{part_shown}
use Rattle.yaml_program.proofs.messages.Loss.part.Goals as goal

pub returns-in_default-clause-shown : goal.returns-in_default-clause-shown
returns-in_default-clause-shown g c kept =
    part_shown (g.D.Display.output c.args.value) c.new-part.result c.write.new.self c.new-part.ensures.intact c.new-part.ensures.text
    c.in_default.ensures.writes
