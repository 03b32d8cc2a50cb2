use Rattle.std.proofs.Common.{ℕ, List, ◌++◌, codes, subst}
use Rattle.yaml_program.specs.Messages.{IsNameLine, Tells}
use Rattle.yaml_program.proofs.each.convert_beside.Goals as goal

pub returns-in-None-clause-told : goal.returns-in-None-clause-told
returns-in-None-clause-told g c otherwise =
    subst (λ (ending : List ℕ). Tells g.W.Write.contents c.args.faults.now c.refuse_name.new.faults
    (IsNameLine c.args.faults.now.words.now.name.now c.args.name.now (codes ": --each wants names that end in " ++ ending)))
    c.ending-ending.ensures c.refuse_name.ensures.told
