use Rattle.std.proofs.Common.{rules}
use Rattle.toml_ordered.proofs.Marks.{marked_is, unmarked_is}
use Rattle.toml_ordered.proofs.document.without_mark.Goals as goal

pub returns-in-Some-clause-rest : goal.returns-in-Some-clause-rest
returns-in-Some-clause-rest c = marked_is c.args.text.now c.in-Some.unmarked.now (search rules)

pub returns-in-None-clause-rest : goal.returns-in-None-clause-rest
returns-in-None-clause-rest c = unmarked_is c.args.text.now c.in-None.ensures.cases
