use Rattle.yaml_mark.proofs.Common.{sym}
use Rattle.yaml_mark.specs.Names.{empty_error, alphabet_error}
use Rattle.yaml_mark.proofs.HandleLemmas as fact
use Rattle.yaml_mark.proofs.names.analyze_name.Goals as goal

pub returns-then-is_empty : goal.returns-then-is_empty
returns-then-is_empty c =
    rw c.empty_error.ensures (fact.empty_name c.args.text.now (empty_error c.args.name) (alphabet_error c.args.name) (sym c.if-is_empty.ensures))

pub returns : goal.returns
returns c =
    fact.good_name c.args.text.now (empty_error c.args.name) (alphabet_error c.args.name) c.utf8.text (sym c.if-is_empty.ensures)
    (sym c.if-not-is_all_alpha.ensures)
