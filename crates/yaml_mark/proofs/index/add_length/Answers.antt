use Rattle.yaml_mark.proofs.Common.{sym, ap, ◌∙◌, ◌==◌, list_any}
use Rattle.yaml_mark.proofs.IndexLemmas.{any_again}
use Rattle.yaml_mark.proofs.index.add_length.Goals as goal

pub returns-else-not-contains : goal.returns-else-not-contains
returns-else-not-contains g c = λ test.
    let n = c.args.length in
    any_again n test c.args.lengths.now.items (ap (list_any (λ x. x == n)) (sym c.deref.ensures.value) ∙ sym c.if-not-contains.ensures.value)
