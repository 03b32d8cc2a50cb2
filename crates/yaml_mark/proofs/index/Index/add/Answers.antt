use Rattle.std.specs.{BTreeMap.get_by_text, BTreeSet.contains_text}
use Rattle.yaml_base.proofs.Common.{if◌then◌else◌, option_or}
use Rattle.yaml_mark.proofs.Common.{None, Some, length, ap, ◌∙◌, ◌||◌, bytes_eq, list_any}
use Rattle.yaml_mark.proofs.IndexLemmas.{finds_more}
use Rattle.yaml_mark.proofs.index.Index.add.Goals as goal

pub returns : goal.returns
returns g c = λ list at finds.
    let old = c.args.self.now in
    finds_more _ _ list c.args.directive.now c.args.place at finds
    (λ bytes. c.in_ok-add_text.ensures bytes ∙ ap (λ x. contains_text old.handles bytes || bytes_eq x bytes) c.as_str.ensures.value)
    (λ bytes. c.in_ok-add_first.ensures bytes
    ∙ ap (λ x. option_or (get_by_text old.prefixes bytes) (if bytes_eq x bytes then Some c.args.place else None)) c.as_str-prefix.ensures.value)
    (λ test. c.in_ok-add_length.ensures test ∙ ap (λ x. list_any test old.lengths.items || test (length x)) c.as_str-prefix.ensures.value)
