use Rattle.yaml_value.proofs.Common.{false, true, ◌≡◌, rules, sym, ◌∙◌, seen_value}
use Rattle.yaml_value.proofs.WritingLemmas.{too_deep_apart, test_fits, test_exceeds, memory_alone, text_written}
use Rattle.yaml_value.proofs.writing.write_canonical.Goals as goal

pub written-requires : goal.written-requires
written-requires g c =
    let on : c.lies_within.result ≡ true = search rules in
    test_fits (seen_value c.args.value.now) (sym c.lies_within.ensures ∙ on)

pub returns-then-not-lies_within-clause-too_deep : goal.returns-then-not-lies_within-clause-too_deep
returns-then-not-lies_within-clause-too_deep g c =
    let off : c.lies_within.result ≡ false = search rules in
    (λ _. test_exceeds (seen_value c.args.value.now) (sym c.lies_within.ensures ∙ off), λ _. search rules)

pub returns-clause-too_deep : goal.returns-clause-too_deep
returns-clause-too_deep g c =
    let on : c.lies_within.result ≡ true = search rules in
    too_deep_apart c.written.result (seen_value c.args.value.now)
    (test_fits (seen_value c.args.value.now) (sym c.lies_within.ensures ∙ on)) c.written.ensures.memory

pub returns-clause-failed : goal.returns-clause-failed
returns-clause-failed g c = memory_alone c.written.result c.written.ensures.memory

pub returns-clause-layout : goal.returns-clause-layout
returns-clause-layout g c = text_written (seen_value c.args.value.now) c.written.result c.written.ensures.written
