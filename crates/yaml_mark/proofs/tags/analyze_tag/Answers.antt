use Rattle.yaml_mark.proofs.Common.{refl, sym}
use Rattle.yaml_mark.proofs.TagLemmas.{spelled_whole, spelled_short, empty_tag, good_tag}
use Rattle.yaml_mark.proofs.tags.analyze_tag.Goals as goal

pub returns-then-is_empty-clause-refusal : goal.returns-then-is_empty-clause-refusal
returns-then-is_empty-clause-refusal g c = empty_tag c.args.tag.now (sym c.if-is_empty.ensures)

pub returns-in-Some-clause-refusal : goal.returns-in-Some-clause-refusal
returns-in-Some-clause-refusal g c = good_tag c.args.tag.now c.utf8.tag (sym c.if-is_empty.ensures)

pub returns-in-None-clause-refusal : goal.returns-in-None-clause-refusal
returns-in-None-clause-refusal g c = good_tag c.args.tag.now c.utf8.tag (sym c.if-is_empty.ensures)

pub returns-in-Some-clause-spelled : goal.returns-in-Some-clause-spelled
returns-in-Some-clause-spelled g c =
    spelled_short c.args.directives.now c.args.tag.now c.in-Some.number c.prefix_length.result c.utf8.tag c.in-Some.ensures c.prefix_length.ensures

pub returns-in-None-clause-spelled : goal.returns-in-None-clause-spelled
returns-in-None-clause-spelled g c =
    (refl, spelled_whole c.args.directives.now c.args.tag.now c.in-None.ensures)
