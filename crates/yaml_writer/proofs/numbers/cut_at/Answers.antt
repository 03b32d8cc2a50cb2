use Rattle.yaml_writer.proofs.Common.{◌<◌, Some, length, take, ◌≡◌, ap, ap₂, sym, ◌∙◌, arith, Text}
use Rattle.std.proofs.Common.{◌-◌}
use Rattle.std.proofs.lemmas.Str.{IsCharBoundary-before_ascii, IsCharBoundary-after_ascii}
use Rattle.yaml_writer.proofs.PlaceCuts.{cut_by_place, uncut_by_place}
use Rattle.yaml_writer.proofs.numbers.cut_at.Goals as goal

pub returns-then-length-text : goal.returns-then-length-text
returns-then-length-text c =
    uncut_by_place c.args.sign c.args.text.now c.length_before-length.result c.length_before-length.ensures.value c.if-length-text.true

pub range-requires-clause-end_boundary : goal.range-requires-clause-end_boundary
range-requires-clause-end_boundary c =
    let text : Text = c.args.text.now in
    let place = c.length_before-length.result in
    let within : place < length text = omega (arith, c.if-length-text.false) in
    let found = cut_by_place c.args.sign text place c.length_before-length.ensures.value within in
    IsCharBoundary-before_ascii text place within (omega (arith, found.0))

pub range_from-requires : goal.range_from-requires
range_from-requires c positive =
    let text : Text = c.args.text.now in
    let place = c.length_before-length.result in
    let within : place < length text = omega (arith, c.if-length-text.false) in
    let found = cut_by_place c.args.sign text place c.length_before-length.ensures.value within in
    IsCharBoundary-after_ascii text place c.utf8.text within (omega (arith, found.0))

pub returns : goal.returns
returns c =
    let text : Text = c.args.text.now in
    let place = c.length_before-length.result in
    let within : place < length text = omega (arith, c.if-length-text.false) in
    let whole : place - 0 ≡ place = omega arith in
    (cut_by_place c.args.sign text place c.length_before-length.ensures.value within).1
    ∙ ap₂ (λ (before after : Text). Some (before, after)) (sym (c.range.ensures.value ∙ ap (λ n. take n text) whole)) (sym c.range_from.ensures.value)
