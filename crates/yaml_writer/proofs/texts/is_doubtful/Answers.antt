use Rattle.yaml_writer.proofs.Common.{◌∷◌, ◌<◌, ◌≡◌, ap, sym, ◌∙◌, arith, is_doubtful, Text}
use Rattle.std.proofs.Common.{drop, drop-cons}
use Rattle.yaml_writer.proofs.DoubtfulStarts.{undoubtful}
use Rattle.yaml_writer.proofs.texts.is_doubtful.Goals as goal

pub returns-then-not-begins_doubtful : goal.returns-then-not-begins_doubtful
returns-then-not-begins_doubtful c =
    let text : Text = c.args.text.now in
    let first = c.in-Some.first.now in
    let found = c.in-Some.ensures.item.3 in
    let parts : text ≡ first ∷ drop 1 text = drop-cons text 0 0 found.0 ∙ ap (λ byte. byte ∷ drop 1 text) (sym (found.1 0)) in
    let fits : first < 256 = omega (arith, (c.type_inv.text 0).fits, found.1 0) in
    sym (ap is_doubtful parts ∙ undoubtful first (drop 1 text) fits (sym c.begins_doubtful.ensures ∙ c.if-not-begins_doubtful.true))
