use Rattle.yaml_value.proofs.Common.{◌≡◌, true, ap, sym, ◌∙◌, seen_value}
use Rattle.std.proofs.lemmas.Result.{on_ok_weaker}
use Rattle.yaml_value.specs.WalkTexts.{line_if, opens}
use Rattle.yaml_value.proofs.TextSteps.{told_weaker}
use Rattle.yaml_value.proofs.SeenLevels.{seen_list, seen_map}
use Rattle.yaml_value.proofs.texts.indent.Goals as goal

pub returns-in-List-clause-line : goal.returns-in-List-clause-line
returns-in-List-clause-line g c =
    let is : opens (seen_value c.args.value.now) ≡ true =
    ap (λ value. opens (seen_value value)) c.in-List.is ∙ ap opens (seen_list c.in-List.items) in
    on_ok_weaker c.widen.result (λ grown. grown ∙ ap (λ b. line_if b c.args.line.now.items) (sym is)) c.widen.ensures.line

pub returns-in-List-clause-opened : goal.returns-in-List-clause-opened
returns-in-List-clause-opened g c =
    let is : opens (seen_value c.args.value.now) ≡ true =
    ap (λ value. opens (seen_value value)) c.in-List.is ∙ ap opens (seen_list c.in-List.items) in
    told_weaker c.widen.result true _ (sym is) c.widen.ensures.opened

pub returns-in-Map-clause-line : goal.returns-in-Map-clause-line
returns-in-Map-clause-line g c =
    let is : opens (seen_value c.args.value.now) ≡ true =
    ap (λ value. opens (seen_value value)) c.in-Map.is ∙ ap opens (seen_map c.in-Map.pairs) in
    on_ok_weaker c.widen-in-Map.result (λ grown. grown ∙ ap (λ b. line_if b c.args.line.now.items) (sym is)) c.widen-in-Map.ensures.line

pub returns-in-Map-clause-opened : goal.returns-in-Map-clause-opened
returns-in-Map-clause-opened g c =
    let is : opens (seen_value c.args.value.now) ≡ true =
    ap (λ value. opens (seen_value value)) c.in-Map.is ∙ ap opens (seen_map c.in-Map.pairs) in
    told_weaker c.widen-in-Map.result true _ (sym is) c.widen-in-Map.ensures.opened
