use Rattle.yaml_emitter.proofs.Common.{rules, refl, List, ℕ, true, false, ◌≡◌, ap, ◌∙◌, chars, list_any, is_break}
use Rattle.yaml_base.specs.Indicators.{Indicator, opening_bracket, tight, indented_indicator, spaced}
use Rattle.yaml_emitter.specs.{Atoms.is_visible_ascii, WrittenAtoms.seen_indicator, declared.writing.indicators.IndicatorKind.IndicatorKind}
use Rattle.yaml_emitter.specs.declared.writing.indicators.IndicatorKind.TheVariants.{DocumentStart}
use Rattle.yaml_emitter.proofs.pieces.Atoms.{symbol-chars, symbol-no_break}
use Rattle.yaml_emitter.proofs.writing.indicators.IndicatorKind.indicator.Goals as goal

-- an indicator is of visible characters of ASCII
visible : (kind : IndicatorKind) → is_visible_ascii (seen_indicator kind).text ≡ true
visible DocumentStart = refl
visible kind = refl

visible_text : (kind : IndicatorKind) {bytes : List ℕ} → bytes ≡ (seen_indicator kind).text → is_visible_ascii bytes ≡ true
visible_text kind is = ap is_visible_ascii is ∙ visible kind

-- visible bytes of ASCII are the text of the indicator that they make
made_of : (form : List ℕ → Indicator) {made : Indicator} (bytes : List ℕ) → made ≡ form (chars bytes) → is_visible_ascii bytes ≡ true → made ≡ form bytes
made_of form bytes is symbol = is ∙ ap form (symbol-chars bytes symbol)

no_break : (form : List ℕ → Indicator) {made : Indicator} (bytes : List ℕ) → ((text : List ℕ) → (form text).text ≡ text) → made ≡ form (chars bytes)
    → is_visible_ascii bytes ≡ true → list_any is_break made.text ≡ false
no_break form bytes holds is symbol =
    ap (λ (s : Indicator). list_any is_break s.text) (made_of form bytes is symbol) ∙ ap (list_any is_break) (holds bytes) ∙ symbol-no_break bytes symbol

pub returns-in-FlowSequenceStart-clause-made : goal.returns-in-FlowSequenceStart-clause-made
returns-in-FlowSequenceStart-clause-made c =
    made_of opening_bracket c.text-text.result.now c.opening.ensures (visible_text c.args.self c.text-text.ensures) ∙ ap opening_bracket c.text-text.ensures
    ∙ search rules

pub returns-in-FlowSequenceStart-clause-no_break : goal.returns-in-FlowSequenceStart-clause-no_break
returns-in-FlowSequenceStart-clause-no_break c =
    no_break opening_bracket c.text-text.result.now (λ text. refl) c.opening.ensures (visible_text c.args.self c.text-text.ensures)

pub returns-in-FlowSequenceEnd-clause-made : goal.returns-in-FlowSequenceEnd-clause-made
returns-in-FlowSequenceEnd-clause-made c =
    made_of tight c.text-text.result.now c.tight.ensures (visible_text c.args.self c.text-text.ensures) ∙ ap tight c.text-text.ensures ∙ search rules

pub returns-in-FlowSequenceEnd-clause-no_break : goal.returns-in-FlowSequenceEnd-clause-no_break
returns-in-FlowSequenceEnd-clause-no_break c =
    no_break tight c.text-text.result.now (λ text. refl) c.tight.ensures (visible_text c.args.self c.text-text.ensures)

pub returns-in-BlockEntry-clause-made : goal.returns-in-BlockEntry-clause-made
returns-in-BlockEntry-clause-made c =
    made_of indented_indicator c.text-text.result.now c.indented.ensures (visible_text c.args.self c.text-text.ensures)
    ∙ ap indented_indicator c.text-text.ensures ∙ search rules

pub returns-in-BlockEntry-clause-no_break : goal.returns-in-BlockEntry-clause-no_break
returns-in-BlockEntry-clause-no_break c =
    no_break indented_indicator c.text-text.result.now (λ text. refl) c.indented.ensures (visible_text c.args.self c.text-text.ensures)

pub returns-in-DocumentStart-clause-made : goal.returns-in-DocumentStart-clause-made
returns-in-DocumentStart-clause-made c =
    made_of spaced c.text-text.result.now c.spaced.ensures (visible_text c.args.self c.text-text.ensures) ∙ ap spaced c.text-text.ensures ∙ search rules

pub returns-in-DocumentStart-clause-no_break : goal.returns-in-DocumentStart-clause-no_break
returns-in-DocumentStart-clause-no_break c =
    no_break spaced c.text-text.result.now (λ text. refl) c.spaced.ensures (visible_text c.args.self c.text-text.ensures)
