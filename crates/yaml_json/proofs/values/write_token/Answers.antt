use Rattle.yaml_json.proofs.Common.{ℕ, List, refl, ◌≡◌, Bor, subst, sym, codes, chars, token_of, scalar, null_content, bool_content, number_content}
use Rattle.yaml_json.proofs.Common.{text_content, text_event, number_event, number_in, bool_tag, bool_text, null_tag, RefusesToken, at, At, PastString}
use Rattle.yaml_json.proofs.{Closing.name_refused, Closing.token_refused, NumberBridge.number_is, WalkCalls.refused_step, WalkCalls.scalar_step}
use Rattle.yaml_json.specs.WalkSteps.{TokenStep}
use Rattle.yaml_writer.proofs.GivenLemmas.{number_event_is, text_is, word_is}
use Rattle.yaml_writer.specs.Writing.{bool_event, null_event}
use Rattle.json.specs.{Print.IsPrintable, declared.token.Token.Token}
use Rattle.json.specs.Print as json
use Rattle.json.specs.Token as tokens
use Rattle.json.specs.declared.token.Token.TheVariants as variants
use Rattle.yaml_json.specs.declared.values.Stop.TheVariants as stops
use Rattle.yaml_json.proofs.values.write_token.Goals as goal

number_apart : (text : Bor (List ℕ)) (token : Token) → token ≡ variants.Number text → token ≡ variants.Bad → ⊥
number_apart text token is bad = cc

-- ---- scalars

pub returns-in-Null : goal.returns-in-Null
returns-in-Null g c =
    let a = c.args in
    subst (λ (t : Token). TokenStep a.settings.now (token_of t) (at a.nest.now a.writer.now) c.answer_of.result (at a.nest.now c.null.new.self))
    (sym c.in-Null.is) (scalar_step _ _ (λ k. scalar (null_content k)) tt (λ k. refl) _ c.requires.fits _ _ _
    (word_is a.writer.now null_tag (codes "null") c.requires.bare) _ _ c.answer_of.ensures c.null.ensures)

pub returns-in-Bool : goal.returns-in-Bool
returns-in-Bool g c =
    let a = c.args in
    let flag = c.in-Bool.flag in
    subst (λ (t : Token). TokenStep a.settings.now (token_of t) (at a.nest.now a.writer.now) c.answer_of-in-Bool.result (at a.nest.now c.bool.new.self))
    (sym c.in-Bool.is) (scalar_step _ _ (λ k. scalar (bool_content k flag)) tt (λ k. refl) _ c.requires.fits _ _ _
    (word_is a.writer.now bool_tag (bool_text flag) c.requires.bare) _ _ c.answer_of-in-Bool.ensures c.bool.ensures)

pub returns-in-Number : goal.returns-in-Number
returns-in-Number g c =
    let a = c.args in
    let text = c.in-Number.text.now in
    subst (λ (t : Token). TokenStep a.settings.now (token_of t) (at a.nest.now a.writer.now) c.answer_of-in-Number.result (at a.nest.now c.number.new.self))
    (sym c.in-Number.is) (scalar_step _ _ (λ k. scalar (number_content k (number_in text))) tt (λ k. refl) _ c.requires.fits _ _ _
    (number_event_is a.writer.now text c.of_text.result c.of_text.ensures c.requires.bare) _ _ c.answer_of-in-Number.ensures c.number.ensures)

pub of_text-requires : goal.of_text-requires
of_text-requires g c =
    let text = c.in-Number.text in
    let good : json.IsNumber text.now =
    subst (λ (t : Token). IsPrintable (token_of t)) c.in-Number.is (c.requires.good (λ bad. number_apart text c.args.token c.in-Number.is bad)) in
    number_is text.now good

pub returns-in-String : goal.returns-in-String
returns-in-String g c =
    let a = c.args in
    let text = c.in-String.text.now in
    subst (λ (t : Token). TokenStep a.settings.now (token_of t) (at a.nest.now a.writer.now) c.answer_of-in-String.result (at a.nest.now c.text.new.self))
    (sym c.in-String.is) (scalar_step _ _ (λ k. scalar (text_content (chars text))) tt (λ k. refl) _ c.requires.fits _ _ _
    (text_is a.writer.now (chars text) c.requires.bare) _ _ c.answer_of-in-String.ensures c.text.ensures)
