use Rattle.yaml_json.proofs.Common.{◌≡◌, ap, arith, subst, sym, ◌∙◌, Token, head}
use Rattle.yaml_json.{specs.Lexemes.ReadsWord, proofs.WordSteps.number_word}
use Rattle.json.specs.Word.{word}
use Rattle.yaml_json.proofs.words.word.Goals as goal

pub returns-in-116-clause-reads : goal.returns-in-116-clause-reads
unfolding word
returns-in-116-clause-reads c =
    let first : head c.args.text.now ≡ 116 = ap head (sym c.as_bytes.ensures.value) ∙ sym c.byte_at.ensures ∙ c.in-116.is in
    rw first c.literal.ensures.reads

pub returns-in-102-clause-reads : goal.returns-in-102-clause-reads
unfolding word
returns-in-102-clause-reads c =
    let first : head c.args.text.now ≡ 102 = ap head (sym c.as_bytes.ensures.value) ∙ sym c.byte_at.ensures ∙ c.in-102.is in
    rw first c.literal-in-102.ensures.reads

pub returns-in-110-clause-reads : goal.returns-in-110-clause-reads
unfolding word
returns-in-110-clause-reads c =
    let first : head c.args.text.now ≡ 110 = ap head (sym c.as_bytes.ensures.value) ∙ sym c.byte_at.ensures ∙ c.in-110.is in
    rw first c.literal-in-110.ensures.reads

pub returns-in_default-clause-reads : goal.returns-in_default-clause-reads
returns-in_default-clause-reads c =
    let text = c.args.text.now in
    let first : head text ≡ c.byte_at.result = ap head (sym c.as_bytes.ensures.value) ∙ sym c.byte_at.ensures in
    subst (λ (token : Token). ReadsWord text token c.number.result) (sym (number_word text (λ e. absurd (omega (arith, first, e)))
    (λ e. absurd (omega (arith, first, e))) (λ e. absurd (omega (arith, first, e))))) c.number.ensures.reads
