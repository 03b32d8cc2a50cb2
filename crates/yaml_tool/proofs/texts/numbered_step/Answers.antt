use Rattle.yaml_tool.proofs.Common.{◌∷◌, ◌≡◌, ap, sym, ◌∙◌, arith, chars}
use Rattle.yaml_tool.proofs.TextLemmas.{read_turn, braced, unbraced}
use Rattle.yaml_tool.proofs.texts.numbered_step.Goals as goal

pub returns-in-Some-numbered_character : goal.returns-in-Some-numbered_character
returns-in-Some-numbered_character c =
    let digits = chars c.in-Some-eq123-default.digits.now in
    let opened : chars c.args.behind.now ≡ 0x7B ∷ digits = c.in-Some-eq123-default.ensures.characters
    ∙ ap (λ d. d ∷ digits) c.in-Some-eq123-default.field-0-0-test in
    let read = braced (chars c.args.behind.now) digits (chars c.in-Some.digits.now) (chars c.in-Some.rest.now) opened c.in-Some.ensures.cut in (
      read ∙ ap (λ t. read_turn t (chars c.in-Some.rest.now)) (sym c.in-Some-numbered_character.ensures),
      omega (arith, c.in-Some-eq123-default.ensures.shorter, c.in-Some.ensures.shorter),
      c.in-Some.ensures.utf8,
    )

pub returns-in-None-numbered_character : goal.returns-in-None-numbered_character
returns-in-None-numbered_character c =
    let digits = chars c.in-Some-eq123-default.digits.now in
    let opened : chars c.args.behind.now ≡ 0x7B ∷ digits = c.in-Some-eq123-default.ensures.characters
    ∙ ap (λ d. d ∷ digits) c.in-Some-eq123-default.field-0-0-test in
    let read = braced (chars c.args.behind.now) digits (chars c.in-Some.digits.now) (chars c.in-Some.rest.now) opened c.in-Some.ensures.cut in
    read ∙ ap (λ t. read_turn t (chars c.in-Some.rest.now)) (sym c.in-None-numbered_character.ensures)

pub returns-in-None : goal.returns-in-None
returns-in-None c =
    let digits = chars c.in-Some-eq123-default.digits.now in
    let opened : chars c.args.behind.now ≡ 0x7B ∷ digits = c.in-Some-eq123-default.ensures.characters
    ∙ ap (λ d. d ∷ digits) c.in-Some-eq123-default.field-0-0-test in
    unbraced (chars c.args.behind.now) digits opened c.in-None.ensures.cut
