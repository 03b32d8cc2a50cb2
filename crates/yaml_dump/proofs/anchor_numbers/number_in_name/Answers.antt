use Rattle.std.proofs.Common.{ap, fold, refl, sym, ◌∙◌, List, [], ◌∷◌, ℕ}
use Rattle.std.proofs.{lemmas.Iterator.YieldsList-from_chars, lemmas.Iterator.Consumers.YieldsList-end, lemmas.List.map-id, lemmas.List.Sums.fold-append}
use Rattle.yaml_dump.specs.Composition as composition
use Rattle.yaml_dump.proofs.anchor_numbers.number_in_name.Goals as goal

pub loop-character-init : goal.loop-character-init
loop-character-init c = refl

pub loop-character-preserved : goal.loop-character-preserved
loop-character-preserved c =
    c.with_digit-number.ensures
    ∙ ap (λ (number : ℕ). composition.with_digit number c.in-Some.character) c.loop-character.invariant
    ∙ sym (fold-append composition.with_digit 0 c.loop-character.yielded (c.in-Some.character ∷ []))

pub returns : goal.returns
returns c =
    let all = YieldsList-end (YieldsList-from_chars c.args.name.now c.utf8.name cc) c.loop-character.yielded _ c.loop-character.yielded_by _ _ c.in-None.is
    c.next.ensures.steps in
    c.loop-character.invariant ∙ ap (λ (characters : List ℕ). fold composition.with_digit 0 characters) (sym (map-id c.loop-character.yielded) ∙ all.0)
