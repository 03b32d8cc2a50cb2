use Rattle.std.proofs.Common.{◌≡◌, drop, length, List, ℕ, None, Some, subst, sym, ◌∙◌, arith}
use Rattle.json.specs.Text.{after_backslash, after_u, content, plain, prepend}
use Rattle.yaml_json.specs.Lexemes.{Unescapes}
use Rattle.yaml_json.proofs.ContentSteps.{escape_later, letter_u, no_letter, other_letter, rest_is, some_left}
use Rattle.std.proofs.lemmas.{Bool.eqb-true, Str.encode_ascii}
use Rattle.yaml_json.proofs.escapes.escape.Goals as goal

pub returns-then-is_empty : goal.returns-then-is_empty
returns-then-is_empty c = no_letter c.args.text.now (eqb-true (length c.args.text.now) 0 (sym c.if-is_empty.ensures))

pub returns-in_err-character : goal.returns-in_err-character
returns-in_err-character c =
    let t = c.args.text.now in
    let none = subst (λ (rest : List ℕ). content after_u rest ≡ None) (rest_is t 1) c.in_err-character.ensures in
    subst (Unescapes after_backslash t) (sym c.from_residual.ensures) (letter_u t (some_left t (sym c.if-is_empty.ensures)) c.if-text-eq117.true ∙ none)

pub returns-then-text-eq117 : goal.returns-then-text-eq117
returns-then-text-eq117 c =
    let t = c.args.text.now in
    let read = subst (λ (rest : List ℕ). Unescapes after_u rest (Some (c.in_ok-character.character, c.in_ok-character.size))) (rest_is t 1)
    c.in_ok-character.ensures in
    escape_later after_backslash after_u t 1 c.in_ok-character.character c.in_ok-character.size (letter_u t (some_left t (sym c.if-is_empty.ensures)) c.if-text-eq117.true) read

pub returns-in_err-character-2 : goal.returns-in_err-character-2
returns-in_err-character-2 c =
    let t = c.args.text.now in
    subst (Unescapes after_backslash t) (sym c.from_residual-in_err-character-2.ensures)
    (other_letter t None (some_left t (sym c.if-is_empty.ensures)) c.if-text-eq117.false (sym c.in_err-character-2.ensures.value))

pub returns : goal.returns
returns c =
    let t = c.args.text.now in
    let ascii = c.in_ok-character-2.ensures.ascii in
    let some = some_left t (sym c.if-is_empty.ensures) in (
      other_letter t (Some c.in_ok-character-2.character) some c.if-text-eq117.false (sym c.in_ok-character-2.ensures.value)
          ∙ (λ i. prepend (sym (encode_ascii c.in_ok-character-2.character ascii.0) i) (content plain (drop 1 t))),
      omega arith,
      omega (arith, some),
      ascii.1,
    )
