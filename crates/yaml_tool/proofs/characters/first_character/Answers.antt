use Rattle.yaml_tool.proofs.Common.{◌++◌, ◌≡◌, ap, sym, ◌∙◌, chars-nil, chars_past_char, encode_utf8, chars}
use Rattle.std.proofs.lemmas.List.{nil_from_length}
use Rattle.yaml_tool.proofs.characters.first_character.Goals as goal

pub returns-in-Some-clause-characters : goal.returns-in-Some-clause-characters
returns-in-Some-clause-characters c =
    let split : c.args.text.now ≡ encode_utf8 c.in-Some.character ++ c.as_str.result.now = sym c.chars-characters.ensures.rest ∙ c.in-Some.ensures.steps.0
    ∙ ap (λ rest. encode_utf8 c.in-Some.character ++ rest) (sym c.as_str.ensures) in
    chars_past_char c.args.text.now c.as_str.result.now c.in-Some.character c.utf8.text split

pub returns-in-None-clause-characters : goal.returns-in-None-clause-characters
returns-in-None-clause-characters c = ap chars (sym c.chars-characters.ensures.rest ∙ nil_from_length _ c.in-None.ensures.steps.0.0) ∙ chars-nil
