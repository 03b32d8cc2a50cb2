use Rattle.yaml_scalar.proofs.Common.{◌++◌, ◌≡◌, ap, sym, ◌∙◌, IsUtf8-past_char, chars_past_char, encode_utf8}
use Rattle.yaml_scalar.proofs.batched.next_batched.Goals as goal

pub returns-in-Some-clause-characters : goal.returns-in-Some-clause-characters
returns-in-Some-clause-characters c =
    let split : c.args.text.now ≡ encode_utf8 c.in-Some.c ++ c.as_str.result.now = sym c.chars-characters.ensures.rest ∙ c.in-Some.ensures.steps.0
    ∙ ap (λ rest. encode_utf8 c.in-Some.c ++ rest) (sym c.as_str.ensures) in
    chars_past_char c.args.text.now c.as_str.result.now c.in-Some.c c.utf8.text split

pub returns-in-Some-clause-batched : goal.returns-in-Some-clause-batched
returns-in-Some-clause-batched c = sym c.if-is_batched.ensures

pub returns-in-Some-clause-is_text : goal.returns-in-Some-clause-is_text
returns-in-Some-clause-is_text c =
    let split : c.args.text.now ≡ encode_utf8 c.in-Some.c ++ c.as_str.result.now = sym c.chars-characters.ensures.rest ∙ c.in-Some.ensures.steps.0
    ∙ ap (λ rest. encode_utf8 c.in-Some.c ++ rest) (sym c.as_str.ensures) in
    IsUtf8-past_char c.args.text.now c.as_str.result.now c.in-Some.c c.utf8.text split
