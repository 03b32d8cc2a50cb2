use Rattle.yaml_read.proofs.Common.{ap, sym, ◌∙◌, true≢false, is_tag_character}
use Rattle.yaml_read.proofs.TagBytes.{first_of_byte, form_follows, itself_follows}
use Rattle.yaml_read.proofs.tags.read_byte.Goals as goal

pub returns-in-None-read_two_digits : goal.returns-in-None-read_two_digits
returns-in-None-read_two_digits c =
    λ byte rest few is.
    let form = form_follows _ _ _ _ (first_of_byte _ _ _ _ _ c.in-Some.ensures.cut is) c.if-c-eq37.true in
    c.in-None-read_two_digits.ensures byte rest few form.1

pub returns-then-is_tag_character : goal.returns-then-is_tag_character
returns-then-is_tag_character c =
    λ byte rest few is.
    let form = form_follows _ _ _ _ (first_of_byte _ _ _ _ _ c.in-Some.ensures.cut is) c.if-c-eq37.true in
    true≢false (sym c.if-is_tag_character.true ∙ c.is_tag_character.ensures
    ∙ ap is_tag_character (c.in-Some-read_two_digits.ensures.only byte rest few form.1).0 ∙ form.0)

pub returns-else-is_tag_character-2 : goal.returns-else-is_tag_character-2
returns-else-is_tag_character-2 c =
    λ byte rest few is.
    let first = itself_follows byte rest _ _ (first_of_byte _ _ _ _ _ c.in-Some.ensures.cut is) c.if-c-eq37.false in
    true≢false (sym first.0 ∙ sym c.is_tag_character-else-c-eq37.ensures ∙ c.if-is_tag_character-2.false)
