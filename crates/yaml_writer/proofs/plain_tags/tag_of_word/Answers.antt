use Rattle.yaml_writer.proofs.Common.{ℕ, Some, Bool, false, true, List, refl, ap, sym, ◌∙◌, Text, chars-literal, float_tag}
use Rattle.yaml_base.specs.values.TypedValues.{null_tag, bool_tag}
use Rattle.yaml_writer.proofs.PlainTagLemmas.{word_tag}
use Rattle.yaml_writer.specs.PlainTags.{bool_words, float_words}
use Rattle.yaml_writer.specs.Words.{is_one_of}
use Rattle.yaml_writer.proofs.plain_tags.tag_of_word.Goals as goal

-- True if the text is a word of the group.
abbrev truth : List ℕ → Bool
truth bytes = is_one_of bool_words bytes

abbrev float : List ℕ → Bool
float bytes = is_one_of float_words bytes

pub returns-then-is_one_of : goal.returns-then-is_one_of
returns-then-is_one_of c =
    let text = c.args.text.now in
    ap (λ (t : Text). Some t) (chars-literal null_tag refl)
    ∙ sym (word_tag text true (truth text) (float text) c.utf8.text (sym c.is_one_of.ensures ∙ c.if-is_one_of.true) refl refl)

pub returns-then-is_one_of-2 : goal.returns-then-is_one_of-2
returns-then-is_one_of-2 c =
    let text = c.args.text.now in
    ap (λ (t : Text). Some t) (chars-literal bool_tag refl)
    ∙ sym (word_tag text false true (float text) c.utf8.text (sym c.is_one_of.ensures ∙ c.if-is_one_of.false)
    (sym c.is_one_of-2.ensures ∙ c.if-is_one_of-2.true) refl)

pub returns-then-is_one_of-3 : goal.returns-then-is_one_of-3
returns-then-is_one_of-3 c =
    let text = c.args.text.now in
    ap (λ (t : Text). Some t) (chars-literal float_tag refl)
    ∙ sym (word_tag text false false true c.utf8.text (sym c.is_one_of.ensures ∙ c.if-is_one_of.false)
    (sym c.is_one_of-2.ensures ∙ c.if-is_one_of-2.false) (sym c.is_one_of-3.ensures ∙ c.if-is_one_of-3.true))

pub returns : goal.returns
returns c =
    sym (word_tag c.args.text.now false false false c.utf8.text (sym c.is_one_of.ensures ∙ c.if-is_one_of.false)
    (sym c.is_one_of-2.ensures ∙ c.if-is_one_of-2.false) (sym c.is_one_of-3.ensures ∙ c.if-is_one_of-3.false))
