use Rattle.yaml_writer.proofs.Common.{refl, ap, sym, ◌∙◌, is_json_number, seen_parts}
use Rattle.yaml_writer.proofs.{PartLemmas.text_is_number, PartLemmas.text_is_none, SpellingLemmas.number_by_chars, SpellingLemmas.none_by_chars}
use Rattle.yaml_writer.specs.NumberParts.{number_in}
use Rattle.yaml_writer.proofs.numbers.number_of.Goals as goal

pub invariant_of-result : goal.invariant_of-result
invariant_of-result c =
    text_is_number c.args.text.now (number_in c.args.text.now) refl (ap is_json_number (sym c.parts_of.ensures) ∙ sym c.is_valid.ensures ∙ c.if-is_valid.true)

pub returns-then-is_valid-clause-bytes : goal.returns-then-is_valid-clause-bytes
returns-then-is_valid-clause-bytes c =
    text_is_number c.args.text.now (number_in c.args.text.now) refl (ap is_json_number (sym c.parts_of.ensures) ∙ sym c.is_valid.ensures ∙ c.if-is_valid.true)

pub returns-then-is_valid-clause-characters : goal.returns-then-is_valid-clause-characters
returns-then-is_valid-clause-characters c =
    number_by_chars c.args.text.now (number_in c.args.text.now)
    (text_is_number c.args.text.now (number_in c.args.text.now) refl
    (ap is_json_number (sym c.parts_of.ensures) ∙ sym c.is_valid.ensures ∙ c.if-is_valid.true))

pub returns-else-is_valid-clause-bytes : goal.returns-else-is_valid-clause-bytes
returns-else-is_valid-clause-bytes c =
    text_is_none c.args.text.now (seen_parts c.parts_of.result) c.parts_of.ensures (sym c.is_valid.ensures ∙ c.if-is_valid.false)

pub returns-else-is_valid-clause-characters : goal.returns-else-is_valid-clause-characters
returns-else-is_valid-clause-characters c =
    none_by_chars c.args.text.now c.utf8.text
    (text_is_none c.args.text.now (seen_parts c.parts_of.result) c.parts_of.ensures (sym c.is_valid.ensures ∙ c.if-is_valid.false))
