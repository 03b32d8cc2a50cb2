use Rattle.std.proofs.Common.{ap, sym, ◌∙◌}
use Rattle.yaml_emitter.specs.State.{State}
use Rattle.yaml_writer.specs.Writing.{writer_over}
use Rattle.yaml_c.proofs.ValueLemmas.{left_by_writer, taken_by_writer}
use Rattle.yaml_c.proofs.values.give_by_writer.Goals as goal

pub returns-then-has_taken-clause-gave : goal.returns-then-has_taken-clause-gave
returns-then-has_taken-clause-gave g c =
    taken_by_writer c.args.value c.args.emitter.now c.replace-2.new.dest c.over-writer.result c.write_value-answer.new.writer
    c.write_value-answer.result (c.over-writer.ensures ∙ ap (λ (e : State). writer_over e) c.replace.ensures.value)
    (c.replace-2.ensures.after ∙ c.into_emitter.ensures.value) c.write_value-answer.ensures c.requires.sound
    (sym c.has_taken.ensures ∙ c.if-has_taken.true)

pub returns-else-has_taken-clause-gave : goal.returns-else-has_taken-clause-gave
returns-else-has_taken-clause-gave g c =
    left_by_writer c.args.value c.args.emitter.now c.replace-2.new.dest c.over-writer.result c.write_value-answer.new.writer
    c.write_value-answer.result (c.over-writer.ensures ∙ ap (λ (e : State). writer_over e) c.replace.ensures.value)
    (c.replace-2.ensures.after ∙ c.into_emitter.ensures.value) c.write_value-answer.ensures (sym c.has_taken.ensures ∙ c.if-has_taken.false)
