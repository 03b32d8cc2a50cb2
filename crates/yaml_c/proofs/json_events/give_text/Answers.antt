use Rattle.std.proofs.Common.{ap, sym, ◌∙◌}
use Rattle.yaml_emitter.specs.State.{State}
use Rattle.yaml_writer.specs.Writing.{writer_over}
use Rattle.yaml_c.proofs.JsonEventLemmas.{gave_json}
use Rattle.yaml_c.proofs.json_events.give_text.Goals as goal

pub returns-clause-gave : goal.returns-clause-gave
returns-clause-gave g c =
    gave_json c.args.settings c.args.text.now c.args.emitter.now c.into_emitter.result c.settle.new.emitter c.over-writer.result
    c.write_json-answer.new.writer c.write_json-answer.result c.depth-levels.result c.settle.result
    (c.over-writer.ensures ∙ ap (λ (e : State). writer_over e) c.replace.ensures.value) (sym c.into_emitter.ensures.value) c.depth-levels.ensures
    c.settle.ensures.settles c.utf8.text c.requires.sound c.requires.unclosed c.write_json-answer.ensures
