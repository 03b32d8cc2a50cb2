use Rattle.yaml_tool.proofs.Common.{map, ap, subst, ◌∙◌, Appends, State, seen_numbered, seen_settings}
use Rattle.yaml_tool.proofs.RunLemmas.{tells_all, fault_answers, no_memory_answers, writes_nothing, returned_answer, runs_new, silent_only}
use Rattle.yaml_tool.proofs.PartLemmas.{reads_at_end}
use Rattle.yaml_base.specs.Sinks.{AppendsFirst}
use Rattle.yaml_tool.specs.declared.answers.run_answer_t.TheVariants.{NoMemory, WriteFailed}
use Rattle.yaml_tool.proofs.runs.run.Goals as goal

pub returns-in-Ok-written-clause-reported : goal.returns-in-Ok-written-clause-reported
returns-in-Ok-written-clause-reported g c =
    let set = seen_settings c.in-Ok.script.settings in
    let all = map seen_numbered c.in-Ok.script.events.items in
    let answer = c.emit_all-answer.result in
    let old = g.W.Write.contents c.args.writer.now in
    let new = g.W.Write.contents c.write_to_sink-written.new.sink in
    let runs = runs_new set all answer _ c.emit_all-answer.new.emitter c.in-Ok-with_settings.ensures.made c.emit_all-answer.ensures.runs in
    let untaken = c.emit_all-answer.ensures.taken ∙ ap (λ (s : State). s.page.taken) c.in-Ok-with_settings.ensures.made in
    tells_all (g.R.Read.remaining c.args.reader.now) set all answer old new c.in-Ok.ensures.understood
    (returned_answer set all answer c.emit_all-answer.new.emitter old new runs
    (subst (Appends old new) (c.output.ensures.untaken untaken) c.in-Ok-written.ensures.whole))

pub returns-in-Ok-written-clause-unwritten : goal.returns-in-Ok-written-clause-unwritten
returns-in-Ok-written-clause-unwritten g c =
    silent_only _ (map seen_numbered c.in-Ok.script.events.items) c.emit_all-answer.result c.emit_all-answer.new.emitter
    (g.W.Write.contents c.args.writer.now) (g.W.Write.contents c.write_to_sink-written.new.sink)
    (c.emit_all-answer.ensures.runs (ap (λ (s : State). s.events) c.in-Ok-with_settings.ensures.made))

pub returns-in-Err-clause-reported : goal.returns-in-Err-clause-reported
returns-in-Err-clause-reported g c =
    let old = g.W.Write.contents c.args.writer.now in
    fault_answers (g.R.Read.remaining c.args.reader.now) c.in-Err.answer old old c.in-Err.ensures.fault

pub returns-in-Err-clause-unwritten : goal.returns-in-Err-clause-unwritten
returns-in-Err-clause-unwritten g c = writes_nothing c.in-Err.answer (g.W.Write.contents c.args.writer.now)

pub returns-in-Err-clause-read : goal.returns-in-Err-clause-read
returns-in-Err-clause-read g c = c.in-Err.ensures.read

pub returns-in_default-clause-reported : goal.returns-in_default-clause-reported
returns-in_default-clause-reported g c =
    let old = g.W.Write.contents c.args.writer.now in
    no_memory_answers (g.R.Read.remaining c.args.reader.now) old old

pub returns-in_default-clause-unwritten : goal.returns-in_default-clause-unwritten
returns-in_default-clause-unwritten g c = writes_nothing NoMemory (g.W.Write.contents c.args.writer.now)

pub returns-in-Ok-written-clause-read : goal.returns-in-Ok-written-clause-read
returns-in-Ok-written-clause-read g c = reads_at_end c.emit_all-answer.result _ c.in-Ok.ensures.end

pub returns-in-Err-written-clause-reported : goal.returns-in-Err-written-clause-reported
returns-in-Err-written-clause-reported g c =
    let set = seen_settings c.in-Ok.script.settings in
    let all = map seen_numbered c.in-Ok.script.events.items in
    let answer = c.emit_all-answer.result in
    let old = g.W.Write.contents c.args.writer.now in
    let new = g.W.Write.contents c.write_to_sink-written.new.sink in
    let untaken = c.emit_all-answer.ensures.taken ∙ ap (λ (s : State). s.page.taken) c.in-Ok-with_settings.ensures.made in
    tells_all (g.R.Read.remaining c.args.reader.now) set all WriteFailed old new c.in-Ok.ensures.understood (
      answer,
      c.emit_all-answer.new.emitter,
      runs_new set all answer _ c.emit_all-answer.new.emitter c.in-Ok-with_settings.ensures.made c.emit_all-answer.ensures.runs,
      subst (AppendsFirst old new) (c.output.ensures.untaken untaken) c.in-Err-written.ensures.first,
    )

pub returns-in-Err-written-clause-read : goal.returns-in-Err-written-clause-read
returns-in-Err-written-clause-read g c = c.in-Ok.ensures.end
