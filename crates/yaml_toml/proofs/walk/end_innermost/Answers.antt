use Rattle.yaml_toml.proofs.Answering.{on_end}
use Rattle.yaml_writer.proofs.{GivenLemmas.bare_awaits_none, AnswerLemmas.answers_end}
use Rattle.yaml_toml.proofs.walk.end_innermost.Goals as goal

pub returns : goal.returns
returns g c =
    let writer = c.args.writer.now in
    let after = c.end.new.self in
    let ends = c.end.ensures.ended (bare_awaits_none writer c.requires) in
    record {
      ended = λ kind. on_end writer after c.end.result kind c.requires ends;
      kept = λ outer kind levels. answers_end writer after c.end.result outer kind levels c.requires ends;
    }
