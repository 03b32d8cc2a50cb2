use Rattle.yaml_emitter.proofs.{Common.chars, pieces.WritingTags.refused_spelled}
use Rattle.yaml_emitter.proofs.writing.spelling.spell_text.Goals as goal

pub returns-in-Err : goal.returns-in-Err
returns-in-Err g c = refused_spelled c.args.directives.now (chars c.args.tag.now) _ c.in-Err.ensures.refusal
