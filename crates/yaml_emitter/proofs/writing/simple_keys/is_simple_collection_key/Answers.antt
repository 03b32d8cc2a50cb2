use Rattle.yaml_emitter.proofs.Common.{arith, common_steps, rules}
use Rattle.yaml_emitter.proofs.pieces.{AtomsWritten.tag_count-spelled, WritingTags.short_collection, WritingTags.simple_where}
use Rattle.yaml_emitter.proofs.writing.simple_keys.is_simple_collection_key.Goals as goal

pub returns-then-empty : goal.returns-then-empty
returns-then-empty c =
    first_of (
      search (rules, short_collection, simple_where, tag_count-spelled),
      grind (arith, common_steps, short_collection, simple_where, tag_count-spelled),
    )
