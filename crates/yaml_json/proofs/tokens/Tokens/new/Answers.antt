use Rattle.yaml_json.proofs.Reaching.{new_reader}
use Rattle.yaml_json.proofs.tokens.Tokens.new.Goals as goal

pub invariant_of-result : goal.invariant_of-result
invariant_of-result g c =
    let skipped = c.skip_blanks-rest.ensures in
    new_reader c.args.text.now c.skip_blanks-rest.result.now skipped.same skipped.over skipped.past
