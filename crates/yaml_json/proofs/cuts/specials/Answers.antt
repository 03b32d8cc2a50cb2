use Rattle.yaml_json.proofs.SpecialLanes.{specials_small, only_specials}
use Rattle.yaml_json.proofs.cuts.specials.Goals as goal

pub returns-clause-small : goal.returns-clause-small
returns-clause-small c = specials_small c.args.bytes c.fits-bytes.0

pub returns-clause-specials : goal.returns-clause-specials
returns-clause-specials c = only_specials c.args.bytes c.fits-bytes.0
