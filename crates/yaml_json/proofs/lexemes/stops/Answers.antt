use Rattle.yaml_json.proofs.Lanes.{stops_masked}
use Rattle.yaml_json.proofs.lexemes.stops.Goals as goal

pub returns : goal.returns
returns c = stops_masked c.args.bytes c.fits-bytes.0
