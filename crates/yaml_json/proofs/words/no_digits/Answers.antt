use Rattle.yaml_json.proofs.DigitLanes.{no_digits_masked}
use Rattle.yaml_json.proofs.words.no_digits.Goals as goal

pub returns : goal.returns
returns c = no_digits_masked c.args.bytes c.fits-bytes.0 c.fits-bytes.1
