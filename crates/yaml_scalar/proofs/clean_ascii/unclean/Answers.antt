use Rattle.yaml_scalar.proofs.CleanBytes.{unclean_masked}
use Rattle.yaml_scalar.proofs.clean_ascii.unclean.Goals as goal

pub returns : goal.returns
returns g c = unclean_masked g.row.N c.args.bytes c.requires c.fits-bytes.0 c.fits-bytes.1
