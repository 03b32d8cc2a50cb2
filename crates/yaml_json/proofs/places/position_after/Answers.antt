use Rattle.yaml_json.proofs.PlacesAfter.{after_all}
use Rattle.yaml_json.proofs.places.position_after.Goals as goal

pub returns : goal.returns
returns c front follows =
    after_all front c.args.bytes.now c.args.start c.position_of.result c.position_from.result follows c.position_of.ensures c.position_from.ensures
