use Rattle.yaml_json.proofs.Common.{ap, ◌∙◌}
use Rattle.yaml_json.{specs.Faults.fault_of, specs.Faults.said_by, proofs.FaultPlaces.dropped_within, proofs.FaultPlaces.said_there}
use Rattle.yaml_json.proofs.lexeme_faults.said_by.Goals as goal

pub returns-in-Some : goal.returns-in-Some
returns-in-Some c =
    let text = c.args.text.now in
    said_there c.args.possible text c.args.lexeme c.min.result c.in-Some.found (dropped_within text c.args.lexeme c.min.result c.min.ensures) c.in-Some.ensures

pub returns-in-None : goal.returns-in-None
returns-in-None c =
    let text = c.args.text.now in
    ap (said_by c.args.possible text c.args.lexeme) (c.in-None.ensures.0 ∙ ap (fault_of c.args.possible) (dropped_within _ _ _ c.min.ensures))
