use Rattle.yaml_c.proofs.Common.{ℤ, Some, ◌≡◌, rules, subst, sym, w32, of_z, to_z}
use Rattle.yaml_c.proofs.KeptLemmas.{changed}
use Rattle.yaml_c.specs.{Arena.is_off, Arena.is_on}
use Rattle.yaml_c.specs.GivenSettings.{depth_given}
use Rattle.yaml_c.specs.JsonEvents.{GivesJson}
use Rattle.yaml_c.specs.Kept.{OnEvents, UnlessClosed}
use Rattle.yaml_c.proofs.json_events.yaml_c_emitter_emit_json.Goals as goal

pub returns : goal.returns
returns c =
    let given = c.args.options.now in
    let text = c.args.text.now in
    let depth = depth_given given.values.depth in
    let unique = is_off given.allow_duplicates in
    let flow = is_on given.values.flow in
    let before = c.deref_mut.result.now in
    let after = c.give_to-status.new.kept in
    let report = c.give_to-status.new.report in
    let status = to_z w32 (of_z w32 c.give_to-status.result) in
    let fits : status ≡ c.give_to-status.result = search rules in
    let put : c.put.new.self.state ≡ Some after = search rules in
    let taken : Some before ≡ c.args.emitter.now.state = search rules in
    changed (OnEvents (UnlessClosed status report (GivesJson depth unique flow text status report))) c.args.emitter.now.state
    c.put.new.self.state before after taken put c.give_to-status.ensures.output (search rules)
    (subst (λ (returned : ℤ). OnEvents (UnlessClosed returned report (GivesJson depth unique flow text returned report)) before after) (sym fits)
    c.give_to-status.ensures.gave)
