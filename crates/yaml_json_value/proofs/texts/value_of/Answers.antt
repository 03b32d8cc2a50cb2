use Rattle.std.proofs.Common.{◌≡◌, Err, List, ℕ, rules, subst, ◌∙◌}
use Rattle.yaml_value.specs.SeenValues.{seen_value}
use Rattle.yaml_value.specs.declared.keys.Keys.TheVariants as keys
use Rattle.yaml_base.specs.Positions.{IsPositionOf}
use Rattle.yaml_json_value.specs.Typed.{typed_value}
use Rattle.yaml_json_value.specs.Walked.{IsRoot, StopsAtOther}
use Rattle.yaml_json_value.specs.declared.error.Stop.{Stop}
use Rattle.yaml_json_value.specs.declared.error.Stop.TheVariants as stop
use Rattle.yaml_json_value.proofs.Checked.{is_value, no_memory, other_number, root_of}
use Rattle.yaml_json_value.proofs.texts.value_of.Goals as goal

pub returns-in-Ok-clause-read : goal.returns-in-Ok-clause-read
returns-in-Ok-clause-read g c =
    λ mode json.
    is_value mode c.args.text.now c.new-reader.result.ahead (seen_value c.in-Ok.value) json c.new-reader.ensures.ahead c.in-Ok.ensures.read
    c.in-Ok.ensures.integers

pub returns-in-Err-NotInteger-clause-why : goal.returns-in-Err-NotInteger-clause-why
returns-in-Err-NotInteger-clause-why g c =
    λ mode json.
    let text = c.args.text.now in
    let ahead = c.new-reader.result.ahead in
    let from = c.read_value.new.reader.before in
    let at = c.last_offset.result in
    let place = c.position_of-position in
    let is : c.in-Err-NotInteger.field-0 ≡ stop.NotInteger = search rules in
    let number = subst (λ (s : Stop). StopsAtOther {A = g.row.A.Denot} ahead from (Err s)) is c.in-Err-NotInteger.ensures.other in
    let same : c.as_bytes.result.now ≡ text = search rules in
    other_number mode text c.read_value.new.reader.text ahead from at place.result json c.new-reader.ensures.ahead
    (c.read_value.ensures.text ∙ c.new-reader.ensures.text) number c.last_offset.ensures
    (subst (λ (t : List ℕ). IsPositionOf t at place.result) same place.ensures)

pub returns-in-Err-Memory-clause-why : goal.returns-in-Err-Memory-clause-why
returns-in-Err-Memory-clause-why g c = λ mode json. no_memory mode c.args.text.now

pub unreachable-requires : goal.unreachable-requires
unreachable-requires g c =
    let is : c.in-Err-Misplaced.field-0 ≡ stop.Misplaced = search rules in
    let json = c.requires in
    subst (λ (s : Stop). IsRoot {A = g.row.A.Denot} (typed_value json.0) (Err s)) is
    (c.in-Err-Misplaced.ensures.read (typed_value json.0) (root_of keys.MayRepeat c.args.text.now c.new-reader.result.ahead json c.new-reader.ensures.ahead))
