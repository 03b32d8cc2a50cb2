use Rattle.yaml_json_value.proofs.Checked.{is_any_json, is_json, json_error}
use Rattle.yaml_json_value.proofs.texts.value_from_json.Goals as goal

pub value_of-requires : goal.value_of-requires
value_of-requires g c =
    is_any_json c.args.keys c.args.text.now
    (is_json c.args.keys c.settings.result c.args.text.now c.in-Ok._yaml.items c.settings.ensures c.in-Ok.ensures)

pub returns-in-Ok-clause-read : goal.returns-in-Ok-clause-read
returns-in-Ok-clause-read g c =
    c.value_of.ensures.read c.args.keys
    (is_json c.args.keys c.settings.result c.args.text.now c.in-Ok._yaml.items c.settings.ensures c.in-Ok.ensures)

pub returns-in-Ok-clause-why : goal.returns-in-Ok-clause-why
returns-in-Ok-clause-why g c =
    c.value_of.ensures.why c.args.keys
    (is_json c.args.keys c.settings.result c.args.text.now c.in-Ok._yaml.items c.settings.ensures c.in-Ok.ensures)

pub returns-in-Err-clause-why : goal.returns-in-Err-clause-why
returns-in-Err-clause-why g c =
    json_error c.args.keys c.settings.result c.args.text.now c.in-Err.error c.settings.ensures c.in-Err.ensures
