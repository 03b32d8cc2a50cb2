use Rattle.std.proofs.Common.{◌≡◌, Err, rules}
use Rattle.yaml_base.specs.declared.errors.yaml_error_t.TheVariants as errors
use Rattle.yaml_value.specs.SeenValues.{seen_value}
use Rattle.yaml_json_value.proofs.Checked.{no_memory, not_too_deep}
use Rattle.yaml_json_value.proofs.texts.canonical_from_json.Goals as goal

pub returns-in-Ok-write_canonical-clause-written : goal.returns-in-Ok-write_canonical-clause-written
returns-in-Ok-write_canonical-clause-written g c =
    record { value = seen_value c.in-Ok.value; of_text = c.in-Ok.ensures.read; written = c.in-Ok-write_canonical.ensures.written }

pub unreachable-requires : goal.unreachable-requires
unreachable-requires g c =
    let is : c.write_canonical.result ≡ Err errors.TooDeep = search rules in
    not_too_deep c.args.keys c.args.text.now (seen_value c.in-Ok.value) c.in-Ok.ensures.read (c.write_canonical.ensures.too_deep.0 is)

pub returns-in-Ok-clause-why : goal.returns-in-Ok-clause-why
returns-in-Ok-clause-why g c = no_memory c.args.keys c.args.text.now
