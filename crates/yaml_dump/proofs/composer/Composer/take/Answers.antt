use Rattle.std.proofs.lemmas.Result.{IfOk-from_err}
use Rattle.yaml_dump.proofs.composer.Composer.take.Goals as goal

pub returns-in_err-tag-in-YAML_SCALAR_EVENT : goal.returns-in_err-tag-in-YAML_SCALAR_EVENT
returns-in_err-tag-in-YAML_SCALAR_EVENT g c = IfOk-from_err c.from_residual.result _ c.from_residual.ensures.0

pub returns-in_err-from_str-in-YAML_SCALAR_EVENT : goal.returns-in_err-from_str-in-YAML_SCALAR_EVENT
returns-in_err-from_str-in-YAML_SCALAR_EVENT g c =
    IfOk-from_err c.from_residual-in_err-from_str-in-YAML_SCALAR_EVENT.result _
    c.from_residual-in_err-from_str-in-YAML_SCALAR_EVENT.ensures.0

pub returns-in_err-tag-in-YAML_SEQUENCE_START_EVENT : goal.returns-in_err-tag-in-YAML_SEQUENCE_START_EVENT
returns-in_err-tag-in-YAML_SEQUENCE_START_EVENT g c =
    IfOk-from_err c.from_residual-in_err-tag-in-YAML_SEQUENCE_START_EVENT.result _
    c.from_residual-in_err-tag-in-YAML_SEQUENCE_START_EVENT.ensures.0

pub returns-in_err-tag-in-YAML_MAPPING_START_EVENT : goal.returns-in_err-tag-in-YAML_MAPPING_START_EVENT
returns-in_err-tag-in-YAML_MAPPING_START_EVENT g c =
    IfOk-from_err c.from_residual-in_err-tag-in-YAML_MAPPING_START_EVENT.result _
    c.from_residual-in_err-tag-in-YAML_MAPPING_START_EVENT.ensures.0
