use Rattle.yaml_base.proofs.{DumpedOutputs.dump_output, DumpedOutputs.one_text, DumpedOutputs.text_output}
use Rattle.yaml_base.proofs.laws.canonical_documents_have_texts.Goals as goal

pub returns-clause-output : goal.returns-clause-output
returns-clause-output c = text_output

pub returns-clause-dumped : goal.returns-clause-dumped
returns-clause-dumped c graph events dumped bare =
    let made = dump_output graph events dumped bare in
    record { text = made.0; is_dumped = made.1; output = made.2 }

pub returns-clause-one : goal.returns-clause-one
returns-clause-one c = one_text
