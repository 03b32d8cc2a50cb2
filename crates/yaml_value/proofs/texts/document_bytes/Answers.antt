use Rattle.yaml_value.proofs.Common.{seen_value}
use Rattle.yaml_value.proofs.TextSteps.{document_written}
use Rattle.yaml_value.proofs.texts.document_bytes.Goals as goal

pub returns-clause-bytes : goal.returns-clause-bytes
returns-clause-bytes g c =
    document_written c.new-bytes.result.items c.append.new.bytes.items c.write_value.new.bytes.items c.append-2.new.bytes.items
    (seen_value c.args.value.now) c.new-bytes.ensures.items c.in_ok-append.ensures c.in_ok-write_value.ensures.written c.in_ok-append-2.ensures
