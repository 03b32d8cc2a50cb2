use Rattle.yaml_mark.proofs.Common.{byte_escaped, wrote_exit}
use Rattle.yaml_mark.proofs.EscapingLemmas.{bytes_more, bytes_failed, same_bytes}
use Rattle.yaml_mark.proofs.writing.write_forms.Goals as goal

pub loop-byte-preserved : goal.loop-byte-preserved
loop-byte-preserved g c =
    bytes_more byte_escaped c.as_bytes-bytes.result.now c.loop-byte.byte-index c.loop-byte-test.true c.loop-byte.invariant c.in_ok-write_form.ensures

pub returns-in_err-write_form : goal.returns-in_err-write_form
returns-in_err-write_form g c =
    wrote_exit c.from_residual-in_err-write_form.ensures
    (same_bytes byte_escaped c.as_bytes-bytes.ensures.value
    (bytes_failed byte_escaped c.as_bytes-bytes.result.now c.loop-byte.byte-index c.loop-byte-test.true c.loop-byte.invariant c.in_err-write_form.ensures))
