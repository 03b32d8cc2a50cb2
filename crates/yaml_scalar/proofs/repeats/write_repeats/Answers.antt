use Rattle.yaml_scalar.proofs.Common.{replicate, wrote_exit, wrote_text_then, wrote_text_failed}
use Rattle.yaml_scalar.proofs.repeats.write_repeats.Goals as goal

pub returns-in_err-write_copies-in-Quotes : goal.returns-in_err-write_copies-in-Quotes
returns-in_err-write_copies-in-Quotes g c =
    rw c.in-Quotes.is
    (wrote_exit c.from_residual.ensures (wrote_text_failed (replicate c.in-Quotes.count 39) c.in_err-write_copies-in-Quotes.ensures.written))

pub returns-in_ok-write_copies-in-Quotes : goal.returns-in_ok-write_copies-in-Quotes
returns-in_ok-write_copies-in-Quotes g c =
    rw c.in-Quotes.is (wrote_text_then c.in_ok-write_copies-in-Quotes.ensures.written c.write_copies-in-Quotes.ensures.written)
