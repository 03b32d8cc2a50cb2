use Rattle.yaml_scalar.proofs.Common.{chars, Err, Ok, [], refl, ap, subst, sym, ◌∙◌, list_any, IsAscii, Text, is_break, render_text, Wrote}
use Rattle.yaml_scalar.proofs.BatchTexts.{batched_none, batched_plain, wrote_batch, failed_batched}
use Rattle.yaml_scalar.proofs.EscapeBytes.{plain-unbroken, plain-ascii}
use Rattle.yaml_scalar.proofs.double_quoted.write_next_escapes.Goals as goal

pub returns-in_err-write_nothing-clause-written : goal.returns-in_err-write_nothing-clause-written
returns-in_err-write_nothing-clause-written g c =
    failed_batched _ c.from_residual.ensures (batched_none c.args.unicode c.args.before (chars c.args.text.now) [] refl) c.in_err-write_nothing.ensures

pub returns-then-not-begins_with_escape-clause-written : goal.returns-then-not-begins_with_escape-clause-written
returns-then-not-begins_with_escape-clause-written g c =
    wrote_batch (batched_none c.args.unicode c.args.before (chars c.args.text.now) [] refl) refl refl c.in_ok-write_nothing.ensures

pub write_nothing-requires : goal.write_nothing-requires
write_nothing-requires g c = c.requires

pub write_ascii-requires-clause-ready : goal.write_ascii-requires-clause-ready
write_ascii-requires-clause-ready g c = c.requires

pub write_ascii-requires-clause-ascii : goal.write_ascii-requires-clause-ascii
write_ascii-requires-clause-ascii g c =
    subst IsAscii (sym c.as_slice.ensures.value) (plain-ascii c.fill_batch-next.new.bytes.items (batched_plain c.fill_batch-next.ensures.batched))

pub write_ascii-requires-clause-no_break : goal.write_ascii-requires-clause-no_break
write_ascii-requires-clause-no_break g c =
    ap (list_any is_break) c.as_slice.ensures.value
    ∙ plain-unbroken c.fill_batch-next.new.bytes.items (batched_plain c.fill_batch-next.ensures.batched)

pub returns-in_err-write_ascii-clause-written : goal.returns-in_err-write_ascii-clause-written
returns-in_err-write_ascii-clause-written g c =
    failed_batched _ c.from_residual-in_err-write_ascii.ensures c.fill_batch-next.ensures.batched
    (subst (λ (t : Text). Wrote (render_text t) c.args.pen.now c.write_ascii.new.self (Err c.in_err-write_ascii.field-0.0)) c.as_slice.ensures.value
    c.in_err-write_ascii.ensures.written)

pub returns-clause-written : goal.returns-clause-written
returns-clause-written g c =
    wrote_batch c.fill_batch-next.ensures.batched refl refl
    (subst (λ (t : Text). Wrote (render_text t) c.args.pen.now c.write_ascii.new.self (Ok tt)) c.as_slice.ensures.value c.in_ok-write_ascii.ensures.written)

pub returns-clause-is_text : goal.returns-clause-is_text
returns-clause-is_text g c = c.fill_batch-next.ensures.is_text

pub returns-clause-shorter : goal.returns-clause-shorter
returns-clause-shorter g c = c.fill_batch-next.ensures.shorter
