use Rattle.yaml_read.proofs.Common.{subst, sym, ◌∙◌, ◌<◌, rules, length, largest_usize, seen_value, KeyStopsAt, IsUtf8, inr, text_bytes-utf8, document_text}
use Rattle.yaml_read.proofs.{Scalars.document_utf8, UniqueTexts.key_placed, UniqueWays.none_allowed, WrittenValues.written_value}
use Rattle.yaml_read.proofs.reading.read_canonical_with.Goals as goal

pub returns-in-Err-clause-complete : goal.returns-in-Err-clause-complete
returns-in-Err-clause-complete g c =
    inr (λ value readable allow is.
    c.in-Err.ensures.1.not_utf8 (subst IsUtf8 (sym (text_bytes-utf8 (document_text value)) ∙ is) (document_utf8 value readable)))

pub returns-in-Ok-read_text-clause-read : goal.returns-in-Ok-read_text-clause-read
returns-in-Ok-read_text-clause-read g c =
    let few : length c.args.bytes.now < largest_usize = search rules in
    let found = c.in-Ok-read_text.ensures.sound in
    written_value (seen_value c.in-Ok-read_text.value) c.args.bytes.now found.1 (sym c.in-Ok.ensures.1 ∙ found.0) few

pub returns-in-Err-read_text-clause-complete : goal.returns-in-Err-read_text-clause-complete
returns-in-Err-read_text-clause-complete g c =
    none_allowed c.args.keys c.args.bytes.now c.in-Err-read_text.stop c.key_error_of.result c.in-Ok.ensures.0 c.key_error_of.ensures
    (subst (λ bytes. KeyStopsAt c.args.keys bytes c.in-Err-read_text.stop) c.in-Ok.ensures.1 c.in-Err-read_text.ensures.stops)

pub returns-in-Err-read_text-clause-placed : goal.returns-in-Err-read_text-clause-placed
returns-in-Err-read_text-clause-placed g c =
    key_placed c.args.keys c.args.bytes.now c.in-Err-read_text.stop c.key_error_of.result c.in-Ok.ensures.0 c.key_error_of.ensures
    (subst (λ bytes. KeyStopsAt c.args.keys bytes c.in-Err-read_text.stop) c.in-Ok.ensures.1 c.in-Err-read_text.ensures.stops)
