use Rattle.yaml_c.proofs.Common.{None, Some, refl, rules, subst, ◌≡◌}
use Rattle.yaml_value.specs.{SeenValues.seen_value, declared.keys.Keys.Keys}
use Rattle.yaml_read.specs.{AllowedKeys.KeysAllow, RepeatedKeys.IsPlacedBy}
use Rattle.yaml_read.specs.declared.errors.ReadError.TheVariants as errors
use Rattle.yaml_c.specs.CanonicalAnswers.{keys_given}
use Rattle.yaml_c.proofs.CanonicalLemmas.{right_error}
use Rattle.yaml_c.proofs.canonical.yaml_is_canonical.Goals as goal

pub returns-in-Ok : goal.returns-in-Ok
returns-in-Ok c =
    let value = seen_value c.in-Ok._value in
    let allowed = subst (λ (mode : Keys). KeysAllow mode value) c.keys_from.ensures c.in-Ok.ensures.keys in
    (None, (value, c.in-Ok.ensures.read, allowed), (refl, c.nothing.ensures))

pub returns-in-Err-NotCanonical : goal.returns-in-Err-NotCanonical
returns-in-Err-NotCanonical c =
    let refused = c.in-Err-NotCanonical in
    let error = errors.NotCanonical refused.position in
    let is : refused.field-0 ≡ error = search rules in
    let reading =
    right_error c.keys_from.result (keys_given c.args.options.now) c.args.bytes.now refused.field-0 error c.keys_from.ensures is
    refused.ensures.complete refused.ensures.placed in
    (Some error, reading, (refl, c.at_place.ensures))

pub returns-in-Err-TooDeep : goal.returns-in-Err-TooDeep
returns-in-Err-TooDeep c =
    let refused = c.in-Err-TooDeep in
    let error = errors.TooDeep refused.position in
    let is : refused.field-0 ≡ error = search rules in
    let reading =
    right_error c.keys_from.result (keys_given c.args.options.now) c.args.bytes.now refused.field-0 error c.keys_from.ensures is
    refused.ensures.complete refused.ensures.placed in
    (Some error, reading, (refl, c.at_place-in-Err-TooDeep.ensures))

pub returns-in-Err-DuplicateKey : goal.returns-in-Err-DuplicateKey
returns-in-Err-DuplicateKey c =
    let refused = c.in-Err-DuplicateKey in
    let error = errors.DuplicateKey refused.position in
    let is : refused.field-0 ≡ error = search rules in
    let reading =
    right_error c.keys_from.result (keys_given c.args.options.now) c.args.bytes.now refused.field-0 error c.keys_from.ensures is
    refused.ensures.complete refused.ensures.placed in
    (Some error, reading, (refl, c.at_place-in-Err-DuplicateKey.ensures))

pub returns-in-Err-NotNumbered : goal.returns-in-Err-NotNumbered
returns-in-Err-NotNumbered c =
    let refused = c.in-Err-NotNumbered in
    let is : refused.field-0 ≡ errors.NotNumbered = search rules in
    absurd (subst (IsPlacedBy c.keys_from.result c.args.bytes.now) is refused.ensures.placed)

pub returns-in-Err-Memory : goal.returns-in-Err-Memory
returns-in-Err-Memory c =
    let refused = c.in-Err-Memory in
    let is : refused.field-0 ≡ errors.Memory = search rules in
    let reading =
    right_error c.keys_from.result (keys_given c.args.options.now) c.args.bytes.now refused.field-0 errors.Memory c.keys_from.ensures is
    refused.ensures.complete refused.ensures.placed in
    (Some errors.Memory, reading, (refl, c.nothing.ensures))
