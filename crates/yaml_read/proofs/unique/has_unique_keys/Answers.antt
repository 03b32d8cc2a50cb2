use Rattle.yaml_read.proofs.Common.{subst, ◌<◌, List, ℕ, most_nested, nesting, seen_value}
use Rattle.yaml_value.specs.declared.keys.Keys.TheVariants.{Unique}
use Rattle.yaml_read.proofs.ChosenKeys.{NoneAllowed, repeat_told}
use Rattle.yaml_read.proofs.unique.has_unique_keys.Goals as goal

pub returns : goal.returns
returns g c =
    let value = c.args.value.now in
    let shallow : ¬ (most_nested < nesting (seen_value value)) = λ deep. let never = c.in-Ok.ensures.too_deep.1 deep in cc in
    let none = subst (λ (b : List ℕ). NoneAllowed Unique b c.in-Err-read_canonical_with.error) c.as_slice.ensures.value
    c.in-Err-read_canonical_with.ensures.complete in
    record {
      unique = repeat_told value _ c.in-Err-read_canonical_with.error c.in-Ok.ensures.written shallow c.in-Ok.ensures.layout none
          c.in_default.not-Memory;
      too_deep = ((λ is. cc), (λ deep. absurd (shallow deep)));
      failed = tt;
    }
