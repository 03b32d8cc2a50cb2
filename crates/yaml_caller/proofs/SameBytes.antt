-- Values are the same exactly if their bytes are.
use Rattle.yaml_caller.proofs.Common.{ℕ, Decides, bytes_eq, Bool, List, ◌≡◌, ap, subst, sym, ◌∙◌, bytes_eq-Decides}
use Rattle.yaml_base.specs.values.TypedValues.{TypedValue, ReadsAs, typed_output, WritesValue}

pub same_decides : (first second : TypedValue) (first_bytes second_bytes : List ℕ) (answer : Bool) → WritesValue first first_bytes
    → WritesValue second second_bytes
    → answer ≡ bytes_eq first_bytes second_bytes → Decides answer (first ≡ second)
same_decides first second first_bytes second_bytes answer writes_first writes_second is = (
  λ yes. let same = (bytes_eq-Decides first_bytes second_bytes).0 (sym is ∙ yes) in
      writes_second.only first writes_first.bits (subst (λ bytes. ReadsAs bytes first) same writes_first.reads),
  λ equal. is ∙ (bytes_eq-Decides first_bytes second_bytes).1 (writes_first.bytes ∙ ap typed_output equal ∙ sym writes_second.bytes),
)
