-- Facts that follow if no fault is returned.
use Rattle.yaml_base.proofs.Common.{is_none, Option, None, Some, Bool, cond, false, true, refl, ◌≡◌, option_or}

-- neither of two options has a value if their first value is none
pub neither : {A : Type 0} (x y : Option A) → option_or x y ≡ None → (x ≡ None) × (y ≡ None)
neither None y e = (refl, e)
neither (Some x) y e = absurd (cc)

-- the test of an option without a value
pub is_none_none : {A : Type 0} (x : Option A) → is_none x ≡ true → x ≡ None
is_none_none None h = refl
is_none_none (Some x) h = cc

-- a fault that isn't returned
pub not_given : {A : Type 0} (given : Bool) (fault : A) → cond {A = Option A} given (Some fault) None ≡ None → given ≡ false
not_given true fault e = absurd (cc)
not_given false fault e = refl
