-- Facts about texts that are no number and no timestamp of a schema, except numbers in a base; and conditions that don't hold.
use Rattle.yaml_base.proofs.Common.{suc, ℕ, if◌then◌else◌, ◌==◌, Option, None, Bool, false, ◌∷◌, ◌≡◌, ne_eqb, ap, arith, slice_split}
use Rattle.yaml_base.proofs.Common.{Text, is_point, is_exponent_letter, past_sign, is_negative, core_integer, core_decimal, octal_11, decimal_11, is_colon}
use Rattle.yaml_base.proofs.Common.{sixties_11, fine_sixties_11, float_11, more_points_11, points_11, past, timestamp_11}

-- neither schema reads a number without a base, and no timestamp
pub record NoNumber (text : Text) : Type 0 where
  pub timestamp : timestamp_11 text ≡ None
  pub float : float_11 (is_negative text) (past_sign text) ≡ None
  pub octal : octal_11 (is_negative text) (past_sign text) ≡ None
  pub decimal : decimal_11 (is_negative text) (past_sign text) ≡ None
  pub sixties : sixties_11 (is_negative text) (slice_split is_colon (past_sign text)) ≡ None
  pub fine_sixties : fine_sixties_11 (is_negative text) (slice_split is_point (past_sign text)) ≡ None
  pub more_points : more_points_11 (slice_split is_exponent_letter (past_sign text)) ≡ None
  pub points : points_11 (past_sign text) ≡ None
  pub core_integer : core_integer text ≡ None
  pub core_decimal : core_decimal text ≡ None

-- the value that isn't given if a test fails
pub off : {A : Type 0} (test : Bool) (given : Option A) → test ≡ false → (if test then given else None) ≡ None
off test given h = ap (λ x. if x then given else None) h

pub filled : (n : ℕ) → (suc n == 0) ≡ false
filled n = ne_eqb (suc n) 0 (λ e. omega arith)

-- past a character that passes, or before one that doesn't
pub past_cons : (test : ℕ → Bool) (c : ℕ) (rest : Text) → past test (c ∷ rest) ≡ (if test c then past test rest else c ∷ rest)
past_cons test c rest = grind (arith)
