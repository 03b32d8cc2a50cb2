-- Numbers of so many digits that were read.
use Rattle.std.specs.Prelude.{ℕ, ◌<◌, ◌≡◌, Option, None, Some, List, ◌++◌}
use Rattle.std.specs.Borrow.{Bor}
use Rattle.std.specs.Str.{encode_utf8_all}
use Rattle.yaml_base.specs.Characters.{Text}

-- a number below this, in its digits, and it is the only one
pub record IsDigitsRead (few : ℕ) (digits : ℕ → Text) (text : List ℕ) (number : ℕ) (rest : List ℕ) : Type 0 where
  pub below : number < few
  pub parts : text ≡ encode_utf8_all (digits number) ++ rest
  pub only : (other : ℕ) (after : Text) → other < few → text ≡ encode_utf8_all (digits other ++ after)
      → (number ≡ other) × (rest ≡ encode_utf8_all after)

-- such a number, or none is there
abbrev pub DigitsRead : (few : ℕ) (digits : ℕ → Text) (text : List ℕ) → Option (ℕ × Bor (List ℕ)) → Type 0
DigitsRead few digits text (Some found) = IsDigitsRead few digits text found.0 found.1.now
DigitsRead few digits text None = (number : ℕ) (after : Text) → number < few → text ≡ encode_utf8_all (digits number ++ after) → ⊥
