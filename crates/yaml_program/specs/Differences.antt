-- The first line in which two texts differ.
use Rattle.std.specs.Prelude.{◌≡◌, ◌≢◌, ◌⊎◌, ◌+◌, ℕ, ◌==◌, List, [], ◌∷◌, ◌++◌, codes, if◌then◌else◌}
use Rattle.std.specs.List.{count_by}

abbrev pub line_feed : ℕ
line_feed = 10

abbrev pub line_feeds : List ℕ → ℕ
line_feeds text = count_by (λ byte. byte == line_feed) text

-- The first line of a text, with the line feed that ends it.
unfoldable pub first_line : List ℕ → List ℕ
first_line [] = []
first_line (byte ∷ rest) = if byte == line_feed then byte ∷ [] else byte ∷ first_line rest

-- True if a text is no line, or ends with the end of one.
abbrev pub IsLines : List ℕ → Type 0
IsLines text = (text ≡ []) ⊎ ((before : List ℕ) × (text ≡ before ++ codes "\n"))

-- True if two texts begin with the same lines, the next line has this number, and these are the rests.
pub record BeginAlike (old new : List ℕ) (number : ℕ) (old_rest new_rest : List ℕ) : Type 0 where
  pub same : List ℕ
  pub lines : IsLines same
  pub numbered : number ≡ line_feeds same + 1
  pub old_is : old ≡ same ++ old_rest
  pub new_is : new ≡ same ++ new_rest

-- True if the line of this number is the first in which two texts differ; past the end of a text it is empty.
pub record IsFirstDifference (old new : List ℕ) (number : ℕ) (old_line new_line : List ℕ) : Type 0 where
  pub old_rest : List ℕ
  pub new_rest : List ℕ
  pub alike : BeginAlike old new number old_rest new_rest
  pub old_line_is : old_line ≡ first_line old_rest
  pub new_line_is : new_line ≡ first_line new_rest
  pub differ : old_line ≢ new_line
