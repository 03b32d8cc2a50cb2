-- A text divided at the first of a character, and at each of them.
use Rattle.std.specs.Prelude.{◌≡◌, ℕ, ◌-◌, ◌≤◌, false, ◌==◌, List, ◌∷◌, ◌++◌, length, take, drop}
use Rattle.std.specs.List.{list_any, slice_split}
use Rattle.std.specs.Str.{chars, IsUtf8}

-- the character isn't in the text
abbrev pub IsFree : ℕ → List ℕ → Type 0
IsFree delimiter text = list_any (λ character. character == delimiter) text ≡ false

-- the text is `prefix`, the character and `back`, and the character isn't in `prefix`
abbrev pub IsCut : ℕ → List ℕ → List ℕ → List ℕ → Type 0
IsCut delimiter text prefix back = (text ≡ prefix ++ (delimiter ∷ back)) × IsFree delimiter prefix

-- the pieces of the text between the characters
abbrev pub cut_at : ℕ → List ℕ → List (List ℕ)
cut_at delimiter text = slice_split (λ character. character == delimiter) text

-- the text ends in these bytes
pub record EndsIn (text end : List ℕ) : Type 0 where
  pub within : length end ≤ length text
  pub same : drop (length text - length end) text ≡ end

-- the bytes of a text before an end of this length
abbrev pub prefix_of : List ℕ → List ℕ → List ℕ
prefix_of text end = take (length text - length end) text

-- the text ends with `end`, and neither of two characters is before that
pub record SkipsTo (first second : ℕ) (text end : List ℕ) : Type 0 where
  pub ends : EndsIn text end
  pub is_end : IsUtf8 end
  pub free : IsFree first (chars (prefix_of text end)) × IsFree second (chars (prefix_of text end))
