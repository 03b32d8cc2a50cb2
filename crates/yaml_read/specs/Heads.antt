-- How a value begins, and scalars.
use Rattle.std.specs.Prelude.{ℕ, ◌≡◌, true, Option, List, [], ◌∷◌, ◌++◌, codes, MatchOption}
use Rattle.std.specs.Borrow.{Bor}
use Rattle.std.specs.Str.{all_scalars, encode_utf8_all}
use Rattle.yaml_base.specs.Characters.{Text}
use Rattle.yaml_base.specs.scalars.DoubleQuoted.{character_text}
use Rattle.yaml_read.specs.declared.heads.Kind.{Kind}
use Rattle.yaml_read.specs.declared.heads.Kind.TheVariants as kind

-- a kind's tag and the space after it
abbrev pub tag_word : Kind → Text
tag_word kind.Null = codes "!!null "
tag_word kind.Bool = codes "!!bool "
tag_word kind.Int = codes "!!int "
tag_word kind.Text = codes "!!str "
tag_word kind.List = codes "!!seq "
tag_word kind.Map = codes "!!map "

-- the kinds that aren't lists or maps
abbrev pub IsScalarKind : Kind → Type 0
IsScalarKind kind.List = ⊥
IsScalarKind kind.Map = ⊥
IsScalarKind _ = Unit {0}

-- bytes that begin with a character's text between quotes are read as that character
abbrev pub ReadsCharacter : List ℕ → Option (ℕ × Bor (List ℕ)) → Type 0
ReadsCharacter bytes found =
    (c : ℕ) (rest : Text) → all_scalars (c ∷ []) ≡ true → bytes ≡ encode_utf8_all (character_text true c ++ rest)
    → MatchOption found ⊥ (λ found. (found.0 ≡ c) × (found.1.now ≡ encode_utf8_all rest))
