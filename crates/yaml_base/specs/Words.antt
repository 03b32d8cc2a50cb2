-- Words, and tables of words.
use Rattle.std.specs.Prelude.{Bool, Option, None, Some, List, [], ◌∷◌, bytes_eq, if◌then◌else◌}
use Rattle.yaml_base.specs.Characters.{Text}

-- true if a text is this word
abbrev pub is_word : Text → Text → Bool
is_word text word = bytes_eq text word

-- the meaning of a word in a table
abbrev pub named : {A : Type 0} → List (Text × A) → Text → Option A
named [] word = None
named (entry ∷ rest) word = if is_word word entry.0 then Some entry.1 else named rest word
