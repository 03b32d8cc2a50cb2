-- A value as its nonempty lines and its breaks, in their order.
-- Source: helpers of this project's layout for b-char (YAML 1.1, section 5.4 Line Break Characters).
use Rattle.std.specs.Prelude.{ℕ, List, [], ◌∷◌, if◌then◌else◌}
use Rattle.yaml_base.specs.Characters.{Text, is_break}

-- a line that isn't empty, without its break, or one break; an empty line is no part
pub data Part : Type 0 where
  line : Text → Part
  line_break : ℕ → Part

-- a character before parts: it begins their first line, or is a line by itself
abbrev pub begun : ℕ → List Part → List Part
begun c [] = line (c ∷ []) ∷ []
begun c (line text ∷ rest) = line (c ∷ text) ∷ rest
begun c (line_break b ∷ rest) = line (c ∷ []) ∷ line_break b ∷ rest

-- a break or another character, before parts
abbrev pub prepend_part : ℕ → List Part → List Part
prepend_part c parts = if is_break c then line_break c ∷ parts else begun c parts

-- a text cut into its parts
abbrev pub parts : Text → List Part
parts [] = []
parts (c ∷ rest) = prepend_part c (parts rest)
